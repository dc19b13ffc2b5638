-- Narrow arcs, and after them the others, as the arcs that they stand for.
use Rattle.std.proofs.Common.{◌≡◌, ℕ, ◌+◌, ◌-◌, ◌≤◌, ◌<◌, Bool, true, false, List, [], ◌∷◌, ◌++◌, map, length, set, get_or, refl, sym, ap, ◌∙◌, subst, arith}
use Rattle.std.specs.Prelude.{pos, ◌*ℤ◌}
use Rattle.std.proofs.lemmas.List.{get_or-map, get_or_append_left, get_or-append_right, map-set, map-append, append-nil, append_assoc, set-append_left, set-append_right, length-map, length-append}
use Rattle.std.proofs.lemmas.List.Elements.{All-append, All-cons, All-get_or, All-head, All-map, All-nil, All-set, All-tail, All-weaker}
use Rattle.std.proofs.lemmas.List.Sums.{sum_by-cons, sum_by-set, sum_by_push}
use Rattle.std.proofs.lemmas.Option.{slice_get_read, get_or_from_slice_get}
use Rattle.optra_prices.specs.ArcTerms.{ArcTerm}
use Rattle.optra_prices.specs.NarrowArcs.{term_of, terms_of, group_of, is_open, AreAllowed, AreOpen, AreListed, closed_one, closed_in, with_mark}
use Rattle.optra_prices.specs.Tables.{no_arc}
use Rattle.optra_prices.specs.declared.narrow_arc.NarrowArc.{NarrowArc}

-- ---- marks
module _ (narrow : List NarrowArc) (wide : List ArcTerm) where
  count : length (map term_of narrow) ≡ length narrow
  count = length-map narrow term_of

  -- a narrow arc is marked
  pub marks_narrow : (k : ℕ) (mark : Bool) (arc marked : NarrowArc) → k < length narrow → arc ≡ get_or narrow k arc → term_of marked ≡ with_mark (term_of arc) mark
      → terms_of (set narrow k marked) wide ≡ set (terms_of narrow wide) k (with_mark (get_or (terms_of narrow wide) k no_arc) mark)
  marks_narrow k mark arc marked l is marks =
      let f = term_of in
      let within : k < length (map f narrow) = subst (λ n. k < n) (sym count) l in
      let read : get_or (terms_of narrow wide) k no_arc ≡ f arc = get_or_append_left (map f narrow) wide no_arc k within ∙ get_or-map f narrow k arc no_arc l ∙ ap f (sym is) in
      ap (λ (xs : List ArcTerm). xs ++ wide) (map-set f narrow k marked)
      ∙ sym (set-append_left (map f narrow) wide k (f marked) within)
      ∙ ap (set (terms_of narrow wide) k) (marks ∙ ap (λ (a : ArcTerm). with_mark a mark) (sym read))

  -- the group of a narrow arc
  pub group_narrow : (k : ℕ) (none : NarrowArc) → k < length narrow → (get_or (terms_of narrow wide) k no_arc).group ≡ group_of (get_or narrow k none).mark
  group_narrow k none l =
      let f = term_of in
      let within : k < length (map f narrow) = subst (λ n. k < n) (sym count) l in
      ap (λ (a : ArcTerm). a.group) (get_or_append_left (map f narrow) wide no_arc k within ∙ get_or-map f narrow k none no_arc l)

  -- and what it adds
  pub value_narrow : (k : ℕ) (none : NarrowArc) → k < length narrow → (get_or (terms_of narrow wide) k no_arc).value ≡ pos 1000 *ℤ (get_or narrow k none).cents
  value_narrow k none l =
      let f = term_of in
      let within : k < length (map f narrow) = subst (λ n. k < n) (sym count) l in
      ap (λ (a : ArcTerm). a.value) (get_or_append_left (map f narrow) wide no_arc k within ∙ get_or-map f narrow k none no_arc l)

  -- past the narrow arcs stand the others
  pub within_wide : (n k : ℕ) → length narrow ≡ n → n ≤ k → k < length (terms_of narrow wide) → k - n < length wide
  within_wide n k long l within =
      let all = length-append (map term_of narrow) wide in
      let c = count in
      omega arith

  -- another arc is marked
  pub marks_wide : (n k : ℕ) (mark : Bool) (arc marked : ArcTerm) → length narrow ≡ n → n ≤ k → k - n < length wide → arc ≡ get_or wide (k - n) arc → marked ≡ with_mark arc mark
      → terms_of narrow (set wide (k - n) marked) ≡ set (terms_of narrow wide) k (with_mark (get_or (terms_of narrow wide) k no_arc) mark)
  marks_wide n k mark arc marked long l within is marks =
      let f = term_of in
      let all = count ∙ long in
      let there = get_or_from_slice_get wide (k - n) arc no_arc (slice_get_read wide (length wide) (k - n) arc refl within is) in
      let read : get_or (terms_of narrow wide) k no_arc ≡ arc = get_or-append_right (map f narrow) wide n k no_arc all l ∙ there in
      sym (set-append_right (map f narrow) wide n k marked all l)
      ∙ ap (set (terms_of narrow wide) k) (marks ∙ ap (λ (a : ArcTerm). with_mark a mark) (sym read))

-- an arc by its parts
pub same_arc : (arc other : ArcTerm) → arc.value ≡ other.value → arc.group ≡ other.group → arc.allowed ≡ other.allowed → arc ≡ other
same_arc arc other v g a = λ i. record { value = v i; group = g i; allowed = a i }

-- ---- one more arc
-- what is kept of the arcs, with one more
pub listed_more : (narrow : List NarrowArc) (arc : NarrowArc) (groups more closed after : ℕ) → AreListed narrow groups closed
    → groups ≤ more → group_of arc.mark < more → after ≡ closed + closed_one (is_open arc.mark) → AreListed (narrow ++ arc ∷ []) more after
listed_more narrow arc groups more closed after are all one is = record {
  below = All-append P narrow (arc ∷ []) (All-weaker (λ (a : NarrowArc). group_of a.mark < groups) P (λ a l. omega arith) narrow are.below) (All-cons P arc [] one (All-nil P));
  closed_is = is ∙ ap (λ (n : ℕ). n + closed_one (is_open arc.mark)) are.closed_is ∙ sym (sum_by_push (λ (a : NarrowArc). closed_one (is_open a.mark)) narrow arc);
}
  where
    P : NarrowArc → Type 0
    P a = group_of a.mark < more

-- how many may not be taken, where an arc is put in another's place
closed_set : (narrow : List NarrowArc) (k : ℕ) (put arc : NarrowArc) → k < length narrow → arc ≡ get_or narrow k arc → closed_in (set narrow k put) + closed_one (is_open arc.mark) ≡ closed_in narrow + closed_one (is_open put.mark)
closed_set narrow k put arc l is =
    ap (λ (a : NarrowArc). closed_in (set narrow k put) + closed_one (is_open a.mark)) is ∙ sum_by-set (λ (a : NarrowArc). closed_one (is_open a.mark)) narrow k put arc l

-- what is kept of the arcs, where one is marked
pub listed_marked : (narrow : List NarrowArc) (groups closed after k : ℕ) (arc marked : NarrowArc) → k < length narrow → arc ≡ get_or narrow k arc
    → AreListed narrow groups closed → group_of marked.mark ≡ group_of arc.mark → after + closed_one (is_open arc.mark) ≡ closed + closed_one (is_open marked.mark)
    → AreListed (set narrow k marked) groups after
listed_marked narrow groups closed after k arc marked l is are same moved = record {
  below = All-set P narrow k marked (subst (λ n. n < groups) (sym same) (subst P (sym is) (All-get_or P narrow k arc l are.below))) are.below;
  closed_is =
      let put = closed_set narrow k marked arc l is in
      let was = are.closed_is in
      omega arith;
}
  where
    P : NarrowArc → Type 0
    P a = group_of a.mark < groups

-- an arc that may not be taken is counted
pub closed_least : (narrow : List NarrowArc) (k : ℕ) (arc : NarrowArc) → k < length narrow → arc ≡ get_or narrow k arc → closed_one (is_open arc.mark) ≤ closed_in narrow
closed_least narrow k arc l is =
    let put = closed_set narrow k (record { mark = 0; cents = arc.cents }) arc l is in
    omega arith

-- no more arcs are counted than there are
pub closed_most : (narrow : List NarrowArc) → closed_in narrow ≤ length narrow
closed_most [] = omega arith
closed_most (arc ∷ narrow) =
    let cons = sum_by-cons (λ (a : NarrowArc). closed_one (is_open a.mark)) arc narrow in
    let rest = closed_most narrow in
    let one = one_most (is_open arc.mark) in
    omega arith
  where
    one_most : (allowed : Bool) → closed_one allowed ≤ 1
    one_most true = omega arith
    one_most false = omega arith

-- where none is counted, all may be taken
pub none_closed : (narrow : List NarrowArc) → closed_in narrow ≡ 0 → AreOpen narrow
none_closed [] none = All-nil (λ (a : NarrowArc). is_open a.mark ≡ true)
none_closed (arc ∷ narrow) none =
    let cons = sum_by-cons (λ (a : NarrowArc). closed_one (is_open a.mark)) arc narrow in
    All-cons (λ (a : NarrowArc). is_open a.mark ≡ true) arc narrow (open_one (is_open arc.mark) (omega arith)) (none_closed narrow (omega arith))
  where
    open_one : (allowed : Bool) → closed_one allowed ≡ 0 → allowed ≡ true
    open_one true e = refl
    open_one false e = absurd (omega arith)

-- where all may be taken, none is counted
pub open_none : (narrow : List NarrowArc) → AreOpen narrow → closed_in narrow ≡ 0
open_none [] open_all = omega arith
open_none (arc ∷ narrow) open_all =
    let P = λ (a : NarrowArc). is_open a.mark ≡ true in
    let cons = sum_by-cons (λ (a : NarrowArc). closed_one (is_open a.mark)) arc narrow in
    let rest = open_none narrow (All-tail P arc narrow open_all) in
    let one : closed_one (is_open arc.mark) ≡ 0 = ap closed_one (All-head P arc narrow open_all) in
    omega arith

-- all arcs may be taken where the narrow ones and the others may
pub allowed_both : (narrow : List NarrowArc) (wide : List ArcTerm) → AreOpen narrow → AreAllowed wide → AreAllowed (terms_of narrow wide)
allowed_both narrow wide open_all others =
    let P = λ (a : ArcTerm). a.allowed ≡ true in
    All-append P (map term_of narrow) wide (All-map P term_of narrow open_all) others

-- and then the narrow ones may
pub allowed_narrow : (narrow : List NarrowArc) (wide : List ArcTerm) → AreAllowed (terms_of narrow wide) → AreOpen narrow
allowed_narrow [] wide all = All-nil (λ (a : NarrowArc). is_open a.mark ≡ true)
allowed_narrow (arc ∷ narrow) wide all =
    let P = λ (a : ArcTerm). a.allowed ≡ true in
    let Q = λ (a : NarrowArc). is_open a.mark ≡ true in
    All-cons Q arc narrow (All-head P (term_of arc) (terms_of narrow wide) all) (allowed_narrow narrow wide (All-tail P (term_of arc) (terms_of narrow wide) all))

-- and the others
pub allowed_wide : (narrow : List NarrowArc) (wide : List ArcTerm) → AreAllowed (terms_of narrow wide) → AreAllowed wide
allowed_wide [] wide all = all
allowed_wide (arc ∷ narrow) wide all = allowed_wide narrow wide (All-tail (λ (a : ArcTerm). a.allowed ≡ true) (term_of arc) (terms_of narrow wide) all)

module _ (narrow : List NarrowArc) where
  -- a narrow arc is the last one, where no others are
  pub pushes_narrow : (arc : NarrowArc) (term : ArcTerm) → term_of arc ≡ term → terms_of (narrow ++ arc ∷ []) [] ≡ terms_of narrow [] ++ term ∷ []
  pushes_narrow arc term is =
      append-nil (map term_of (narrow ++ arc ∷ []))
      ∙ map-append term_of narrow (arc ∷ [])
      ∙ ap (λ (xs : List ArcTerm). xs ++ term_of arc ∷ []) (sym (append-nil (map term_of narrow)))
      ∙ ap (λ (a : ArcTerm). terms_of narrow [] ++ a ∷ []) is

  -- another arc is the last one
  pub pushes_wide : (wide : List ArcTerm) (term : ArcTerm) → terms_of narrow (wide ++ term ∷ []) ≡ terms_of narrow wide ++ term ∷ []
  pushes_wide wide term = sym (append_assoc (map term_of narrow) wide (term ∷ []))
