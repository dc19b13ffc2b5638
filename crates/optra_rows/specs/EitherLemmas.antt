-- The rows of two families together.
use Rattle.std.proofs.Common.{◌≡◌, ℕ, ◌+◌, ◌<◌, ◌≤◌, ◌↔◌, inl, inr, Bool, true, List, [], ◌∷◌, map, length, refl, sym, ap, ◌∙◌, subst, arith, Contains, sum_by, length-append}
use Rattle.std.proofs.lemmas.List.{length-map}
use Rattle.std.proofs.lemmas.List.Sums.{sum_by-append, sum_by-cons}
use Rattle.std.specs.declared.cmp.Ordering.{Ordering}
use Rattle.std.specs.declared.cmp.Ordering.TheVariants.{Less, Equal, Greater}
use Rattle.optra_network.specs.declared.TypeId.{TypeId}
use Rattle.optra_network.proofs.MemberLemmas.{in_from, contains_from, all_from_in, in_append, in_append_left, in_append_right, in_map, in_map_from}
use Rattle.optra_walk.specs.declared.Leg.{Leg}
use Rattle.optra_walk.specs.Families.{Entry, Rows, Ascends, ListsRows, UsesFew, TellsApart, FitRows, load_of}
use Rattle.optra_rows.specs.declared.joining.Either.{Either}
use Rattle.optra_rows.specs.declared.joining.Either.TheVariants.{First, Second}
use Rattle.optra_rows.specs.Eithers.{either_of, both_rows, both_lists, AreFew}
use Rattle.optra_rows.specs.ListLemmas.{ascends_append}

ascends_along : {P R : Type 0} (f : P → R) (before : P → P → Ordering) (after : R → R → Ordering) → ((a b : P) → before a b ≡ Less → after (f a) (f b) ≡ Less)
    → (ps : List P) → Ascends before ps → Ascends after (map f ps)
ascends_along f before after h [] a = tt
ascends_along f before after h (p ∷ ps) a = (
  all_from_in (λ r. after (f p) r ≡ Less) (map f ps) (λ r i.
      let m = in_map_from f ps r i in
      let c = contains_from ps m.source m.inside in
      let l = subst (λ q. before p q ≡ Less) c.2 (a.0 c.0 m.source c.1) in
      subst (λ q. after (f p) q ≡ Less) m.is (h p m.source l)),
  ascends_along f before after h ps a.1,
)

sum_by_along : {P R : Type 0} (f : P → R) (g : R → ℕ) (ps : List P) → sum_by g (map f ps) ≡ sum_by (λ p. g (f p)) ps
sum_by_along f g [] = refl
sum_by_along f g (p ∷ ps) =
    sum_by-cons g (f p) (map f ps) ∙ ap (λ n. g (f p) + n) (sum_by_along f g ps) ∙ sym (sum_by-cons (λ q. g (f q)) p ps)

-- where two numbers are at most 8,192 together, two families of which each uses at most one of them do so too
pub few_together : {P Q : Type 0} {m n : ℕ} {use_p : P → ℕ} {use_q : Q → ℕ} {ps : List P} {qs : List Q}
    → UsesFew m use_p ps → UsesFew n use_q qs → m + n ≤ 8192 → AreFew use_p use_q ps qs
few_together p q bound = record {
  few = let a = p.few in let b = q.few in omega (arith, a, b, bound);
  total = let a = p.total in let b = q.total in omega (arith, a, b, bound);
}

-- two families together use at most what each uses at most
pub few_of_both : {P Q : Type 0} {m n : ℕ} {use_p : P → ℕ} {use_q : Q → ℕ} {ps : List P} {qs : List Q}
    → UsesFew m use_p ps → UsesFew n use_q qs → UsesFew (m + n) (either_of use_p use_q) (both_lists ps qs)
few_of_both {P} {Q} {m} {n} {use_p} {use_q} {ps} {qs} p q = record {
  few =
      let fp : List (Either P Q) = map First ps in let sq : List (Either P Q) = map Second qs in
      let l : length (both_lists ps qs) ≡ length fp + length sq = length-append fp sq in
      let a : length fp ≡ length ps = length-map ps First in let b : length sq ≡ length qs = length-map qs Second in
      let c = p.few in let d = q.few in omega (arith, l, a, b, c, d);
  total =
      let u : Either P Q → ℕ = either_of use_p use_q in
      let fp : List (Either P Q) = map First ps in let sq : List (Either P Q) = map Second qs in
      let l : sum_by u (both_lists ps qs) ≡ sum_by u fp + sum_by u sq = sum_by-append u fp sq in
      let a : sum_by u fp ≡ sum_by use_p ps = sum_by_along First u ps in
      let b : sum_by u sq ≡ sum_by use_q qs = sum_by_along Second u qs in
      let c = p.total in let d = q.total in omega (arith, l, a, b, c, d);
}

-- of the rows of both lists, those of a family stand in its list
module _ {P Q : Type 0} (ps : List P) (qs : List Q) where
  first_is : (a b : P) → ◌≡◌ {A = Either P Q} (First a) (First b) → a ≡ b
  first_is a b e = cc

  second_is : (a b : Q) → ◌≡◌ {A = Either P Q} (Second a) (Second b) → a ≡ b
  second_is a b e = cc

  apart : {X : Type 0} (a : P) (b : Q) → ◌≡◌ {A = Either P Q} (First a) (Second b) → X
  apart a b e = cc

  pub first_listed : (p : P) → Contains (both_lists ps qs) (First p) → Contains ps p
  first_listed p c = elim (in_append (map First ps) (map Second qs) (First p) (in_from (both_lists ps qs) (First p) c)) [
    | inl i ↦ let m = in_map_from First ps (First p) i in subst (λ r. Contains ps r) (first_is m.source p m.is) (contains_from ps m.source m.inside)
    | inr i ↦ let m = in_map_from Second qs (First p) i in apart p m.source (sym m.is)
  ]

  pub second_listed : (q : Q) → Contains (both_lists ps qs) (Second q) → Contains qs q
  second_listed q c = elim (in_append (map First ps) (map Second qs) (Second q) (in_from (both_lists ps qs) (Second q) c)) [
    | inl i ↦ let m = in_map_from First ps (Second q) i in apart m.source q m.is
    | inr i ↦ let m = in_map_from Second qs (Second q) i in subst (λ r. Contains qs r) (second_is m.source q m.is) (contains_from qs m.source m.inside)
  ]

module _ {P Q : Type 0} (cmp_p : P → P → Ordering) (cmp_q : Q → Q → Ordering) (cmp : Either P Q → Either P Q → Ordering)
    (firsts : (a b : P) → cmp (First a) (First b) ≡ cmp_p a b) (seconds : (a b : Q) → cmp (Second a) (Second b) ≡ cmp_q a b)
    (across : (a : P) (b : Q) → cmp (First a) (Second b) ≡ Less) where
  lists_both_tests : (test_p : P → Bool) (test_q : Q → Bool) (use_p : P → ℕ) (use_q : Q → ℕ) (ps : List P) (qs : List Q) → ListsRows cmp_p test_p use_p ps → ListsRows cmp_q test_q use_q qs
      → AreFew use_p use_q ps qs → ListsRows cmp (either_of test_p test_q) (either_of use_p use_q) (both_lists ps qs)
  lists_both_tests test_p test_q use_p use_q ps qs lp lq few = record {
    ascending = ascends_append cmp (map First ps) (map Second qs)
        (ascends_along First cmp_p cmp (λ a b h. firsts a b ∙ h) ps lp.ascending) (ascends_along Second cmp_q cmp (λ a b h. seconds a b ∙ h) qs lq.ascending)
        (λ x y i j. let m = in_map_from First ps x i in let n = in_map_from Second qs y j in
        subst (λ r. cmp r y ≡ Less) m.is (subst (λ r. cmp (First m.source) r ≡ Less) n.is (across m.source n.source)));
    used = used;
    are_rows = are_rows;
    few =
        let fp : List (Either P Q) = map First ps in let sq : List (Either P Q) = map Second qs in
        let l : length (both_lists ps qs) ≡ length fp + length sq = length-append fp sq in
        let a : length fp ≡ length ps = length-map ps First in let b : length sq ≡ length qs = length-map qs Second in let f = few.few in omega (arith, l, a, b, f);
    total =
        let u : Either P Q → ℕ = either_of use_p use_q in
        let fp : List (Either P Q) = map First ps in let sq : List (Either P Q) = map Second qs in
        let l : sum_by u (both_lists ps qs) ≡ sum_by u fp + sum_by u sq = sum_by-append u fp sq in
        let a : sum_by u fp ≡ sum_by use_p ps = sum_by_along First u ps in
        let b : sum_by u sq ≡ sum_by use_q qs = sum_by_along Second u qs in let f = few.total in omega (arith, l, a, b, f);
  }
    where
      used : (row : Either P Q) → 0 < either_of use_p use_q row ↔ Contains (both_lists ps qs) row
      used (First p) = (
        (λ h. contains_from (both_lists ps qs) (First p) (in_append_left (map First ps) (map Second qs) (First p) (in_map First ps p (in_from ps p ((lp.used p).0 h))))),
        (λ c. (lp.used p).1 (first_listed ps qs p c)),
      )
      used (Second q) = (
        (λ h. contains_from (both_lists ps qs) (Second q) (in_append_right (map First ps) (map Second qs) (Second q) (in_map Second qs q (in_from qs q ((lq.used q).0 h))))),
        (λ c. (lq.used q).1 (second_listed ps qs q c)),
      )

      are_rows : (row : Either P Q) → 0 < either_of use_p use_q row → either_of test_p test_q row ≡ true
      are_rows (First p) h = lp.are_rows p h
      are_rows (Second q) h = lq.are_rows q h

  -- a leg's rows of both are listed
  pub lists_both : (p : Rows P) (q : Rows Q) (kind : TypeId) (leg : Leg) (ps : List P) (qs : List Q) → ListsRows cmp_p p.is_row (p.uses kind leg) ps → ListsRows cmp_q q.is_row (q.uses kind leg) qs
      → AreFew (p.uses kind leg) (q.uses kind leg) ps qs → ListsRows cmp (both_rows p q).is_row ((both_rows p q).uses kind leg) (both_lists ps qs)
  lists_both p q kind leg ps qs lp lq few = lists_both_tests p.is_row q.is_row (p.uses kind leg) (q.uses kind leg) ps qs lp lq few

module _ {P Q : Type 0} (p : Rows P) (q : Rows Q) where
  -- legs use no row of both above its capacity exactly where they use none of either
  pub fits_both : (entries : List Entry) (K L : Type 0) → K ↔ FitRows p entries → L ↔ FitRows q entries → (K × L) ↔ FitRows (both_rows p q) entries
  fits_both entries K L hp hq = ((λ k. go (hp.0 k.0) (hq.0 k.1)), (λ fits. (hp.1 (λ x is. fits (First x) is), hq.1 (λ y is. fits (Second y) is))))
    where
      go : FitRows p entries → FitRows q entries → (row : Either P Q) → (both_rows p q).is_row row ≡ true → load_of (both_rows p q) row entries ≤ (both_rows p q).capacity row
      go fp fq (First x) is = fp x is
      go fp fq (Second y) is = fq y is

  pub caps_fit : ((x : P) → p.is_row x ≡ true → p.capacity x ≤ 65535) → ((y : Q) → q.is_row y ≡ true → q.capacity y ≤ 65535)
      → (row : Either P Q) → (both_rows p q).is_row row ≡ true → (both_rows p q).capacity row ≤ 65535
  caps_fit hp hq (First x) is = hp x is
  caps_fit hp hq (Second y) is = hq y is

  pub none_of_both : (kind : TypeId) (leg : Leg) → ((x : P) → p.uses kind leg x ≡ 0) → ((y : Q) → q.uses kind leg y ≡ 0) → (row : Either P Q) → (both_rows p q).uses kind leg row ≡ 0
  none_of_both kind leg hp hq (First x) = hp x
  none_of_both kind leg hp hq (Second y) = hq y

pub tell_both_apart : {P Q : Type 0} (cmp_p : P → P → Ordering) (cmp_q : Q → Q → Ordering) (cmp : Either P Q → Either P Q → Ordering)
    → ((a b : P) → cmp (First a) (First b) ≡ cmp_p a b) → ((a b : Q) → cmp (Second a) (Second b) ≡ cmp_q a b)
    → ((a : P) (b : Q) → cmp (First a) (Second b) ≡ Less) → ((a : P) (b : Q) → cmp (Second b) (First a) ≡ Greater)
    → TellsApart cmp_p → TellsApart cmp_q → TellsApart cmp
tell_both_apart cmp_p cmp_q cmp firsts seconds across back tp tq (First a) (First b) e = ap First (tp a b (sym (firsts a b) ∙ e))
tell_both_apart cmp_p cmp_q cmp firsts seconds across back tp tq (First a) (Second b) e = absurd (let h : Less ≡ Equal = sym (across a b) ∙ e in cc)
tell_both_apart cmp_p cmp_q cmp firsts seconds across back tp tq (Second b) (First a) e = absurd (let h : Greater ≡ Equal = sym (back a b) ∙ e in cc)
tell_both_apart cmp_p cmp_q cmp firsts seconds across back tp tq (Second a) (Second b) e = ap Second (tq a b (sym (seconds a b) ∙ e))
