-- Decisions in lists by a number, with the last one put behind and taken off again; and what is read from the lists.
use Rattle.std.proofs.Common.{◌≡◌, ℕ, zero, suc, ◌-◌, ◌<◌, ◌≤◌, ◌↔◌, Bool, true, false, cond, List, [], ◌∷◌, ◌++◌, length, get_or, set, take, replicate, Some, slice_get, Vec, Global, vec_len, refl, sym, ap, ◌∙◌, subst, arith}
use Rattle.std.specs.Prelude.{All, filter, nat_eq, not, ◌&&◌, ◌||◌}
use Rattle.std.proofs.lemmas.Bool.{false≢true}
use Rattle.std.proofs.lemmas.Bool.Decides.{nat_tests}
use Rattle.std.proofs.lemmas.List.{append-nil, length-append, length-map, length-set, length-replicate, get_or-replicate}
use Rattle.std.proofs.Math.Seq.{take-append_seam}
use Rattle.std.proofs.lemmas.List.Elements.{All-filter, All-head, All-tail, filter-append}
use Rattle.std.proofs.lemmas.List.Sums.{sum_by-cons}
use Rattle.std.proofs.lemmas.Option.{slice_get-get_or, get_or_from_slice_get}
use Rattle.optra_network.specs.Net.{Net}
use Rattle.optra_network.specs.declared.TypeId.{TypeId}
use Rattle.optra_bid.specs.declared.bids.Bid.{Bid}
use Rattle.optra_walk.specs.declared.Leg.{Leg}
use Rattle.optra_walk.specs.Families.{Rows}
use Rattle.optra_node.specs.declared.Decision.{Decision}
use Rattle.optra_node.specs.Nodes.{IsBlocked, IsUndecided, has_yes, is_yes_for, uses_at, yes_load, others_load}
use Rattle.optra_node.specs.Spans.{IsLetBy, IsStartOk, Lets}
use Rattle.optra_node.specs.OwnDecisions.{decisions_for, is_for}
use Rattle.optra_open.specs.Keyed.{AreKeyed, bucket_of, bucket_in, yes_part}
use Rattle.optra_open.specs.declared.decision_index.DecisionIndex.{DecisionIndex}
use Rattle.optra_open.specs.Opens.{IsIndexOf}
use Rattle.optra_open.proofs.OwnLemmas.{read_written, read_other, is_for_same}

-- ---- lists by a number

pub keyed_none : (key : Decision → ℕ) (count : ℕ) (lists : List (List Decision)) → lists ≡ replicate count [] → AreKeyed key count [] lists
keyed_none key count lists is =
    let len : length lists ≡ count = ap length is ∙ length-replicate count [] in
    record {
      count_is = len;
      each = λ k l. slice_get-get_or lists k [] (omega (arith, len, l)) ∙ ap Some (ap (λ xs. get_or xs k []) is ∙ get_or-replicate count k [] [] l);
    }

module _ (key : Decision → ℕ) (count : ℕ) (node : List Decision) (d : Decision) (place : ℕ) (is : key d ≡ place) (lists : List (List Decision)) (list : List Decision) (within : place < length lists) where
  abbrev at : ℕ → Decision → Bool
  at k e = nat_eq (key e) k

  more : (k : ℕ) (b : Bool) → nat_eq (key d) k ≡ b → filter (at k) (node ++ d ∷ []) ≡ filter (at k) node ++ cond b (d ∷ []) []
  more k b e = filter-append (at k) node (d ∷ []) ∙ ap (λ c. filter (at k) node ++ cond c (d ∷ []) []) e

  key_same : (k : ℕ) → key d ≡ k → nat_eq (key d) k ≡ true
  key_same k e = grind (arith, nat_tests)

  key_is : (k : ℕ) → nat_eq (key d) k ≡ true → place ≡ k
  key_is k e = let here : key d ≡ k = grind (arith, nat_tests) in sym is ∙ here

  here_within : (k : ℕ) → place ≡ k → k < length lists
  here_within k same = subst (λ j. j < length lists) same within

  -- the decision goes behind those of its number
  pub keyed_push : AreKeyed key count node lists → list ≡ get_or lists place [] ++ d ∷ [] → AreKeyed key count (node ++ d ∷ []) (set lists place list)
  keyed_push h made = record { count_is = length-set lists place list ∙ h.count_is; each = λ k m. by k m (nat_eq (key d) k) refl }
    where
      by : (k : ℕ) → k < count → (b : Bool) → nat_eq (key d) k ≡ b → slice_get (set lists place list) k ≡ Some (filter (at k) (node ++ d ∷ []))
      by k m true e =
          let same = key_is k e in
          let old : get_or lists k [] ≡ filter (at k) node = get_or_from_slice_get lists k (filter (at k) node) [] (h.each k m) in
          subst (λ j. slice_get (set lists j list) k ≡ Some (filter (at k) (node ++ d ∷ []))) (sym same)
          (read_written lists k list (here_within k same) ∙ ap Some (made ∙ ap (λ j. get_or lists j [] ++ d ∷ []) same ∙ ap (λ xs. xs ++ d ∷ []) old ∙ sym (more k true e)))
      by k m false e =
          read_other lists place k list (filter (at k) (node ++ d ∷ [])) (λ q. false≢true (sym e ∙ key_same k (is ∙ sym q)))
          (h.each k m ∙ ap Some (sym (more k false e ∙ append-nil (filter (at k) node))))

  -- and the last decision comes off again
  pub keyed_pop : AreKeyed key count (node ++ d ∷ []) lists → list ≡ take (length (get_or lists place []) - 1) (get_or lists place []) → AreKeyed key count node (set lists place list)
  keyed_pop h made = record { count_is = length-set lists place list ∙ h.count_is; each = λ k m. by k m (nat_eq (key d) k) refl }
    where
      front : (xs : List Decision) → take (length (xs ++ d ∷ []) - 1) (xs ++ d ∷ []) ≡ xs
      front xs = let l : length (xs ++ d ∷ []) - 1 ≡ length xs = omega (arith, length-append xs (d ∷ [])) in ap (λ n. take n (xs ++ d ∷ [])) l ∙ take-append_seam xs (d ∷ [])

      by : (k : ℕ) → k < count → (b : Bool) → nat_eq (key d) k ≡ b → slice_get (set lists place list) k ≡ Some (filter (at k) node)
      by k m true e =
          let same = key_is k e in
          let old : get_or lists k [] ≡ filter (at k) (node ++ d ∷ []) = get_or_from_slice_get lists k (filter (at k) (node ++ d ∷ [])) [] (h.each k m) in
          let own : get_or lists place [] ≡ filter (at k) node ++ d ∷ [] = ap (λ j. get_or lists j []) same ∙ old ∙ more k true e in
          subst (λ j. slice_get (set lists j list) k ≡ Some (filter (at k) node)) (sym same)
          (read_written lists k list (here_within k same) ∙ ap Some (made ∙ ap (λ xs. take (length xs - 1) xs) own ∙ front (filter (at k) node)))
      by k m false e =
          read_other lists place k list (filter (at k) node) (λ q. false≢true (sym e ∙ key_same k (is ∙ sym q)))
          (h.each k m ∙ ap Some (more k false e ∙ append-nil (filter (at k) node)))

-- what a list has
pub keyed_at : (key : Decision → ℕ) (count : ℕ) (node : List Decision) (lists : List (List Decision)) (k : ℕ) → AreKeyed key count node lists → k < length lists → get_or lists k [] ≡ filter (λ d. nat_eq (key d) k) node
keyed_at key count node lists k are l =
    let c = are.count_is in
    get_or_from_slice_get lists k (filter (λ d. nat_eq (key d) k) node) [] (are.each k (omega (arith, c, l)))

-- ---- places of the index

pub vec_length : {X : Type 0} (v : Vec X Global) → vec_len v ≡ length v.items
vec_length v = grind arith

module _ (bids : ℕ) (node : List Decision) (index : DecisionIndex) (are : IsIndexOf bids node index) where
  pub own_within : (bid : ℕ) → bid < bids → bid < vec_len index.own
  own_within bid l = let v = vec_length index.own in let m = length-map index.own.items (λ (list : Vec Decision Global). list.items) in let c = are.own.count_is in omega (arith, v, m, c, l)

  pub yes_within : (bid : ℕ) → bid < bids → bid < vec_len index.yes
  yes_within bid l = let v = vec_length index.yes in let m = length-map index.yes.items (λ (list : Vec Decision Global). list.items) in let c = are.yes.count_is in omega (arith, v, m, c, l)

  pub buckets_count : vec_len index.buckets ≡ 4096
  buckets_count = let v = vec_length index.buckets in let m = length-map index.buckets.items (λ (list : Vec Decision Global). list.items) in let c = are.buckets.count_is in omega (arith, v, m, c)

-- ---- the yes decisions

pub yes_more : (node : List Decision) (d : Decision) → d.yes ≡ true → yes_part (node ++ d ∷ []) ≡ yes_part node ++ d ∷ []
yes_more node d e = filter-append (λ (x : Decision). x.yes) node (d ∷ []) ∙ ap (λ c. yes_part node ++ cond c (d ∷ []) []) e

pub yes_less : (node : List Decision) (d : Decision) → d.yes ≡ false → yes_part (node ++ d ∷ []) ≡ yes_part node
yes_less node d e = filter-append (λ (x : Decision). x.yes) node (d ∷ []) ∙ ap (λ c. yes_part node ++ cond c (d ∷ []) []) e ∙ append-nil (yes_part node)

module _ {R : Type 0} (rows : Rows R) (bids : List Bid) (row : R) where
  -- what they use is what the node's yes legs use
  pub load_part : (node : List Decision) → yes_load rows bids (yes_part node) row ≡ yes_load rows bids node row
  load_part [] = refl
  load_part (d ∷ node) = by d.yes refl (load_part node)
    where
      by : (y : Bool) → d.yes ≡ y → yes_load rows bids (yes_part node) row ≡ yes_load rows bids node row → yes_load rows bids (cond y (d ∷ yes_part node) (yes_part node)) row ≡ yes_load rows bids (d ∷ node) row
      by true e rest =
          let s = sum_by-cons (λ (e : Decision). cond e.yes (uses_at rows bids row e.bid e.leg) 0) d (yes_part node) in
          let t = sum_by-cons (λ (e : Decision). cond e.yes (uses_at rows bids row e.bid e.leg) 0) d node in
          omega (arith, s, t, rest)
      by false e rest =
          let t = sum_by-cons (λ (e : Decision). cond e.yes (uses_at rows bids row e.bid e.leg) 0) d node in
          let none : cond d.yes (uses_at rows bids row d.bid d.leg) 0 ≡ 0 = ap (λ c. cond c (uses_at rows bids row d.bid d.leg) 0) e in
          omega (arith, t, none, rest)

  -- and so for those of the other bids
  pub others_part : (bid : ℕ) (node : List Decision) → others_load rows bids (yes_part node) bid row ≡ others_load rows bids node bid row
  others_part bid [] = refl
  others_part bid (d ∷ node) = by d.yes refl (others_part bid node)
    where
      by : (y : Bool) → d.yes ≡ y → others_load rows bids (yes_part node) bid row ≡ others_load rows bids node bid row
          → others_load rows bids (cond y (d ∷ yes_part node) (yes_part node)) bid row ≡ others_load rows bids (d ∷ node) bid row
      by true e rest =
          let s = sum_by-cons (λ (e : Decision). cond (e.yes && not (nat_eq e.bid bid)) (uses_at rows bids row e.bid e.leg) 0) d (yes_part node) in
          let t = sum_by-cons (λ (e : Decision). cond (e.yes && not (nat_eq e.bid bid)) (uses_at rows bids row e.bid e.leg) 0) d node in
          omega (arith, s, t, rest)
      by false e rest =
          let t = sum_by-cons (λ (e : Decision). cond (e.yes && not (nat_eq e.bid bid)) (uses_at rows bids row e.bid e.leg) 0) d node in
          let none : cond (d.yes && not (nat_eq d.bid bid)) (uses_at rows bids row d.bid d.leg) 0 ≡ 0 = ap (λ c. cond (c && not (nat_eq d.bid bid)) (uses_at rows bids row d.bid d.leg) 0) e in
          omega (arith, t, none, rest)

-- so they block the same legs
pub blocked_part : {R : Type 0} (rows : Rows R) (bids : List Bid) (bid : ℕ) (kind : TypeId) (leg : Leg) (node : List Decision) → IsBlocked rows bids (yes_part node) bid kind leg ↔ IsBlocked rows bids node bid kind leg
blocked_part rows bids bid kind leg node = (
  λ b. let e = others_part rows bids b.0 bid node in let a = b.1.above in (b.0, record { is_row = b.1.is_row; used = b.1.used; above = omega (arith, e, a) }),
  λ b. let e = others_part rows bids b.0 bid node in let a = b.1.above in (b.0, record { is_row = b.1.is_row; used = b.1.used; above = omega (arith, e, a) }),
)

-- a bid has a yes leg exactly where one of them is for it
pub has_yes_part : (bid : ℕ) (node : List Decision) → has_yes (yes_part node) bid ≡ has_yes node bid
has_yes_part bid [] = refl
has_yes_part bid (d ∷ node) = by d.yes refl (has_yes_part bid node)
  where
    by : (y : Bool) → d.yes ≡ y → has_yes (yes_part node) bid ≡ has_yes node bid → has_yes (cond y (d ∷ yes_part node) (yes_part node)) bid ≡ has_yes (d ∷ node) bid
    by true e rest = ap (λ r. is_yes_for bid d || r) rest
    by false e rest = rest ∙ sym (ap (λ c. (c && nat_eq d.bid bid) || has_yes node bid) e)

-- ---- what is read

-- what holds of those that pass a test
pub all_of : {X : Type 0} (p : X → Bool) (P : X → Type 0) (xs : List X) → All P (filter p xs) → All (λ x. p x ≡ true → P x) xs
all_of p P [] h = λ k d l. absurd (omega arith)
all_of p P (x ∷ xs) h = by (p x) refl h (λ h. all_of p P xs h)
  where
    put : (p x ≡ true → P x) → All (λ x. p x ≡ true → P x) xs → (k : ℕ) (d : _) → k < length (x ∷ xs) → p (get_or (x ∷ xs) k d) ≡ true → P (get_or (x ∷ xs) k d)
    put here rest zero d l = here
    put here rest (suc k) d l = rest k d (omega (arith, l))

    by : (b : Bool) → p x ≡ b → All P (cond b (x ∷ filter p xs) (filter p xs)) → (All P (filter p xs) → All (λ x. p x ≡ true → P x) xs) → All (λ x. p x ≡ true → P x) (x ∷ xs)
    by true e h rest = put (λ _. All-head P x (filter p xs) h) (rest (All-tail P x (filter p xs) h))
    by false e h rest = put (λ t. absurd (false≢true (sym e ∙ t))) (rest h)

same_bucket : (bid : ℕ) (leg : Leg) (d : Decision) → d.bid ≡ bid → d.leg ≡ leg → nat_eq (bucket_of d.bid d.leg) (bucket_of bid leg) ≡ true
same_bucket bid leg d b l = let e : bucket_of d.bid d.leg ≡ bucket_of bid leg = (λ i. bucket_of (b i) (l i)) in grind (arith, nat_tests, e)

-- whether a leg is undecided, by its bucket
pub undecided_in : (bid : ℕ) (leg : Leg) (node : List Decision) → IsUndecided (bucket_in node bid leg) bid leg ↔ IsUndecided node bid leg
undecided_in bid leg node = (
  λ h. let all = all_of (λ (d : Decision). nat_eq (bucket_of d.bid d.leg) (bucket_of bid leg)) (λ (d : Decision). d.bid ≡ bid → d.leg ≡ leg → ⊥) node h in
      λ k d l b same. all k d l (same_bucket bid leg (get_or node k d) b same) b same,
  λ h. All-filter (λ (d : Decision). nat_eq (bucket_of d.bid d.leg) (bucket_of bid leg)) (λ (d : Decision). d.bid ≡ bid → d.leg ≡ leg → ⊥) node h,
)

-- of the yes decisions for a bid
yes_own : (bid : ℕ) (P : Decision → Type 0) (node : List Decision) → All P (decisions_for (yes_part node) bid) → All (λ d. d.yes ≡ true → is_for bid d ≡ true → P d) node
yes_own bid P node h = all_of (λ (d : Decision). d.yes) (λ (d : Decision). is_for bid d ≡ true → P d) node (all_of (is_for bid) P (yes_part node) h)

-- which starts are right, by them
pub start_in : (bid minute : ℕ) (node : List Decision) → IsStartOk (decisions_for (yes_part node) bid) bid minute ↔ IsStartOk node bid minute
start_in bid minute node = (
  λ h. let all = yes_own bid (λ (d : Decision). d.bid ≡ bid → d.yes ≡ true → minute ≤ d.leg.depart) node h in
      λ k d l b y. all k d l y (is_for_same bid (get_or node k d) b) b y,
  λ h. All-filter (is_for bid) (λ (d : Decision). d.bid ≡ bid → d.yes ≡ true → minute ≤ d.leg.depart) (yes_part node)
      (All-filter (λ (d : Decision). d.yes) (λ (d : Decision). d.bid ≡ bid → d.yes ≡ true → minute ≤ d.leg.depart) node h),
)

module _ (net : Net) (kind : TypeId) (bid : ℕ) (leg : Leg) (node : List Decision) where
  abbrev LetsIt : Decision → Type 0
  LetsIt d = d.bid ≡ bid → Lets net kind d leg

  -- which legs are let, by the yes decisions and those of that leg
  pub let_in : IsLetBy net (decisions_for (yes_part node) bid) bid kind leg → IsLetBy net (bucket_in node bid leg) bid kind leg → IsLetBy net node bid kind leg
  let_in yeses bucket k d l b =
      by (get_or node k d) b (get_or node k d).yes refl (yes_own bid LetsIt node yeses k d l)
      (all_of (λ (d : Decision). nat_eq (bucket_of d.bid d.leg) (bucket_of bid leg)) LetsIt node bucket k d l)
    where
      by : (e : Decision) → e.bid ≡ bid → (y : Bool) → e.yes ≡ y → (e.yes ≡ true → is_for bid e ≡ true → LetsIt e) → (nat_eq (bucket_of e.bid e.leg) (bucket_of bid leg) ≡ true → LetsIt e) → Lets net kind e leg
      by e b true y f g = f y (is_for_same bid e b) b
      by e b false y f g = record {
        yes = λ t. absurd (false≢true (sym y ∙ t));
        no = λ n same. (g (same_bucket bid leg e b (sym same)) b).no n same;
      }

  pub let_yes : IsLetBy net node bid kind leg → IsLetBy net (decisions_for (yes_part node) bid) bid kind leg
  let_yes h = All-filter (is_for bid) LetsIt (yes_part node) (All-filter (λ (d : Decision). d.yes) LetsIt node h)

  pub let_bucket : IsLetBy net node bid kind leg → IsLetBy net (bucket_in node bid leg) bid kind leg
  let_bucket h = All-filter (λ (d : Decision). nat_eq (bucket_of d.bid d.leg) (bucket_of bid leg)) LetsIt node h
