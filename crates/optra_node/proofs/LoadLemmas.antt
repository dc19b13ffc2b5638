-- What a choice of a node uses of a row.
use Rattle.std.proofs.Common.{◌≡◌, ℕ, zero, suc, ◌+◌, ◌≤◌, ◌<◌, Bool, true, false, not, cond, List, [], ◌∷◌, ◌++◌, map, length, get_or, sum_by, Option, Some, None, slice_get, unwrap_or, refl, sym, ap, ◌∙◌, subst, arith, inl, inr}
use Rattle.std.specs.Prelude.{All, Contains, ◌&&◌, nat_eq, ◌⊎◌}
use Rattle.std.specs.List.{AllPairs}
use Rattle.std.specs.Option.{option_map_or}
use Rattle.std.proofs.lemmas.List.Sums.{sum_by-cons, sum_by-append}
use Rattle.std.proofs.lemmas.List.Elements.{Contains-get_or, Contains-append_left, Contains-append_right}
use Rattle.std.proofs.lemmas.Bool.Decides.{nat_tests}
use Rattle.optra_network.specs.Net.{Net}
use Rattle.optra_network.specs.declared.TypeId.{TypeId}
use Rattle.optra_bid.specs.declared.bids.Bid.{Bid}
use Rattle.optra_walk.specs.declared.Leg.{Leg}
use Rattle.optra_walk.specs.Walks.{IsWalk}
use Rattle.optra_walk.specs.Families.{Rows, FitRows, load_of, entries_of}
use Rattle.optra_node.specs.declared.Decision.{Decision}
use Rattle.optra_node.specs.Nodes.{DecidesOnce, DecideApart, Follows, IsOfNode, legs_at, uses_at, yes_load, others_load, IsOverfull, IsAllowed}
use Rattle.optra_node.proofs.SumLemmas.{sum_by-map, sum_by_none}

-- the first element or a later one
pub contains_cases : {A : Type 0} (x : A) (xs : List A) (y : A) → Contains (x ∷ xs) y → (x ≡ y) ⊎ Contains xs y
contains_cases x xs y (zero, l, e) = inl e
contains_cases x xs y (suc k, l, e) = inr (k, omega arith, e)

pub contains_head : {A : Type 0} (x : A) (xs : List A) (y : A) → x ≡ y → Contains (x ∷ xs) y
contains_head x xs y e = (zero, omega arith, e)

pub contains_later : {A : Type 0} (x : A) (xs : List A) (y : A) → Contains xs y → Contains (x ∷ xs) y
contains_later x xs y (k, l, e) = (suc k, omega arith, e)

pub contains-map : {A B : Type 0} (g : A → B) (xs : List A) (x : A) → Contains xs x → Contains (map g xs) (g x)
contains-map g [] x (k, l, e) = absurd (omega arith)
contains-map g (z ∷ xs) x c = elim (contains_cases z xs x c) as (λ _. Contains (g z ∷ map g xs) (g x)) [
  | inl e ↦ contains_head (g z) (map g xs) (g x) (ap g e)
  | inr h ↦ contains_later (g z) (map g xs) (g x) (contains-map g xs x h)
]

-- the rest of a list without one of its elements
pub record Without {A : Type 0} (f : A → ℕ) (xs : List A) (x : A) (ys : List A) : Type 0 where
  pub sum : sum_by f xs ≡ f x + sum_by f ys
  pub others : (y : A) → (x ≡ y → ⊥) → Contains xs y → Contains ys y

pub take_out : {A : Type 0} (f : A → ℕ) (xs : List A) (x : A) → Contains xs x → (ys : List A) × Without f xs x ys
take_out f [] x (k, l, e) = absurd (omega arith)
take_out f (z ∷ zs) x c = elim (contains_cases z zs x c) as (λ _. (ys : List _) × Without f (z ∷ zs) x ys) [
  | inl e ↦ (
    zs,
    record {
      sum = sum_by-cons f z zs ∙ ap (λ n. n + sum_by f zs) (ap f e);
      others = λ y apart h. elim (contains_cases z zs y h) as (λ _. Contains zs y) [ inl q ↦ absurd (apart (sym e ∙ q)) | inr q ↦ q ];
    },
  )
  | inr h ↦
      let t = take_out f zs x h in (
        z ∷ t.0,
        record {
          sum = let a = sum_by-cons f z zs in let b = sum_by-cons f z t.0 in let c = t.1.sum in omega arith;
          others = λ y apart h. elim (contains_cases z zs y h) as (λ _. Contains (z ∷ t.0) y) [
            | inl q ↦ contains_head z t.0 y q
            | inr q ↦ contains_later z t.0 y (t.1.others y apart q)
          ];
        },
      )
]

pub pairs_head : {A : Type 0} (R : A → A → Type 0) (x : A) (xs : List A) → AllPairs R (x ∷ xs) → All (R x) xs
pairs_head R x xs h k d l = h zero (suc k) d (omega arith) (omega arith)

pub pairs_tail : {A : Type 0} (R : A → A → Type 0) (x : A) (xs : List A) → AllPairs R (x ∷ xs) → AllPairs R xs
pairs_tail R x xs h i j d l m = h (suc i) (suc j) d (omega arith) (omega arith)

pub all_head : {A : Type 0} (P : A → Type 0) (x : A) (xs : List A) → All P (x ∷ xs) → P x
all_head P x xs h = h zero x (omega arith)

pub all_tail : {A : Type 0} (P : A → Type 0) (x : A) (xs : List A) → All P (x ∷ xs) → All P xs
all_tail P x xs h k d l = h (suc k) d (omega arith)

-- what decided legs come to is within the sum over a list that has them all
pub decided_within : (f : ℕ × Leg → ℕ) (p : Decision → Bool) (node : List Decision) (all : List (ℕ × Leg)) → DecidesOnce node
    → All (λ d. p d ≡ true → Contains all (d.bid, d.leg)) node → sum_by (λ d. cond (p d) (f (d.bid, d.leg)) 0) node ≤ sum_by f all
decided_within f p [] all once has = omega arith
decided_within f p (d ∷ node) all once has = by (p d) refl (λ rest. decided_within f p node rest (pairs_tail DecideApart d node once))
  where
    by : (b : Bool) → p d ≡ b
        → ((rest : List (ℕ × Leg)) → All (λ d. p d ≡ true → Contains rest (d.bid, d.leg)) node → sum_by (λ d. cond (p d) (f (d.bid, d.leg)) 0) node ≤ sum_by f rest)
        → sum_by (λ d. cond (p d) (f (d.bid, d.leg)) 0) (d ∷ node) ≤ sum_by f all
    by false e before =
        let s = sum_by-cons (λ d. cond (p d) (f (d.bid, d.leg)) 0) d node in
        let z : cond (p d) (f (d.bid, d.leg)) 0 ≡ 0 = ap (λ b. cond b (f (d.bid, d.leg)) 0) e in
        let i = before all (λ k x l q. has (suc k) x (omega arith) q) in
        omega arith
    by true e before =
        let s = sum_by-cons (λ d. cond (p d) (f (d.bid, d.leg)) 0) d node in
        let z : cond (p d) (f (d.bid, d.leg)) 0 ≡ f (d.bid, d.leg) = ap (λ b. cond b (f (d.bid, d.leg)) 0) e in
        let t = take_out f all (d.bid, d.leg) (all_head (λ (d : Decision). p d ≡ true → Contains all (d.bid, d.leg)) d node has e) in
        let apart = pairs_head DecideApart d node once in
        let i = before t.0 (λ k x l q.
        t.1.others ((get_or node k x).bid, (get_or node k x).leg) (λ same. apart k x l (ap (λ (w : ℕ × Leg). w.0) same) (ap (λ (w : ℕ × Leg). w.1) same)) (has (suc k) x (omega arith) q)) in
        let u = t.1.sum in
        omega arith

-- the legs of all walks, each with the number of its bid
abbrev pub tagged : List (Option (List Leg)) → List (ℕ × Leg)
tagged [] = []
tagged (walk ∷ walks) = map (λ leg. (zero, leg)) (unwrap_or walk []) ++ map (λ e. (suc e.0, e.1)) (tagged walks)

pub tagged_has : (walks : List (Option (List Leg))) (bid : ℕ) (leg : Leg) → Contains (legs_at walks bid) leg → Contains (tagged walks) (bid, leg)
tagged_has [] bid leg (k, l, e) = absurd (omega arith)
tagged_has (walk ∷ walks) zero leg c =
    Contains-append_left (map (λ leg. (zero, leg)) (unwrap_or walk [])) (map (λ e. (suc e.0, e.1)) (tagged walks)) (zero, leg)
    (contains-map (λ (leg : Leg). (zero, leg)) (unwrap_or walk []) leg c)
tagged_has (walk ∷ walks) (suc bid) leg c =
    Contains-append_right (map (λ leg. (zero, leg)) (unwrap_or walk [])) (map (λ e. (suc e.0, e.1)) (tagged walks)) (suc bid, leg)
    (contains-map (λ (e : ℕ × Leg). (suc e.0, e.1)) (tagged walks) (bid, leg) (tagged_has walks bid leg c))

module _ {R : Type 0} (rows : Rows R) (row : R) where
  pub tagged_load : (bids : List Bid) (walks : List (Option (List Leg))) → sum_by (λ e. uses_at rows bids row e.0 e.1) (tagged walks) ≡ load_of rows row (entries_of bids walks)
  tagged_load [] walks = sum_by_none (tagged walks)
  tagged_load (bid ∷ bids) [] = refl
  tagged_load (bid ∷ bids) (None ∷ walks) = sum_by-map (λ e. uses_at rows (bid ∷ bids) row e.0 e.1) (λ (e : ℕ × Leg). (suc e.0, e.1)) (tagged walks) ∙ tagged_load bids walks
  tagged_load (bid ∷ bids) (Some legs ∷ walks) =
      let f : ℕ × Leg → ℕ = λ e. uses_at rows (bid ∷ bids) row e.0 e.1 in
      let a = sum_by-append f (map (λ leg. (zero, leg)) legs) (map (λ e. (suc e.0, e.1)) (tagged walks)) in
      let b = sum_by-map f (λ (leg : Leg). (zero, leg)) legs in
      let c = sum_by-map f (λ (e : ℕ × Leg). (suc e.0, e.1)) (tagged walks) in
      let d = tagged_load bids walks in
      let h : TypeId × Leg → ℕ = λ e. rows.uses e.0 e.1 row in
      let u = sum_by-append h (map (λ leg. (bid.path.kind, leg)) legs) (entries_of bids walks) in
      let v = sum_by-map h (λ (leg : Leg). (bid.path.kind, leg)) legs in
      omega arith

  -- a yes leg of a choice of the node is among its legs
  yes_has : (walks : List (Option (List Leg))) (node : List Decision) → IsOfNode walks node → (k : ℕ) (d : Decision) → k < length node
      → (get_or node k d).yes ≡ true → Contains (tagged walks) ((get_or node k d).bid, (get_or node k d).leg)
  yes_has walks node of k d l e = tagged_has walks (get_or node k d).bid (get_or node k d).leg ((of k d l).yes e)

  -- the yes legs of a choice of the node use no more of the row than the choice does
  pub yes_load_within : (bids : List Bid) (walks : List (Option (List Leg))) (node : List Decision) → DecidesOnce node → IsOfNode walks node
      → yes_load rows bids node row ≤ load_of rows row (entries_of bids walks)
  yes_load_within bids walks node once of =
      let w = decided_within (λ e. uses_at rows bids row e.0 e.1) (λ d. d.yes) node (tagged walks) once (yes_has walks node of) in
      let t = tagged_load bids walks in
      omega arith

  -- nor do a leg of one bid and the yes legs of the others
  pub others_load_within : (bids : List Bid) (walks : List (Option (List Leg))) (node : List Decision) (bid : ℕ) (leg : Leg) → DecidesOnce node → IsOfNode walks node
      → Contains (legs_at walks bid) leg → uses_at rows bids row bid leg + others_load rows bids node bid row ≤ load_of rows row (entries_of bids walks)
  others_load_within bids walks node bid leg once of has =
      let f : ℕ × Leg → ℕ = λ e. uses_at rows bids row e.0 e.1 in
      let t = take_out f (tagged walks) (bid, leg) (tagged_has walks bid leg has) in
      let w = decided_within f (λ d. d.yes && not (nat_eq d.bid bid)) node t.0 once (λ k d l e.
      t.1.others ((get_or node k d).bid, (get_or node k d).leg)
      (λ same. apart (get_or node k d) e (ap (λ (w : ℕ × Leg). w.0) same))
      (yes_has walks node of k d l (is_yes (get_or node k d) e))) in
      let s = t.1.sum in
      let u = tagged_load bids walks in
      omega arith
    where
      is_yes : (d : Decision) → (d.yes && not (nat_eq d.bid bid)) ≡ true → d.yes ≡ true
      is_yes d e = grind (arith, nat_tests)

      apart : (d : Decision) → (d.yes && not (nat_eq d.bid bid)) ≡ true → bid ≡ d.bid → ⊥
      apart d e same = grind (arith, nat_tests)

  -- no choice that fits is of a node whose yes legs overfill the row
  pub forced_clash : (bids : List Bid) (walks : List (Option (List Leg))) (node : List Decision) → DecidesOnce node → IsOfNode walks node
      → FitRows rows (entries_of bids walks) → IsOverfull rows bids node row → ⊥
  forced_clash bids walks node once of fit over =
      let w = yes_load_within bids walks node once of in
      let f = fit row over.is_row in
      let a = over.above in
      omega arith

module _ {R : Type 0} (net : Net) (rows : Rows R) (bids : List Bid) (walks : List (Option (List Leg))) (node : List Decision) where
  -- a walk of a choice that fits and is of the node is allowed there
  pub allowed_at : (number : ℕ) (bid : Bid) (legs : List Leg) → slice_get bids number ≡ Some bid → slice_get walks number ≡ Some (Some legs) → IsWalk net bid.path legs
      → DecidesOnce node → IsOfNode walks node → FitRows rows (entries_of bids walks) → IsAllowed net rows bids node number bid legs
  allowed_at number bid legs at_bid at_walk walk once of fit = record {
    walk = walk;
    decided = λ k d l e. subst (λ ls. Follows ls (get_or node k d)) (ap (legs_at walks) e ∙ legs_are) (of k d l);
    free = λ k d l blocked.
        let leg = get_or legs k d in
        let c : Contains (legs_at walks number) leg = subst (λ ls. Contains ls leg) (sym legs_are) (Contains-get_or legs k d l) in
        let w = others_load_within rows blocked.0 bids walks node number leg once of c in
        let u : uses_at rows bids blocked.0 number leg ≡ rows.uses bid.path.kind leg blocked.0 = ap (λ o. option_map_or (λ (b : Bid). rows.uses b.path.kind leg blocked.0) o 0) at_bid in
        let f = fit blocked.0 blocked.1.is_row in
        let a = blocked.1.above in
        omega arith;
  }
    where
      legs_are : legs_at walks number ≡ legs
      legs_are = ap (λ o. option_map_or (λ (w : Option (List Leg)). unwrap_or w []) o []) at_walk
