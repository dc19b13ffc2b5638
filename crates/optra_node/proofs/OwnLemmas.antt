-- A bid's own decisions, their places, and the loads without them.
use Rattle.std.proofs.Common.{◌≡◌, ◌≢◌, ℕ, ◌+◌, ◌<◌, ◌≤◌, ◌↔◌, Bool, true, false, not, cond, List, [], ◌∷◌, ◌++◌, map, length, get_or, set, take, replicate, filter, Option, Some, slice_get, refl, sym, ap, ◌∙◌, subst, arith, inl, inr}
use Rattle.std.specs.Prelude.{All, IsTrue, ◌&&◌, ◌||◌, nat_eq}
use Rattle.std.specs.List.{list_any}
use Rattle.std.proofs.lemmas.Bool.Decides.{nat_tests, eqb_tells}
use Rattle.std.proofs.lemmas.List.Elements.{All-nil, All-cons, All-head, All-tail, All-filter, filter_more}
use Rattle.std.proofs.lemmas.List.{append-nil, length-set, length-replicate, get_or-replicate, get_or-set_same, get_or-set_other, map_push}
use Rattle.std.proofs.lemmas.List.Sums.{sum_by-cons}
use Rattle.std.proofs.lemmas.Option.{slice_get-get_or, slice_get_within, get_or_from_slice_get}
use Rattle.optra_network.specs.Net.{Net}
use Rattle.optra_network.specs.declared.TypeId.{TypeId}
use Rattle.optra_bid.specs.declared.bids.Bid.{Bid}
use Rattle.optra_walk.specs.declared.Leg.{Leg}
use Rattle.optra_walk.specs.Families.{Rows}
use Rattle.optra_node.specs.declared.Decision.{Decision}
use Rattle.optra_node.specs.Nodes.{uses_at, yes_load, others_load, has_yes, IsFormedDecision}
use Rattle.optra_node.specs.Spans.{Lets, IsLetBy, IsStartOk}
use Rattle.optra_node.specs.OwnDecisions.{is_for, decisions_for, AreByBid, AreAt, ArePlacesByBid}

is_for_same : (bid : ℕ) (d : Decision) → d.bid ≡ bid → is_for bid d ≡ true
is_for_same bid d e = grind (arith, nat_tests)

-- what is asked of the decisions for a bid is asked of its own ones
pub all_for : (P : Decision → Type 0) (node : List Decision) (bid : ℕ) → All (λ d. d.bid ≡ bid → P d) (decisions_for node bid) ↔ All (λ d. d.bid ≡ bid → P d) node
all_for P node bid = (from node, All-filter (is_for bid) (λ d. d.bid ≡ bid → P d) node)
  where
    from : (node : List Decision) → All (λ d. d.bid ≡ bid → P d) (filter (is_for bid) node) → All (λ d. d.bid ≡ bid → P d) node
    from [] h = All-nil (λ (d : Decision). d.bid ≡ bid → P d)
    from (d ∷ ds) h = by (is_for bid d) refl h (from ds)
      where
        by : (b : Bool) → is_for bid d ≡ b → All (λ d. d.bid ≡ bid → P d) (cond b (d ∷ filter (is_for bid) ds) (filter (is_for bid) ds))
            → (All (λ d. d.bid ≡ bid → P d) (filter (is_for bid) ds) → All (λ d. d.bid ≡ bid → P d) ds) → All (λ d. d.bid ≡ bid → P d) (d ∷ ds)
        by true e h before =
            All-cons (λ (d : Decision). d.bid ≡ bid → P d) d ds (All-head (λ (d : Decision). d.bid ≡ bid → P d) d (filter (is_for bid) ds) h)
            (before (All-tail (λ (d : Decision). d.bid ≡ bid → P d) d (filter (is_for bid) ds) h))
        by false e h before =
            All-cons (λ (d : Decision). d.bid ≡ bid → P d) d ds (λ q. absurd (clash (sym e ∙ is_for_same bid d q))) (before h)
          where
            clash : false ≡ true → ⊥
            clash e = cc

-- the yes legs are those of the others and the bid's own
pub load_split : {R : Type 0} (rows : Rows R) (bids : List Bid) (bid : ℕ) (row : R) (node : List Decision)
    → yes_load rows bids node row ≡ others_load rows bids node bid row + yes_load rows bids (decisions_for node bid) row
load_split rows bids bid row [] = refl
load_split rows bids bid row (d ∷ ds) = by (nat_eq d.bid bid) d.yes refl refl (load_split rows bids bid row ds)
  where
    own_kept : nat_eq d.bid bid ≡ true → yes_load rows bids (decisions_for (d ∷ ds) bid) row ≡ cond d.yes (uses_at rows bids row d.bid d.leg) 0 + yes_load rows bids (decisions_for ds bid) row
    own_kept e =
        ap (λ c. yes_load rows bids (cond c (d ∷ decisions_for ds bid) (decisions_for ds bid)) row) e
        ∙ sum_by-cons (λ (d : Decision). cond d.yes (uses_at rows bids row d.bid d.leg) 0) d (decisions_for ds bid)

    own_left : nat_eq d.bid bid ≡ false → yes_load rows bids (decisions_for (d ∷ ds) bid) row ≡ yes_load rows bids (decisions_for ds bid) row
    own_left e = ap (λ c. yes_load rows bids (cond c (d ∷ decisions_for ds bid) (decisions_for ds bid)) row) e

    all_term : (y : Bool) → d.yes ≡ y → yes_load rows bids (d ∷ ds) row ≡ cond y (uses_at rows bids row d.bid d.leg) 0 + yes_load rows bids ds row
    all_term y f =
        sum_by-cons (λ (d : Decision). cond d.yes (uses_at rows bids row d.bid d.leg) 0) d ds ∙ ap (λ v. cond v (uses_at rows bids row d.bid d.leg) 0 + yes_load rows bids ds row) f

    others_term : (b y : Bool) → nat_eq d.bid bid ≡ b → d.yes ≡ y → others_load rows bids (d ∷ ds) bid row ≡ cond (y && not b) (uses_at rows bids row d.bid d.leg) 0 + others_load rows bids ds bid row
    others_term b y e f =
        sum_by-cons (λ (d : Decision). cond (d.yes && not (nat_eq d.bid bid)) (uses_at rows bids row d.bid d.leg) 0) d ds
        ∙ ap (λ v. cond (v && not (nat_eq d.bid bid)) (uses_at rows bids row d.bid d.leg) 0 + others_load rows bids ds bid row) f
        ∙ ap (λ v. cond (y && not v) (uses_at rows bids row d.bid d.leg) 0 + others_load rows bids ds bid row) e

    own_term : (y : Bool) → d.yes ≡ y → cond d.yes (uses_at rows bids row d.bid d.leg) 0 ≡ cond y (uses_at rows bids row d.bid d.leg) 0
    own_term y f = ap (λ v. cond v (uses_at rows bids row d.bid d.leg) 0) f

    by : (b y : Bool) → nat_eq d.bid bid ≡ b → d.yes ≡ y → yes_load rows bids ds row ≡ others_load rows bids ds bid row + yes_load rows bids (decisions_for ds bid) row
        → yes_load rows bids (d ∷ ds) row ≡ others_load rows bids (d ∷ ds) bid row + yes_load rows bids (decisions_for (d ∷ ds) bid) row
    by true true e f i =
        let a = all_term true f in let o = others_term true true e f in let k = own_kept e in let t = own_term true f in
        omega arith
    by true false e f i =
        let a = all_term false f in let o = others_term true false e f in let k = own_kept e in let t = own_term false f in
        omega arith
    by false true e f i =
        let a = all_term true f in let o = others_term false true e f in let k = own_left e in
        omega arith
    by false false e f i =
        let a = all_term false f in let o = others_term false false e f in let k = own_left e in
        omega arith

read_written : {X : Type 0} (xs : List X) (i : ℕ) (v : X) → i < length xs → slice_get (set xs i v) i ≡ Some v
read_written xs i v l =
    let within : i < length (set xs i v) = omega (arith, length-set xs i v) in
    slice_get-get_or (set xs i v) i v within ∙ ap Some (get_or-set_same xs i v v l)

read_other : {X : Type 0} (xs : List X) (i j : ℕ) (v w : X) → j ≢ i → slice_get xs j ≡ Some w → slice_get (set xs i v) j ≡ Some w
read_other xs i j v w ne e =
    let l = slice_get_within xs j w e in
    let within : j < length (set xs i v) = omega (arith, length-set xs i v) in
    slice_get-get_or (set xs i v) j w within ∙ ap Some (get_or-set_other xs i j v w ne ∙ get_or_from_slice_get xs j w w e)

-- empty lists, before any decision
pub by_bid_none : (bids : ℕ) (lists : List (List Decision)) → lists ≡ replicate bids [] → AreByBid bids [] lists
by_bid_none bids lists is =
    let len : length lists ≡ bids = ap length is ∙ length-replicate bids [] in
    record {
      count = len;
      each = λ bid l. slice_get-get_or lists bid [] (omega arith) ∙ ap Some (ap (λ xs. get_or xs bid []) is ∙ get_or-replicate bids bid [] [] l);
    }

-- the next decision goes to the list of its bid
pub by_bid_more : (bids : ℕ) (node : List Decision) (n : ℕ) (z : Decision) (lists : List (List Decision)) (list : List Decision) → n < length node → (get_or node n z).bid < bids
    → AreByBid bids (take n node) lists → list ≡ get_or lists (get_or node n z).bid [] ++ get_or node n z ∷ [] → AreByBid bids (take (n + 1) node) (set lists (get_or node n z).bid list)
by_bid_more bids node n z lists list l within h made = record {
  count = length-set lists (get_or node n z).bid list ∙ h.count;
  each = λ bid m. by bid m (nat_eq (get_or node n z).bid bid) refl;
}
  where
    more : (bid : ℕ) (b : Bool) → nat_eq (get_or node n z).bid bid ≡ b → decisions_for (take (n + 1) node) bid ≡ decisions_for (take n node) bid ++ cond b (get_or node n z ∷ []) []
    more bid b e =
        filter_more (is_for bid) node n z l ∙ ap (λ c. decisions_for (take n node) bid ++ cond c (get_or node n z ∷ []) []) e

    by : (bid : ℕ) → bid < bids → (b : Bool) → nat_eq (get_or node n z).bid bid ≡ b → slice_get (set lists (get_or node n z).bid list) bid ≡ Some (decisions_for (take (n + 1) node) bid)
    by bid m true e =
        let d = get_or node n z in
        let same : d.bid ≡ bid = grind (arith, nat_tests) in
        let count = h.count in
        let old : get_or lists d.bid [] ≡ decisions_for (take n node) d.bid = get_or_from_slice_get lists d.bid (decisions_for (take n node) d.bid) [] (h.each d.bid within) in
        let written : slice_get (set lists d.bid list) d.bid ≡ Some list = read_written lists d.bid list (omega arith) in
        subst (λ k. slice_get (set lists d.bid list) k ≡ Some (decisions_for (take (n + 1) node) k)) same
        (written ∙ ap Some (made ∙ ap (λ xs. xs ++ d ∷ []) old ∙ sym (more d.bid true (is_for_same d.bid d refl))))
    by bid m false e =
        let d = get_or node n z in
        read_other lists d.bid bid list (decisions_for (take (n + 1) node) bid) (λ q. clash (sym e ∙ is_for_same bid d (sym q)))
        (h.each bid m ∙ ap Some (sym (more bid false e ∙ append-nil (decisions_for (take n node) bid))))
      where
        clash : false ≡ true → ⊥
        clash e = cc

module _ (bid : ℕ) (own node : List Decision) (is : own ≡ decisions_for node bid) where
  -- the answers from a bid's own decisions are those from all
  pub let_by_own : (r : Bool) (net net' : Net) → net ≡ net' → (kind kind' : TypeId) → kind ≡ kind' → (leg : Leg) → (IsTrue r ↔ IsLetBy net own bid kind leg) → IsTrue r ↔ IsLetBy net' node bid kind' leg
  let_by_own r net net' e kind kind' k leg h =
      let h' = subst (λ o. IsTrue r ↔ IsLetBy net' o bid kind' leg) is (subst (λ x. IsTrue r ↔ IsLetBy net' own bid x leg) k (subst (λ x. IsTrue r ↔ IsLetBy x own bid kind leg) e h)) in
      let a = all_for (λ d. Lets net' kind' d leg) node bid in
      (λ t. a.0 (h'.0 t), λ t. h'.1 (a.1 t))

  pub start_own : (r : Bool) (minute : ℕ) → (IsTrue r ↔ IsStartOk own bid minute) → IsTrue r ↔ IsStartOk node bid minute
  start_own r minute h =
      let h' = subst (λ o. IsTrue r ↔ IsStartOk o bid minute) is h in
      let a = all_for (λ d. d.yes ≡ true → minute ≤ d.leg.depart) node bid in
      (λ t. a.0 (h'.0 t), λ t. h'.1 (a.1 t))

  pub own_formed : (net : Net) (bids : ℕ) → All (IsFormedDecision net bids) node → All (IsFormedDecision net bids) own
  own_formed net bids h = subst (All (IsFormedDecision net bids)) (sym is) (All-filter (is_for bid) (IsFormedDecision net bids) node h)

-- the place of the next decision goes to the list of its bid
pub places_more : (bids : ℕ) (node : List Decision) (n : ℕ) (z : Decision) (lists : List (List ℕ)) (list : List ℕ) → n < length node → (get_or node n z).bid < bids → ArePlacesByBid bids node (take n node) lists
    → list ≡ get_or lists (get_or node n z).bid [] ++ n ∷ [] → ArePlacesByBid bids node (take (n + 1) node) (set lists (get_or node n z).bid list)
places_more bids node n z lists list l within is made = record {
  count = length-set lists d.bid list ∙ is.count;
  each = λ bid m. elim (eqb_tells d.bid bid) as (λ _. AreAt node (get_or (set lists d.bid list) bid []) (decisions_for (take (n + 1) node) bid)) [
    | inl (test, same) ↦
        let count = is.count in
        let written : get_or (set lists d.bid list) bid [] ≡ get_or lists bid [] ++ n ∷ [] =
        ap (λ (k : ℕ). get_or (set lists d.bid list) k []) (sym same) ∙ get_or-set_same lists d.bid list [] (omega (arith, within, count)) ∙ made ∙ ap (λ (k : ℕ). get_or lists k [] ++ n ∷ []) same
        in
        ap (map (slice_get node)) written ∙ map_push (slice_get node) (get_or lists bid []) n ∙ ap (λ (xs : List (Option Decision)). xs ++ slice_get node n ∷ []) (is.each bid m)
        ∙ ap (λ (o : Option Decision). map Some (decisions_for (take n node) bid) ++ o ∷ []) (slice_get-get_or node n z l) ∙ sym (map_push Some (decisions_for (take n node) bid) d) ∙ ap (map Some) (sym (more bid true test))
    | inr (test, other) ↦
        ap (map (slice_get node)) (get_or-set_other lists d.bid bid list [] (λ e. other (sym e))) ∙ is.each bid m ∙ ap (map Some) (sym (more bid false test ∙ append-nil (decisions_for (take n node) bid)))
  ];
}
  where
    d : Decision
    d = get_or node n z

    more : (bid : ℕ) (b : Bool) → nat_eq d.bid bid ≡ b → decisions_for (take (n + 1) node) bid ≡ decisions_for (take n node) bid ++ cond b (d ∷ []) []
    more bid b e = filter_more (is_for bid) node n z l ∙ ap (λ (c : Bool). decisions_for (take n node) bid ++ cond c (d ∷ []) []) e

-- a yes among a bid's own decisions is a yes leg of the bid
pub own_yes : (number : ℕ) (node : List Decision) → list_any (λ (d : Decision). d.yes) (decisions_for node number) ≡ has_yes node number
own_yes number [] = refl
own_yes number (d ∷ node) = by d.yes (nat_eq d.bid number) refl (own_yes number node)
  where
    own : List Decision
    own = decisions_for node number

    by : (is_yes is_own : Bool) → d.yes ≡ is_yes → list_any (λ (e : Decision). e.yes) own ≡ has_yes node number
        → list_any (λ (e : Decision). e.yes) (cond is_own (d ∷ own) own) ≡ ((is_yes && is_own) || has_yes node number)
    by true true y rest = grind (arith, y, rest)
    by true false y rest = rest
    by false true y rest = grind (arith, y, rest)
    by false false y rest = rest
