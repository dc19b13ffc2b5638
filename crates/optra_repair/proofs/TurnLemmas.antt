-- The bids that are placed, one after the other.
use Rattle.std.proofs.Common.{◌≡◌, ◌≢◌, ℕ, zero, suc, ◌+◌, ◌<◌, List, [], ◌∷◌, length, get_or, drop, Option, None, Some, slice_get, slice_set, refl, sym, ap, ◌∙◌, subst, arith}
use Rattle.std.specs.Prelude.{All}
use Rattle.std.specs.List.{AllPairs}
use Rattle.std.proofs.lemmas.List.{get_or-drop, get_or_default, length-drop, drop_more}
use Rattle.std.proofs.lemmas.List.Elements.{All-head, All-tail, All-weaker}
use Rattle.optra_network.specs.Net.{Net}
use Rattle.optra_network.specs.declared.TypeId.{TypeId}
use Rattle.optra_bid.specs.declared.bids.Bid.{Bid}
use Rattle.optra_walk.specs.declared.Leg.{Leg}
use Rattle.optra_walk.specs.Families.{Rows, load_of, entries_of}
use Rattle.optra_node.specs.declared.Decision.{Decision}
use Rattle.optra_prices.specs.Replies.{Valuation}
use Rattle.optra_prices.specs.Repairs.{IsTakingOrder, IsGiven, GivesInTurn, empty_choice, IsRepair}
use Rattle.optra_prices.proofs.RepairLemmas.{FitChoice, empty_is_choice, empty_has_none, empty_fits, fits_given, load-cons, walk_load}
use Rattle.optra_repair.specs.Placings.{AreTotals, AreWithin, AddsWalk, use_of_walk}

-- the bids that are left come after those that are placed, and have no walk yet
pub record IsUnderWay {R : Type 0} (net : Net) (rows : Rows R) (bids : List Bid) (node : List Decision) (order : List ℕ) (left : List ℕ) (walks : List (Option (List Leg))) (total : R → ℕ) : Type 0 where
  pub then : (after : List (Option (List Leg))) → GivesInTurn net rows bids node left walks after → GivesInTurn net rows bids node order (empty_choice bids) after
  pub to_come : All (λ number. slice_get walks number ≡ Some None) left
  pub totals : AreTotals rows total (entries_of bids walks)
  pub fit : FitChoice net rows bids walks

-- a bid is another one than each that comes after
pub later_differ : (order : List ℕ) (k : ℕ) → AllPairs (λ (a b : ℕ). a ≢ b) order → k < length order → All (λ (other : ℕ). get_or order k 0 ≢ other) (drop (k + 1) order)
later_differ order k pairs l j d m e =
    let n = length-drop (k + 1) order in
    let at = get_or-drop (k + 1) order j d in
    pairs k (k + 1 + j) d (omega arith) (omega arith) (get_or_default order k d 0 l ∙ e ∙ at)

none_there : (bids : List Bid) (k : ℕ) → k < length bids → slice_get (empty_choice bids) k ≡ Some None
none_there [] k l = absurd (omega arith)
none_there (b ∷ bids) zero l = refl
none_there (b ∷ bids) (suc k) l = none_there bids k (omega arith)

get_other : {X : Type 0} (xs : List X) (i k : ℕ) (x : X) → k ≢ i → slice_get (slice_set xs i x) k ≡ slice_get xs k
get_other [] i k x apart = refl
get_other (y ∷ xs) zero zero x apart = absurd (apart refl)
get_other (y ∷ xs) zero (suc k) x apart = refl
get_other (y ∷ xs) (suc i) zero x apart = refl
get_other (y ∷ xs) (suc i) (suc k) x apart = get_other xs i k x (λ e. apart (ap suc e))

module _ {R : Type 0} (rows : Rows R) where
  use_is : (kind : TypeId) (walk : Option (List Leg)) (row : R) → walk_load rows row kind walk ≡ use_of_walk rows kind walk row
  use_is kind None row = refl
  use_is kind (Some legs) row = refl

  -- a bid that had no walk adds what its walk uses
  load_put : (row : R) (bids : List Bid) (walks : List (Option (List Leg))) (number : ℕ) (bid : Bid) (walk : Option (List Leg)) → slice_get bids number ≡ Some bid → slice_get walks number ≡ Some None
      → load_of rows row (entries_of bids (slice_set walks number walk)) ≡ load_of rows row (entries_of bids walks) + walk_load rows row bid.path.kind walk
  load_put row [] walks number bid walk at free = absurd (no at)
    where
      no : None ≡ Some bid → ⊥
      no e = cc
  load_put row (b ∷ bids) [] number bid walk at free = absurd (no free)
    where
      no : {w : Option (List Leg)} → None ≡ Some w → ⊥
      no e = cc
  load_put row (b ∷ bids) (w ∷ walks) zero bid walk at free =
      let e : b ≡ bid = cc in
      let f : w ≡ None = cc in
      let s = ap (λ (c : Bid). walk_load rows row c.path.kind walk) e in
      let z = ap (λ (o : Option (List Leg)). walk_load rows row b.path.kind o) f in
      let old = load-cons rows row b bids w walks in
      let new = load-cons rows row b bids walk walks in
      omega arith
  load_put row (b ∷ bids) (w ∷ walks) (suc number) bid walk at free =
      let i = load_put row bids walks number bid walk at free in
      let old = load-cons rows row b bids w walks in
      let new = load-cons rows row b bids w (slice_set walks number walk) in
      omega arith

module _ {R : Type 0} (net : Net) (rows : Rows R) (bids : List Bid) (node : List Decision) (order : List ℕ) where
  -- at first all are left
  pub none_placed : (total : R → ℕ) → All (λ number. number < length bids) order → ((row : R) → total row ≡ 0) → IsUnderWay net rows bids node order order (empty_choice bids) total
  none_placed total within zeros = record {
    then = λ after gives. gives;
    to_come = All-weaker (λ number. number < length bids) (λ number. slice_get (empty_choice bids) number ≡ Some None) (none_there bids) order within;
    totals = λ row. zeros row ∙ sym (ap (load_of rows row) (empty_has_none bids));
    fit = record { is_choice = empty_is_choice net bids; fits = empty_fits rows bids };
  }

  -- no total is above its capacity
  pub under_way_within : (left : List ℕ) (walks : List (Option (List Leg))) (total : R → ℕ) → IsUnderWay net rows bids node order left walks total → AreWithin rows total
  under_way_within left walks total is row is_row = let t = is.totals row in let f = is.fit.fits row is_row in omega arith

  -- one more bid is placed
  pub one_placed : (number : ℕ) (left : List ℕ) (walks : List (Option (List Leg))) (total after : R → ℕ) (bid : Bid) (given : Option (List Leg)) → slice_get bids number ≡ Some bid
      → All (λ other. number ≢ other) left → IsUnderWay net rows bids node order (number ∷ left) walks total → IsGiven net rows bids node (entries_of bids walks) number bid given
      → AddsWalk rows bid.path.kind given total after → IsUnderWay net rows bids node order left (slice_set walks number given) after
  one_placed number left walks total after bid given at apart is gives adds = record {
    then = λ end rest. is.then end (bid, given, at, gives, rest);
    to_come = λ k d l. get_other walks number _ given (λ e. apart k d l (sym e)) ∙ (All-tail (λ other. slice_get walks other ≡ Some None) number left is.to_come) k d l;
    totals = λ row.
        let a = adds row in
        let t = is.totals row in
        let p = load_put rows row bids walks number bid given at (All-head (λ other. slice_get walks other ≡ Some None) number left is.to_come) in
        let u = use_is rows bid.path.kind given row in
        omega arith;
    fit = fits_given net rows bids node walks number bid given at gives is.fit;
  }

  -- the next bid has no walk yet
  pub next_free : (turn : ℕ) (walks : List (Option (List Leg))) (total : R → ℕ) → turn < length order → IsUnderWay net rows bids node order (drop turn order) walks total → slice_get walks (get_or order turn 0) ≡ Some None
  next_free turn walks total l is =
      let next = subst (λ (left : List ℕ). All (λ (number : ℕ). slice_get walks number ≡ Some None) left) (drop_more order turn 0 l) is.to_come in
      All-head (λ (number : ℕ). slice_get walks number ≡ Some None) (get_or order turn 0) (drop (turn + 1) order) next

  -- what is placed in the order in which the bids are taken is the repaired choice
  pub is_repair : (v : Valuation) (taken : List ℕ) (walks : List (Option (List Leg))) → length v.terms ≡ length bids → IsTakingOrder v (length v.terms) taken → order ≡ taken
      → GivesInTurn net rows bids node order (empty_choice bids) walks → IsRepair net rows bids node v walks
  is_repair v taken walks few is same gives = record {
    order = order;
    is_order = subst (λ (n : ℕ). IsTakingOrder v n order) few (subst (IsTakingOrder v (length v.terms)) (sym same) is);
    gives = gives;
  }
