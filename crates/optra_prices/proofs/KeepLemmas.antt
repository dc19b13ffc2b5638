-- Tables that are brought to a node, and what is known of the bids at zero prices.
use Rattle.std.proofs.Common.{◌≡◌, ℕ, ◌+◌, Bool, true, false, List, [], ◌∷◌, length, Some, None, slice_get, refl, sym, ap, ◌∙◌, subst, arith, inl, inr}
use Rattle.std.specs.Prelude.{◌↔◌, ℤ, pos, ◌*ℤ◌, slice_index_or}
use Rattle.std.specs.declared.cmp.Ordering.{Ordering}
use Rattle.std.proofs.lemmas.Int.{ints}
use Rattle.std.proofs.lemmas.Bool.{cases_lt}
use Rattle.std.proofs.lemmas.List.{get_or_past}
use Rattle.std.proofs.lemmas.Option.{same_Some, slice_get_within}
use Rattle.optra_network.specs.Net.{IsProper}
use Rattle.optra_bid.specs.declared.bids.Bid.{Bid}
use Rattle.optra_graph.specs.Timed.{Timed}
use Rattle.optra_node.specs.Laws.{TestsTellAllowed, PricesByUsedRows}
use Rattle.optra_node.specs.Duals.{IsStuck, IsDead}
use Rattle.optra_node.proofs.SumLemmas.{sum_of-cons}
use Rattle.optra_prices.specs.Arcs.{IsFound}
use Rattle.optra_prices.specs.Deads.{IsFirstStuck}
use Rattle.optra_prices.specs.Keepings.{IsBrought, IsFirstStuckIn}
use Rattle.optra_prices.specs.Listings.{AddsZeros}
use Rattle.optra_prices.specs.Replies.{IsValuation}
use Rattle.optra_prices.specs.Tables.{group_at, group_price, AreGroupPrices, allows_by, weight_by}
use Rattle.optra_prices.specs.Terms.{Setting}
use Rattle.optra_prices.specs.Standings.{Stands, AreTables, AllStand, groups_on, valuation_of}
use Rattle.optra_prices.specs.ArcTerms.{ArcTerm}
use Rattle.optra_prices.specs.declared.numbering.BidTable.{BidTable}
use Rattle.optra_prices.specs.declared.numbering.Groups.{Groups}
use Rattle.optra_prices.specs.declared.numbering.Standing.{Standing}
use Rattle.optra_prices.specs.declared.touch.Touch.{Touch}
use Rattle.optra_prices.proofs.AdmitLemmas.{prices_read}
use Rattle.optra_prices.proofs.FoundLemmas.{found_moves}
use Rattle.optra_prices.proofs.ListLemmas.{all_at, some_at}
use Rattle.optra_prices.proofs.MarkLemmas.{first_of_stuck}
use Rattle.optra_prices.proofs.SettledLemmas.{stuck_at, settled_valuation}

-- where nothing has changed, what was known stands
pub brought_stands : (c : Bool) (before after : BidTable) (grouped : List ℤ) (standing : Standing) → c ≡ false → IsBrought c before after → Stands before grouped standing → Stands after grouped standing
brought_stands c before after grouped standing same is stands = record {
  found = subst (λ (forced : Bool). IsFound after.graph.now.dag (allows_by after.arcs) (weight_by after.arcs grouped) forced standing.path.items standing.term standing.stuck) (sym (is.forced same))
      (found_moves before.graph.now.dag after.graph.now.dag before.arcs after.arcs grouped grouped before.forced standing.path.items standing.term standing.term standing.stuck
      (ap (λ (t : Timed). t.dag) (sym is.graph)) (sym (is.arcs same)) refl refl stands.found);
  groups_are = stands.groups_are ∙ ap (λ (arcs : List ArcTerm). groups_on arcs standing.path.items) (sym (is.arcs same));
}

-- without prices a group costs nothing
no_price : (touches : List Touch) → group_price [] touches ≡ pos 0
no_price [] = refl
no_price (touch ∷ touches) =
    let s = sum_of-cons (λ (t : Touch). slice_index_or [] t.row (pos 0) *ℤ pos t.uses) touch touches in
    let i = no_price touches in
    omega (arith, ints)

-- prices of groups at zero prices are 0
pub free_groups : (starts : List ℕ) (touches : List Touch) (grouped : List ℤ) → length grouped + 1 ≡ length starts → AreGroupPrices [] starts touches grouped → (g : ℕ) → slice_index_or grouped g (pos 0) ≡ pos 0
free_groups starts touches grouped count free g = elim (cases_lt g (length grouped)) as (λ _. slice_index_or grouped g (pos 0) ≡ pos 0) [
  | inl within ↦ free g (omega arith) ∙ no_price (group_at starts touches g)
  | inr past ↦ get_or_past grouped g (pos 0) past
]

-- at zero prices the groups cost nothing
pub zero_grouped : (starts : List ℕ) (touches : List Touch) → AreGroupPrices [] starts touches []
zero_grouped starts touches g l = sym (no_price (group_at starts touches g))

module _ {R : Type 0} (cmp : R → R → Ordering) (s : Setting R) (proper : IsProper s.net) (law : TestsTellAllowed s.net s.rows s.bids) (by_used : PricesByUsedRows s.net s.rows cmp s.used) (numbered : List R) (groups : Groups)
    (tables : List BidTable) (standings : List Standing) (are : AreTables s (length s.bids) numbered groups tables) (stand : AllStand tables [] standings) where
  -- what is known of the bids at zero prices is their valuation there
  pub zero_valued : IsValuation s.net s.rows s.bids s.node [] (valuation_of (pos 0) tables standings)
  zero_valued = settled_valuation cmp s proper law by_used numbered [] [] (λ n row at. refl) groups [] (zero_grouped groups.starts.items groups.touches) tables standings are stand (pos 0) refl

  standing_at : (number : ℕ) (bid : Bid) → slice_get s.bids number ≡ Some bid → (standing : Standing) × (slice_get standings number ≡ Some standing) × ((standing.stuck ≡ true) ↔ IsStuck s.net s.rows s.bids s.node number bid)
  standing_at number bid at =
      let l = slice_get_within s.bids number bid at in
      let n = are.count_is in
      let m = stand.count_is in
      let t = some_at tables number (omega arith) in
      let x = some_at standings number (omega arith) in
      (x.0, x.1, stuck_at cmp s proper law by_used numbered [] [] (λ n row at. refl) groups [] (zero_grouped groups.starts.items groups.touches) tables standings are stand number bid t.0 x.0 at t.1 x.1)

  clash : false ≡ true → ⊥
  clash q = cc

  -- a bid of which that isn't said is not stuck
  free_at : (number : ℕ) (bid : Bid) → slice_get s.bids number ≡ Some bid → ((standing : Standing) → slice_get standings number ≡ Some standing → standing.stuck ≡ false) → IsStuck s.net s.rows s.bids s.node number bid → ⊥
  free_at number bid at free is = let x = standing_at number bid at in clash (sym (free x.0 x.1) ∙ x.2.1 is)

  -- the first bid that is stuck by what is known of the bids is the first one that is
  pub first_known : (number : ℕ) → IsFirstStuckIn standings (Some number) → IsFirstStuck s.net s.rows s.bids s.node number
  first_known number first =
      let n = are.count_is in
      let m = stand.count_is in
      let l = slice_get_within standings number first.standing first.at in
      let b = some_at s.bids number (omega arith) in
      let x = standing_at number b.0 b.1 in
      let same : first.standing ≡ x.0 = same_Some first.standing x.0 (sym first.at ∙ x.1) in
      first_of_stuck s.net s.rows s.bids s.node number b.0 b.1 (x.2.0 (sym (ap (λ (y : Standing). y.stuck) same) ∙ first.is)) (λ k bid l at. free_at k bid at (λ standing there. first.free k standing l there))

  -- where none is stuck by what is known of them, none is
  pub none_known : IsFirstStuckIn standings None → IsDead s.net s.rows s.bids s.node → ⊥
  none_known free (number, bid, at, is) = free_at number bid at (λ standing there. all_at (λ (y : Standing). y.stuck ≡ false) standings number standing free there) is

-- where all prices are 0, a group costs nothing
pub free_listed : (prices none : List ℤ) → none ≡ [] → AddsZeros none prices → (groups : Groups) (g : ℕ) → group_price prices (group_at groups.starts.items groups.touches g) ≡ group_price [] (group_at groups.starts.items groups.touches g)
free_listed prices none is zeros groups g =
    let touches = group_at groups.starts.items groups.touches g in
    prices_read none prices zeros touches ∙ ap (λ (ps : List ℤ). group_price ps touches) is
