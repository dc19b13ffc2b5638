-- What is known of a bid at zero prices is its reply and its term there.
use Rattle.std.proofs.Common.{◌≡◌, ℕ, List, [], length, Some, slice_get, refl}
use Rattle.std.specs.declared.cmp.Ordering.{Ordering}
use Rattle.optra_network.specs.Net.{IsProper}
use Rattle.optra_bid.specs.declared.bids.Bid.{Bid}
use Rattle.optra_node.specs.Duals.{IsTerm}
use Rattle.optra_node.specs.Laws.{TestsTellAllowed, PricesByUsedRows}
use Rattle.optra_prices.specs.Arcs.{path_reply}
use Rattle.optra_prices.specs.Replies.{IsReply}
use Rattle.optra_prices.specs.Standings.{AreTables, AllStand}
use Rattle.optra_prices.specs.Terms.{Setting}
use Rattle.optra_prices.specs.declared.numbering.BidTable.{BidTable}
use Rattle.optra_prices.specs.declared.numbering.Groups.{Groups}
use Rattle.optra_prices.specs.declared.numbering.Standing.{Standing}
use Rattle.optra_prices.proofs.KeepLemmas.{zero_grouped}
use Rattle.optra_prices.proofs.SettledLemmas.{reply_is, term_is}

module _ {R : Type 0} (cmp : R → R → Ordering) (s : Setting R) (proper : IsProper s.net) (law : TestsTellAllowed s.net s.rows s.bids) (by_used : PricesByUsedRows s.net s.rows cmp s.used) (numbered : List R) (groups : Groups)
    (tables : List BidTable) (standings : List Standing) (are : AreTables s (length s.bids) numbered groups tables) (stand : AllStand tables [] standings)
    (number : ℕ) (table : BidTable) (standing : Standing) (table_at : slice_get tables number ≡ Some table) (standing_at : slice_get standings number ≡ Some standing) (bid : Bid) (bid_at : slice_get s.bids number ≡ Some bid) where
  pub zero_replied : IsReply s.net s.rows s.bids s.node [] number bid (path_reply table.graph.now standing.path.items)
  zero_replied =
      reply_is cmp s proper law by_used numbered [] [] (λ n row at. refl) groups [] (zero_grouped groups.starts.items groups.touches) number bid table standing
      (are.each number bid table bid_at table_at).arcs_are (stand.each number table standing table_at standing_at)

  pub zero_termed : IsTerm s.net s.rows s.bids s.node [] number bid standing.term
  zero_termed =
      term_is cmp s proper law by_used numbered [] [] (λ n row at. refl) groups [] (zero_grouped groups.starts.items groups.touches) number bid table standing
      (are.each number bid table bid_at table_at).arcs_are (stand.each number table standing table_at standing_at)
