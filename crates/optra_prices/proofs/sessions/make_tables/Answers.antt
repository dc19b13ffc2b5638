use Rattle.std.proofs.Common.{◌≡◌, ◌+◌, ◌<◌, length, Some, slice_get, refl, sym, subst, arith}
use Rattle.std.specs.Prelude.{Contains}
use Rattle.std.proofs.lemmas.Option.{slice_get_read}
use Rattle.optra_bid.specs.declared.bids.Bid.{Bid}
use Rattle.optra_prices.specs.Standings.{HoldArcs}
use Rattle.optra_prices.proofs.ListLemmas.{all_at}
use Rattle.optra_prices.proofs.TableLemmas.{arcs_push}
use Rattle.optra_prices.proofs.sessions.make_tables.Goals as goal

pub graph-graph-requires : goal.graph-graph-requires
graph-graph-requires g c =
    let bids = c.args.inst.bids.now in
    let n = c.loop-number.number in
    let l : n < length bids = omega arith in
    let bid = c.index-bids-number.result in
    let at : slice_get bids n ≡ Some bid = slice_get_read bids (length bids) n bid refl l c.index-bids-number.is in
    all_at (λ (b : Bid). Contains (g.G.Graphs.held c.args.graphs.now) b.path) bids n bid c.requires.held at

pub loop-number-preserved : goal.loop-number-preserved
loop-number-preserved g c =
    let net = c.args.inst.net.now in
    let f = c.args.rows.now in
    let rows = g.F.RowFamily.rows_of f net in
    let used = g.F.RowFamily.rows_used f net in
    let bids = c.args.inst.bids.now in
    let n = c.loop-number.number in
    let l : n < length bids = omega arith in
    let bid = c.index-bids-number.result in
    let at : slice_get bids n ≡ Some bid = slice_get_read bids (length bids) n bid refl l c.index-bids-number.is in
    let old = c.loop-number.making in
    let new = c.bid_table.new.making in
    let numbered = new.named.items in
    let is = c.in_ok-table.ensures in
    record {
      making = is.making;
      tables = subst (HoldArcs net rows used bids (n + 1) numbered new.groups) (sym c.in_ok-push.ensures.items)
          (arcs_push net rows used bids n old.named.items numbered old.groups new.groups c.loop-number.tables.items bid c.in_ok-table.table c.loop-number.invariant.tables is.grows.extends is.grows.keeps is.making.groups_are at
          (record { arcs_are = is.table; covers = is.covers }));
    }
