-- One more bid.
use Rattle.std.proofs.Common.{[], length, ap, arith}
use Rattle.optra_node.specs.Nodes.{kind_at}
use Rattle.optra_checker.specs.BestOnWay.{AreBestOf}
use Rattle.optra_checker.proofs.BestWalkLemmas.{free_at}
use Rattle.optra_open.proofs.EachLemmas.{each_next}
use Rattle.optra_checker.proofs.frees.find_frees.Goals as goal

pub bids-init : goal.bids-init
bids-init g c = let e = ap length c.new-all.ensures.items in record { count = e; each = λ number d l. absurd (omega (arith, l, e)) }

pub bids-smaller : goal.bids-smaller
bids-smaller g c = omega (arith, c.bids-test.true)

pub bids-preserved : goal.bids-preserved
bids-preserved g c =
    let net = c.args.inst.net.now in
    let bids = c.args.inst.bids.now in
    let rows = g.F.RowFamily.rows_of c.args.rows.now net in
    let used = g.F.RowFamily.rows_used c.args.rows.now net in
    let i = c.bids.bid-index in
    let here = free_at g.F.Row.Ord.cmp net rows used bids i c.bid-item.result c.bids-test.true c.bid-item.is c.args.inst.proper
    (λ leg usable. g.met.F.RowFamily.lists_rows c.args.rows.now net (kind_at bids i) leg usable) c.in_ok-walks.walks c.in_ok-free.free c.in_ok-walks.ensures.kept c.in_ok-walks.ensures.allowed_depth c.in_ok-free.ensures in
    each_next (AreBestOf net rows used bids []) c.bids.all.items c.push.new.self.items c.in_ok-walks.walks i c.in_ok-push.ensures.items c.bids.invariant here
