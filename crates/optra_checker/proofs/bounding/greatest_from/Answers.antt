use Rattle.std.proofs.Common.{◌+◌, List, length, take, sym, subst, rules}
use Rattle.std.proofs.lemmas.List.{take_all}
use Rattle.optra_bid.specs.Instances.{IsInstance}
use Rattle.optra_node.specs.declared.Decision.{Decision}
use Rattle.optra_node.specs.declared.Item.{Item}
use Rattle.optra_node.specs.Nodes.{InstanceNode}
use Rattle.optra_node.specs.Trees.{placed, root, places}
use Rattle.optra_node.specs.Certificates.{IsFormedItem, SplitsUndecided, HasPrices}
use Rattle.optra_checker.specs.Bounds.{IsItemBound, IsGreatestOf}
use Rattle.optra_checker.specs.BestOnWay.{AreAllBest}
use Rattle.optra_open.specs.ToCome.{AreKept}
use Rattle.optra_rests.specs.Rests.{greater_of}
use Rattle.optra_open.proofs.AtLemmas.{at_first, at_more, here_of_all, place_is}
use Rattle.optra_checker.proofs.BestWalkLemmas.{all_turned}
use Rattle.optra_checker.proofs.BoundLemmas.{bound_more}
use Rattle.optra_checker.proofs.HereLemmas.{all_here}
use Rattle.optra_checker.proofs.bounding.greatest_from.Goals as goal

pub items-init : goal.items-init
items-init g c = record {
  kept = c.requires.room;
  walks = subst (λ node. AreAllBest c.args.inst.net.now (g.F.RowFamily.rows_of c.args.rows.now c.args.inst.net.now) (g.F.RowFamily.rows_used c.args.rows.now c.args.inst.net.now) c.args.inst.bids.now node c.args.walks.now)
      (sym c.requires.root) c.requires.walks;
  at = at_first c.args.tree.now c.args.room.now.decisions.items c.requires.root;
  so_far = search rules;
}

pub of-node-requires : goal.of-node-requires
of-node-requires g c = c.items.invariant.kept

pub bound_of-cents-requires-clause-instance : goal.bound_of-cents-requires-clause-instance
bound_of-cents-requires-clause-instance g c =
    subst (λ (w : InstanceNode g.row.F.Denot). IsInstance w.net w.bids) (sym c.of-node.ensures) (record { few = c.args.inst.few; paths = c.args.inst.paths })

pub bound_of-cents-requires-clause-formed : goal.bound_of-cents-requires-clause-formed
bound_of-cents-requires-clause-formed g c =
    let cmp = g.F.Row.Ord.cmp in
    let here = all_here (IsFormedItem cmp c.args.inst.net.now (length c.args.inst.bids.now)) c.args.tree.now c.items.item-index c.item-item.result c.items-test.true c.item-item.is c.requires.tree.items in
    subst (λ (w : InstanceNode g.row.F.Denot). IsFormedItem cmp w.net (length w.bids) c.item-item.result) (sym c.of-node.ensures) here

pub bound_of-cents-requires-clause-walks : goal.bound_of-cents-requires-clause-walks
bound_of-cents-requires-clause-walks g c =
    subst (λ (w : InstanceNode g.row.F.Denot). AreAllBest w.net (g.F.RowFamily.rows_of w.family w.net) (g.F.RowFamily.rows_used w.family w.net) w.bids w.node c.items.walks)
    (sym c.of-node.ensures) c.items.invariant.walks

pub bound_of-cents-requires-clause-depth : goal.bound_of-cents-requires-clause-depth
bound_of-cents-requires-clause-depth g c = c.depth_after-depth.ensures.within

pub bound_of-cents-requires-clause-prices : goal.bound_of-cents-requires-clause-prices
bound_of-cents-requires-clause-prices g c =
    let here = all_here (HasPrices (g.F.RowFamily.rows_of c.args.rows.now c.args.inst.net.now)) c.args.tree.now c.items.item-index c.item-item.result c.items-test.true c.item-item.is c.requires.tree.prices in
    subst (λ (w : InstanceNode g.row.F.Denot). HasPrices (g.F.RowFamily.rows_of w.family w.net) c.item-item.result) (sym c.of-node.ensures) here

pub pass-requires-clause-room : goal.pass-requires-clause-room
pass-requires-clause-room g c = c.items.invariant.kept

pub pass-requires-clause-formed : goal.pass-requires-clause-formed
pass-requires-clause-formed g c =
    all_here (IsFormedItem g.F.Row.Ord.cmp c.args.inst.net.now (length c.args.inst.bids.now)) c.args.tree.now c.items.item-index c.item-item.result c.items-test.true c.item-item.is c.requires.tree.items

pub pass-requires-clause-undecided : goal.pass-requires-clause-undecided
pass-requires-clause-undecided g c =
    let v = c.items.room.decisions.items in
    here_of_all c.args.tree.now c.items.item-index c.item-item.result v c.items-test.true c.item-item.is c.items.invariant.at (λ (p : List Decision × Item g.row.F-Row.Denot). SplitsUndecided p.0 p.1) c.requires.tree.splits

pub items-preserved : goal.items-preserved
items-preserved g c =
    let f = c.args.rows.now in
    let net = c.args.inst.net.now in
    let bids = c.args.inst.bids.now in
    let rows = g.F.RowFamily.rows_of f net in
    let tree = c.args.tree.now in
    let i = c.items.item-index in
    let item = c.item-item.result in
    let node = c.items.room.decisions.items in
    let v = node in
    let next = c.pass.new.room.decisions.items in
    let at = c.items.invariant.at in
    let told = subst (λ (w : InstanceNode g.row.F.Denot). IsItemBound w.net (g.F.RowFamily.rows_of w.family w.net) w.bids w.node item c.in_ok-cents.field-0) c.of-node.ensures c.in_ok-cents.ensures.bound in
    let more = bound_more net rows bids (placed root (take i tree)) node item c.items.greatest c.in_ok-cents.field-0 told c.items.invariant.so_far in
    let P = IsGreatestOf net rows bids in
    let used = g.F.RowFamily.rows_used f net in
    let depth = c.depth_after-depth.result in
    let left = subst (λ (w : InstanceNode g.row.F.Denot). AreAllBest w.net (g.F.RowFamily.rows_of w.family w.net) (g.F.RowFamily.rows_used w.family w.net) w.bids (take depth w.node) c.bound_of-cents.new.walks)
    c.of-node.ensures c.in_ok-cents.ensures.walks in
    record {
      kept = c.in_ok-pass.ensures.room;
      walks = all_turned net rows used bids node next depth c.bound_of-cents.new.walks (c.in_ok-pass.ensures.kept depth (subst (λ (w : InstanceNode g.row.F.Denot). AreKept w.node item depth) c.of-node.ensures c.depth_after-depth.ensures.kept)) left;
      at = at_more tree i item v c.items-test.true c.item-item.is at c.requires.tree.whole next c.in_ok-pass.ensures.next;
      so_far = subst (P (placed root (take (i + 1) tree))) (sym c.greater-greatest.ensures) (subst (λ ps. P ps (greater_of c.items.greatest c.in_ok-cents.field-0)) (sym (place_is tree i item v c.items-test.true c.item-item.is at)) more);
    }

pub returns : goal.returns
returns g c =
    let net = c.args.inst.net.now in
    let bids = c.args.inst.bids.now in
    let rows = g.F.RowFamily.rows_of c.args.rows.now net in
    subst (λ items. IsGreatestOf net rows bids (places items) c.items.greatest) (take_all c.items.item-index c.args.tree.now c.items-test.false) c.items.invariant.so_far
