use Rattle.std.proofs.Common.{◌↔◌, List, length, refl, sym, subst, rules}
use Rattle.std.specs.Prelude.{IsTrue}
use Rattle.optra_node.specs.declared.Decision.{Decision}
use Rattle.optra_node.specs.declared.Item.{Item}
use Rattle.optra_node.specs.Nodes.{InstanceNode}
use Rattle.optra_node.specs.Certificates.{IsFormedItem, SplitsUndecided, EndsDead}
use Rattle.optra_open.proofs.AtLemmas.{all_more, all_past, at_first, at_more, here_of_all, no_true, not_both}
use Rattle.optra_checker.proofs.HereLemmas.{all_here}
use Rattle.optra_checker.proofs.leaves.leaves_hold_from.Goals as goal

pub items-init : goal.items-init
items-init g c = record {
  kept = c.requires.room;
  at = at_first c.args.tree.now c.args.room.now.decisions.items c.requires.root;
  so_far = search rules;
}

pub of-node-requires : goal.of-node-requires
of-node-requires g c = c.items.invariant.kept

pub ends_dead-dead-requires : goal.ends_dead-dead-requires
ends_dead-dead-requires g c =
    let cmp = g.F.Row.Ord.cmp in
    let here = all_here (IsFormedItem cmp c.args.inst.net.now (length c.args.inst.bids.now)) c.args.tree.now c.items.item-index c.item-item.result c.items-test.true c.item-item.is c.requires.items in
    record { formed = subst (λ (w : InstanceNode g.row.F.Denot). IsFormedItem cmp w.net (length w.bids) c.item-item.result) (sym c.of-node.ensures) here }

pub pass-requires-clause-room : goal.pass-requires-clause-room
pass-requires-clause-room g c = c.items.invariant.kept

pub pass-requires-clause-formed : goal.pass-requires-clause-formed
pass-requires-clause-formed g c =
    all_here (IsFormedItem g.F.Row.Ord.cmp c.args.inst.net.now (length c.args.inst.bids.now)) c.args.tree.now c.items.item-index c.item-item.result c.items-test.true c.item-item.is c.requires.items

pub pass-requires-clause-undecided : goal.pass-requires-clause-undecided
pass-requires-clause-undecided g c =
    let v = c.items.room.decisions.items in
    here_of_all c.args.tree.now c.items.item-index c.item-item.result v c.items-test.true c.item-item.is c.items.invariant.at (λ (p : List Decision × Item g.row.F-Row.Denot). SplitsUndecided p.0 p.1) c.requires.splits

pub returns-then-not-branch : goal.returns-then-not-branch
returns-then-not-branch g c =
    let f = c.args.rows.now in
    let net = c.args.inst.net.now in
    let bids = c.args.inst.bids.now in
    let v = c.items.room.decisions.items in
    let P = λ (p : List Decision × Item g.row.F-Row.Denot). EndsDead net (g.F.RowFamily.rows_of f net) bids p.0 p.1 in
    let told = subst (λ (w : InstanceNode g.row.F.Denot). IsTrue c.in_ok-dead.field-0 ↔ EndsDead w.net (g.F.RowFamily.rows_of w.family w.net) w.bids w.node c.item-item.result) c.of-node.ensures c.in_ok-dead.ensures in (
      λ t. absurd (no_true t),
      λ all. absurd (not_both c.in_ok-dead.field-0 c.if-not-branch.true (told.1 (here_of_all c.args.tree.now c.items.item-index c.item-item.result v c.items-test.true c.item-item.is c.items.invariant.at P all))),
    )

pub items-preserved : goal.items-preserved
items-preserved g c =
    let f = c.args.rows.now in
    let net = c.args.inst.net.now in
    let bids = c.args.inst.bids.now in
    let tree = c.args.tree.now in
    let i = c.items.item-index in
    let v = c.items.room.decisions.items in
    let next = c.pass.new.room.decisions.items in
    let at = c.items.invariant.at in
    let P = λ (p : List Decision × Item g.row.F-Row.Denot). EndsDead net (g.F.RowFamily.rows_of f net) bids p.0 p.1 in
    let told = subst (λ (w : InstanceNode g.row.F.Denot). IsTrue c.in_ok-dead.field-0 ↔ EndsDead w.net (g.F.RowFamily.rows_of w.family w.net) w.bids w.node c.item-item.result) c.of-node.ensures c.in_ok-dead.ensures in
    record {
      kept = c.in_ok-pass.ensures.room;
      at = at_more tree i c.item-item.result v c.items-test.true c.item-item.is at c.requires.whole next c.in_ok-pass.ensures.next;
      so_far = all_more tree i c.item-item.result v c.items-test.true c.item-item.is at P c.items.invariant.so_far (told.0 c.if-not-branch.false);
    }

pub returns : goal.returns
returns g c =
    let net = c.args.inst.net.now in
    let bids = c.args.inst.bids.now in
    let P = λ (p : List Decision × Item g.row.F-Row.Denot). EndsDead net (g.F.RowFamily.rows_of c.args.rows.now net) bids p.0 p.1 in (
      λ _. all_past c.args.tree.now P c.items.item-index c.items-test.false c.items.invariant.so_far,
      λ _. refl,
    )
