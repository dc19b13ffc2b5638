-- One more item.
use Rattle.std.proofs.Common.{◌+◌, ◌∙◌, List, length, take, drop, sym, ap, subst}
use Rattle.std.specs.Prelude.{Contains}
use Rattle.std.proofs.lemmas.List.{take_all}
use Rattle.optra_node.specs.declared.Decision.{Decision}
use Rattle.optra_node.specs.declared.Item.{Item}
use Rattle.optra_node.specs.Nodes.{InstanceNode}
use Rattle.optra_node.specs.Trees.{placed, root, places}
use Rattle.optra_node.specs.Certificates.{SplitsUndecided}
use Rattle.optra_open.specs.ToCome.{AreKept}
use Rattle.optra_open.proofs.AtLemmas.{at_more, here_of_all, place_is, place_among}
use Rattle.optra_checker.specs.BestOnWay.{AreAllBest}
use Rattle.optra_checker.proofs.BestWalkLemmas.{all_turned}
use Rattle.optra_evidence.specs.Figures.{AreAllMostOf, AreHeardOf}
use Rattle.optra_evidence.specs.declared.figures.Figures.{Figures}
use Rattle.optra_evidence.proofs.HeardLemmas.{written}
use Rattle.optra_evidence.proofs.MostLemmas.{all_most_more, heard_count}
use Rattle.optra_evidence.proofs.hearing.hear_tree.Goals as goal

pub pass-requires-clause-undecided : goal.pass-requires-clause-undecided
pass-requires-clause-undecided g c =
    let v = c.items.room.decisions.items in
    here_of_all c.args.tree.now c.items.item-index c.item-item.result v c.items-test.true c.item-item.is c.items.invariant.at (λ (p : List Decision × Item g.row.F-Row.Denot). SplitsUndecided p.0 p.1) c.requires.tree.splits

pub items-preserved : goal.items-preserved
items-preserved g c =
    let f = c.args.rows.now in
    let net = c.args.inst.net.now in
    let bids = c.args.inst.bids.now in
    let rows = g.F.RowFamily.rows_of f net in
    let used = g.F.RowFamily.rows_used f net in
    let tree = c.args.tree.now in
    let i = c.items.item-index in
    let item = c.item-item.result in
    let node = c.items.room.decisions.items in
    let next = c.pass.new.room.decisions.items in
    let at = c.items.invariant.at in
    let depth = c.depth_after-depth.result in
    let new = c.hear-heard.new.figures in
    let told = subst (λ old. AreHeardOf net rows bids node item old new) c.deref_mut.ensures.value
    (subst (λ (w : InstanceNode g.row.F.Denot). AreHeardOf w.net (g.F.RowFamily.rows_of w.family w.net) w.bids w.node item c.deref_mut.result.now new) c.of-node.ensures c.in_ok-heard.ensures.heard) in
    let long = heard_count net rows bids node item c.items.figures.items new told in
    let whole = written c.items.figures.len new (drop (length new) c.items.figures.items) (long ∙ sym (ap length c.deref_mut.ensures.value) ∙ c.deref_mut.ensures.len) in
    let left = subst (λ (w : InstanceNode g.row.F.Denot). AreAllBest w.net (g.F.RowFamily.rows_of w.family w.net) (g.F.RowFamily.rows_used w.family w.net) w.bids (take depth w.node) c.hear-heard.new.walks)
    c.of-node.ensures c.in_ok-heard.ensures.walks in
    record {
      kept = c.in_ok-pass.ensures.room;
      walks = all_turned net rows used bids node next depth c.hear-heard.new.walks (c.in_ok-pass.ensures.kept depth (subst (λ (w : InstanceNode g.row.F.Denot). AreKept w.node item depth) c.of-node.ensures c.depth_after-depth.ensures.kept)) left;
      at = at_more tree i item node c.items-test.true c.item-item.is at c.requires.tree.whole next c.in_ok-pass.ensures.next;
      count = ap length whole ∙ long ∙ c.items.invariant.count;
      so_far = λ prices_at listed. subst (λ (fs : List Figures). AreAllMostOf net rows bids (placed root (take (i + 1) tree)) prices_at fs) (sym whole) (subst (λ ps. AreAllMostOf net rows bids ps prices_at new) (sym (place_is tree i item node c.items-test.true c.item-item.is at))
          (all_most_more net rows bids prices_at (placed root (take i tree)) node item c.items.figures.items new
          (λ prices e. listed.at_leaves node prices (subst (λ (it : Item g.row.F-Row.Denot). Contains (places tree) (node, it)) e (place_among tree i item node c.items-test.true c.item-item.is at))) told (c.items.invariant.so_far prices_at listed)));
    }

pub returns : goal.returns
returns g c prices_at listed =
    let net = c.args.inst.net.now in
    let bids = c.args.inst.bids.now in
    let rows = g.F.RowFamily.rows_of c.args.rows.now net in
    subst (λ items. AreAllMostOf net rows bids (places items) prices_at c.items.figures.items) (take_all c.items.item-index c.args.tree.now c.items-test.false) (c.items.invariant.so_far prices_at listed)
