use Rattle.std.proofs.Common.{◌≡◌, ◌+◌, ◌<◌, length, arith, rules}
use Rattle.optra_open.proofs.AtLemmas.{no_true}
use Rattle.optra_checker.proofs.BestWalkLemmas.{still_all, still_beside}
use Rattle.optra_node.specs.Nodes.{kind_at}
use Rattle.optra_checker.proofs.free_legs.still_allows.Goals as goal

pub returns-then-is_empty-clause-free : goal.returns-then-is_empty-clause-free
returns-then-is_empty-clause-free g c t = absurd (no_true t)

pub returns-then-is_empty-clause-some : goal.returns-then-is_empty-clause-some
returns-then-is_empty-clause-some g c t = absurd (no_true t)

pub returns-then-allowed_depth-depth-clause-free : goal.returns-then-allowed_depth-depth-clause-free
returns-then-allowed_depth-depth-clause-free g c t =
    let node = c.args.node.now in
    let rows = g.F.RowFamily.rows_of node.family node.net in
    let used = g.F.RowFamily.rows_used node.family node.net in
    let some : 0 < length c.args.legs.now = grind (arith, rules, c.is_empty.ensures, c.if-is_empty.false) in
    still_all node.net rows used node.bids node.node c.args.bid c.args.allowed_depth c.args.legs.now (omega (arith, c.if-allowed_depth-depth.true, c.depth.ensures)) (c.requires.allowed_depth some)

pub returns-clause-free : goal.returns-clause-free
returns-clause-free g c t =
    let node = c.args.node.now in
    let rows = g.F.RowFamily.rows_of node.family node.net in
    let used = g.F.RowFamily.rows_used node.family node.net in
    let some : 0 < length c.args.legs.now = grind (arith, rules, c.is_empty.ensures, c.if-is_empty.false) in
    let one : c.args.allowed_depth + 1 ≡ length node.node = omega (arith, c.if-allowed_depth-depth-2.false, c.depth-2.ensures) in
    still_beside g.F.Row.Ord.cmp node.net rows used node.bids node.node c.args.bid c.args.allowed_depth c.args.legs.now c.args.latest.now
    (λ leg usable. g.met.F.RowFamily.lists_rows node.family node.net (kind_at node.bids c.args.bid) leg usable) one (c.is_last_for.ensures.0 c.if-is_last_for.false) c.requires.latest.all c.requires.usable
    (c.all_keep_off.ensures.0 t) (c.requires.allowed_depth some)

pub all_keep_off-requires-clause-rising : goal.all_keep_off-requires-clause-rising
all_keep_off-requires-clause-rising g c = c.requires.latest.rising
