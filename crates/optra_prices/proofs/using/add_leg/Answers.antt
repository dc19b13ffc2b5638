use Rattle.std.proofs.Common.{◌≤◌, ℕ, length, sym, ap, ◌∙◌, subst, arith}
use Rattle.std.proofs.lemmas.List.{take_all}
use Rattle.optra_node.proofs.LeastLemmas.{at_contains, none_past}
use Rattle.optra_prices.specs.Holdings.{Bumps, part_of}
use Rattle.optra_prices.proofs.HoldLemmas.{adds_none, adds_both, adds_same, adds_one, part_push, part_all}
use Rattle.optra_prices.proofs.using.add_leg.Goals as goal

pub loop-k-init : goal.loop-k-init
loop-k-init g c =
    adds_none g.F.Row.Ord.cmp g.met.F.Row.Ord.total g.met.F.Row.CodedRow.tells_apart (g.F.RowFamily.rows_of c.args.rows.now c.args.net.now).is_row c.args.held.now

pub loop-k-preserved : goal.loop-k-preserved
loop-k-preserved g c =
    let net = c.args.net.now in
    let f = c.args.rows.now in
    let rows = g.F.RowFamily.rows_of f net in
    let uses = rows.uses c.args.kind c.args.leg in
    let used = g.F.RowFamily.rows_used f net c.args.kind c.args.leg in
    let cmp = g.F.Row.Ord.cmp in
    let total = g.met.F.Row.Ord.total in
    let apart = g.met.F.Row.CodedRow.tells_apart in
    let lists = g.met.F.RowFamily.lists_rows f net c.args.kind c.args.leg c.requires in
    let k = c.loop-k.k in
    let row = c.in-Some.row in
    let at = sym c.touched.ensures ∙ c.in-Some.is in
    let is = lists.are_rows row ((lists.used row).1 (at_contains used k row at)) in
    let one = adds_one cmp total apart rows.is_row c.loop-k.held c.bump.new.held row (uses row) is (subst (λ (u : ℕ). Bumps cmp row u c.loop-k.held c.bump.new.held) c.leg_use-uses.ensures c.in_ok-bump.ensures) in
    adds_both cmp total apart rows.is_row c.args.held.now c.loop-k.held c.bump.new.held _ _ _ (λ q. part_push cmp total apart rows.is_row uses used k row q at) c.loop-k.invariant one

pub returns-in_default : goal.returns-in_default
returns-in_default g c =
    let net = c.args.net.now in
    let f = c.args.rows.now in
    let rows = g.F.RowFamily.rows_of f net in
    let uses = rows.uses c.args.kind c.args.leg in
    let used = g.F.RowFamily.rows_used f net c.args.kind c.args.leg in
    let cmp = g.F.Row.Ord.cmp in
    let total = g.met.F.Row.Ord.total in
    let apart = g.met.F.Row.CodedRow.tells_apart in
    let lists = g.met.F.RowFamily.lists_rows f net c.args.kind c.args.leg c.requires in
    let past : length used ≤ c.loop-k.k = none_past used c.loop-k.k (sym c.touched.ensures ∙ c.in_default.is) in
    adds_same cmp total apart rows.is_row c.args.held.now c.loop-k.held _ uses
    (λ q. ap (λ xs. part_of cmp uses xs q) (take_all c.loop-k.k used past) ∙ part_all cmp total apart rows.is_row uses used lists.ascending lists.used q) c.loop-k.invariant

pub returns : goal.returns
returns g c =
    let net = c.args.net.now in
    let f = c.args.rows.now in
    let rows = g.F.RowFamily.rows_of f net in
    let uses = rows.uses c.args.kind c.args.leg in
    let used = g.F.RowFamily.rows_used f net c.args.kind c.args.leg in
    let cmp = g.F.Row.Ord.cmp in
    let total = g.met.F.Row.Ord.total in
    let apart = g.met.F.Row.CodedRow.tells_apart in
    let lists = g.met.F.RowFamily.lists_rows f net c.args.kind c.args.leg c.requires in
    let past : length used ≤ c.loop-k.k = let few = lists.few in omega arith in
    adds_same cmp total apart rows.is_row c.args.held.now c.loop-k.held _ uses
    (λ q. ap (λ xs. part_of cmp uses xs q) (take_all c.loop-k.k used past) ∙ part_all cmp total apart rows.is_row uses used lists.ascending lists.used q) c.loop-k.invariant
