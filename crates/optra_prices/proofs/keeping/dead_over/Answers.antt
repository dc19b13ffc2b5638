use Rattle.std.proofs.Common.{None, Some, Option, sym, subst}
use Rattle.optra_prices.specs.Deads.{IsDeadAs}
use Rattle.optra_prices.specs.Terms.{Setting, setting}
use Rattle.optra_prices.specs.Keepings.{IsFirstStuckIn}
use Rattle.optra_prices.specs.declared.Dead.{Dead}
use Rattle.optra_prices.specs.declared.numbering.Standing.{Standing}
use Rattle.std.specs.Prelude.{List}
use Rattle.optra_prices.proofs.KeepLemmas.{first_known, none_known}
use Rattle.optra_prices.proofs.keeping.dead_over.Goals as goal

pub returns-in_err-bid : goal.returns-in_err-bid
returns-in_err-bid g c =
    let net = c.args.inst.net.now in
    let f = c.args.rows.now in
    let rows = g.F.RowFamily.rows_of f net in
    let bids = c.args.inst.bids.now in
    let cmp = g.F.Row.Ord.cmp in
    let s : Setting g.row.F-Row.Denot = setting net rows (g.F.RowFamily.rows_used f net) bids c.args.node.now in
    let kept = c.args.kept.now in
    let is = c.requires.kept.is in
    let free = subst (λ (xs : List Standing). IsFirstStuckIn xs None) c.deref.ensures.value c.in_err-bid.ensures in
    subst (λ (result : Option (Dead g.row.F-Row.Denot)). IsDeadAs cmp net rows bids c.args.node.now result) (sym c.from_residual.ensures)
    (c.in_default.ensures, none_known cmp s c.args.inst.proper c.tests_tell_allowed.ensures c.prices_by_used_rows.ensures kept.numbering.rows.items kept.columns.groups kept.tables.items kept.zero.items is.tables is.zero free)

pub returns : goal.returns
returns g c =
    let net = c.args.inst.net.now in
    let f = c.args.rows.now in
    let s : Setting g.row.F-Row.Denot = setting net (g.F.RowFamily.rows_of f net) (g.F.RowFamily.rows_used f net) c.args.inst.bids.now c.args.node.now in
    let kept = c.args.kept.now in
    let is = c.requires.kept.is in
    let first = subst (λ (xs : List Standing). IsFirstStuckIn xs (Some c.in_ok-bid.bid)) c.deref.ensures.value c.in_ok-bid.ensures in
    (c.in_default.ensures, first_known g.F.Row.Ord.cmp s c.args.inst.proper c.tests_tell_allowed.ensures c.prices_by_used_rows.ensures kept.numbering.rows.items kept.columns.groups kept.tables.items kept.zero.items is.tables is.zero c.in_ok-bid.bid first)
