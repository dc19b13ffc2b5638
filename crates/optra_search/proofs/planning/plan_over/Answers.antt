-- The search from its first turn to the plan.
use Rattle.std.proofs.Common.{pos, sym, subst}
use Rattle.optra_search.specs.Searches.{IsReached}
use Rattle.optra_search.specs.Reached.{parts_of}
use Rattle.optra_search.specs.Planner.{IsPlainPlan}
use Rattle.optra_search.proofs.BoundLemmas.{empty_earns}
use Rattle.optra_search.proofs.SearchLemmas.{first_reached_is}
use Rattle.optra_search.proofs.ClosingLemmas.{closing_first, closed_plan, closed_range}
use Rattle.optra_search.proofs.planning.plan_over.Goals as goal

pub take_turns-requires-clause-reached : goal.take_turns-requires-clause-reached
take_turns-requires-clause-reached g c =
    let net = c.args.inst.net.now in
    let bids = c.args.inst.bids.now in
    subst (IsReached g.F.Row.Ord.cmp net (g.F.RowFamily.rows_of c.args.rows.now net) bids c.args.means.now.limits.steps c.args.means.now.limits.budget) (sym c.in_ok-first.ensures)
    (first_reached_is g.F.Row.Ord.cmp net (g.F.RowFamily.rows_of c.args.rows.now net) bids c.args.means.now.limits.steps c.args.means.now.limits.budget (pos 0) (sym (empty_earns net bids)))

pub close_all-requires-clause-closing : goal.close_all-requires-clause-closing
close_all-requires-clause-closing g c =
    let net = c.args.inst.net.now in
    closing_first g.F.Row.Ord.cmp net c.args.inst.proper (g.F.RowFamily.rows_of c.args.rows.now net) c.args.inst.bids.now c.args.means.now.limits.steps c.args.means.now.limits.budget (parts_of c.in_ok-last.last) c.in_ok-last.ensures.reached

pub finish-requires : goal.finish-requires
finish-requires g c =
    let net = c.args.inst.net.now in
    closed_range g.F.Row.Ord.cmp net c.args.inst.proper (g.F.RowFamily.rows_of c.args.rows.now net) c.args.inst.bids.now c.args.means.now.limits.steps c.args.means.now.limits.budget (parts_of c.in_ok-last.last) c.in_ok-last.ensures.reached
    c.args.inst.few c.in_ok-last.ensures.over (parts_of c.in_ok-closed.closed) c.in_ok-closed.ensures.closing c.in_ok-closed.ensures.closed c.in_ok-closed.ensures.none

pub returns : goal.returns
returns g c =
    let net = c.args.inst.net.now in
    let rows = g.F.RowFamily.rows_of c.args.rows.now net in
    subst (IsPlainPlan g.F.Row.Ord.cmp net rows c.args.inst.bids.now c.args.means.now.limits.steps c.args.means.now.limits.budget) (sym c.finish.ensures)
    (closed_plan g.F.Row.Ord.cmp net c.args.inst.proper rows c.args.inst.bids.now c.args.means.now.limits.steps c.args.means.now.limits.budget (parts_of c.in_ok-last.last) c.in_ok-last.ensures.reached
    c.in_ok-last.ensures.over (parts_of c.in_ok-closed.closed) c.in_ok-closed.ensures.closing c.in_ok-closed.ensures.closed c.in_ok-closed.ensures.none)
