-- The term at zero prices tells whether an allowed walk is worth more than 0, and the reply is then the best of them.
use Rattle.std.proofs.Common.{subst, rules, pos}
use Rattle.std.specs.Prelude.{FitsSigned, ◌≤ℤ◌, ◌<ℤ◌}
use Rattle.std.specs.Int.{w128}
use Rattle.std.proofs.lemmas.Int.{to_z-of_z}
use Rattle.optra_prices.specs.Arcs.{path_reply}
use Rattle.optra_repair.proofs.GivenLemmas.{little_term, best_reply}
use Rattle.optra_repair.proofs.worth.best_allowed.Goals as goal

pub returns-then-not-gains-clause-best : goal.returns-then-not-gains-clause-best
returns-then-not-gains-clause-best g c bid t at graph =
    let net = c.args.inst.net.now in
    let term = c.zero_term.result in
    let fits : FitsSigned w128 term = search rules in
    little_term net (g.F.RowFamily.rows_of c.args.rows.now net) c.args.inst.bids.now c.args.node.now c.args.number bid term (c.zero_term.ensures bid at)
    (subst (λ z. z ≤ℤ pos 0) (to_z-of_z w128 term fits) c.if-not-gains.ensures)

pub returns-clause-best : goal.returns-clause-best
returns-clause-best g c bid t at graph =
    let net = c.args.inst.net.now in
    let term = c.zero_term.result in
    let fits : FitsSigned w128 term = search rules in
    best_reply net (g.F.RowFamily.rows_of c.args.rows.now net) c.args.inst.bids.now c.args.node.now c.args.number bid term (path_reply t c.zero_path.result.now) (c.zero_term.ensures bid at)
    (subst (λ z. pos 0 <ℤ z) (to_z-of_z w128 term fits) c.if-not-gains.ensures) (c.zero_path.ensures.reply bid t at graph)
