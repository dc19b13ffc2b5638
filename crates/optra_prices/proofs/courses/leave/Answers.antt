use Rattle.std.proofs.Common.{ℕ, replicate, ap, ◌∙◌}
use Rattle.std.specs.Prelude.{pos}
use Rattle.optra_prices.specs.Terms.{Setting, setting}
use Rattle.optra_prices.proofs.CourseLemmas.{set_up_on}
use Rattle.optra_prices.proofs.LevelLemmas.{all_zero}
use Rattle.optra_prices.proofs.RunningLemmas.{none_due}
use Rattle.optra_prices.proofs.courses.leave.Goals as goal

pub returns-clause-moved : goal.returns-clause-moved
returns-clause-moved g c =
    let net = c.args.inst.net.now in
    let f = c.args.rows.now in
    let s : Setting g.row.F-Row.Denot = setting net (g.F.RowFamily.rows_of f net) (g.F.RowFamily.rows_used f net) c.args.inst.bids.now c.args.node.now in
    let zero = c.in_ok-zero_prices.ensures in
    record {
      is = set_up_on g.F.Row.Ord.cmp s c.args.kept.now c.zero_prices.new.columns zero.columns c.zero_prices.new.levels c.requires.course.is zero.levels zero.rest.uses zero.prices.count zero.rest.capacities zero.grouped;
      due = zero.due;
    }

pub returns-clause-zero : goal.returns-clause-zero
returns-clause-zero g c =
    let levels = c.args.kept.now.levels in
    all_zero levels c.zero_prices.new.levels c.in_ok-zero_prices.ensures.prices ∙ ap (λ (n : ℕ). replicate n (pos 0)) c.requires.course.is.price_count

pub zero_prices-requires-clause-due : goal.zero_prices-requires-clause-due
zero_prices-requires-clause-due g c = none_due c.args.kept.now.levels.prices.items c.args.kept.now.columns c.requires.course.still c.requires.course.running c.requires.course.grouped
