use Rattle.std.proofs.Common.{rules}
use Rattle.std.proofs.lemmas.List.Edits.{map_over_more}
use Rattle.optra_prices.specs.Rankings.{renumbered}
use Rattle.optra_prices.proofs.touches.renumber_each.Goals as goal

pub loop-k-preserved : goal.loop-k-preserved
loop-k-preserved c = search (rules, map_over_more (renumbered c.args.numbers.now))
