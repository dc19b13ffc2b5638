use Rattle.std.proofs.Common.{rules}
use Rattle.std.specs.Prelude.{slice_index}
use Rattle.std.proofs.lemmas.List.Edits.{map_over_more}
use Rattle.optra_prices.proofs.touches.renumber_rows.Goals as goal

pub loop-k-preserved : goal.loop-k-preserved
loop-k-preserved c = search (rules, map_over_more (slice_index c.args.numbers.now))
