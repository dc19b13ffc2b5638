use Rattle.std.proofs.Common.{◌≡◌, length}
use Rattle.std.specs.Prelude.{All}
use Rattle.optra_demo.specs.Draws.{after}
use Rattle.optra_demo.specs.Networks.{segment_minutes}
use Rattle.optra_demo.specs.Ranges.{IsSegment}
use Rattle.optra_demo.proofs.network_tables.draw_segments.Given as goal

abbrev pub invariant-segments : goal.invariant-segments
invariant-segments l = (l.minutes.items ≡ segment_minutes l.initial.draws l._segment) × (l.draws ≡ after l.initial.draws l._segment) × All IsSegment l.minutes.items × (length l.minutes.items ≡ l._segment)
