use Rattle.std.proofs.Common.{◌≡◌, ◌+◌, ◌*◌, ◌≤◌, take, sum_by}
use Rattle.optra_demo.proofs.bid_tables.minutes_with.Given as goal

abbrev pub invariant-segments : goal.invariant-segments
invariant-segments l = (l.sum ≡ sum_by (λ d. d + l.extra) (take l.least-index l.way)) × (l.sum ≤ 12 * l.least-index)
