use Rattle.std.proofs.Common.{take}
use Rattle.optra_prices.specs.Claims.{claim_uses}
use Rattle.optra_prices.specs.Columns.{IsColumns}
use Rattle.optra_prices.specs.Tellings.{MarksUsed}
use Rattle.optra_prices.proofs.telling.mark_claims.Given as goal

abbrev pub invariant-loop-claim : goal.invariant-loop-claim
invariant-loop-claim l = record {
  columns : IsColumns l.fn.columns.groups l.columns;
  marks : MarksUsed (claim_uses (take l.claim-index l.claims)) l.fn.columns l.columns;
}
