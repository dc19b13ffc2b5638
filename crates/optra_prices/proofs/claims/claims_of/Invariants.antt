use Rattle.std.proofs.Common.{take}
use Rattle.optra_prices.specs.Claims.{AreClaims}
use Rattle.optra_prices.proofs.claims.claims_of.Given as goal

abbrev pub invariant-loop-decision : goal.invariant-loop-decision
invariant-loop-decision g l = AreClaims (g.F.RowFamily.rows_of l.rows l.inst.net.now) l.inst.bids.now l.numbering.rows.items (take l.decision-index l.decisions) l.claims.items
