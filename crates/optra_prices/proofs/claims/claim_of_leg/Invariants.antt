use Rattle.optra_prices.proofs.ClaimLemmas.{ClaimsFirst}
use Rattle.optra_prices.proofs.claims.claim_of_leg.Given as goal

abbrev pub invariant-loop-k : goal.invariant-loop-k
invariant-loop-k g l =
    ClaimsFirst g.F.Row.Ord.cmp l.numbering.rows.items ((g.F.RowFamily.rows_of l.rows l.net).uses l.kind l.leg) (g.F.RowFamily.rows_used l.rows l.net l.kind l.leg) l.k l.claim
