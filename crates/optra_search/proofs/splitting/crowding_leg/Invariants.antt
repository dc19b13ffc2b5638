-- The answer for the replies that are left is the answer.
use Rattle.std.proofs.Common.{ℕ, Option, drop}
use Rattle.optra_walk.specs.declared.Leg.{Leg}
use Rattle.optra_search.specs.Splits.{IsFirstOrNone, legs_from, reply_legs}
use Rattle.optra_search.specs.Marks.{IsCrowding}
use Rattle.optra_search.proofs.splitting.crowding_leg.Given as goal

abbrev pub invariant-replies : goal.invariant-replies
invariant-replies g l =
    (answer : Option (ℕ × Leg)) → IsFirstOrNone (IsCrowding (g.F.RowFamily.rows_of l.rows l.inst.net.now) l.inst.bids.now l.node l.listed) (legs_from l.i (drop l.i l.replies)) answer
    → IsFirstOrNone (IsCrowding (g.F.RowFamily.rows_of l.rows l.inst.net.now) l.inst.bids.now l.node l.listed) (reply_legs l.replies) answer
