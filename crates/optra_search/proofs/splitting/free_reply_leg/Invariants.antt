-- The answer for the replies that are left is the answer.
use Rattle.std.proofs.Common.{ℕ, Option, drop}
use Rattle.optra_walk.specs.declared.Leg.{Leg}
use Rattle.optra_search.specs.Splits.{IsFirstOrNone, IsFreeLeg, legs_from, reply_legs}
use Rattle.optra_search.proofs.splitting.free_reply_leg.Given as goal

abbrev pub invariant-replies : goal.invariant-replies
invariant-replies l =
    (answer : Option (ℕ × Leg)) → IsFirstOrNone (IsFreeLeg l.node) (legs_from l.i (drop l.i l.replies)) answer → IsFirstOrNone (IsFreeLeg l.node) (reply_legs l.replies) answer
