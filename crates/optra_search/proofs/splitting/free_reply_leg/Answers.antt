-- Reply by reply.
use Rattle.std.proofs.Common.{None}
use Rattle.optra_search.specs.Splits.{IsFreeLeg}
use Rattle.optra_search.proofs.ReplyLemmas.{reply_hit, reply_miss, past_replies}
use Rattle.optra_search.proofs.splitting.free_reply_leg.Goals as goal

pub replies-preserved : goal.replies-preserved
replies-preserved c =
    reply_miss (IsFreeLeg c.args.node.now) c.args.replies.now c.replies.i c.index-replies-i.result c.replies-test.true c.index-replies-i.is c.replies.invariant (rw c.in-None.is at c.free_in.ensures)

pub returns-in-Some : goal.returns-in-Some
returns-in-Some c =
    reply_hit (IsFreeLeg c.args.node.now) c.args.replies.now c.replies.i c.index-replies-i.result c.replies-test.true c.index-replies-i.is c.replies.invariant c.in-Some.leg (rw c.in-Some.is at c.free_in.ensures)

pub returns : goal.returns
returns c = c.replies.invariant None (past_replies (IsFreeLeg c.args.node.now) c.replies.i c.args.replies.now c.replies.i c.replies-test.false)
