-- Reply by reply.
use Rattle.std.proofs.Common.{None, arith}
use Rattle.optra_search.specs.Marks.{IsCrowding}
use Rattle.optra_walk.proofs.EarnLemmas.{choice_long}
use Rattle.optra_search.proofs.ReplyLemmas.{reply_hit, reply_miss, past_replies, reply_usable}
use Rattle.optra_search.proofs.splitting.crowding_leg.Goals as goal

pub overflow_cast-bid : goal.overflow_cast-bid
overflow_cast-bid g c =
    let long = choice_long c.args.inst.net.now c.args.inst.bids.now c.args.replies.now c.requires.replies in
    let few = c.args.inst.few in
    let l = c.replies-test.true in
    omega arith

pub crowding_in-requires : goal.crowding_in-requires
crowding_in-requires g c =
    let long = choice_long c.args.inst.net.now c.args.inst.bids.now c.args.replies.now c.requires.replies in
    let l = c.replies-test.true in
    record {
      bid = omega arith;
      usable = reply_usable c.args.inst.net.now c.args.inst.proper c.args.inst.bids.now c.args.replies.now c.replies.i c.index-replies-i.result c.requires.replies l c.index-replies-i.is;
    }

pub replies-preserved : goal.replies-preserved
replies-preserved g c =
    reply_miss (IsCrowding (g.F.RowFamily.rows_of c.args.rows.now c.args.inst.net.now) c.args.inst.bids.now c.args.node.now c.args.listed.now) c.args.replies.now c.replies.i c.index-replies-i.result c.replies-test.true c.index-replies-i.is
    c.replies.invariant (rw c.in-None.is at c.crowding_in.ensures)

pub returns-in-Some : goal.returns-in-Some
returns-in-Some g c =
    reply_hit (IsCrowding (g.F.RowFamily.rows_of c.args.rows.now c.args.inst.net.now) c.args.inst.bids.now c.args.node.now c.args.listed.now) c.args.replies.now c.replies.i c.index-replies-i.result c.replies-test.true c.index-replies-i.is
    c.replies.invariant c.in-Some.leg (rw c.in-Some.is at c.crowding_in.ensures)

pub returns : goal.returns
returns g c =
    c.replies.invariant None (past_replies (IsCrowding (g.F.RowFamily.rows_of c.args.rows.now c.args.inst.net.now) c.args.inst.bids.now c.args.node.now c.args.listed.now) c.replies.i c.args.replies.now c.replies.i c.replies-test.false)
