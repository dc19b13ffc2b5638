-- The first free leg of a reply, or else the freest leg.
use Rattle.std.proofs.Common.{inl}
use Rattle.optra_search.proofs.CrowdLemmas.{split_freest}
use Rattle.optra_search.proofs.splitting.free_split.Goals as goal

pub returns-in-Some : goal.returns-in-Some
returns-in-Some g c = inl (rw c.in-Some.is at c.free_reply_leg.ensures)

pub returns-in_ok-found-in-None : goal.returns-in_ok-found-in-None
returns-in_ok-found-in-None g c =
    let net = c.args.inst.net.now in
    split_freest net (g.F.RowFamily.rows_of c.args.rows.now net) c.args.inst.bids.now c.args.node.now c.args.replies.now c.in_ok-found-in-None.found (rw c.in-None.is at c.free_reply_leg.ensures) c.in_ok-found-in-None.ensures
