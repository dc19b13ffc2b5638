-- The first crowding leg, or else a free one.
use Rattle.std.proofs.Common.{arith}
use Rattle.optra_walk.proofs.EarnLemmas.{choice_long}
use Rattle.optra_search.proofs.CrowdLemmas.{split_crowding, split_free}
use Rattle.optra_search.proofs.splitting.split_leg.Goals as goal

pub free_split-requires-clause-few : goal.free_split-requires-clause-few
free_split-requires-clause-few g c =
    let long = choice_long c.args.inst.net.now c.args.inst.bids.now c.args.replies.now c.requires.replies in
    let few = c.args.inst.few in
    omega arith

pub returns-in-Some : goal.returns-in-Some
returns-in-Some g c =
    let net = c.args.inst.net.now in
    split_crowding net (g.F.RowFamily.rows_of c.args.rows.now net) c.args.inst.bids.now c.args.node.now c.args.replies.now c.requires.replies c.args.listed.now c.requires.listed c.in-Some.found (rw c.in-Some.is at c.crowding_leg.ensures)

pub returns-in_ok-found-in-None : goal.returns-in_ok-found-in-None
returns-in_ok-found-in-None g c =
    let net = c.args.inst.net.now in
    split_free net (g.F.RowFamily.rows_of c.args.rows.now net) c.args.inst.bids.now c.args.node.now c.args.replies.now c.requires.replies c.args.listed.now c.requires.listed c.in_ok-found-in-None.found (rw c.in-None.is at c.crowding_leg.ensures) c.in_ok-found-in-None.ensures
