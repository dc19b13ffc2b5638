-- The law, for the network and the bids that are there.
use Rattle.std.proofs.Common.{◌<◌, ◌^◌, length, arith}
use Rattle.optra_text.proofs.PlanTold.{text_tells}
use Rattle.optra_text.proofs.plans.text_tells_plan.Goals as goal

pub returns : goal.returns
returns c =
    let is = c.count-few.ensures in
    let fits = c.count-few.type_inv in
    let few : length c.args.inst.bids.now < 2 ^ 64 = omega arith in
    text_tells c.args.inst.net.now c.args.inst.bids.now c.args.inst.proper few
