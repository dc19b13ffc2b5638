use Rattle.std.proofs.Common.{◌<◌, length, arith}
use Rattle.std.proofs.lemmas.List.{take_more_same}
use Rattle.optra_prices.proofs.decided.shared_count.Goals as goal

pub loop-k-preserved : goal.loop-k-preserved
loop-k-preserved c =
    let old = c.args.old.now in
    let new = c.args.new.now in
    let k = c.loop-k.k in
    let within_old : k < length old = omega arith in
    let within_new : k < length new = omega arith in
    take_more_same old new k _ within_old within_new c.loop-k.invariant (c.is_same.ensures.0 c.if-not-is_same.false)
