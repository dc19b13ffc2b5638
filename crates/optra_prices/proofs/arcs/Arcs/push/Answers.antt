use Rattle.std.proofs.Common.{arith}
use Rattle.optra_prices.proofs.NarrowArcLemmas.{closed_most}
use Rattle.optra_prices.proofs.arcs.Arcs.push.Goals as goal

pub closed_after-self-inside-requires-clause-few : goal.closed_after-self-inside-requires-clause-few
closed_after-self-inside-requires-clause-few c =
    let i = c.self.inside in
    let is = c.self.invariant.closed_is in
    let most = closed_most i.narrow.items in
    omega (arith, i.narrow.ok.0)
