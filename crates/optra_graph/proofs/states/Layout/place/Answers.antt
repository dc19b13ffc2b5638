-- A place comes before the end.
use Rattle.std.proofs.Common.{◌*◌}
use Rattle.optra_graph.proofs.PlaceLemmas.{below_product}
use Rattle.optra_graph.proofs.states.Layout.place.Goals as goal

pub returns-clause-within : goal.returns-clause-within
returns-clause-within c =
    let e = c.from.ensures in
    let f = c.from-2.ensures in
    let p = below_product c.slot.result (c.args.self.minutes * c.args.self.slots) c.column.result c.args.self.stations c.slot.ensures.small c.column.ensures.within in
    rw (e, f) p
