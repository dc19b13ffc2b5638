-- A place comes before the end.
use Rattle.std.proofs.Common.{◌≡◌, ◌+◌, ◌*◌, ◌<◌, sym, subst}
use Rattle.optra_rests.specs.Places.{place_of, places_of}
use Rattle.optra_rests.proofs.PlaceLemmas.{place_below}
use Rattle.optra_rests.proofs.states.Layout.place.Goals as goal

pub returns-clause-within : goal.returns-clause-within
returns-clause-within c =
    let p = place_below c.args.self c.args.state c.requires.placed in
    let v = c.spot.ensures.value in
    let f = c.from.ensures in
    let s = c.slot.ensures.value in
    let same : c.spot.result * c.from.result + c.slot.result ≡ place_of c.args.self c.args.state = (λ i. v i * f i + s i) in
    subst (λ n. n < places_of c.args.self) (sym same) p

pub spot-requires-clause-small : goal.spot-requires-clause-small
spot-requires-clause-small c = c.requires.small

pub spot-requires-clause-placed : goal.spot-requires-clause-placed
spot-requires-clause-placed c = c.requires.placed
