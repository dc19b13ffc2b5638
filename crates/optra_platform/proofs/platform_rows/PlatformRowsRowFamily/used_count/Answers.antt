use Rattle.std.proofs.Common.{◌∙◌, ◌<◌, sym, ap, length, arith, Some, ◌≡◌, Option}
use Rattle.optra_network.specs.Net.{halt_max_of}
use Rattle.optra_network.specs.declared.StationId.{StationId}
use Rattle.optra_walk.specs.Legs.{arrival_of, next_depart_of}
use Rattle.optra_walk.specs.Rules.{head_of}
use Rattle.optra_platform.specs.Platforms.{count_between, rows_of_stay}
use Rattle.optra_platform.specs.PlatformLemmas.{count_stay}
use Rattle.optra_platform.proofs.platform_rows.PlatformRowsRowFamily.used_count.Goals as goal

pub returns-then-halt_max-gt0 : goal.returns-then-halt_max-gt0
returns-then-halt_max-gt0 c =
    let net = c.args.net.now in
    let arrival = arrival_of net c.args.kind c.args.leg in
    let departure = next_depart_of net c.args.kind c.args.leg in
    let head : Some c.in-Some.station ≡ head_of net c.args.leg.track = sym c.in-Some.is ∙ c.head.ensures in
    let limit : 0 < halt_max_of net c.in-Some.station = let above = c.if-halt_max-gt0.true in let is = c.halt_max.ensures.count in omega (arith, above, is) in
    c.count_between.ensures
    ∙ (λ i. count_between (c.arrival.ensures.value i) (c.next_depart.ensures i))
    ∙ sym (count_stay net c.in-Some.station arrival departure limit)
    ∙ ap (λ (s : Option StationId). length (rows_of_stay net s arrival departure)) head
