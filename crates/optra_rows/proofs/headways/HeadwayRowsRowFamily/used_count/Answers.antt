use Rattle.std.proofs.Common.{◌≡◌, ◌+◌, ◌≤◌, List, length, sym, subst, arith, length-append}
use Rattle.std.proofs.lemmas.List.{length-map}
use Rattle.std.proofs.lemmas.List.FromFn.{length-map-range_with_len}
use Rattle.optra_network.specs.Headways.{hmin_or_0}
use Rattle.optra_network.specs.Partners.{partners_of}
use Rattle.optra_network.specs.declared.Partner.{Partner}
use Rattle.optra_rows.specs.declared.HRow.TheVariants.{Window}
use Rattle.optra_rows.specs.Headways.{ShiftsRise, in_day, pair_of, pairs_of, touched_rows, windows_of}
use Rattle.optra_rows.specs.TouchedLemmas.{few_partners, shifts_rise}
use Rattle.optra_rows.proofs.headways.HeadwayRowsRowFamily.used_count.Goals as goal

pub pair_count-requires-clause-order : goal.pair_count-requires-clause-order
pair_count-requires-clause-order c =
    subst ShiftsRise (sym c.partners.ensures.partners)
    (shifts_rise c.args.net.now c.args.leg.track c.args.kind c.args.leg.depart c.least_of.ensures.proper c.requires.may_use c.requires.depart)

pub pair_count-requires-clause-few : goal.pair_count-requires-clause-few
pair_count-requires-clause-few c =
    subst (λ (xs : List Partner). length xs ≤ 3824) (sym c.partners.ensures.partners)
    (few_partners c.args.net.now c.args.leg.track c.args.kind c.args.leg.depart c.least_of.ensures.proper c.requires.may_use c.requires.depart)

pub returns : goal.returns
returns c =
    let net = c.args.net.now in
    let track = c.args.leg.track in
    let kind = c.args.kind in
    let time = c.args.leg.depart in
    let all : length (touched_rows net track kind time) ≡ length (windows_of net track kind time) + length (pairs_of net track kind time) = length-append (windows_of net track kind time) (pairs_of net track kind time) in
    let windows : length (windows_of net track kind time) ≡ hmin_or_0 net track kind = length-map-range_with_len (λ minute. Window track minute) time (hmin_or_0 net track kind) in
    let pairs : length (pairs_of net track kind time) ≡ length (in_day time (partners_of net track kind)) = length-map (in_day time (partners_of net track kind)) (pair_of track kind time) in
    let least = c.least_of.ensures.least in
    let from = c.from-least.ensures in
    let count : c.pair_count.result ≡ length (in_day time (partners_of net track kind)) = subst (λ (xs : List Partner). c.pair_count.result ≡ length (in_day time xs)) c.partners.ensures.partners c.pair_count.ensures.count in
    omega (arith, all, windows, pairs, least, from, count)
