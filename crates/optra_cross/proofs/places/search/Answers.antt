use Rattle.std.proofs.Common.{◌≡◌, ◌+◌, ◌*◌, ◌-◌, ℕ, subst, min, arith}
use Rattle.optra_cross.proofs.SearchLemmas.{IsBetween, between_first}
use Rattle.optra_cross.proofs.places.search.Goals as goal

pub halves-init : goal.halves-init
halves-init c =
    let time : ℕ = c.args.time in
    let track : ℕ = c.args.track.0 in
    let a = c.from-first.ensures in
    let b = c.saturating_sub.ensures in
    let d = c.from.ensures in
    let e = c.min.ensures in
    let f = c.from-2.ensures in
    let low : track * 46080 + (time + 1 - 120) * 16 ≡ c.from-first.result * 46080 + c.saturating_sub.result * 16 = omega arith in
    let high : track * 46080 + min (time + 120) 2880 * 16 - 1 ≡ c.from-first.result * 46080 + c.min.result * 16 - 1 = omega arith in
    subst (λ n. IsBetween time track c.args.k c.args.group.now n (c.from-first.result * 46080 + c.min.result * 16 - 1)) low
    (subst (IsBetween time track c.args.k c.args.group.now (track * 46080 + (time + 1 - 120) * 16)) high
    (between_first time track c.args.k c.args.group.now c.requires.time c.requires.each c.requires.of_track c.requires.more))
