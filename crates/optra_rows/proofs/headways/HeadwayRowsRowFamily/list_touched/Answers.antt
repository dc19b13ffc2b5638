-- The windows from the place on, and then the pairs.
use Rattle.std.proofs.Common.{◌≡◌, ◌-◌, ◌++◌, ℕ, List, length, drop, map, append_assoc, sym, ap, ◌∙◌, subst, arith}
use Rattle.std.specs.List.{range_with_len}
use Rattle.std.proofs.lemmas.List.FromFn.{length-map-range_with_len}
use Rattle.optra_network.specs.Headways.{hmin_or_0}
use Rattle.optra_network.specs.declared.Partner.{Partner}
use Rattle.optra_rows.specs.declared.HRow.{HRow}
use Rattle.optra_rows.specs.declared.HRow.TheVariants.{Window}
use Rattle.optra_rows.specs.Headways.{ShiftsRise, in_day, pair_of, pairs_of, windows_of}
use Rattle.optra_rows.specs.TouchedLemmas.{shifts_rise}
use Rattle.optra_rows.proofs.DayLemmas.{drop_both}
use Rattle.optra_rows.proofs.headways.HeadwayRowsRowFamily.list_touched.Goals as goal

pub push_pairs-requires-clause-order : goal.push_pairs-requires-clause-order
push_pairs-requires-clause-order c =
    subst ShiftsRise (sym c.partners-partners.ensures.partners)
    (shifts_rise c.args.net.now c.args.leg.track c.args.kind c.args.leg.depart c.least_of.ensures.proper c.requires.may_use c.requires.depart)

pub returns : goal.returns
returns c =
    let net = c.args.net.now in
    let track = c.args.leg.track in
    let kind = c.args.kind in
    let time = c.args.leg.depart in
    let from = c.args.from in
    let old = c.args.list.now.items in
    let mid = c.push_windows.new.list.items in
    let row : ℕ → HRow = λ minute. Window track minute in
    let pair = pair_of track kind time in
    let windows = windows_of net track kind time in
    let pairs = pairs_of net track kind time in
    let least : c.from-least.result ≡ hmin_or_0 net track kind = c.from-least.ensures ∙ c.least_of.ensures.least in
    let count : length windows ≡ hmin_or_0 net track kind = length-map-range_with_len row time (hmin_or_0 net track kind) in
    let gone : c.saturating_sub.result ≡ from - length windows = let s = c.saturating_sub.ensures in omega (arith, s, least, count) in
    let first : mid ≡ old ++ drop from windows = c.in_ok-push_windows.ensures ∙ ap (λ (n : ℕ). old ++ drop from (map row (range_with_len time n))) least in
    c.in_ok-push_pairs.ensures
    ∙ ap (λ (partners : List Partner). mid ++ drop c.saturating_sub.result (map pair (in_day time partners))) c.partners-partners.ensures.partners
    ∙ ap (λ (n : ℕ). mid ++ drop n pairs) gone
    ∙ ap (λ (rows : List HRow). rows ++ drop (from - length windows) pairs) first
    ∙ append_assoc old (drop from windows) (drop (from - length windows) pairs)
    ∙ ap (λ (rows : List HRow). old ++ rows) (sym (drop_both from windows pairs))
