use Rattle.std.proofs.Common.{◌∙◌, ◌+◌, ◌-◌, ℕ, List, sym, subst, arith, ap, slice_get}
use Rattle.std.specs.List.{position_or_len}
use Rattle.std.specs.Option.{option_map}
use Rattle.optra_network.specs.declared.Partner.{Partner}
use Rattle.optra_rows.specs.Headways.{pair_of, is_started, is_not_over, ShiftsRise, kept}
use Rattle.optra_rows.specs.TouchedLemmas.{touched_window, touched_pair, shifts_rise}
use Rattle.optra_rows.proofs.headways.HeadwayRowsRowFamily.touched.Goals as goal

pub returns-then-k-least : goal.returns-then-k-least
returns-then-k-least c =
    let v = c.least_of.ensures.least in
    let l = c.if-k-least.true in
    let f = c.from-least.ensures in
    sym (touched_window c.args.net.now c.args.leg.track c.args.kind c.args.leg.depart c.least_of.ensures.proper c.requires.may_use c.requires.depart c.args.k (omega arith))

pub pair_at-requires-clause-order : goal.pair_at-requires-clause-order
pair_at-requires-clause-order c =
    subst ShiftsRise (sym c.partners-partners.ensures.partners)
    (shifts_rise c.args.net.now c.args.leg.track c.args.kind c.args.leg.depart c.least_of.ensures.proper c.requires.may_use c.requires.depart)

pub returns : goal.returns
returns c =
    let v = c.least_of.ensures.least in
    let l = c.if-k-least.false in
    let f = c.from-least.ensures in
    let n : ℕ = c.args.k - c.from-least.result in
    c.pair_at.ensures
    ∙ ap (λ (xs : List Partner). option_map (pair_of c.args.leg.track c.args.kind c.args.leg.depart) (kept (is_not_over c.args.leg.depart) (slice_get xs (position_or_len (is_started c.args.leg.depart) xs + n))))
    c.partners-partners.ensures.partners
    ∙ sym (touched_pair c.args.net.now c.args.leg.track c.args.kind c.args.leg.depart c.least_of.ensures.proper c.requires.may_use c.requires.depart c.args.k n (omega arith))
