use Rattle.std.proofs.Common.{◌≡◌, ◌≤◌, ◌∙◌, None, slice_index, refl, sym, arith}
use Rattle.std.proofs.lemmas.Bool.{false≢true}
use Rattle.optra_network.specs.Net.{times_of, minutes_by}
use Rattle.optra_rests.proofs.AlongLemmas.{along, no_times, none_more, sum_less}
use Rattle.optra_rests.proofs.reach.lower_by.Goals as goal

pub bounds-least-far : goal.bounds-least-far
bounds-least-far c = omega (arith, c.ends.ensures.far_in, c.requires.len)

pub bounds-least-near : goal.bounds-least-near
bounds-least-near c = omega (arith, c.ends.ensures.near_in, c.requires.len)

pub bounds-least-near-2 : goal.bounds-least-near-2
bounds-least-near-2 c = omega (arith, c.ends.ensures.near_in, c.requires.len)

pub bounds-least-far-2 : goal.bounds-least-far-2
bounds-least-far-2 c = omega (arith, c.ends.ensures.far_in, c.requires.len)

pub bounds-least-far-3 : goal.bounds-least-far-3
bounds-least-far-3 c = omega (arith, c.ends.ensures.far_in, c.requires.len)

pub returns-then-least-far-clause-stays : goal.returns-then-least-far-clause-stays
returns-then-least-far-clause-stays c _ =
    let least = c.args.least.now in
    let past : slice_index least c.ends.result.1.0 ≤ slice_index least c.ends.result.0.0 = c.if-least-far.true in
    (refl, along c.args.net.now c.args.kind c.args.back least c.args.track c.ends.result.0 c.ends.result.1 c.ends.ensures.near c.ends.ensures.far (λ times a b has. omega (arith, past)))

pub returns-in_default-clause-stays : goal.returns-in_default-clause-stays
returns-in_default-clause-stays c _ =
    let none : times_of c.args.net.now c.args.track c.args.kind ≡ None = c.in_default.ensures in
    (refl, along c.args.net.now c.args.kind c.args.back c.args.least.now c.args.track c.ends.result.0 c.ends.result.1 c.ends.ensures.near c.ends.ensures.far (λ times a b has. absurd (no_times times (sym none ∙ has))))

pub returns-then-least-far-2-clause-stays : goal.returns-then-least-far-2-clause-stays
returns-then-least-far-2-clause-stays c _ =
    let least = c.args.least.now in
    let past : slice_index least c.ends.result.1.0 ≤ c.saturating_add-there.result = c.if-least-far-2.true in
    let there = c.saturating_add-there.ensures in (
      refl,
      along c.args.net.now c.args.kind c.args.back least c.args.track c.ends.result.0 c.ends.result.1 c.ends.ensures.near c.ends.ensures.far
          (λ times a b has. let quick : c.in-Some.minutes ≤ minutes_by a b times = c.in-Some.ensures times a b has in omega (arith, past, there, quick)),
    )

pub returns-clause-stays : goal.returns-clause-stays
returns-clause-stays c e = absurd (false≢true (sym e))

pub returns-clause-lowered : goal.returns-clause-lowered
returns-clause-lowered c _ = sum_less c.args.least.now c.ends.result.1.0 c.saturating_add-there.result (omega (arith, c.ends.ensures.far_in, c.requires.len)) c.if-least-far-2.false

pub returns-clause-no_more : goal.returns-clause-no_more
returns-clause-no_more c = none_more c.args.least.now c.ends.result.1.0 c.saturating_add-there.result (omega (arith, c.ends.ensures.far_in, c.requires.len)) c.if-least-far-2.false
