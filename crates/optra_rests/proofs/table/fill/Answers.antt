-- One more minute.
use Rattle.std.proofs.Common.{arith, ◌≡◌, ℕ, ◌+◌, ◌-◌, sym, ap, ◌∙◌, refl, subst}
use Rattle.optra_rests.specs.declared.states.Layout.{Layout}
use Rattle.optra_rests.specs.Places.{spot_at, places_of}
use Rattle.optra_rests.specs.Tables.{IsFilled}
use Rattle.optra_rests.proofs.FillLemmas.{filled_none}
use Rattle.optra_rests.proofs.table.fill.Goals as goal

pub minutes-init : goal.minutes-init
minutes-init g c =
    let w = g.W.Weighing.weights c.args.weighing.now in
    let lay = c.args.table.now.layout in
    let e : places_of lay ≡ spot_at lay lay.minutes 0 = omega arith in
    record {
      filled = subst (λ (n : ℕ). IsFilled w c.args.net.now c.args.bid.now c.args.table.now n) e (filled_none w c.args.net.now c.args.bid.now c.args.table.now c.requires.table c.requires.setting c.requires.reach);
      asks = c.requires.asks;
      few = omega arith;
      first = refl;
    }

pub fill_minute-requires-clause-filled : goal.fill_minute-requires-clause-filled
fill_minute-requires-clause-filled g c =
    let w = g.W.Weighing.weights c.args.weighing.now in
    let table = c.minutes.table in
    let first = c.minutes.invariant.first in
    let some = c.minutes-test.true in
    let m : c.args.table.now.layout.first + (c.minutes.left - 1) - table.layout.first ≡ c.minutes.left - 1 = omega arith in
    let left : ℕ = c.minutes.left - 1 in
    let step : c.minutes.left ≡ left + 1 = omega arith in
    let at : spot_at table.layout (left + 1) 0 ≡ spot_at table.layout left table.layout.stations = omega arith in
    subst (λ (n : ℕ). IsFilled w c.args.net.now c.args.bid.now table n) (ap (λ (n : ℕ). spot_at table.layout n 0) step ∙ at ∙ ap (λ (n : ℕ). spot_at table.layout n table.layout.stations) (sym m)) c.minutes.invariant.filled

pub minutes-preserved : goal.minutes-preserved
minutes-preserved g c =
    let w = g.W.Weighing.weights c.args.weighing.now in
    let table = c.minutes.table in
    let lay = c.fill_minute.ensures.layout in
    let first = c.minutes.invariant.first in
    let m : c.args.table.now.layout.first + (c.minutes.left - 1) - table.layout.first ≡ c.minutes.left - 1 = omega arith in
    record {
      filled = subst (λ (n : ℕ). IsFilled w c.args.net.now c.args.bid.now c.fill_minute.new.table n) (ap (λ (n : ℕ). spot_at table.layout n 0) m ∙ ap (λ (l : Layout). spot_at l (c.minutes.left - 1) 0) (sym lay)) c.fill_minute.ensures.filled;
      asks = c.fill_minute.ensures.asks;
      few = let e = ap (λ (l : Layout). l.minutes) lay in let f = c.minutes.invariant.few in omega arith;
      first = first ∙ ap (λ (l : Layout). l.first) (sym lay);
    }

pub returns : goal.returns
returns g c =
    let w = g.W.Weighing.weights c.args.weighing.now in
    let table = c.minutes.table in
    let zero : c.minutes.left ≡ 0 = omega (arith, c.minutes-test.false) in
    subst (λ (n : ℕ). IsFilled w c.args.net.now c.args.bid.now table n) (ap (λ (n : ℕ). spot_at table.layout n 0) zero ∙ (omega arith)) c.minutes.invariant.filled

pub fill_minute-requires-clause-asks : goal.fill_minute-requires-clause-asks
fill_minute-requires-clause-asks g c = c.minutes.invariant.asks

pub fill_minute-requires-clause-weights : goal.fill_minute-requires-clause-weights
fill_minute-requires-clause-weights g c = c.requires.weights
