-- One more place of the spot.
use Rattle.std.proofs.Common.{arith, refl, ◌≡◌, ℕ, ◌+◌, ◌-◌, ◌<◌, ◌≤◌, sym, ap, ◌∙◌, subst}
use Rattle.optra_rests.specs.declared.reach.Reach.{Reach}
use Rattle.optra_rests.specs.declared.states.Layout.{Layout}
use Rattle.optra_rests.specs.Places.{spot_at}
use Rattle.optra_rests.specs.Reaches.{IsReached}
use Rattle.optra_rests.specs.Tables.{IsFilled, end_of}
use Rattle.optra_rests.proofs.FillLemmas.{spot_more, filled_skip, same_spot, spot_placed, spot_place, spot_next}
use Rattle.optra_rests.proofs.table.fill_spot.Goals as goal

pub returns-then-not-has-clause-filled : goal.returns-then-not-has-clause-filled
returns-then-not-has-clause-filled g c =
    let w = g.W.Weighing.weights c.args.weighing.now in
    let path = c.args.bid.now.path in
    let table = c.args.table.now in
    let at = c.state_at-at.result in
    filled_skip w c.args.net.now c.args.bid.now table c.args.minute c.args.station.0 c.requires.early c.requires.station
    (λ s m t from on.
    let same = same_spot path table.reach s at (m ∙ sym c.state_at-at.ensures.minute) (t ∙ ap (λ x. x.0) (sym c.state_at-at.ensures.station)) from on in
    let told = c.has.ensures.1 same in cc)
    c.requires.filled

pub fill_place-requires-clause-placed : goal.fill_place-requires-clause-placed
fill_place-requires-clause-placed g c =
    let table = c.slots.table in
    let lay = c.slots.invariant.layout in
    let first = ap (λ (l : Layout). l.first) lay in
    let minutes = ap (λ (l : Layout). l.minutes) lay in
    let stations = ap (λ (l : Layout). l.stations) lay in
    let some : 0 < c.slots.left = omega (arith, c.slots-test.true) in
    let from : table.layout.first ≤ c.args.minute = let e = c.requires.early in omega arith in
    let to : c.args.minute < end_of table = let e = c.requires.minute in omega arith in
    let within : c.args.station.0 < table.layout.stations = let e = c.requires.station in omega arith in
    let is = c.state_at-state.ensures in
    spot_placed table c.state_at-state.result c.args.minute c.args.station c.slots.left is.minute is.station is.slot some c.slots.invariant.few from to within

pub fill_place-requires-clause-reached : goal.fill_place-requires-clause-reached
fill_place-requires-clause-reached g c =
    let state = c.state_at-state.result in
    let has = c.has.ensures.0 c.if-not-has.false in
    let is = c.state_at-state.ensures in
    let reached = (same_spot c.args.bid.now.path c.args.table.now.reach c.state_at-at.result state (c.state_at-at.ensures.minute ∙ sym is.minute) (ap (λ x. x.0) (c.state_at-at.ensures.station ∙ sym is.station)) has.0 has.1).0 in
    subst (λ (r : Reach). IsReached c.args.bid.now.path r state) (sym c.slots.invariant.reach) reached

pub fill_place-requires-clause-filled : goal.fill_place-requires-clause-filled
fill_place-requires-clause-filled g c =
    let w = g.W.Weighing.weights c.args.weighing.now in
    let table = c.slots.table in
    let some : 0 < c.slots.left = omega (arith, c.slots-test.true) in
    let is = c.state_at-state.ensures in
    let next = spot_next table c.state_at-state.result c.args.minute c.args.station c.slots.left is.minute is.station is.slot some in
    subst (λ (n : ℕ). IsFilled w c.args.net.now c.args.bid.now table n) (sym next) c.slots.invariant.filled

pub slots-preserved : goal.slots-preserved
slots-preserved g c =
    let w = g.W.Weighing.weights c.args.weighing.now in
    let table = c.slots.table in
    let after = c.fill_place.new.table in
    let some : 0 < c.slots.left = omega (arith, c.slots-test.true) in
    let is = c.state_at-state.ensures in
    let made = c.fill_place.ensures in
    let place = spot_place table c.state_at-state.result c.args.minute c.args.station c.slots.left is.minute is.station is.slot some in
    record {
      filled = subst (λ (n : ℕ). IsFilled w c.args.net.now c.args.bid.now after n)
          (place ∙ ap (λ (l : Layout). spot_at l (c.args.minute - l.first) c.args.station.0 + (c.slots.left - 1)) (sym made.layout)) made.filled;
      asks = made.asks;
      few = let e = ap (λ (l : Layout). l.slots) made.layout in let f = c.slots.invariant.few in omega arith;
      layout = made.layout ∙ c.slots.invariant.layout;
      reach = made.reach ∙ c.slots.invariant.reach;
    }

pub returns-clause-filled : goal.returns-clause-filled
returns-clause-filled g c =
    let w = g.W.Weighing.weights c.args.weighing.now in
    let zero : c.slots.left ≡ 0 = omega (arith, c.slots-test.false) in
    let lay = c.slots.invariant.layout in
    let at : spot_at c.slots.table.layout (c.args.minute - c.slots.table.layout.first) c.args.station.0 + c.slots.left ≡ spot_at c.args.table.now.layout (c.args.minute - c.args.table.now.layout.first) c.args.station.0 + 0 =
    (λ i. spot_at (lay i) (c.args.minute - (lay i).first) c.args.station.0 + zero i) in
    subst (λ (n : ℕ). IsFilled w c.args.net.now c.args.bid.now c.slots.table n) (at ∙ (omega arith)) c.slots.invariant.filled

pub fill_place-requires-clause-asks : goal.fill_place-requires-clause-asks
fill_place-requires-clause-asks g c = c.slots.invariant.asks

pub fill_place-requires-clause-weights : goal.fill_place-requires-clause-weights
fill_place-requires-clause-weights g c = c.requires.weights

pub returns-clause-asks : goal.returns-clause-asks
returns-clause-asks g c = c.slots.invariant.asks

pub returns-then-not-has-clause-asks : goal.returns-then-not-has-clause-asks
returns-then-not-has-clause-asks g c = c.requires.asks

pub has-requires-clause-from : goal.has-requires-clause-from
has-requires-clause-from g c =
    let station = ap (λ x. x.0) c.state_at-at.ensures.station in
    omega (arith, station, c.requires.station, c.requires.filled.is_table.from)

pub has-requires-clause-on : goal.has-requires-clause-on
has-requires-clause-on g c =
    let station = ap (λ x. x.0) c.state_at-at.ensures.station in
    omega (arith, station, c.requires.station, c.requires.filled.is_table.on)

pub overflow_sub-left : goal.overflow_sub-left
overflow_sub-left g c = omega (arith, c.slots-test.true)

pub slots-init : goal.slots-init
slots-init g c =
    let w = g.W.Weighing.weights c.args.weighing.now in
    let table = c.args.table.now in
    record {
      filled = subst (λ (n : ℕ). IsFilled w c.args.net.now c.args.bid.now table n) (spot_more table.layout (c.args.minute - table.layout.first) c.args.station.0) c.requires.filled;
      asks = c.requires.asks;
      few = omega arith;
      layout = refl;
      reach = refl;
    }

pub slots-smaller : goal.slots-smaller
slots-smaller g c = omega (arith, c.slots-test.true)

pub returns-clause-layout : goal.returns-clause-layout
returns-clause-layout g c = c.slots.invariant.layout

pub returns-then-not-has-clause-layout : goal.returns-then-not-has-clause-layout
returns-then-not-has-clause-layout g c = refl
