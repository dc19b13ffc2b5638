-- The next station to which a train may come.
use Rattle.std.proofs.Common.{arith, ◌≡◌, ℕ, ◌+◌, ◌-◌, ◌≤◌, sym, ap, ◌∙◌, subst}
use Rattle.optra_rests.specs.declared.states.Layout.{Layout}
use Rattle.optra_rests.specs.Places.{spot_at}
use Rattle.optra_rests.specs.Tables.{IsFilled}
use Rattle.optra_rests.proofs.FillLemmas.{filled_without}
use Rattle.optra_rests.proofs.table.fill_minute.Goals as goal

pub without_far-left-requires-clause-count : goal.without_far-left-requires-clause-count
without_far-left-requires-clause-count g c =
    let e = c.requires.filled.is_table.from in
    omega (arith, e)

pub without_far-left-requires-in-stations-clause-count : goal.without_far-left-requires-in-stations-clause-count
without_far-left-requires-in-stations-clause-count g c =
    let e = c.fill_spot.ensures.filled.is_table.from in
    let f = ap (λ (l : Layout). l.stations) c.fill_spot.ensures.layout in
    let few = c.stations.invariant.few in
    omega (arith, e, f, few)

pub stations-init : goal.stations-init
stations-init g c =
    let w = g.W.Weighing.weights c.args.weighing.now in
    let h = c.requires.filled in
    let is = c.without_far-left.ensures in
    let fewer = is.fewer in
    record {
      filled = filled_without w c.args.net.now c.args.bid.now c.args.table.now c.args.minute c.args.table.now.layout.stations c.without_far-left.result c.requires.early (omega arith) is h;
      asks = c.requires.asks;
      few = fewer;
      layout = λ i. c.args.table.now.layout;
    }

pub fill_spot-requires-clause-filled : goal.fill_spot-requires-clause-filled
fill_spot-requires-clause-filled g c =
    let w = g.W.Weighing.weights c.args.weighing.now in
    let table = c.stations.table in
    let e : c.stations.left ≡ c.stations.left - 1 + 1 = omega (arith, c.stations-test.true) in
    subst (λ (n : ℕ). IsFilled w c.args.net.now c.args.bid.now table (spot_at table.layout (c.args.minute - table.layout.first) n)) e c.stations.invariant.filled

pub stations-preserved : goal.stations-preserved
stations-preserved g c =
    let w = g.W.Weighing.weights c.args.weighing.now in
    let lay = c.fill_spot.ensures.layout in
    let after = c.fill_spot.new.table in
    let first = ap (λ (l : Layout). l.first) lay in
    let stations = ap (λ (l : Layout). l.stations) lay in
    let from : after.layout.first ≤ c.args.minute = let e = c.requires.early in let k = ap (λ (l : Layout). l.first) c.stations.invariant.layout in omega (arith, e, first, k) in
    let few = c.stations.invariant.few in
    let within : c.stations.left - 1 ≤ after.layout.stations = omega (arith, few, stations) in
    let here = subst (λ (n : ℕ). IsFilled w c.args.net.now c.args.bid.now after n) (ap (λ (l : Layout). spot_at l (c.args.minute - l.first) (c.stations.left - 1)) (sym lay)) c.fill_spot.ensures.filled in
    let is = c.without_far-left-in-stations.ensures in
    let fewer = is.fewer in
    record {
      filled = filled_without w c.args.net.now c.args.bid.now after c.args.minute (c.stations.left - 1) c.without_far-left-in-stations.result from within is here;
      asks = c.fill_spot.ensures.asks;
      few = omega (arith, fewer, within);
      layout = lay ∙ c.stations.invariant.layout;
    }

pub returns-clause-filled : goal.returns-clause-filled
returns-clause-filled g c =
    let w = g.W.Weighing.weights c.args.weighing.now in
    let zero : c.stations.left ≡ 0 = omega (arith, c.stations-test.false) in
    let lay = c.stations.invariant.layout in
    let at : spot_at c.stations.table.layout (c.args.minute - c.stations.table.layout.first) c.stations.left ≡ spot_at c.args.table.now.layout (c.args.minute - c.args.table.now.layout.first) 0 =
    (λ i. spot_at (lay i) (c.args.minute - (lay i).first) (zero i)) in
    subst (λ (n : ℕ). IsFilled w c.args.net.now c.args.bid.now c.stations.table n) at c.stations.invariant.filled

pub fill_spot-requires-clause-asks : goal.fill_spot-requires-clause-asks
fill_spot-requires-clause-asks g c = c.stations.invariant.asks

pub fill_spot-requires-clause-weights : goal.fill_spot-requires-clause-weights
fill_spot-requires-clause-weights g c = c.requires.weights

pub returns-clause-asks : goal.returns-clause-asks
returns-clause-asks g c = c.stations.invariant.asks
