use Rattle.std.proofs.Common.{◌≤◌, ◌<◌, List, length, map, ap, arith}
use Rattle.std.proofs.lemmas.List.{take_all}
use Rattle.optra_walk.specs.declared.Leg.{Leg}
use Rattle.optra_walk.specs.Families.{load_of}
use Rattle.optra_prices.proofs.HoldLemmas.{adds_none, adds_both, adds_same, legs_push}
use Rattle.optra_prices.proofs.using.add_legs.Goals as goal

pub loop-number-init : goal.loop-number-init
loop-number-init g c =
    adds_none g.F.Row.Ord.cmp g.met.F.Row.Ord.total g.met.F.Row.CodedRow.tells_apart (g.F.RowFamily.rows_of c.args.rows.now c.args.net.now).is_row c.args.held.now

pub loop-number-preserved : goal.loop-number-preserved
loop-number-preserved g c =
    let rows = g.F.RowFamily.rows_of c.args.rows.now c.args.net.now in
    let legs = c.args.legs.now in
    let n = c.loop-number.number in
    let l : n < length legs = omega arith in
    adds_both g.F.Row.Ord.cmp g.met.F.Row.Ord.total g.met.F.Row.CodedRow.tells_apart rows.is_row c.args.held.now c.loop-number.held c.add_leg.new.held _ _ _
    (λ q. legs_push rows c.args.kind legs n _ q l) c.loop-number.invariant c.in_ok-add_leg.ensures

pub returns : goal.returns
returns g c =
    let rows = g.F.RowFamily.rows_of c.args.rows.now c.args.net.now in
    let legs = c.args.legs.now in
    let n = c.loop-number.number in
    let past : length legs ≤ n = omega arith in
    adds_same g.F.Row.Ord.cmp g.met.F.Row.Ord.total g.met.F.Row.CodedRow.tells_apart rows.is_row c.args.held.now c.loop-number.held _ _
    (λ q. ap (λ (xs : List Leg). load_of rows q (map (λ leg. (c.args.kind, leg)) xs)) (take_all n legs past)) c.loop-number.invariant
