use Rattle.std.proofs.Common.{◌<◌, ◌≤◌, length, ap, arith}
use Rattle.std.proofs.lemmas.List.{get_or_read, length-map, map-set}
use Rattle.std.proofs.Math.Seq.{map-set_same}
use Rattle.optra_prices.specs.Loads.{uses_in, no_load}
use Rattle.optra_prices.specs.declared.wide_loads.Load.{Load}
use Rattle.optra_prices.proofs.NarrowLoadLemmas.{set_past}
use Rattle.optra_prices.proofs.wide_loads.set_used.Goals as goal

pub returns-then-number-len-clause-uses : goal.returns-then-number-len-clause-uses
returns-then-number-len-clause-uses c =
    let rows = c.args.rows.now in
    let count = length-map rows.items (λ (row : Load). row.used) in
    let past : length (uses_in rows.items) ≤ c.args.number = omega (arith, c.len.ensures, rows.ok.0, c.if-number-len.true) in
    set_past (uses_in rows.items) c.args.number c.args.used past

pub returns-clause-uses : goal.returns-clause-uses
returns-clause-uses c = map-set (λ (row : Load). row.used) c.args.rows.now.items c.args.number (record { used = c.args.used; capacity = c.index.result.now.capacity })

pub returns-clause-capacities : goal.returns-clause-capacities
returns-clause-capacities c =
    let rows = c.args.rows.now in
    let here : c.args.number < length rows.items = omega (arith, c.len.ensures, rows.ok.0, c.if-number-len.false) in
    let read = get_or_read rows.items c.args.number c.index.result.now here c.index.ensures no_load in
    map-set_same (λ (row : Load). row.capacity) rows.items c.args.number (record { used = c.args.used; capacity = c.index.result.now.capacity }) no_load (ap (λ (row : Load). row.capacity) read)
