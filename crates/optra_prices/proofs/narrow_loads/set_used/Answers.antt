use Rattle.std.proofs.Common.{◌<◌, ◌≤◌, length, ap, arith}
use Rattle.std.proofs.lemmas.List.{get_or_read}
use Rattle.optra_prices.specs.Loads.{used_in, no_narrow_load}
use Rattle.optra_prices.specs.declared.narrow_loads.NarrowLoad.{NarrowLoad}
use Rattle.optra_prices.proofs.NarrowLoadLemmas.{used_count, used_set, narrow_capacities_stay, set_past}
use Rattle.optra_prices.proofs.narrow_loads.set_used.Goals as goal

pub returns-then-number-len-clause-used : goal.returns-then-number-len-clause-used
returns-then-number-len-clause-used c =
    let rows = c.args.rows.now in
    let count = used_count rows.items in
    let past : length (used_in rows.items) ≤ c.args.number = omega (arith, c.len.ensures, rows.ok.0, c.if-number-len.true) in
    set_past (used_in rows.items) c.args.number c.args.used past

pub returns-clause-used : goal.returns-clause-used
returns-clause-used c = used_set c.args.rows.now.items c.args.number (record { used = c.args.used; capacity = c.index.result.now.capacity })

pub returns-clause-capacities : goal.returns-clause-capacities
returns-clause-capacities c =
    let rows = c.args.rows.now in
    let here : c.args.number < length rows.items = omega (arith, c.len.ensures, rows.ok.0, c.if-number-len.false) in
    let read = get_or_read rows.items c.args.number c.index.result.now here c.index.ensures no_narrow_load in
    narrow_capacities_stay rows.items c.args.number (record { used = c.args.used; capacity = c.index.result.now.capacity }) (ap (λ (row : NarrowLoad). row.capacity) read)
