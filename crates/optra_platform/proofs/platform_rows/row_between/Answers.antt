use Rattle.std.proofs.Common.{◌<◌, ◌-◌, ◌+◌, ℕ, min, Some, sym, ap, ◌∙◌, arith}
use Rattle.std.proofs.lemmas.List.FromFn.{length-map-range_with_len, get_or-map-range_with_len}
use Rattle.std.proofs.lemmas.Option.{slice_get-get_or, slice_get_past}
use Rattle.optra_platform.specs.Platforms.{row_at, rows_between}
use Rattle.optra_platform.proofs.platform_rows.row_between.Goals as goal

pub returns-then-k-saturating_sub : goal.returns-then-k-saturating_sub
returns-then-k-saturating_sub c =
    let count = length-map-range_with_len (row_at c.args.station) c.args.from (min c.args.until 2880 - c.args.from) in
    sym (slice_get_past (rows_between c.args.station c.args.from c.args.until) c.args.k (omega arith))

pub returns : goal.returns
returns c =
    let n : ℕ = min c.args.until 2880 - c.args.from in
    let within : c.args.k < n = omega arith in
    let count = length-map-range_with_len (row_at c.args.station) c.args.from (min c.args.until 2880 - c.args.from) in
    sym (slice_get-get_or (rows_between c.args.station c.args.from c.args.until) c.args.k (row_at c.args.station 0) (omega arith)
    ∙ ap Some (get_or-map-range_with_len (row_at c.args.station) c.args.from n c.args.k (c.args.from + c.args.k) (row_at c.args.station 0) within (omega arith)))
