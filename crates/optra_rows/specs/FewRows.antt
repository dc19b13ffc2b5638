-- How many rows of headways a network has at most.
use Rattle.std.specs.Prelude.{◌≡◌, ◌<◌, ◌^◌, true, List, length, All}
use Rattle.std.specs.List.{AllPairs}
use Rattle.std.specs.declared.cmp.Ordering.TheVariants.{Less}
use Rattle.optra_network.specs.Net.{Net}
use Rattle.optra_rows.specs.Headways.{is_row_of}
use Rattle.optra_rows.specs.TouchedLemmas.{row_cmp}
use Rattle.optra_rows.specs.declared.HRow.{HRow}

-- an ascending list of rows has fewer than 10^13
abbrev pub AreFewHeadways : Net → Type 0
AreFewHeadways net =
    (rows : List HRow) → AllPairs (λ a b. row_cmp a b ≡ Less) rows → All (λ row. is_row_of net row ≡ true) rows → length rows < 10 ^ 13
