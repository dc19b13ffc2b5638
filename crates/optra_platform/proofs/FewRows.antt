-- How many rows of platforms a network has at most.
use Rattle.std.proofs.Common.{◌≡◌, ℕ, ◌+◌, ◌*◌, ◌<◌, ◌^◌, inl, inr, true, get_or, arith}
use Rattle.std.proofs.lemmas.Bool.{ltb-true, leb-true, and_parts}
use Rattle.std.proofs.lemmas.List.Elements.{All-get_or, All-from_get_or}
use Rattle.std.specs.Prelude.{All}
use Rattle.std.specs.Ordering.{nat_cmp}
use Rattle.std.specs.declared.cmp.Ordering.TheVariants.{Less}
use Rattle.optra_network.specs.Net.{Net, IsProper}
use Rattle.optra_rows.specs.PlaceCounts.{few_by_places, last_part, less_parts}
use Rattle.optra_cert.specs.Counts.{AreFewerThan}
use Rattle.optra_platform.specs.declared.PRow.{PRow}
use Rattle.optra_platform.specs.PlatformLemmas.{row_cmp}
use Rattle.optra_platform.specs.PlatformTextLemmas.{limited_there}
use Rattle.optra_platform.specs.Platforms.{is_row_of, platform_rows}

-- the place of a row among all that could be there
abbrev place : PRow → ℕ
place row = row.station.0 * 2880 + row.minute

-- its numbers are in their ranges
abbrev IsSmall : PRow → Type 0
IsSmall row = (row.station.0 < 300) × (row.minute < 2880)

row_small : (net : Net) (row : PRow) → IsProper net → is_row_of net row ≡ true → IsSmall row
row_small net row proper is =
    let parts = and_parts _ _ is in
    let there = limited_there net proper row.station (ltb-true _ _ parts.0) in
    let few = proper.built.counts.few_stations in
    let day = leb-true _ _ parts.1 in
    (omega (arith, there, few), omega (arith, day))

place_small : (row : PRow) → IsSmall row → place row < 300 * 2880
place_small row small = let s = small.0 in let m = small.1 in omega (arith, s, m)

places_rise : (a b : PRow) → IsSmall a → IsSmall b → row_cmp a b ≡ Less → place a < place b
places_rise a b sa sb less =
    let m_small = sa.1 in
    elim (less_parts a.station.0 b.station.0 (nat_cmp a.minute b.minute) less) [
      | inl lt ↦ omega (arith, lt, m_small)
      | inr same ↦ let e = same.0 in let l = last_part a.minute b.minute same.1 in omega (arith, e, l)
    ]

-- an ascending list of rows of platforms has fewer than 10^6
pub few_rows : (net : Net) → IsProper net → AreFewerThan row_cmp (platform_rows net) (10 ^ 6)
few_rows net proper rows ascend are =
    let few = few_by_places row_cmp place IsSmall places_rise rows ascend small d (300 * 2880) place_small in omega (arith, few)
  where
    d : PRow
    d = record { station = record { 0 = 0 }; minute = 0 }

    small : All IsSmall rows
    small = All-from_get_or IsSmall rows d
        (λ i within. row_small net (get_or rows i d) proper (All-get_or (λ row. is_row_of net row ≡ true) rows i d within are))
