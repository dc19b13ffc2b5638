-- How many rows of crossings a network has at most.
use Rattle.std.proofs.Common.{◌≡◌, ℕ, ◌+◌, ◌*◌, ◌<◌, ◌^◌, inl, inr, true, get_or, arith}
use Rattle.std.proofs.lemmas.List.Elements.{All-get_or, All-from_get_or}
use Rattle.std.specs.Prelude.{All}
use Rattle.std.specs.declared.cmp.Ordering.TheVariants.{Less}
use Rattle.optra_network.specs.Net.{Net, IsProper}
use Rattle.optra_network.proofs.HeadwayLemmas.{below_types}
use Rattle.optra_rows.specs.PlaceCounts.{few_by_places, last_part, less_parts}
use Rattle.optra_cert.specs.Counts.{AreFewerThan}
use Rattle.optra_cross.specs.declared.CRow.{CRow}
use Rattle.optra_cross.specs.CrossLemmas.{row_cmp}
use Rattle.optra_cross.specs.Crosses.{cross_rows, is_row_of}
use Rattle.optra_cross.specs.PlaceLemmas.{row_parts}

-- the place of a row among all that could be there
abbrev place : CRow → ℕ
place row =
    ((((row.first_track.0 * 2880 + row.first_at) * 16 + row.first.0) * 1000 + row.second_track.0) * 2880 + row.second_at) * 16 + row.second.0

-- its numbers are in their ranges
record IsSmall (row : CRow) : Type 0 where
  first_track : row.first_track.0 < 1000
  first_at : row.first_at < 2880
  first : row.first.0 < 16
  second_track : row.second_track.0 < 1000
  second_at : row.second_at < 2880
  second : row.second.0 < 16

row_small : (net : Net) (row : CRow) → IsProper net → is_row_of net row ≡ true → IsSmall row
row_small net row proper is =
    let clash = (row_parts net row is).1 in
    let first = below_types net row.first_track row.first proper clash.first.may in
    let second = below_types net row.second_track row.second proper clash.second.may in
    let few = proper.built.counts.few_tracks in
    let early = clash.first.day in
    let late = clash.second.day in
    record {
      first_track = omega (arith, few, first.2);
      first_at = omega (arith, early);
      first = first.1;
      second_track = omega (arith, few, second.2);
      second_at = omega (arith, late);
      second = second.1;
    }

place_small : (row : CRow) → IsSmall row → place row < 46080000 * 46080000
place_small row small =
    let a = small.first_track in let t = small.first_at in let c = small.first in let b = small.second_track in let u = small.second_at in let d = small.second in
    omega (arith, a, t, c, b, u, d)

places_rise : (a b : CRow) → IsSmall a → IsSmall b → row_cmp a b ≡ Less → place a < place b
places_rise a b sa sb less =
    let ta = sa.first_at in let tb = sb.first_at in let ca = sa.first in let cb = sb.first in let ka = sa.second_track in let kb = sb.second_track in
    let ua = sa.second_at in let ub = sb.second_at in let da = sa.second in let db = sb.second in
    elim (less_parts a.first_track.0 b.first_track.0 _ less) [
      | inl lt ↦ omega (arith, lt, ta, ca, ka, ua, da)
      | inr k_same ↦ let ek = k_same.0 in elim (less_parts a.first_at b.first_at _ k_same.1) [
        | inl lt ↦ omega (arith, ek, lt, ca, ka, ua, da)
        | inr t_same ↦ let et = t_same.0 in elim (less_parts a.first.0 b.first.0 _ t_same.1) [
          | inl lt ↦ omega (arith, ek, et, lt, ka, ua, da)
          | inr c_same ↦ let ec = c_same.0 in elim (less_parts a.second_track.0 b.second_track.0 _ c_same.1) [
            | inl lt ↦ omega (arith, ek, et, ec, lt, ua, da)
            | inr l_same ↦ let el = l_same.0 in elim (less_parts a.second_at b.second_at _ l_same.1) [
              | inl lt ↦ omega (arith, ek, et, ec, el, lt, da)
              | inr u_same ↦ let eu = u_same.0 in let l = last_part a.second.0 b.second.0 u_same.1 in omega (arith, ek, et, ec, el, eu, l)
            ]
          ]
        ]
      ]
    ]

-- an ascending list of rows of crossings has fewer than 10^16
pub few_rows : (net : Net) → IsProper net → AreFewerThan row_cmp (cross_rows net) (10 ^ 16)
few_rows net proper rows ascend are =
    let few = few_by_places row_cmp place IsSmall places_rise rows ascend small d (46080000 * 46080000) place_small in omega (arith, few)
  where
    d : CRow
    d = record {
      first_track = record { 0 = 0 };
      first_at = 0;
      first = record { 0 = 0 };
      second_track = record { 0 = 0 };
      second_at = 0;
      second = record { 0 = 0 };
    }

    small : All IsSmall rows
    small = All-from_get_or IsSmall rows d
        (λ i within. row_small net (get_or rows i d) proper (All-get_or (λ row. is_row_of net row ≡ true) rows i d within are))
