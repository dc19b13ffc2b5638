-- How many rows of headways a network has at most.
use Rattle.std.proofs.Common.{◌≡◌, ℕ, ◌+◌, ◌*◌, ◌<◌, inl, inr, true, nat_le, nat_lt, List, length, get_or, arith}
use Rattle.std.proofs.lemmas.Bool.{ltb-true, leb-true, and_parts}
use Rattle.std.proofs.lemmas.List.Elements.{All-get_or, All-from_get_or}
use Rattle.std.specs.Prelude.{All}
use Rattle.std.specs.List.{AllPairs}
use Rattle.std.specs.Ordering.{nat_cmp}
use Rattle.std.specs.declared.cmp.Ordering.TheVariants.{Less, Greater}
use Rattle.optra_network.specs.Net.{Net, IsProper}
use Rattle.optra_network.specs.Partners.{is_paired}
use Rattle.optra_network.proofs.HeadwayLemmas.{below_types}
use Rattle.optra_network.proofs.PartnerLemmas.{pair_parts}
use Rattle.optra_rows.specs.declared.HRow.{HRow}
use Rattle.optra_rows.specs.declared.HRow.TheVariants.{Window, Pair}
use Rattle.optra_rows.specs.Headways.{is_row_of}
use Rattle.optra_rows.specs.TouchedLemmas.{row_cmp}
use Rattle.optra_rows.specs.PlaceCounts.{few_by_places, last_part, less_parts}

-- ---- the place of a row among all that could be there

abbrev pub place : HRow → ℕ
place (Window k m) = k.0 * 3000 + m
place (Pair k t a u b) = 3000000 + ((((k.0 * 2880 + t) * 16 + a.0) * 2880 + u) * 16 + b.0)

-- its numbers are in their ranges
abbrev pub IsSmall : HRow → Type 0
IsSmall (Window k m) = (k.0 < 1000) × (m < 3000)
IsSmall (Pair k t a u b) = (k.0 < 1000) × (t < 2880) × (a.0 < 16) × (u < 2880) × (b.0 < 16)

row_small : (net : Net) (row : HRow) → IsProper net → is_row_of net row ≡ true → IsSmall row
row_small net (Window k m) proper is =
    let parts = and_parts (nat_lt k.0 (length net.tracks)) (nat_le m 2998) is in
    let few = proper.built.counts.few_tracks in
    let track = ltb-true k.0 (length net.tracks) parts.0 in
    let minute = leb-true m 2998 parts.1 in
    (omega (arith, few, track), omega (arith, minute))
row_small net (Pair k t a u b) proper is =
    let parts = and_parts (is_paired net k t a u b) (nat_le u 2879) is in
    let pair = pair_parts net k t a u b parts.0 in
    let late = leb-true u 2879 parts.1 in
    let first = below_types net k a proper pair.first in
    let second = below_types net k b proper pair.second in
    let few = proper.built.counts.few_tracks in
    let apart = pair.apart in
    (omega (arith, few, first.2), omega (arith, apart, late), first.1, omega (arith, late), second.1)

place_small : (row : HRow) → IsSmall row → place row < 3000000 + 1000 * 2880 * 16 * 2880 * 16
place_small (Window k m) small = let a = small.0 in let b = small.1 in omega (arith, a, b)
place_small (Pair k t a u b) small =
    let p = small.0 in let q = small.1 in let r = small.2 in let s = small.3 in let w = small.4 in omega (arith, p, q, r, s, w)

-- ---- it rises with the order of rows

places_rise : (a b : HRow) → IsSmall a → IsSmall b → row_cmp a b ≡ Less → place a < place b
places_rise (Window k m) (Window k' m') sa sb less =
    let m_small = sa.1 in
    elim (less_parts k.0 k'.0 (nat_cmp m m') less) [
      | inl lt ↦ omega (arith, lt, m_small)
      | inr same ↦ let e = same.0 in let l = last_part m m' same.1 in omega (arith, e, l)
    ]
places_rise (Window k m) (Pair k' t' a' u' b') sa sb less = let p = sa.0 in let q = sa.1 in omega (arith, p, q)
places_rise (Pair k t a u b) (Window k' m') sa sb less = absurd (let bad : Greater ≡ Less = less in cc bad)
places_rise (Pair k t a u b) (Pair k' t' a' u' b') sa sb less =
    let st = sa.1 in let st' = sb.1 in let ta = sa.2 in let ta' = sb.2 in let su = sa.3 in let su' = sb.3 in let tb = sa.4 in let tb' = sb.4 in
    elim (less_parts k.0 k'.0 _ less) [
      | inl lt ↦ omega (arith, lt, st, ta, su, tb)
      | inr k_same ↦ let ek = k_same.0 in elim (less_parts t t' _ k_same.1) [
        | inl lt ↦ omega (arith, ek, lt, ta, su, tb)
        | inr t_same ↦ let et = t_same.0 in elim (less_parts a.0 a'.0 _ t_same.1) [
          | inl lt ↦ omega (arith, ek, et, lt, su, tb)
          | inr a_same ↦ let ea = a_same.0 in elim (less_parts u u' _ a_same.1) [
            | inl lt ↦ omega (arith, ek, et, ea, lt, tb)
            | inr u_same ↦ let eu = u_same.0 in let l = last_part b.0 b'.0 u_same.1 in omega (arith, ek, et, ea, eu, l)
          ]
        ]
      ]
    ]

-- ---- so there are few

-- an ascending list of rows of headways has fewer than 10^13
pub few_rows : (net : Net) (rows : List HRow) → IsProper net → AllPairs (λ a b. row_cmp a b ≡ Less) rows → All (λ row. is_row_of net row ≡ true) rows → length rows < 10000000000000
few_rows net rows proper ascend are =
    let few = few_by_places row_cmp place IsSmall places_rise rows ascend small d (3000000 + 1000 * 2880 * 16 * 2880 * 16) place_small in omega (arith, few)
  where
    d : HRow
    d = Window (record { 0 = 0 }) 0

    small : All IsSmall rows
    small = All-from_get_or IsSmall rows d
        (λ i within. row_small net (get_or rows i d) proper (All-get_or (λ row. is_row_of net row ≡ true) rows i d within are))
