-- Places in rows, among them all whose flags are set.
use Rattle.std.proofs.Common.{◌≡◌, ℕ, ◌+◌, ◌≤◌, ◌<◌, ◌⊎◌, inl, inr, Bool, List, length, ap, arith}
use Rattle.std.specs.Prelude.{slice_index, slice_index_or}
use Rattle.std.proofs.lemmas.Bool.{cases_lt}
use Rattle.std.proofs.lemmas.List.{get_or_default, get_or_past}
use Rattle.std.proofs.Math.Nat.{eq-or-lt_of_le}
use Rattle.optra_graph.specs.Flags.{IsSet}
use Rattle.optra_graph.specs.StepTables.{AreListed}

module _ (end : ℕ) (flags : List Bool) (places : List ℕ) (h : AreListed flags end places) where
  -- behind all rows comes the end
  pub row_end : (row : ℕ) → length places ≤ row → slice_index_or places row end ≡ end
  row_end row l = get_or_past places row end l

  pub row_here : (row : ℕ) → row < length places → slice_index_or places row end ≡ slice_index places row
  row_here row l = get_or_default places row end 0 l

  -- the next row is of a later place, or is the end
  pub row_next : (row : ℕ) → row < length places → slice_index places row + 1 ≤ slice_index_or places (row + 1) end
  row_next row l = by (cases_lt (row + 1) (length places))
    where
      by : (row + 1 < length places) ⊎ (length places ≤ row + 1) → slice_index places row + 1 ≤ slice_index_or places (row + 1) end
      by (inl m) = let e = row_here (row + 1) m in let r = h.rising row (row + 1) (omega arith) m in omega arith
      by (inr m) = let e = row_end (row + 1) m in let w = h.within row l in omega arith

  pub row_most : (row : ℕ) → slice_index_or places row end ≤ end
  row_most row = by (cases_lt row (length places))
    where
      by : (row < length places) ⊎ (length places ≤ row) → slice_index_or places row end ≤ end
      by (inl m) = let e = row_here row m in let w = h.within row m in omega arith
      by (inr m) = let e = row_end row m in omega arith

  -- no flag is set behind the places of the rows before one and before its own
  none_between : (row place : ℕ) → ((r : ℕ) → r < row → r < length places → slice_index places r < place) → place < slice_index_or places row end → IsSet flags place → ⊥
  none_between row place low high s =
      let m = row_most row in
      let w = h.listed place (omega arith) s in
      by w.0 w.1 w.2 (cases_lt w.0 row)
    where
      by : (r : ℕ) → r < length places → slice_index places r ≡ place → (r < row) ⊎ (row ≤ r) → ⊥
      by r l e (inl b) = let a = low r b l in absurd (omega arith)
      by r l e (inr b) = let f = row_here row (omega arith) in on (eq-or-lt_of_le b) f
        where
          on : (row ≡ r) ⊎ (row < r) → slice_index_or places row end ≡ slice_index places row → ⊥
          on (inl c) f = let g = ap (slice_index places) c in absurd (omega arith)
          on (inr c) f = let g = h.rising row r c l in absurd (omega arith)

  pub none_first : (place : ℕ) → 0 ≤ place → place < slice_index_or places 0 end → IsSet flags place → ⊥
  none_first place _ high s = none_between 0 place (λ r b l. absurd (omega arith)) high s

  pub none_next : (row : ℕ) → row < length places → (place : ℕ) → slice_index places row + 1 ≤ place → place < slice_index_or places (row + 1) end → IsSet flags place → ⊥
  none_next row l place a high s = none_between (row + 1) place (λ r b m. low r b m (eq-or-lt_of_le (r_most r b))) high s
    where
      r_most : (r : ℕ) → r < row + 1 → r ≤ row
      r_most r b = omega arith

      low : (r : ℕ) → r < row + 1 → r < length places → (r ≡ row) ⊎ (r < row) → slice_index places r < place
      low r b m (inl c) = let g = ap (slice_index places) c in omega arith
      low r b m (inr c) = let g = h.rising r row c l in omega arith
