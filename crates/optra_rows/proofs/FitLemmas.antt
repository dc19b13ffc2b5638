-- Legs that fit one after the other use no row above its capacity.
use Rattle.std.proofs.Common.{◌≡◌, ℕ, ◌+◌, ◌^◌, ◌<◌, ◌≤◌, inl, inr, true, List, [], ◌∷◌, ◌++◌, arith}
use Rattle.std.proofs.lemmas.Bool.{cases_eq}
use Rattle.std.proofs.lemmas.List.Sums.{sum_by-append, sum_by-cons}
use Rattle.optra_network.specs.declared.TypeId.{TypeId}
use Rattle.optra_walk.specs.declared.Leg.{Leg}
use Rattle.optra_walk.specs.Families.{Entry, Rows, FitRows, HasRoom, load_of}

module _ {R : Type 0} (rows : Rows R) where
  -- one more leg
  pub load_of-more : (row : R) (entries : List Entry) (e : Entry) → load_of rows row (entries ++ e ∷ []) ≡ load_of rows row entries + rows.uses e.0 e.1 row
  load_of-more row entries e =
      let front = sum_by-append (λ (x : Entry). rows.uses x.0 x.1 row) entries (e ∷ []) in
      let last = sum_by-cons (λ (x : Entry). rows.uses x.0 x.1 row) e [] in omega arith

  -- what fits with the totals of legs that fit fits with them
  pub fits_more : (entries : List Entry) (e : Entry) (total : R → ℕ) → ((row : R) → total row ≡ load_of rows row entries) → FitRows rows entries → HasRoom rows total e.0 e.1 → FitRows rows (entries ++ e ∷ [])
  fits_more entries e total is fits room row is_row =
      let more = load_of-more row entries e in
      let before = fits row is_row in
      let same = is row in
      elim (cases_eq (rows.uses e.0 e.1 row) 0) [
        | inl z ↦ omega arith
        | inr nz ↦ let r = room row (omega arith) in omega arith
      ]

  -- and its totals stay far below what a total holds
  pub room_below : (total : R → ℕ) (kind : TypeId) (leg : Leg) → ((row : R) → rows.is_row row ≡ true → rows.capacity row ≤ 65535) → ((row : R) → 0 < rows.uses kind leg row → rows.is_row row ≡ true)
      → ((row : R) → total row < 2 ^ 62) → HasRoom rows total kind leg → (row : R) → total row + rows.uses kind leg row < 2 ^ 62
  room_below total kind leg small are_rows below room row =
      let old = below row in
      elim (cases_eq (rows.uses kind leg row) 0) [
        | inl z ↦ omega arith
        | inr nz ↦
            let r = room row (omega arith) in
            let most = small row (are_rows row (omega arith)) in omega arith
      ]
