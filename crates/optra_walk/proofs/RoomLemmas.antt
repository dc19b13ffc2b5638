-- A leg fits where each row of its list has room.
use Rattle.std.proofs.Common.{◌≡◌, ℕ, ◌+◌, ◌<◌, ◌≤◌, ◌↔◌, inl, inr, Bool, IsTrue, [], ◌∷◌, Option, Some, None, IfSome, List, length, slice_get, get_or, Contains, refl, sym, ap, ◌∙◌, subst, arith}
use Rattle.std.proofs.lemmas.Bool.{cases_lt}
use Rattle.std.proofs.lemmas.Option.{slice_get-get_or, slice_get_within, get_or_from_slice_get}
use Rattle.optra_network.specs.declared.TypeId.{TypeId}
use Rattle.optra_walk.specs.declared.Leg.{Leg}
use Rattle.optra_walk.specs.Families.{Rows, HasRoom}

module _ {Row : Type 0} (rows : List Row) where
  pub at_contains : (k : ℕ) (row : Row) → slice_get rows k ≡ Some row → Contains rows row
  at_contains k row e = (k, slice_get_within rows k row e, get_or_from_slice_get rows k row row e)

  pub none_past : (k : ℕ) → slice_get rows k ≡ None → length rows ≤ k
  none_past k e = elim (cases_lt k (length rows)) [
    | inl l ↦ go rows k l e
    | inr le ↦ le
  ]
    where
      use_none : {X : Type 0} (x : X) → Some x ≡ None → ⊥
      use_none x h = cc

      go : (xs : List Row) (k : ℕ) → k < length xs → slice_get xs k ≡ None → length rows ≤ k
      go [] k l h = absurd (omega arith)
      go (x ∷ xs) k l h = absurd (use_none (get_or (x ∷ xs) k x) (sym (slice_get-get_or (x ∷ xs) k x l) ∙ h))

  module _ (total : Row → ℕ) (family : Rows Row) (kind : TypeId) (leg : Leg) (used : (row : Row) → 0 < family.uses kind leg row ↔ Contains rows row) where
    abbrev use_count : Row → ℕ
    use_count row = family.uses kind leg row

    abbrev capacity : Row → ℕ
    capacity row = family.capacity row

    pub room_from_list : (n : ℕ) → length rows ≤ n → ((j : ℕ) → j < n → IfSome (slice_get rows j) (λ row. total row + use_count row ≤ capacity row)) → HasRoom family total kind leg
    room_from_list n few h row pos =
        let c = (used row).0 pos in
        let l = c.1 in
        let at : slice_get rows c.0 ≡ Some row = slice_get-get_or rows c.0 row c.1 ∙ ap Some c.2 in
        subst (λ o. IfSome o (λ r. total r + use_count r ≤ capacity r)) at (h c.0 (omega arith))

    pub positive : (k : ℕ) (row : Row) → slice_get rows k ≡ Some row → 0 < use_count row
    positive k row e = (used row).1 (at_contains k row e)

    pub no_room : (k : ℕ) (row : Row) → slice_get rows k ≡ Some row → capacity row < total row + use_count row → HasRoom family total kind leg → ⊥
    no_room k row e more room = let h = room row (positive k row e) in omega arith

pub room_more : {Row : Type 0} (rows : List Row) (total use_count capacity : Row → ℕ) (k : ℕ) (row : Row)
    → ((j : ℕ) → j < k → IfSome (slice_get rows j) (λ r. total r + use_count r ≤ capacity r)) → slice_get rows k ≡ Some row → total row + use_count row ≤ capacity row
    → (j : ℕ) → j < k + 1 → IfSome (slice_get rows j) (λ r. total r + use_count r ≤ capacity r)
room_more rows total use_count capacity k row h at fits j l = elim (cases_lt j k) [
  | inl b ↦ h j b
  | inr ge ↦
      let same : k ≡ j = omega arith in
      subst (λ n. IfSome (slice_get rows n) (λ r. total r + use_count r ≤ capacity r)) same
      (subst (λ o. IfSome o (λ r. total r + use_count r ≤ capacity r)) (sym at) fits)
]

-- the first k rows of a list have room
abbrev pub HaveRoomBelow : {Row : Type 0} → List Row → (Row → ℕ) → (Row → ℕ) → (Row → ℕ) → ℕ → Type 0
HaveRoomBelow rows total use_count capacity k = (j : ℕ) → j < k → IfSome (slice_get rows j) (λ row. total row + use_count row ≤ capacity row)

-- one row more, by a test of it
pub tested_more : {Row : Type 0} (rows : List Row) (total use_count capacity : Row → ℕ) (k sum cap : ℕ) (row : Row) (before after : Bool)
    → IsTrue before ↔ HaveRoomBelow rows total use_count capacity k → IsTrue after ↔ (IsTrue before × (sum ≤ cap)) → slice_get rows k ≡ Some row
    → sum ≡ total row + use_count row → cap ≡ capacity row → IsTrue after ↔ HaveRoomBelow rows total use_count capacity (k + 1)
tested_more rows total use_count capacity k sum cap row before after is test at sum_is cap_is = (
  λ t. let both = test.0 t in let l = both.1 in room_more rows total use_count capacity k row (is.0 both.0) at (omega arith),
  λ room. test.1 (
    is.1 (λ j l. room j (omega arith)),
    let here : total row + use_count row ≤ capacity row = subst (λ (o : Option _). IfSome o (λ r. total r + use_count r ≤ capacity r)) at (room k (omega arith)) in omega arith,
  ),
)

module _ {Row : Type 0} (rows : List Row) (total : Row → ℕ) (family : Rows Row) (kind : TypeId) (leg : Leg) (used : (row : Row) → 0 < family.uses kind leg row ↔ Contains rows row) where
  room_at : HasRoom family total kind leg → (o : Option Row) → ((row : Row) → o ≡ Some row → 0 < family.uses kind leg row) → IfSome o (λ row. total row + family.uses kind leg row ≤ family.capacity row)
  room_at room None some = tt
  room_at room (Some row) some = room row (some row refl)

  -- all rows are tested
  pub tested_all : (fitted : Bool) (n : ℕ) → length rows ≤ n → IsTrue fitted ↔ HaveRoomBelow rows total (family.uses kind leg) family.capacity n → IsTrue fitted ↔ HasRoom family total kind leg
  tested_all fitted n few is = (
    λ t. room_from_list rows total family kind leg used n few (is.0 t),
    λ room. is.1 (λ j l. room_at room (slice_get rows j) (λ row e. positive rows total family kind leg used j row e)),
  )
