-- Rows of which more is used than their capacity are found among the active ones.
use Rattle.std.proofs.Common.{◌≡◌, ℕ, ◌+◌, List, [], ◌∷◌, ◌++◌, Some, slice_get, sym, ap, ◌∙◌, subst, inl, inr}
use Rattle.std.specs.Prelude.{Contains, ◌⊎◌, slice_index}
use Rattle.std.proofs.lemmas.List.Elements.{All-append, All-cons, All-nil, Contains-append_left, Contains-push}
use Rattle.std.proofs.lemmas.Option.{same_Some}
use Rattle.optra_prices.specs.Levels.{IsLeft}
use Rattle.optra_prices.specs.Overfull.{IsAbove, IsRowAbove, ListsAboveTo}
use Rattle.optra_prices.specs.declared.levels.Levels.{Levels}
use Rattle.optra_prices.proofs.LevelLemmas.{left_next}

module _ {R : Type 0} (numbered : List R) (l : Levels) (k : ℕ) (listed : List R) (to : ListsAboveTo numbered l k listed) where
  -- the row at place k is listed
  pub above_pushed : (row : R) → slice_get numbered (slice_index l.active.items k) ≡ Some row → IsAbove l (slice_index l.active.items k) → ListsAboveTo numbered l (k + 1) (listed ++ row ∷ [])
  above_pushed row at above = record {
    sound = All-append (IsRowAbove numbered l) listed (row ∷ []) to.sound (All-cons (IsRowAbove numbered l) row [] (slice_index l.active.items k, at, above) (All-nil (IsRowAbove numbered l)));
    rest = λ n other other_at over. elim (to.rest n other other_at over) as (λ _. Contains (listed ++ row ∷ []) other ⊎ IsLeft l.active.items (k + 1) n) [
      | inl before ↦ inl (Contains-append_left listed (row ∷ []) other before)
      | inr left ↦ elim (left_next l.active.items k n left) as (λ _. Contains (listed ++ row ∷ []) other ⊎ IsLeft l.active.items (k + 1) n) [
        | inl here ↦ inl (subst (Contains (listed ++ row ∷ [])) (same_Some row other (sym at ∙ ap (slice_get numbered) here ∙ other_at)) (Contains-push listed row))
        | inr later ↦ inr later
      ]
    ];
  }

  -- no more is used of the row at place k than its capacity
  pub above_passed : (IsAbove l (slice_index l.active.items k) → ⊥) → ListsAboveTo numbered l (k + 1) listed
  above_passed few = record {
    sound = to.sound;
    rest = λ n other other_at over. elim (to.rest n other other_at over) as (λ _. Contains listed other ⊎ IsLeft l.active.items (k + 1) n) [
      | inl before ↦ inl before
      | inr left ↦ elim (left_next l.active.items k n left) as (λ _. Contains listed other ⊎ IsLeft l.active.items (k + 1) n) [
        | inl here ↦ absurd (few (subst (IsAbove l) (sym here) over))
        | inr later ↦ inr later
      ]
    ];
  }
