-- How many of the first stations are left without the last ones that are far, station by station.
use Rattle.std.proofs.Common.{◌≡◌, ◌⊎◌, ℕ, zero, suc, ◌+◌, ◌<◌, ◌≤◌, List, [], ◌∷◌, ◌++◌, length, get_or, slice_index, refl, sym, ap, ◌∙◌, subst, inl, inr, arith}
use Rattle.std.proofs.lemmas.List.{get_or_append_left}
use Rattle.std.proofs.Math.Seq.{get_or-append_seam}
use Rattle.optra_bid.specs.Specs.{Path}
use Rattle.optra_rests.specs.Reaches.{IsNear, IsWithoutFar}

less_or_same : (s n : ℕ) → s ≤ n → (s < n) ⊎ (s ≡ n)
less_or_same zero zero l = inr refl
less_or_same zero (suc n) l = inl (omega arith)
less_or_same (suc s) zero l = absurd (omega (arith, l))
less_or_same (suc s) (suc n) l = up (less_or_same s n (omega (arith, l)))
  where
    up : (s < n) ⊎ (s ≡ n) → (suc s < suc n) ⊎ (suc s ≡ suc n)
    up (inl m) = inl (omega (arith, m))
    up (inr e) = inr (ap suc e)

module _ (path : Path) (from on : List ℕ) where
  pub without_near : (n left : ℕ) → left ≡ n + 1 → IsWithoutFar path from on (n + 1) left
  without_near n left is = record { fewer = omega (arith, is); far = λ s l m near. absurd (omega (arith, is, l, m)) }

  pub without_more : (n left next : ℕ) → next ≡ left → (IsNear path from on n → ⊥) → IsWithoutFar path from on n left → IsWithoutFar path from on (n + 1) next
  without_more n left next is not before = record { fewer = (let f = before.fewer in omega (arith, is, f)); far = far }
    where
      far : (s : ℕ) → next ≤ s → s < n + 1 → IsNear path from on s → ⊥
      far s l m near = by (less_or_same s n (omega (arith, m)))
        where
          by : (s < n) ⊎ (s ≡ n) → ⊥
          by (inl less) = before.far s (omega (arith, is, l)) less near
          by (inr same) = not (subst (IsNear path from on) same near)

  pub each_more : (skips more : List ℕ) (n left : ℕ) → more ≡ skips ++ left ∷ [] → length skips ≡ n + 1 → ((count : ℕ) → count ≤ n → IsWithoutFar path from on count (slice_index skips count))
      → IsWithoutFar path from on (n + 1) left → (count : ℕ) → count ≤ n + 1 → IsWithoutFar path from on count (slice_index more count)
  each_more skips more n left is len each here count l = by (less_or_same count (n + 1) l)
    where
      by : (count < n + 1) ⊎ (count ≡ n + 1) → IsWithoutFar path from on count (slice_index more count)
      by (inl less) = subst (IsWithoutFar path from on count) (sym (ap (λ xs. slice_index xs count) is ∙ get_or_append_left skips (left ∷ []) 0 count (omega (arith, len, less)))) (each count (omega (arith, less)))
      by (inr same) = subst (λ k. IsWithoutFar path from on k (slice_index more k)) (sym same)
          (subst (IsWithoutFar path from on (n + 1)) (sym (ap (λ xs. slice_index xs (n + 1)) is ∙ ap (λ k. get_or (skips ++ left ∷ []) k 0) (sym len) ∙ get_or-append_seam skips left [] 0)) here)
