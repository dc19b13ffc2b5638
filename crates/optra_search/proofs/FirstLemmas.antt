-- The first element of a list of which something holds.
use Rattle.std.proofs.Common.{◌≡◌, ℕ, zero, suc, ◌<◌, List, length, get_or, Some, slice_get, refl, sym, ap, subst, arith, inl, inr}
use Rattle.std.specs.Prelude.{Contains, ◌⊎◌}
use Rattle.std.proofs.lemmas.Option.{get_or_from_slice_get, slice_get_within, slice_get-get_or}
use Rattle.std.proofs.lemmas.List.Elements.{All-contains}
use Rattle.optra_prices.proofs.RepairLemmas.{some_is}
use Rattle.optra_search.specs.Splits.{IsFirst, HoldsOfNone}

-- less, equal or greater
pub compare : (m n : ℕ) → (m < n) ⊎ ((m ≡ n) ⊎ (n < m))
compare zero zero = inr (inl refl)
compare zero (suc n) = inl (omega arith)
compare (suc m) zero = inr (inr (omega arith))
compare (suc m) (suc n) = by (compare m n)
  where
    by : (m < n) ⊎ ((m ≡ n) ⊎ (n < m)) → (suc m < suc n) ⊎ ((suc m ≡ suc n) ⊎ (suc n < suc m))
    by (inl l) = inl (omega arith)
    by (inr (inl e)) = inr (inl (ap suc e))
    by (inr (inr l)) = inr (inr (omega arith))

pub contains_at : {X : Type 0} (xs : List X) (k : ℕ) (x : X) → slice_get xs k ≡ Some x → Contains xs x
contains_at xs k x at = (k, slice_get_within xs k x at, get_or_from_slice_get xs k x x at)

pub none_at : {X : Type 0} (P : X → Type 0) (xs : List X) (k : ℕ) (x : X) → HoldsOfNone P xs → slice_get xs k ≡ Some x → P x → ⊥
none_at P xs k x none at = All-contains (λ y. P y → ⊥) xs x none (contains_at xs k x at)

pub first_or_none : {X : Type 0} (P : X → Type 0) (xs : List X) (x : X) → HoldsOfNone P xs → IsFirst P xs x → ⊥
first_or_none P xs x none is = none_at P xs is.place x none is.at is.is

-- the first element is one
pub first_unique : {X : Type 0} (P : X → Type 0) (xs : List X) (a b : X) → IsFirst P xs a → IsFirst P xs b → a ≡ b
first_unique P xs a b p q = by (compare p.place q.place)
  where
    by : (p.place < q.place) ⊎ ((p.place ≡ q.place) ⊎ (q.place < p.place)) → a ≡ b
    by (inl l) = absurd (q.first p.place a l p.at p.is)
    by (inr (inl e)) = some_is (subst (λ (n : ℕ). slice_get xs n ≡ Some a) e p.at) q.at
    by (inr (inr l)) = absurd (p.first q.place b l q.at q.is)

-- an element of which it holds, where it holds of none before
pub first_reached : {X : Type 0} (P : X → Type 0) (xs : List X) (n : ℕ) (d : X) → n < length xs → ((k : ℕ) (e : X) → k < n → P (get_or xs k e) → ⊥) → P (get_or xs n d) → IsFirst P xs (get_or xs n d)
first_reached P xs n d l none p = record {
  place = n;
  at = slice_get-get_or xs n d l;
  is = p;
  first = λ k earlier m e q. none k earlier m (subst P (sym (get_or_from_slice_get xs k earlier earlier e)) q);
}
