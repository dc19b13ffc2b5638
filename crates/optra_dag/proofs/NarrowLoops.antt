-- What the loops over the arcs of one node keep.
use Rattle.std.proofs.Common.{◌≡◌, ◌≢◌, ℕ, ◌+◌, cond, ◌<◌, ◌≤◌, ◌⊎◌, inl, inr, Bool, true, false, refl, sym, subst, arith, ℤ, ◌≤ℤ◌, ◌<ℤ◌}
use Rattle.std.proofs.lemmas.Bool.{cases_lt}
use Rattle.std.proofs.Math.Nat.{eq-or-lt_of_le}
use Rattle.std.specs.Int.{int_max}
use Rattle.std.specs.Prelude.{int_lt}
use lib.Signed.{lt_z}
use Rattle.std.proofs.lemmas.Int.{ints}
use Rattle.optra_dag.specs.Spans.{StandsIn}
use Rattle.optra_dag.specs.NarrowSums.{far, value_of, IsFirstBy}
use Rattle.optra_dag.specs.declared.spans.Span.{Span}

abbrev span_of : ℕ → ℕ → Span
span_of a b = record { start = a; stop = b }

le_self : (a : ℤ) → a ≤ℤ a
le_self a = omega (arith, ints)

le_le : (a b c : ℤ) → a ≤ℤ b → b ≤ℤ c → a ≤ℤ c
le_le a b c h l = omega (arith, ints)

le_same : (a b : ℤ) → a ≡ b → a ≤ℤ b
le_same a b h = omega (arith, ints)

-- what the call that gives an arc's value says of it
pub value_by : (allowed : Bool) (weight r : ℤ) → (allowed ≡ true → r ≡ weight) → (allowed ≡ false → r ≡ far) → r ≡ value_of allowed weight
value_by true weight r on off = on refl
value_by false weight r on off = off refl

pub max_is : (a b r : ℤ) → r ≡ int_max a b → (r ≡ a) ⊎ (r ≡ b)
max_is a b r e = by (int_lt b a) refl e
  where
    by : (t : Bool) → int_lt b a ≡ t → r ≡ cond t a b → (r ≡ a) ⊎ (r ≡ b)
    by true d e = inl e
    by false d e = inr e

-- the first arc on does not give the sum
pub one_on : (by : ℕ → ℤ) (sum : ℤ) (k stop : ℕ) → by k ≢ sum → (j : ℕ) × StandsIn (span_of k stop) j × (by j ≡ sum)
    → (j : ℕ) × StandsIn (span_of (k + 1) stop) j × (by j ≡ sum)
one_on by sum k stop off h = (h.0, (further (eq-or-lt_of_le h.1.0), h.1.1), h.2)
  where
    further : (k ≡ h.0) ⊎ (k < h.0) → k + 1 ≤ h.0
    further (inl e) = absurd (off (subst (λ i. by i ≡ sum) (sym e) h.2))
    further (inr l) = omega arith

pub passed_on : (by : ℕ → ℤ) (sum : ℤ) (span : Span) (k : ℕ) → by k ≢ sum → ((j : ℕ) → StandsIn span j → j < k → by j ≢ sum)
    → (j : ℕ) → StandsIn span j → j < k + 1 → by j ≢ sum
passed_on by sum span k off h j s l = at (cases_lt j k)
  where
    at : (j < k) ⊎ (k ≤ j) → by j ≢ sum
    at (inl m) = h j s m
    at (inr m) = let e : k ≡ j = omega arith in subst (λ i. by i ≢ sum) e off

-- the first arc of a span that gives a sum
pub first_by : (by : ℕ → ℤ) (sum : ℤ) (span : Span) (k : ℕ) → StandsIn span k → by k ≡ sum → ((j : ℕ) → StandsIn span j → j < k → by j ≢ sum) → IsFirstBy by span sum k
first_by by sum span k s e h = record { stands = s; gives = e; first = h }

pub is_below : (a b : ℤ) → lt_z a b ≡ true → a <ℤ b
is_below a b e = grind (arith, ints)
