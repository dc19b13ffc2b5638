-- The figures of bids, raised one bid after the other.
use Rattle.std.proofs.Common.{◌≡◌, ℕ, zero, suc, ◌+◌, ◌<◌, ◌≤◌, List, [], ◌∷◌, ◌++◌, length, set, take, get_or, Option, Some, slice_get, refl, sym, ap, ◌∙◌, subst, arith, inl, inr}
use Rattle.std.specs.Prelude.{◌⊎◌}
use Rattle.std.proofs.lemmas.Bool.{cases_lt}
use Rattle.std.proofs.lemmas.List.{length-set}
use Rattle.std.proofs.lemmas.Option.{slice_get-get_or, slice_get_within}
use Rattle.optra_network.specs.Net.{Net}
use Rattle.optra_bid.specs.declared.bids.Bid.{Bid}
use Rattle.optra_walk.specs.Families.{Rows}
use Rattle.optra_node.specs.declared.Decision.{Decision}
use Rattle.optra_node.specs.Duals.{PriceList}
use Rattle.optra_evidence.specs.declared.figures.Figures.{Figures}
use Rattle.optra_evidence.specs.Figures.{raised, IsSaid, IsHeard, AreHeard}

other_set : {X : Type 0} (xs : List X) (i j : ℕ) (v : X) → (i ≡ j → ⊥) → slice_get (set xs i v) j ≡ slice_get xs j
other_set [] i j v apart = refl
other_set (x ∷ xs) zero zero v apart = absurd (apart refl)
other_set (x ∷ xs) zero (suc j) v apart = refl
other_set (x ∷ xs) (suc i) zero v apart = refl
other_set (x ∷ xs) (suc i) (suc j) v apart = other_set xs i j v (λ e. apart (ap suc e))

same_set : {X : Type 0} (xs : List X) (i : ℕ) (v w : X) → slice_get (set xs i v) i ≡ Some w → w ≡ v
same_set [] i v w e = cc
same_set (x ∷ xs) zero v w e = cc
same_set (x ∷ xs) (suc i) v w e = same_set xs i v w e

-- what is written over a whole list is what the list holds then
written_all : {X : Type 0} (new rest : List X) → take (length new) (new ++ rest) ≡ new
written_all [] rest = refl
written_all (x ∷ new) rest = ap (λ xs. x ∷ xs) (written_all new rest)

pub written : {X : Type 0} (n : ℕ) (new rest : List X) → length new ≡ n → take n (new ++ rest) ≡ new
written n new rest e = subst (λ k. take k (new ++ rest) ≡ new) e (written_all new rest)

some_same : {X : Type 0} (o : Option X) (a b : X) → o ≡ Some a → o ≡ Some b → a ≡ b
some_same o a b e f = cc

module _ {R : Type 0} (net : Net) (rows : Rows R) (bids : List Bid) (node : List Decision) (prices : PriceList R) (old : List Figures) where
  -- the first ones are raised, and the others are as they were
  pub record AreHeardTo (i : ℕ) (now : List Figures) : Type 0 where
    pub count : length now ≡ length old
    pub first : (number : ℕ) (bid : Bid) (before after : Figures) → number < i → slice_get bids number ≡ Some bid → slice_get old number ≡ Some before → slice_get now number ≡ Some after
        → IsHeard net rows bids node prices number bid before after
    pub rest : (number : ℕ) → i ≤ number → slice_get now number ≡ slice_get old number

  pub heard_none : AreHeardTo 0 old
  heard_none = record { count = refl; first = λ number bid before after l. absurd (omega arith); rest = λ number l. refl }

  -- with one bid more
  pub heard_set : (i : ℕ) (now : List Figures) (f said new : Figures) → AreHeardTo i now → slice_get now i ≡ Some f → ((bid : Bid) → slice_get bids i ≡ Some bid → IsSaid net rows bids node prices i bid said)
      → new ≡ raised f said → AreHeardTo (i + 1) (set now i new)
  heard_set i now f said new are here says is = record {
    count = length-set now i new ∙ are.count;
    first = λ number bid before after l at was is_now. one number bid before after at was is_now (cases_lt number i) l;
    rest = λ number l. other_set now i number new (λ e. omega (arith, l, e)) ∙ are.rest number (omega (arith, l));
  }
    where
      one : (number : ℕ) (bid : Bid) (before after : Figures) → slice_get bids number ≡ Some bid → slice_get old number ≡ Some before → slice_get (set now i new) number ≡ Some after
          → (number < i) ⊎ (i ≤ number) → number < i + 1 → IsHeard net rows bids node prices number bid before after
      one number bid before after at was is_now (inl less) l = are.first number bid before after less at was (sym (other_set now i number new (λ e. omega (arith, less, e))) ∙ is_now)
      one number bid before after at was is_now (inr last) l =
          let same : number ≡ i = omega (arith, l, last) in
          let after_is : after ≡ new = same_set now i new after (subst (λ k. slice_get (set now i new) k ≡ Some after) same is_now) in
          let before_is : f ≡ before = some_same (slice_get now i) f before here (are.rest i (omega arith) ∙ subst (λ k. slice_get old k ≡ Some before) same was) in
          let at_i : slice_get bids i ≡ Some bid = subst (λ k. slice_get bids k ≡ Some bid) same at in
          let raised_is : after ≡ raised before said = after_is ∙ is ∙ ap (λ x. raised x said) before_is in
          (said, subst (λ k. IsSaid net rows bids node prices k bid said) (sym same) (says bid at_i), raised_is)

  -- at the end each is raised
  pub heard_all : (i : ℕ) (now : List Figures) → length bids ≤ i → AreHeardTo i now → AreHeard net rows bids node prices old now
  heard_all i now l are = record {
    count = are.count;
    each = λ number bid before after at was is_now. let w = slice_get_within bids number bid at in are.first number bid before after (omega (arith, l, w)) at was is_now;
  }
