-- What a search leaves.
use Rattle.std.proofs.Common.{◌≡◌, ℕ, Bool, true, false, List, [], refl, sym, subst, arith, inl, inr}
use Rattle.std.specs.Prelude.{◌⊎◌, ℤ, pos, ◌≤ℤ◌, ◌<ℤ◌}
use Rattle.std.proofs.lemmas.Int.{ints}
use Rattle.optra_dag.specs.Paths.{Graph, IsFirstBest}
use Rattle.optra_prices.specs.Arcs.{IsFound}
use Rattle.optra_prices.specs.Tables.{allows_by, weight_by}
use Rattle.optra_prices.specs.ArcTerms.{ArcTerm}

pub found_path : (g : Graph) (allows : ℕ → Bool) (weight : ℕ → ℤ) (forced : Bool) (best path : List ℕ) (sum term : ℤ) → IsFirstBest g allows weight sum best → (forced ≡ true) ⊎ (pos 0 <ℤ sum) → path ≡ best → term ≡ sum
    → IsFound g allows weight forced path term false
found_path g allows weight forced best path sum term is worth same same_term =
    let P = λ (p : List ℕ) (z : ℤ). IsFound g allows weight forced p z false in
    subst (λ p. P p term) (sym same) (subst (P best) (sym same_term) (inr (inr (record { best = is; worth = worth; stuck_is = refl }))))

pub found_nothing : (g : Graph) (allows : ℕ → Bool) (weight : ℕ → ℤ) (forced : Bool) (best path : List ℕ) (sum : ℤ) → IsFirstBest g allows weight sum best → (forced ≡ false) × (sum ≤ℤ pos 0) → path ≡ []
    → IsFound g allows weight forced path (pos 0) false
found_nothing g allows weight forced best path sum is little none =
    inr (inl (record { free = little.0; most = λ other p. let m = is.greatest other p in let l = little.1 in omega (arith, ints); path_is = none; term_is = refl; stuck_is = refl }))

-- the same search, by equal parts
pub found_moves : (g g' : Graph) (arcs arcs' : List ArcTerm) (grouped grouped' : List ℤ) (forced : Bool) (path : List ℕ) (term term' : ℤ) (stuck : Bool) → g ≡ g' → arcs ≡ arcs' → grouped ≡ grouped' → term ≡ term'
    → IsFound g (allows_by arcs) (weight_by arcs grouped) forced path term stuck → IsFound g' (allows_by arcs') (weight_by arcs' grouped') forced path term' stuck
found_moves g g' arcs arcs' grouped grouped' forced path term term' stuck a b c d found =
    subst (λ x. IsFound x (allows_by arcs') (weight_by arcs' grouped') forced path term' stuck) a
    (subst (λ x. IsFound g (allows_by x) (weight_by x grouped') forced path term' stuck) b
    (subst (λ x. IsFound g (allows_by arcs) (weight_by arcs x) forced path term' stuck) c
    (subst (λ x. IsFound g (allows_by arcs) (weight_by arcs grouped) forced path x stuck) d found)))
