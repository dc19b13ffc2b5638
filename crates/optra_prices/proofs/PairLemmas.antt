-- Uses and capacities of rows, which are held side by side.
use Rattle.std.proofs.Common.{◌≡◌, ℕ, zero, suc, ◌<◌, ◌≤◌, List, [], ◌∷◌, length, set, get_or, replicate, refl, sym, ap, ◌∙◌, arith}
use Rattle.std.proofs.lemmas.List.{length-map, length-set}
use Rattle.optra_prices.specs.Loads.{uses_in}
use Rattle.optra_prices.specs.declared.wide_loads.Load.{Load}

-- there are as many rows
pub same_count : (old new : List Load) (k used : ℕ) → uses_in new ≡ set (uses_in old) k used → length new ≡ length old
same_count old new k used is =
    sym (length-map new (λ (row : Load). row.used)) ∙ ap length is ∙ length-set (uses_in old) k used ∙ length-map old (λ (row : Load). row.used)

-- as many numbers, of which the first ones are 0
pub zeros_more : (xs : List ℕ) (k : ℕ) → ((n : ℕ) → n < k → get_or xs n 0 ≡ 0) → (n : ℕ) → n < suc k → get_or (set xs k 0) n 0 ≡ 0
zeros_more [] k zeros n l = refl
zeros_more (x ∷ xs) zero zeros zero l = refl
zeros_more (x ∷ xs) zero zeros (suc n) l = absurd (omega arith)
zeros_more (x ∷ xs) (suc k) zeros zero l = zeros zero (omega arith)
zeros_more (x ∷ xs) (suc k) zeros (suc n) l = zeros_more xs k (λ m b. zeros (suc m) (omega arith)) n (omega arith)

pub zeros_all : (xs : List ℕ) (k : ℕ) → length xs ≤ k → ((n : ℕ) → n < k → get_or xs n 0 ≡ 0) → xs ≡ replicate (length xs) 0
zeros_all [] k past zeros = refl
zeros_all (x ∷ xs) zero past zeros = absurd (omega arith)
zeros_all (x ∷ xs) (suc k) past zeros =
    let e : x ≡ 0 = zeros zero (omega arith) in
    let t : xs ≡ replicate (length xs) 0 = zeros_all xs k (omega arith) (λ n l. zeros (suc n) (omega arith)) in
    λ i. e i ∷ t i
