-- Numbers of which the first are ones, as those that they stand for.
use Rattle.std.proofs.Common.{◌≡◌, ℕ, zero, suc, ◌-◌, ◌≤◌, ◌<◌, List, ◌++◌, length, get_or, replicate, refl, sym, ap, ◌∙◌, arith}
use Rattle.std.specs.Prelude.{All, slice_index}
use Rattle.std.proofs.lemmas.List.{get_or-map, get_or-replicate, length-map}
use Rattle.optra_prices.specs.Indexes.{put_place}
use Rattle.optra_prices.specs.NarrowTouches.{no_touch}
use Rattle.optra_prices.specs.Shares.{ArePutUses}
use Rattle.optra_prices.specs.Users.{rows_touched}
use Rattle.optra_prices.specs.declared.touch.Touch.{Touch}
use Rattle.optra_prices.proofs.IndexLemmas.{place_least}

-- one of the ones
pub ones_at : (n place : ℕ) (others : List ℕ) → place < n → slice_index (replicate n 1 ++ others) place ≡ 1
ones_at zero place others l = absurd (omega arith)
ones_at (suc n) zero others l = refl
ones_at (suc n) (suc place) others l = ones_at n place others (omega arith)

-- one of the others
pub others_at : (n place : ℕ) (others : List ℕ) → n ≤ place → slice_index (replicate n 1 ++ others) place ≡ slice_index others (place - n)
others_at zero place others l = let same : place ≡ place - 0 = omega arith in ap (slice_index others) same
others_at (suc n) zero others l = absurd (omega arith)
others_at (suc n) (suc place) others l =
    let same : place - n ≡ suc place - suc n = omega arith in
    others_at n place others (omega arith) ∙ ap (slice_index others) same

-- a one stands for each touch, where each uses its row once
pub ones_put : (touches : List Touch) (count : ℕ) (amounts : List ℕ) → count ≡ length touches → All (λ touch. touch.uses ≡ 1) touches → amounts ≡ replicate count 1 → ArePutUses touches amounts
ones_put touches count amounts long once are place l =
    let rows = rows_touched touches in
    let all : length rows ≡ length touches = length-map touches (λ (t : Touch). t.row) in
    let within = place_least rows place (omega arith) in
    let here : put_place rows place < count = omega arith in
    ap (λ (xs : List ℕ). get_or xs (put_place rows place) 0) are ∙ get_or-replicate count (put_place rows place) 1 0 here
    ∙ sym (get_or-map (λ (t : Touch). t.uses) touches place no_touch 0 l ∙ once place no_touch l)
