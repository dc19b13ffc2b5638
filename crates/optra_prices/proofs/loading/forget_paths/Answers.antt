use Rattle.std.proofs.Common.{◌≡◌, ◌<◌, ℕ, List, [], length, set, sym, ap, ◌∙◌, arith, inl, inr}
use Rattle.std.specs.Prelude.{slice_index_or}
use Rattle.std.proofs.lemmas.Bool.{cases_lt}
use Rattle.std.proofs.lemmas.List.{length-map, length-set, map-set, get_or_past}
use Rattle.optra_prices.specs.Uses.{lists_in}
use Rattle.optra_prices.proofs.UseLemmas.{empty_set}
use Rattle.optra_prices.proofs.loading.forget_paths.Goals as goal

pub loop-number-preserved : goal.loop-number-preserved
loop-number-preserved c =
    let counted = c.loop-number.counted.items in
    let k = c.loop-number.number in
    let inv = c.loop-number.invariant in
    let long = length-map counted (λ path. path.items) in
    let within : k < length (lists_in counted) = let count = inv.count in omega (arith, c.len-number-end.ensures, c.args.counted.now.ok.0) in
    let cleared : lists_in (set counted k c.clear.new.self) ≡ set (lists_in counted) k [] = map-set (λ path. path.items) counted k c.clear.new.self ∙ ap (set (lists_in counted) k) c.clear.ensures.items in
    record {
      count = length-set counted k c.clear.new.self ∙ inv.count;
      empty = λ n l. ap (λ (paths : List (List ℕ)). slice_index_or paths n []) cleared ∙ empty_set (lists_in counted) k n (inv.empty n) l within;
    }

pub returns-clause-empty : goal.returns-clause-empty
returns-clause-empty c = λ n. elim (cases_lt n c.loop-number.number) as (λ _. slice_index_or (lists_in c.loop-number.counted.items) n [] ≡ []) [
  | inl before ↦ c.loop-number.invariant.empty n before
  | inr past ↦
      let long = length-map c.loop-number.counted.items (λ path. path.items) in
      let count = c.loop-number.invariant.count in
      get_or_past (lists_in c.loop-number.counted.items) n [] (omega (arith, c.len-number-end.ensures, c.args.counted.now.ok.0))
]

pub returns-clause-count : goal.returns-clause-count
returns-clause-count c =
    let new = length-map c.loop-number.counted.items (λ path. path.items) in
    let old = length-map c.args.counted.now.items (λ path. path.items) in
    new ∙ c.loop-number.invariant.count ∙ sym old
