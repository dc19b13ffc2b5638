use Rattle.std.proofs.Common.{ℕ, ◌≤◌, List, length, replicate, ap, ◌∙◌, arith}
use Rattle.std.specs.Prelude.{slice_index}
use Rattle.std.proofs.lemmas.List.{length-map}
use Rattle.optra_prices.specs.Loads.{uses_in}
use Rattle.optra_prices.specs.declared.wide_loads.Load.{Load}
use Rattle.optra_prices.proofs.PairLemmas.{same_count, zeros_more, zeros_all}
use Rattle.optra_prices.proofs.wide_loads.clear_uses.Goals as goal

pub loop-number-preserved : goal.loop-number-preserved
loop-number-preserved c =
    let old = c.loop-number.rows.items in
    let new = c.set_used.new.rows.items in
    let number = c.loop-number.number in
    let inv = c.loop-number.invariant in
    record {
      count = same_count old new number 0 c.set_used.ensures.uses ∙ inv.count;
      capacities = c.set_used.ensures.capacities ∙ inv.capacities;
      zeros = λ n l. ap (λ (xs : List ℕ). slice_index xs n) c.set_used.ensures.uses ∙ zeros_more (uses_in old) number inv.zeros n (omega arith);
    }

pub returns-clause-uses : goal.returns-clause-uses
returns-clause-uses c =
    let now = c.loop-number.rows.items in
    let inv = c.loop-number.invariant in
    let count = length-map now (λ (row : Load). row.used) in
    let past : length (uses_in now) ≤ c.loop-number.number = let same = inv.count in let was = c.args.rows.now.ok.0 in omega (arith, c.len-number-end.ensures) in
    zeros_all (uses_in now) c.loop-number.number past inv.zeros ∙ ap (λ (n : ℕ). replicate n 0) (count ∙ inv.count)
