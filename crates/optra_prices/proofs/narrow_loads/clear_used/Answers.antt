use Rattle.std.proofs.Common.{ℕ, ◌≤◌, List, length, replicate, ap, ◌∙◌, arith}
use Rattle.std.specs.Prelude.{slice_index}
use Rattle.optra_prices.specs.Loads.{used_in}
use Rattle.optra_prices.proofs.PairLemmas.{zeros_more, zeros_all}
use Rattle.optra_prices.proofs.NarrowLoadLemmas.{used_count, as_many}
use Rattle.optra_prices.proofs.narrow_loads.clear_used.Goals as goal

pub loop-number-preserved : goal.loop-number-preserved
loop-number-preserved c =
    let old = c.loop-number.rows.items in
    let new = c.set_used.new.rows.items in
    let number = c.loop-number.number in
    let inv = c.loop-number.invariant in
    record {
      count = as_many old new number 0 c.set_used.ensures.used ∙ inv.count;
      capacities = c.set_used.ensures.capacities ∙ inv.capacities;
      zeros = λ n l. ap (λ (xs : List ℕ). slice_index xs n) c.set_used.ensures.used ∙ zeros_more (used_in old) number inv.zeros n (omega arith);
    }

pub returns-clause-used : goal.returns-clause-used
returns-clause-used c =
    let now = c.loop-number.rows.items in
    let inv = c.loop-number.invariant in
    let count = used_count now in
    let past : length (used_in now) ≤ c.loop-number.number = let same = inv.count in let was = c.args.rows.now.ok.0 in omega (arith, c.len-number-end.ensures) in
    zeros_all (used_in now) c.loop-number.number past inv.zeros ∙ ap (λ (n : ℕ). replicate n 0) (count ∙ inv.count)
