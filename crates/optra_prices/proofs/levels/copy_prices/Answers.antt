use Rattle.std.proofs.Common.{◌∙◌, ℕ, map, sym, ap, subst, arith}
use Rattle.std.proofs.lemmas.List.{take_all}
use Rattle.optra_prices.specs.Levels.{HoldsPrices, price_of}
use Rattle.optra_prices.proofs.LevelLemmas.{prices_held}
use Rattle.optra_prices.proofs.levels.copy_prices.Goals as goal

pub returns : goal.returns
returns c =
    let levels = c.args.levels.now in
    let active = levels.active.items in
    let all = ap (map (λ (n : ℕ). (n, price_of levels n))) (take_all c.loop-k.k active (omega arith)) in
    subst (HoldsPrices levels) (sym (c.loop-k.invariant ∙ all)) (prices_held levels c.requires)
