use Rattle.std.proofs.Common.{◌∙◌, ◌≡◌, length, refl, sym}
use Rattle.optra_prices.proofs.LevelLemmas.{free_are}
use Rattle.optra_prices.proofs.levels.free_levels.Goals as goal

pub returns-clause-levels : goal.returns-clause-levels
returns-clause-levels c =
    let count : c.len-count.result ≡ length c.args.loads.uses = c.len-count.ensures in
    free_are _ c.len-count.result c.in_ok-prices.ensures (c.in_ok-listed.ensures.items_if_clones_equal (λ y e. e)) c.new.ensures.items refl (sym count) (c.requires.count ∙ sym count) c.requires.small c.requires.unused
