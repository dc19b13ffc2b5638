use Rattle.std.proofs.Common.{◌≡◌, ◌<◌, ◌≤◌, ℕ, List, false, length, set, refl, sym, ap, ◌∙◌, subst, rules, to_z}
use Rattle.std.specs.Prelude.{pos, slice_index, FitsSigned}
use Rattle.std.specs.Int.{w64}
use Rattle.std.proofs.lemmas.Int.{to_z-of_z}
use Rattle.std.proofs.lemmas.List.{get_or_read}
use Rattle.optra_prices.specs.Levels.{GoesOn, IsIdle, price_of, use_of, capacity_of}
use Rattle.optra_prices.proofs.LevelLemmas.{rested_levels, goes_less}
use Rattle.optra_prices.proofs.levels.rest_row.Goals as goal

pub returns-clause-levels : goal.returns-clause-levels
returns-clause-levels c =
    let old = c.args.levels.now in
    let is = c.requires.levels in
    let active = old.active.items in
    let k = c.args.k in
    let l : k < length active = c.requires.within in
    let number = c.index-place.result.now in
    let read : slice_index active k ≡ number = sym (get_or_read active k number l c.index-place.ensures 0) in
    let within : number < length old.prices.items = subst (λ (n : ℕ). n < length old.prices.items) read (is.within k 0 l) in
    let price = c.at.result in
    let fits : FitsSigned w64 price = search rules in
    let price_is : price_of old number ≡ pos 0 = sym c.at.ensures ∙ sym (to_z-of_z w64 price fits) ∙ ap (to_z w64) c.if-at-ne0.false in
    let few : use_of old number ≤ capacity_of old number = c.is_within.ensures.0 c.if-not-is_within.false in
    rested_levels old is k _ c.swap_remove.new.self _ l (subst (IsIdle old) (sym read) (price_is, few)) c.swap_remove.ensures.items (ap (λ (n : ℕ). set old.listed.items n false) (sym read))

pub returns-clause-rests : goal.returns-clause-rests
returns-clause-rests c = record { prices = refl; uses = refl; capacities = refl; on = subst (λ (xs : List ℕ). GoesOn c.args.k c.args.k c.args.levels.now.active.items xs) (sym c.swap_remove.ensures.items) (goes_less c.args.levels.now.active.items c.args.k _ c.requires.within c.requires.levels.once) }
