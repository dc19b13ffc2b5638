use Rattle.std.proofs.Common.{◌≡◌, ℕ, ◌<◌, length, set, sym, ap, ◌∙◌, subst, rules, to_z, of_z}
use Rattle.std.specs.Prelude.{true, slice_index, FitsSigned}
use Rattle.std.specs.Int.{w64}
use Rattle.std.proofs.lemmas.Int.{to_z-of_z}
use Rattle.std.proofs.lemmas.List.{get_or_read}
use Rattle.optra_prices.specs.Columns.{PricesAllButDue}
use Rattle.optra_prices.specs.Levels.{GoesOn, is_listed}
use Rattle.optra_prices.proofs.levels.move_row.Goals as goal

pub returns-clause-due : goal.returns-clause-due
returns-clause-due c = subst (λ v. PricesAllButDue v.items c.set_price.new.columns) (sym c.rest_row.ensures.rests.prices) c.in_ok-set_price.ensures.due

pub returns-clause-moves : goal.returns-clause-moves
returns-clause-moves c =
    let old = c.args.levels.now in
    let set_is = c.in_ok-set_price.ensures in
    let rests = c.rest_row.ensures.rests in
    let active = old.active.items in
    let k = c.args.k in
    let l : k < length active = c.requires.within in
    let number = c.index-number.result.now in
    let read : slice_index active k ≡ number = sym (get_or_read active k number l c.index-number.ensures 0) in
    let marked : is_listed old number ≡ true = subst (λ (n : ℕ). is_listed old n ≡ true) read (c.requires.levels.marked k 0 l) in
    let same = set_is.active marked in
    let fits : FitsSigned w64 c.args.price = search rules in
    record {
      prices = ap (λ v. v.items) rests.prices ∙ set_is.prices ∙ ap (λ (n : ℕ). set old.prices.items n (to_z w64 (of_z w64 c.args.price))) (sym read) ∙ ap (set old.prices.items (slice_index active k)) (to_z-of_z w64 c.args.price fits);
      rest = record { uses = rests.uses ∙ set_is.rest.uses; capacities = rests.capacities ∙ set_is.rest.capacities };
      on = subst (λ v. GoesOn k c.rest_row.result v.items c.rest_row.new.levels.active.items) same rests.on;
    }
