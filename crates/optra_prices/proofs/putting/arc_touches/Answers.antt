use Rattle.std.proofs.Common.{ℕ, ◌+◌, ◌<◌, length, sym, subst}
use Rattle.optra_prices.proofs.UseLemmas.{arc_grouped}
use Rattle.optra_prices.proofs.putting.arc_touches.Goals as goal

pub group-requires-clause-within : goal.group-requires-clause-within
group-requires-clause-within c =
    let groups = c.args.groups.now in
    subst (λ (g : ℕ). g + 1 < length groups.starts.items) (sym c.group_of.ensures) (arc_grouped groups c.args.table.now c.args.k c.requires)
