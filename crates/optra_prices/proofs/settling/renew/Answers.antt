use Rattle.std.proofs.Common.{refl, sym, ap, ◌∙◌, rules}
use Rattle.std.specs.Prelude.{FitsSigned}
use Rattle.std.specs.Int.{w128}
use Rattle.std.proofs.lemmas.Int.{to_z-of_z}
use Rattle.optra_prices.specs.Standings.{groups_on}
use Rattle.optra_prices.proofs.FoundLemmas.{found_moves}
use Rattle.optra_prices.proofs.settling.renew.Goals as goal

pub returns : goal.returns
returns c =
    let fits : FitsSigned w128 c.in_ok-outcome.outcome.term = search rules in
    let whole = to_z-of_z w128 c.in_ok-outcome.outcome.term fits in
    record {
      found = found_moves _ _ _ _ _ _ _ _ _ _ _ c.dag.ensures refl refl (sym whole) c.in_ok-outcome.ensures;
      groups_are = c.in_ok-list_groups.ensures ∙ ap (groups_on c.args.table.now.arcs) c.deref.ensures.value;
    }
