use Rattle.std.proofs.Common.{◌∙◌, ap, rules, subst, List, Some}
use Rattle.std.specs.Prelude.{FitsSigned}
use Rattle.std.specs.Int.{w128}
use Rattle.std.proofs.lemmas.Int.{to_z-of_z}
use Rattle.optra_walk.specs.declared.Leg.{Leg}
use Rattle.optra_checker.specs.Frees.{Attains}
use Rattle.optra_checker.proofs.best_walk.BestWalk.attains.Goals as goal

pub returns : goal.returns
returns c t =
    let fits : FitsSigned w128 c.worth.result = search rules in
    subst (λ (ls : List Leg). Attains c.args.net.now c.args.bid.now c.args.self.now.worth ls) c.legs-legs.ensures
    (record { walk = c.follows.ensures.walk.0 c.if-not-follows.false; worth = c.is_number.ensures.0 t ∙ ap Some (to_z-of_z w128 c.worth.result fits ∙ c.worth.ensures) })
