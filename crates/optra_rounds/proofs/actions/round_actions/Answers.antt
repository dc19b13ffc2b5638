-- What the actions of the round ask for is in range, since what all ask for is.
use Rattle.std.proofs.Common.{◌≡◌, ◌++◌, ◌∙◌, List, [], All, sym, ap, subst, append-nil}
use Rattle.std.specs.Prelude.{nat_eq}
use Rattle.std.specs.Vec.Iter.{into_iter_items}
use Rattle.std.proofs.lemmas.List.{nil_from_length}
use Rattle.std.proofs.lemmas.List.Elements.{All-filter, All-map}
use Rattle.optra_auction.specs.Machine.{HasAmount}
use Rattle.optra_auction.specs.declared.Act.{Act}
use Rattle.optra_tables.specs.declared.TimedAct.{TimedAct}
use Rattle.optra_rounds.specs.Rounds.{acts_of, asked_of}
use Rattle.optra_rounds.proofs.actions.round_actions.Goals as goal

pub returns-clause-amounts : goal.returns-clause-amounts
returns-clause-amounts c =
    let round = c.args.round in
    let acts = c.actions.parts.acts.items in
    let none : into_iter_items c.actions.action-iterator ≡ [] =
    nil_from_length (into_iter_items c.actions.action-iterator) (sym c.actions.action-iterator.rest.ok.0 ∙ c.in-None.ensures.steps.0) in
    let are : acts ≡ asked_of (acts_of round c.args.actions.items) =
    sym (append-nil acts) ∙ ap (λ (l : List TimedAct). acts ++ asked_of (acts_of round l)) (sym none) ∙ c.actions.invariant.acts in
    subst (λ (l : List Act). All HasAmount l) (sym are)
    (All-map HasAmount (λ (a : TimedAct). a.act) (acts_of round c.args.actions.items) (All-filter (λ (a : TimedAct). nat_eq a.round round) (λ (a : TimedAct). HasAmount a.act) c.args.actions.items c.requires))
