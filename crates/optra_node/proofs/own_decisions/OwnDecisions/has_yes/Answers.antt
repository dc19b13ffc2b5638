use Rattle.std.proofs.Common.{ap, ◌∙◌}
use Rattle.std.specs.List.{list_any}
use Rattle.optra_node.specs.declared.Decision.{Decision}
use Rattle.optra_node.proofs.OwnLemmas.{own_yes}
use Rattle.optra_node.proofs.own_decisions.OwnDecisions.has_yes.Goals as goal

pub returns : goal.returns
returns g c = c.any_yes.ensures ∙ ap (list_any (λ (d : Decision). d.yes)) c.own.ensures ∙ own_yes c.args.bid c.args.self.now.node
