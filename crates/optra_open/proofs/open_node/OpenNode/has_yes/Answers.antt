use Rattle.std.proofs.Common.{ap, ◌∙◌}
use Rattle.std.specs.List.{list_any}
use Rattle.optra_node.specs.declared.Decision.{Decision}
use Rattle.optra_open.specs.Keyed.{yes_part}
use Rattle.optra_open.proofs.IndexLemmas.{has_yes_part}
use Rattle.optra_node.proofs.OwnLemmas.{own_yes}
use Rattle.optra_open.proofs.open_node.OpenNode.has_yes.Goals as goal

pub returns : goal.returns
returns g c =
    let node = c.args.self.now.node in
    c.any_yes.ensures ∙ ap (list_any (λ (d : Decision). d.yes)) c.yes.ensures ∙ own_yes c.args.bid (yes_part node) ∙ has_yes_part c.args.bid node
