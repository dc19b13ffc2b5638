use Rattle.std.proofs.Common.{map, refl, subst, Vec, Global}
use Rattle.optra_node.specs.declared.Decision.{Decision}
use Rattle.optra_open.specs.Keyed.{AreKeyed, yes_part}
use Rattle.optra_open.proofs.IndexLemmas.{yes_more}
use Rattle.optra_open.proofs.decision_index.take_yes.Goals as goal

pub returns-then-decision : goal.returns-then-decision
returns-then-decision c bids node are =
    c.drop_at.ensures (λ (d : Decision). d.bid) bids (yes_part node) refl
    (subst (λ part. AreKeyed (λ (d : Decision). d.bid) bids part (map (λ (list : Vec Decision Global). list.items) c.args.lists.now.items)) (yes_more node c.args.decision c.if-decision.true) are)
