use Rattle.std.proofs.Common.{map, refl, sym, subst, Vec, Global}
use Rattle.std.proofs.lemmas.Result.{on_ok_weaker}
use Rattle.optra_node.specs.declared.Decision.{Decision}
use Rattle.optra_open.specs.Keyed.{AreKeyed, yes_part}
use Rattle.optra_open.proofs.IndexLemmas.{yes_more, yes_less}
use Rattle.optra_open.proofs.decision_index.put_yes.Goals as goal

pub returns-then-decision : goal.returns-then-decision
returns-then-decision c =
    on_ok_weaker c.add_at.result
    (λ add bids node are.
    subst (λ part. AreKeyed (λ (d : Decision). d.bid) bids part (map (λ (list : Vec Decision Global). list.items) c.add_at.new.lists.items)) (sym (yes_more node c.args.decision c.if-decision.true))
    (add (λ (d : Decision). d.bid) bids (yes_part node) refl are)) c.add_at.ensures

pub returns-else-decision : goal.returns-else-decision
returns-else-decision c bids node are =
    subst (λ part. AreKeyed (λ (d : Decision). d.bid) bids part (map (λ (list : Vec Decision Global). list.items) c.args.lists.now.items)) (sym (yes_less node c.args.decision c.if-decision.false)) are
