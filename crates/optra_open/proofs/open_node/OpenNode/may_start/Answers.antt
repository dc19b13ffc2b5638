use Rattle.std.proofs.Common.{sym, subst}
use Rattle.std.proofs.lemmas.Bool.Decides.{same_from_decides}
use Rattle.optra_node.specs.Spans.{IsStartOk}
use Rattle.optra_open.specs.Tests.{may_start_at}
use Rattle.optra_open.proofs.IndexLemmas.{start_in}
use Rattle.optra_open.proofs.TestLemmas.{start_tested}
use Rattle.optra_open.proofs.open_node.OpenNode.may_start.Goals as goal

pub returns : goal.returns
returns g c =
    let node = c.args.self.now.node in
    let bid = c.args.bid in
    let minute = c.args.minute in
    let both = start_in bid minute node in
    same_from_decides c.start_ok.result (may_start_at node bid minute)
    ((λ t. both.0 (subst (λ o. IsStartOk o bid minute) c.yes.ensures (c.start_ok.ensures.0 t))), (λ h. c.start_ok.ensures.1 (subst (λ o. IsStartOk o bid minute) (sym c.yes.ensures) (both.1 h))))
    (start_tested node bid minute)
