-- There are prices at each node as the tree lists them.
use Rattle.std.proofs.lemmas.Result.{IfOk-weaker}
use Rattle.optra_evidence.proofs.ListedLemmas.{listed}
use Rattle.optra_evidence.proofs.MostLemmas.{evidence_is}
use Rattle.optra_evidence.proofs.certificate_evidence.evidence_by.Goals as goal

pub returns : goal.returns
returns g c =
    let net = c.args.inst.net.now in
    let rows = g.F.RowFamily.rows_of c.args.rows.now net in
    let tree = c.args.tree.now in
    IfOk-weaker c.hear_tree-figures.result _ _ (λ figures are. evidence_is net rows c.args.inst.bids.now tree figures.items (listed rows tree c.requires.tree.prices) are) c.hear_tree-figures.ensures
