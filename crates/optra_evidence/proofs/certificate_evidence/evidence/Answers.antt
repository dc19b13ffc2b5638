-- The tree is the certificate's.
use Rattle.std.proofs.Common.{List, length, sym, subst, IfOk}
use Rattle.std.specs.Prelude.{All}
use Rattle.optra_node.specs.declared.Item.{Item}
use Rattle.optra_node.specs.Trees.{IsTree, places}
use Rattle.optra_node.specs.Certificates.{IsFormedItem, SplitsUndecided, HasPrices}
use Rattle.optra_evidence.specs.Evidence.{IsEvidence}
use Rattle.optra_evidence.proofs.certificate_evidence.evidence.Goals as goal

pub evidence_in-figures-requires : goal.evidence_in-figures-requires
evidence_in-figures-requires g c =
    let rows = g.F.RowFamily.rows_of c.args.rows.now c.args.inst.net.now in
    record {
      whole = subst IsTree (sym c.items.ensures) c.requires.formed.whole;
      items = subst (All (IsFormedItem g.F.Row.Ord.cmp c.args.inst.net.now (length c.args.inst.bids.now))) (sym c.items.ensures) c.requires.formed.items;
      splits = subst (λ (tree : List (Item g.row.F-Row.Denot)). All (λ p. SplitsUndecided p.0 p.1) (places tree)) (sym c.items.ensures) c.requires.valid.splits;
      prices = subst (All (HasPrices rows)) (sym c.items.ensures) c.requires.valid.prices;
    }

pub returns : goal.returns
returns g c =
    let net = c.args.inst.net.now in
    let rows = g.F.RowFamily.rows_of c.args.rows.now net in
    subst (λ tree. IfOk c.evidence_in-figures.result (λ figures. IsEvidence net rows c.args.inst.bids.now tree figures.items)) c.items.ensures c.evidence_in-figures.ensures
