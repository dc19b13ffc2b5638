use Rattle.optra_cert.proofs.WritableLemmas as lemmas
use Rattle.optra_cert.proofs.laws.valid_is_writable.Goals as goal

pub returns : goal.returns
returns g c cert few formed valid low within small =
    let net = c.args.inst.net.now in
    let family = c.args.rows.now in
    lemmas.writable g.F.Row.Ord.cmp (g.F.RowText.texts_of family) net (g.F.RowFamily.rows_of family net) (g.F.RowFamily.KeepsRule family net) c.args.inst.bids.now
    (g.met.F.RowText.are_texts family c.requires) (λ row is. g.met.F.RowText.rows_fit family net row c.args.inst.proper is) few cert formed valid low within small
