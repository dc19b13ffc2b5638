-- A canonical text has at most half as many records as bytes, and cut they are read as they are whole.
use Rattle.std.proofs.Common.{length, sym, ap, ◌∙◌, arith, subst}
use Rattle.std.specs.Prelude.{Result}
use Rattle.std.proofs.lemmas.List.{length-map}
use Rattle.csv.specs.Reading.{default_config, records}
use Rattle.optra_records.specs.Cuts.{cut}
use Rattle.optra_cert.specs.Certs.{Cert}
use Rattle.optra_cert.specs.Outcomes.{Reads}
use Rattle.optra_cert.specs.Steps.{read_records, read_text}
use Rattle.optra_cert.specs.declared.CertFault.{CertFault}
use Rattle.optra_cert.proofs.CutReads.{records_cut}
use Rattle.optra_cert.proofs.RunLemmas.{canonical_few}
use Rattle.optra_cert.proofs.certificate_reader.read_text.Goals as goal

pub read_records-requires-clause-fits : goal.read_records-requires-clause-fits
read_records-requires-clause-fits g c =
    let bytes = c.args.bytes.now in
    let few = canonical_few bytes (sym c.is_canonical.ensures ∙ c.if-not-is_canonical.false) in
    omega (arith, few, ap length c.of_text-records.ensures ∙ length-map (records default_config bytes) cut)

pub returns : goal.returns
unfolding read_text
returns g c =
    let bytes = c.args.bytes.now in
    let texts = g.F.RowText.texts_of c.args.rows.now in
    let net = c.args.inst.net.now in
    let bids = length c.args.inst.bids.now in
    let whole =
    ap (read_records g.F.Row.Ord.cmp texts net bids) c.of_text-records.ensures
    ∙ records_cut g.F.Row.Ord.cmp texts (g.met.F.RowText.are_texts c.args.rows.now c.requires.apart) net c.args.inst.proper.built bids (records default_config bytes) in
    rw (sym c.is_canonical.ensures ∙ c.if-not-is_canonical.false)
    (subst (λ (read : Result (Cert _) CertFault). Reads (λ cert. cert) c.read_records.result read) whole c.read_records.ensures)
