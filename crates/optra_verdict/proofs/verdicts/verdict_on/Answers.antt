-- A valid certificate is confirmed, with its numbers.
use Rattle.std.proofs.Common.{◌∙◌, ap, rules, w64}
use Rattle.std.specs.Prelude.{FitsSigned}
use Rattle.std.proofs.lemmas.Int.{to_z-of_z}
use Rattle.optra_cert.specs.Certs.{Cert}
use Rattle.optra_verdict.specs.FamilyOf.{FamilyOf}
use Rattle.optra_verdict.proofs.VerdictLemmas.{confirmed-from_valid}
use Rattle.optra_verdict.proofs.verdicts.verdict_on.Goals as goal

pub returns-in-Ok : goal.returns-in-Ok
returns-in-Ok g c =
    let net = c.args.inst.net.now in
    let bids = c.args.inst.bids.now in
    let rows = c.args.rows.now in
    let Keeps = g.F.RowFamily.KeepsRule rows net in
    let family : FamilyOf g.row.F-Row.Denot = record { cmp = g.F.Row.Ord.cmp; rows = g.F.RowFamily.rows_of rows net; texts = g.F.RowText.texts_of rows } in
    let cert = c.in-Ok.cert in
    let fits : FitsSigned w64 c.cert.inside.revenue = search rules in
    let also : FitsSigned w64 c.cert.inside.bound = search rules in
    let revenue = to_z-of_z w64 c.cert.inside.revenue fits ∙ ap (λ (k : Cert g.row.F-Row.Denot). k.revenue) c.cert.view_is in
    let bound = to_z-of_z w64 c.cert.inside.bound also ∙ ap (λ (k : Cert g.row.F-Row.Denot). k.bound) c.cert.view_is in
    confirmed-from_valid family net Keeps bids c.requires.rule c.bound_holds.ensures c.args.bytes.now cert _ _ (rw c.in-Ok.is at c.in_ok-cert.ensures) revenue bound
