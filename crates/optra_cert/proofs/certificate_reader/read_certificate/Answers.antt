-- What is read is the certificate of the text, and what isn't has a first fault.
use Rattle.std.proofs.Common.{◌≡◌, ◌<◌, ◌^◌, length, arith}
use Rattle.std.specs.Prelude.{Result, Ok, Err, IfErr, IfOk}
use Rattle.optra_cert.specs.CertLaws.{IsAnswer, IsTextOf}
use Rattle.optra_cert.specs.Outcomes.{Reads}
use Rattle.optra_cert.specs.Steps.{read_text}
use Rattle.optra_cert.specs.declared.CertError.{CertError}
use Rattle.optra_cert.specs.declared.CertError.TheVariants as errors
use Rattle.optra_cert.specs.declared.CertFault.{CertFault}
use Rattle.optra_cert.proofs.FirstFaults.{read_err}
use Rattle.optra_cert.proofs.ReadLemmas.{read_ok}
use Rattle.optra_cert.proofs.certificate_reader.read_certificate.Goals as goal

from_ok : {Y : Type 0} (result : Result Y CertError) (read : Result Y CertFault) (T : Y → Type 0) → Reads (λ y. y) result read → ((y : Y) → read ≡ Ok y → T y) → IfOk result T
from_ok (Ok y) read T is each = each y is
from_ok (Err e) read T is each = tt

from_err : {Y : Type 0} (result : Result Y CertError) (read : Result Y CertFault) (T : CertError → Type 0) → Reads (λ y. y) result read → T errors.NoMemory
    → ((f : CertFault) → read ≡ Err f → T (errors.Fault f)) → IfErr result T
from_err (Ok y) read T is none each = tt
from_err (Err errors.NoMemory) read T is none each = none
from_err (Err (errors.Fault f)) read T is none each = each f is

pub returns-clause-ok : goal.returns-clause-ok
returns-clause-ok g c =
    let family = c.args.rows.now in
    let net = c.args.inst.net.now in
    let texts = g.F.RowText.texts_of family in
    let bids = length c.args.inst.bids.now in
    let cmp = g.F.Row.Ord.cmp in
    let bytes = c.args.bytes.now in
    let few : bids < 10 ^ 18 = omega (arith, c.args.inst.few) in
    let known : texts.version < 10 ^ 18 = omega (arith, c.version-most.ensures.version, c.version-most.type_inv) in
    from_ok c.read_text.result (read_text cmp texts net bids bytes) (IsTextOf cmp texts net bids bytes) c.read_text.ensures
    (read_ok cmp (g.met.F.Row.Ord.total).trans texts c.requires.apart (g.met.F.RowText.are_texts family c.requires.apart) net c.args.inst.proper.built bids few known bytes)

pub returns-clause-err : goal.returns-clause-err
returns-clause-err g c =
    let family = c.args.rows.now in
    let net = c.args.inst.net.now in
    let texts = g.F.RowText.texts_of family in
    let bids = length c.args.inst.bids.now in
    let cmp = g.F.Row.Ord.cmp in
    let bytes = c.args.bytes.now in
    let few : bids < 10 ^ 18 = omega (arith, c.args.inst.few) in
    let known : texts.version < 10 ^ 18 = omega (arith, c.version-most.ensures.version, c.version-most.type_inv) in
    from_err c.read_text.result (read_text cmp texts net bids bytes) (IsAnswer cmp texts net bids bytes) c.read_text.ensures tt
    (read_err cmp texts c.requires.apart (g.met.F.RowText.are_texts family c.requires.apart) net c.args.inst.proper.built bids few known bytes)
