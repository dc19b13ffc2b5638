-- A valid certificate keeps the promise, and its figures bound what choices earn.
use Rattle.std.proofs.Common.{inl, refl, sym, subst}
use Rattle.optra_evidence_top.specs.EvidenceCommand.{TellsEvidence}
use Rattle.optra_evidence_top.proofs.BoundLemmas.{bounds_are}
use Rattle.optra_verdict.proofs.PromiseLemmas.{promise-from_valid}
use Rattle.optra_verdict.specs.FamilyOf.{FamilyOf}
use Rattle.optra_verdict.specs.VerdictsOn.{IsReadValid, IsTextOfValid}
use Rattle.optra_evidence_top.proofs.evidence_command.answer_by.Goals as goal

pub returns-in_ok-text-in-Ok : goal.returns-in_ok-text-in-Ok
returns-in_ok-text-in-Ok g c =
    let f = c.args.rows.now in
    let net = c.args.inst.net.now in
    let bids = c.args.inst.bids.now in
    let rows = g.F.RowFamily.rows_of f net in
    let Keeps = g.F.RowFamily.KeepsRule f net in
    let family : FamilyOf g.row.F-Row.Denot = record { cmp = g.F.Row.Ord.cmp; rows = rows; texts = g.F.RowText.texts_of f } in
    let cert = c.in-Ok.cert in
    let reads : IsTextOfValid family Keeps net bids c.args.bytes.now cert = subst (IsReadValid family Keeps net bids c.args.bytes.now) c.in-Ok.is c.in_ok-cert.ensures in
    let whole = reads.text.writable.formed.whole in
    let tells : TellsEvidence net rows bids cert c.answer.result.text.items = subst (λ text. TellsEvidence net rows bids cert text.items) (sym c.answer.ensures.text) c.in_ok-text-in-Ok.ensures in
    record {
      bids = bids;
      are_those = refl;
      prints = inl (record {
        cert = cert;
        reads = reads;
        promise = promise-from_valid net rows Keeps bids c.requires.rule c.bound_holds.ensures cert.revenue cert.bound cert.choice cert.tree whole reads.valid;
        tells = tells;
        bounds = bounds_are net rows Keeps bids c.requires.rule c.evidence_holds.ensures.with c.evidence_holds.ensures.without cert whole reads.valid tells.figures tells.evidence;
        ends = c.answer.ensures.status;
      });
      put = c.answer.ensures.puts;
    }
