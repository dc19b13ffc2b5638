use Rattle.std.proofs.Common.{◌≡◌, ◌↔◌}
use Rattle.optra_node.specs.Certificates.{IsValid}
use Rattle.optra_checker.specs.Verdicts.{IsVerdict}
use Rattle.optra_checker.specs.declared.Verdict.TheVariants.{Yes}
use Rattle.optra_open.proofs.ToComeLemmas.{if_ok}
use Rattle.optra_checker.proofs.VerdictLemmas.{yes_is_valid}
use Rattle.optra_checker.proofs.checking.check.Goals as goal

pub returns-clause-yes : goal.returns-clause-yes
returns-clause-yes g c =
    let net = c.args.inst.net.now in
    let f = c.args.rows.now in
    let rows = g.F.RowFamily.rows_of f net in
    let Keeps = g.F.RowFamily.KeepsRule f net in
    let bids = c.args.inst.bids.now in
    let cert = c.args.cert.now in
    if_ok c.verdict_on.result (IsVerdict net rows Keeps bids cert) (λ verdict. (verdict ≡ Yes cert.revenue cert.bound) ↔ IsValid net rows Keeps bids cert.revenue cert.bound cert.choice cert.tree)
    (yes_is_valid net rows Keeps bids cert) c.verdict_on.ensures

pub returns-clause-verdict : goal.returns-clause-verdict
returns-clause-verdict g c = c.verdict_on.ensures

pub verdict_on-requires : goal.verdict_on-requires
verdict_on-requires g c = c.requires
