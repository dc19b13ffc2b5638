-- The round is closed with its plan, and its files are put.
use Rattle.optra_play.proofs.AmountLemmas.{plan-writable}
use Rattle.optra_play.specs.Play.{round_budget, round_steps}
use Rattle.optra_play.proofs.playing.finish_round.Goals as goal

pub put_files-requires-clause-writable : goal.put_files-requires-clause-writable
put_files-requires-clause-writable g c =
    rw c.certificate_of-certificate.ensures (
    plan-writable g.F.Row.Ord.cmp (g.F.RowText.texts_of c.args.rows.now) c.args.inst.net.now (g.F.RowFamily.rows_of c.args.rows.now c.args.inst.net.now) (g.F.RowFamily.KeepsRule c.args.rows.now c.args.inst.net.now)
    c.args.inst.bids.now round_steps round_budget c.args.plan c.valid_is_writable.ensures c.requires.few c.args.inst.few c.requires.plan
    )
