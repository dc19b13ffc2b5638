-- Seven fields tell what the fields tell; another number tells no leg.
use Rattle.std.proofs.Common.{sym, ◌∙◌}
use Rattle.csv.specs.Records.{fields_of}
use Rattle.optra_cert.proofs.LegLemmas.{leg_others, leg_seven}
use Rattle.optra_cert.proofs.leg_fields.leg_told.Goals as goal

pub returns-then-len-ne7-clause-gives : goal.returns-then-len-ne7-clause-gives
returns-then-len-ne7-clause-gives c = leg_others c.args.net.now c.args.bids (fields_of c.args.row.now) (λ e. c.if-len-ne7.true (c.len.ensures ∙ e))

pub returns-clause-gives : goal.returns-clause-gives
returns-clause-gives c = rw (leg_seven c.args.net.now c.args.bids (fields_of c.args.row.now) (sym c.len.ensures ∙ c.if-len-ne7.false)) c.leg_by_fields.ensures.gives
