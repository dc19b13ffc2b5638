use Rattle.optra_prices.proofs.KeepLemmas.{brought_stands}
use Rattle.optra_prices.proofs.settling.renew_where.Goals as goal

pub returns-then-not-changed : goal.returns-then-not-changed
returns-then-not-changed c = λ before is stands. brought_stands c.args.changed before c.args.table.now c.args.grouped.prices.now c.args.standing.now c.if-not-changed.true is stands
