use Rattle.optra_prices.proofs.UseLemmas.{touch_takes}
use Rattle.optra_prices.proofs.rooms.take_touch.Goals as goal

pub returns-clause-uses : goal.returns-clause-uses
returns-clause-uses c = touch_takes c.args.touch c.args.room.now.loads.uses c.take.new.self.uses c.take.ensures.uses_are
