use Rattle.std.proofs.lemmas.Result.{on_ok_weaker}
use Rattle.optra_prices.proofs.UseLemmas.{touch_adds}
use Rattle.optra_prices.proofs.rooms.add_touch.Goals as goal

pub returns-clause-uses : goal.returns-clause-uses
returns-clause-uses c = on_ok_weaker c.add.result (λ is. touch_adds c.args.touch c.args.room.now.loads.uses c.add.new.self.uses is.uses_are) c.add.ensures
