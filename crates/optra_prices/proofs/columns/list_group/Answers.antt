use Rattle.std.proofs.lemmas.List.Elements.{All-contains_itself}
use Rattle.optra_prices.proofs.LevelLemmas.{kept_push}
use Rattle.optra_prices.proofs.columns.list_group.Goals as goal

pub returns-in_ok-push-clause-kept : goal.returns-in_ok-push-clause-kept
returns-in_ok-push-clause-kept c = kept_push c.args.due.now.items c.push.new.self.items c.args.g c.in_ok-push.ensures.items

pub returns-else-eq-clause-kept : goal.returns-else-eq-clause-kept
returns-else-eq-clause-kept c = All-contains_itself c.args.due.now.items
