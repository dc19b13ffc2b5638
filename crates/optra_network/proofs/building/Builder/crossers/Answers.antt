use Rattle.std.proofs.Common.{length, map}
use Rattle.optra_network.proofs.CrosserLemmas.{holds_sorted}
use Rattle.optra_network.proofs.building.Builder.crossers.Goals as goal

pub returns : goal.returns
returns c = holds_sorted c.args.self.now (length c.args.self.now.tracks) (map (λ list. list.items) c.in_ok-lists.lists.items) (map (λ list. list.items) c.sort_each.new.lists.items) c.in_ok-lists.ensures c.sort_each.ensures
