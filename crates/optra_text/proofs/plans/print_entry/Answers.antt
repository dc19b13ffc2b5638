-- The tracks of a walk are there.
use Rattle.optra_text.proofs.TrackLemmas.{entry_tracks}
use Rattle.optra_text.proofs.plans.print_entry.Goals as goal

pub print_legs-requires : goal.print_legs-requires
print_legs-requires c =
    rw c.deref-2.ensures.value (rw c.walk.view_is (entry_tracks c.args.net.now c.args.bid.now.path c.args.walk.now c.in-Some.walk c.laws.ensures c.requires c.in-Some.is))
