use Rattle.optra_checker.proofs.leaves.leaves_hold.Goals as goal

pub leaves_hold_from-hold-requires-clause-room : goal.leaves_hold_from-hold-requires-clause-room
leaves_hold_from-hold-requires-clause-room g c = c.in_ok-room.ensures.room

pub leaves_hold_from-hold-requires-clause-root : goal.leaves_hold_from-hold-requires-clause-root
leaves_hold_from-hold-requires-clause-root g c = c.in_ok-room.ensures.root

pub leaves_hold_from-hold-requires-clause-whole : goal.leaves_hold_from-hold-requires-clause-whole
leaves_hold_from-hold-requires-clause-whole g c = c.requires.whole

pub leaves_hold_from-hold-requires-clause-items : goal.leaves_hold_from-hold-requires-clause-items
leaves_hold_from-hold-requires-clause-items g c = c.requires.items

pub leaves_hold_from-hold-requires-clause-splits : goal.leaves_hold_from-hold-requires-clause-splits
leaves_hold_from-hold-requires-clause-splits g c = c.requires.splits

pub returns : goal.returns
returns g c = c.leaves_hold_from-hold.ensures
