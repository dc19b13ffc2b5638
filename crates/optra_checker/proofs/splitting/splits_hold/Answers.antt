use Rattle.optra_checker.proofs.splitting.splits_hold.Goals as goal

pub splits_hold_from-hold-requires-clause-room : goal.splits_hold_from-hold-requires-clause-room
splits_hold_from-hold-requires-clause-room g c = c.in_ok-room.ensures.room

pub splits_hold_from-hold-requires-clause-root : goal.splits_hold_from-hold-requires-clause-root
splits_hold_from-hold-requires-clause-root g c = c.in_ok-room.ensures.root

pub splits_hold_from-hold-requires-clause-whole : goal.splits_hold_from-hold-requires-clause-whole
splits_hold_from-hold-requires-clause-whole g c = c.requires.whole

pub splits_hold_from-hold-requires-clause-items : goal.splits_hold_from-hold-requires-clause-items
splits_hold_from-hold-requires-clause-items g c = c.requires.items

pub returns : goal.returns
returns g c = c.splits_hold_from-hold.ensures
