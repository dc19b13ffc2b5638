use Rattle.optra_checker.proofs.bounding.greatest_by.Goals as goal

pub greatest_from-greatest-requires-clause-room : goal.greatest_from-greatest-requires-clause-room
greatest_from-greatest-requires-clause-room g c = c.in_ok-room.ensures.room

pub greatest_from-greatest-requires-clause-root : goal.greatest_from-greatest-requires-clause-root
greatest_from-greatest-requires-clause-root g c = c.in_ok-room.ensures.root

pub greatest_from-greatest-requires-clause-tree : goal.greatest_from-greatest-requires-clause-tree
greatest_from-greatest-requires-clause-tree g c = c.requires.tree

pub greatest_from-greatest-requires-clause-walks : goal.greatest_from-greatest-requires-clause-walks
greatest_from-greatest-requires-clause-walks g c = c.requires.walks

pub returns : goal.returns
returns g c = c.greatest_from-greatest.ensures
