use Rattle.optra_checker.proofs.bounding.bound_of.Goals as goal

pub turn_back_all-requires-clause-walks : goal.turn_back_all-requires-clause-walks
turn_back_all-requires-clause-walks g c = c.in_ok-cents.ensures.walks

pub turn_back_all-requires-clause-depth : goal.turn_back_all-requires-clause-depth
turn_back_all-requires-clause-depth g c = c.requires.depth

pub item_bound-requires-clause-walks : goal.item_bound-requires-clause-walks
item_bound-requires-clause-walks g c = c.requires.walks

pub item_bound-requires-clause-instance : goal.item_bound-requires-clause-instance
item_bound-requires-clause-instance g c = c.requires.instance

pub item_bound-requires-clause-formed : goal.item_bound-requires-clause-formed
item_bound-requires-clause-formed g c = c.requires.formed

pub item_bound-requires-clause-prices : goal.item_bound-requires-clause-prices
item_bound-requires-clause-prices g c = c.requires.prices
