use Rattle.optra_checker.proofs.bounding.greatest_bound.Goals as goal

pub greatest_by-greatest-requires-clause-tree : goal.greatest_by-greatest-requires-clause-tree
greatest_by-greatest-requires-clause-tree g c = c.requires

pub returns : goal.returns
returns g c = c.greatest_by-greatest.ensures
