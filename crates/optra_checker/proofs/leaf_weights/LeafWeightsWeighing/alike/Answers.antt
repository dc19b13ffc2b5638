use Rattle.optra_checker.proofs.leaf_weights.LeafWeightsWeighing.alike.Goals as goal

pub returns : goal.returns
returns g c same = c.are_alike.ensures same c.args.self.now.prices.now
