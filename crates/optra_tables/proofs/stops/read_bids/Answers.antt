-- The bids that are read are an instance, and their names differ.
use Rattle.optra_tables.proofs.KeptLemmas.{instance_read, names_differ}
use Rattle.optra_tables.proofs.stops.read_bids.Goals as goal

pub returns-clause-instance : goal.returns-clause-instance
returns-clause-instance c =
    instance_read c.args.net.now c.read_named.new.bids c.read_stops.new.bids c.args.bids.now c.args.stops.now c.into_bids.result.items
    (rw c.new-list.ensures at c.in_ok-read_named.ensures.gives) c.in_ok-read_stops.ensures c.into_bids.ensures

pub returns-clause-names : goal.returns-clause-names
returns-clause-names c =
    names_differ c.args.net.now c.read_named.new.bids c.read_stops.new.bids c.args.bids.now c.args.stops.now c.into_bids.result.items
    (rw c.new-list.ensures at c.in_ok-read_named.ensures.gives) c.in_ok-read_stops.ensures c.into_bids.ensures
