use Rattle.std.proofs.Common.{◌≡◌, take}
use Rattle.optra_network.specs.Names.{texts}
use Rattle.optra_auction.specs.Machine.{spec_names}
use Rattle.optra_auction.proofs.spec_list.names_of.Given as goal

abbrev pub invariant-loop-bid : goal.invariant-loop-bid
invariant-loop-bid l = texts l.names.keys ≡ spec_names (take l.bid-index l.bids)
