-- The place of a name in the index is that of the bid.
use Rattle.std.proofs.Common.{◌∙◌, sym, ap, string_bytes, bytes_eq}
use Rattle.optra_network.specs.Names.{place_of}
use Rattle.optra_network.proofs.NamesLemmas.{position-map}
use Rattle.optra_tables.specs.Bids.{names_of}
use Rattle.optra_tables.proofs.bid_list.BidList.place.Goals as goal

pub returns-clause-place : goal.returns-clause-place
returns-clause-place c =
    c.get_index_of.ensures.index ∙ sym (position-map string_bytes (bytes_eq c.args.name.now) _) ∙ ap (place_of c.args.name.now) (c.self.invariant ∙ ap names_of c.self.view_is)
