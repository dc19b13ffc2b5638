-- The place of a name in the index is that of the specification.
use Rattle.std.proofs.Common.{◌∙◌, sym, ap, string_bytes, bytes_eq}
use Rattle.optra_network.specs.Names.{place_of}
use Rattle.optra_network.proofs.NamesLemmas.{position-map}
use Rattle.optra_auction.specs.Machine.{spec_names}
use Rattle.optra_auction.proofs.spec_list.SpecList.place.Goals as goal

pub returns-clause-place : goal.returns-clause-place
returns-clause-place c =
    c.get_index_of.ensures.index ∙ sym (position-map string_bytes (bytes_eq c.args.name.now) _) ∙ ap (place_of c.args.name.now) (c.self.invariant ∙ ap spec_names c.self.view_is)
