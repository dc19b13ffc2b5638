-- The new entry is swapped to the end of the front.
use Rattle.std.proofs.Common.{◌+◌, ◌++◌, ◌∙◌, List, [], ◌∷◌, length, ap, arith}
use Rattle.std.proofs.lemmas.List.Edits.{length-swap}
use Rattle.optra_network.specs.Names.{place_of}
use Rattle.optra_auction.specs.Machine.{Standing, standing_names}
use Rattle.optra_auction.specs.Kept.{named, standing_in}
use Rattle.optra_auction.proofs.KeptLemmas.{entry-within, length-standing_in, standing-swap}
use Rattle.optra_auction.proofs.standing_bids.StandingBids.push.Goals as goal

pub put_behind-place-requires : goal.put_behind-place-requires
put_behind-place-requires c = record {
  room = c.make_room.ensures.room;
  spare = c.make_room.ensures.spare;
  new = ap (λ (l : List Standing). place_of c.args.name (standing_names l)) (c.make_room.ensures.same ∙ c.self.view_is) ∙ c.requires.new;
}

pub swap_indices-requires : goal.swap_indices-requires
swap_indices-requires c =
    let within = entry-within c.put_behind-place.new.map.entries c.put_behind-place.result _ c.put_behind-place.ensures.terms in
    record { a_in_bounds = within; b_in_bounds = omega (arith, within, c.put_behind-place.ensures.behind) }

pub invariant_of-self : goal.invariant_of-self
invariant_of-self c =
    let within = entry-within c.put_behind-place.new.map.entries c.put_behind-place.result _ c.put_behind-place.ensures.terms in
    let same = ap length c.swap_indices.ensures.entries ∙ length-swap c.put_behind-place.new.map.entries c.put_behind-place.result c.self.inside.count in
    let count = length-standing_in c.self.inside.terms.entries c.self.inside.count c.self.invariant.within in
    record {
      within = omega (arith, within, same, c.put_behind-place.ensures.behind);
      few = omega (arith, c.requires.room, count, ap length c.self.view_is);
      room = omega (arith, same, c.swap_indices.ensures.room.0, c.put_behind-place.ensures.room.room);
    }

pub returns : goal.returns
returns c =
    ap (λ l. standing_in l (c.self.inside.count + 1)) c.swap_indices.ensures.entries
    ∙ standing-swap c.put_behind-place.new.map.entries c.self.inside.count c.put_behind-place.result _ c.put_behind-place.ensures.behind c.put_behind-place.ensures.terms
    ∙ ap (λ (l : List Standing). l ++ named c.args.name c.args.terms ∷ []) (c.put_behind-place.ensures.same ∙ c.make_room.ensures.same ∙ c.self.view_is)
