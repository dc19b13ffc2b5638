-- One more part is told.
use Rattle.std.proofs.Common.{◌≡◌, ℕ, ◌+◌, ◌<◌, List, length, get_or, rules, Some, slice_get, sym, ap, ◌∙◌, subst}
use Rattle.std.specs.Prelude.{◌&&◌, ◌↔◌, IsTrue}
use Rattle.std.proofs.lemmas.Option.{slice_get-get_or}
use Rattle.optra_prices.specs.ArcTerms.{ArcTerm}
use Rattle.optra_prices.specs.Parts.{ArePartsOf}
use Rattle.optra_prices.specs.Rooms.{HasRoomForAll}
use Rattle.optra_prices.specs.Tables.{group_at, no_arc}
use Rattle.optra_prices.specs.declared.parts.ArcPart.{ArcPart}
use Rattle.optra_prices.proofs.PartLemmas.{part_told, parts_more}
use Rattle.optra_prices.proofs.parts.tell_table.Goals as goal

pub loop-k-preserved : goal.loop-k-preserved
loop-k-preserved c =
    let room = c.args.room.now in
    let starts = c.args.groups.now.starts.items in
    let touches = c.args.groups.now.touches in
    let arcs = c.args.table.now.arcs in
    let k = c.loop-k.k in
    let arc = get_or arcs k no_arc in
    let l : k < length arcs = search rules in
    let at : slice_get arcs k ≡ Some arc = slice_get-get_or arcs k no_arc l in
    let told = c.tell_group-last.result in
    let same = c.slice-arcs.ensures in
    let tells = c.tell_group-last.ensures in
    let has : IsTrue told.has_room ↔ HasRoomForAll room (group_at starts touches arc.group) = subst (λ (g : ℕ). IsTrue told.has_room ↔ HasRoomForAll room (group_at starts touches g)) (tells.group ∙ c.group.ensures ∙ ap (λ (xs : List ArcTerm). (get_or xs k no_arc).group) same) tells.told in
    let part = part_told room (group_at starts touches arc.group) arc c.part_of.result told.has_room (c.part_of.ensures.value ∙ ap (λ (xs : List ArcTerm). (get_or xs k no_arc).value) same) (c.part_of.ensures.allowed ∙ ap (λ (xs : List ArcTerm). (get_or xs k no_arc).allowed && told.has_room) same) has in
    record {
      told = subst (ArePartsOf room starts touches arcs (k + 1)) (sym {A = List ArcPart} c.in_ok-push.ensures.items) (parts_more room starts touches arcs k c.loop-k.parts.items arc c.part_of.result c.loop-k.invariant.told at part);
      last = tells.told;
    }
