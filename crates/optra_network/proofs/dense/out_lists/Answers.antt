use Rattle.std.proofs.Common.{map, ◌+◌, refl, ◌∙◌, ap, sym, subst, ◌≡◌, ◌<◌, get_or, ◌++◌, ◌∷◌, [], arith, length, Vec, Global}
use Rattle.std.proofs.lemmas.List.{get_or-map, length-map, map-set}
use Rattle.optra_network.specs.Net.{track_id}
use Rattle.optra_network.specs.Tables.{HoldsOut}
use Rattle.optra_network.specs.declared.Track.{Track}
use Rattle.optra_network.specs.declared.TrackId.{TrackId}
use Rattle.optra_network.proofs.OutLemmas.{HoldsOut-set}
use Rattle.optra_network.proofs.dense.out_lists.Goals as goal

abbrev any_track : Track
any_track = record { tail = record { 0 = 0 }; head = record { 0 = 0 } }

pub loop-place-preserved : goal.loop-place-preserved
loop-place-preserved c =
    let items = λ (list : Vec TrackId Global). list.items in
    let lists = c.loop-place.lists.items in
    let n = c.loop-place.place in
    let tail = (get_or c.args.tracks.now n any_track).tail.0 in
    let within : n < length c.args.tracks.now = omega arith in
    let there : tail < c.args.stations = c.requires.ends n any_track within in
    let below : tail < length lists = let l = c.loop-place.invariant.len in omega (arith, length-map lists items) in
    let before : c.index_mut.result.now.items ≡ get_or (map items lists) tail [] =
    ap items c.index_mut.ensures.value ∙ sym (get_or-map items lists tail c.index_mut.result.now [] below) in
    subst (HoldsOut c.args.tracks.now (n + 1) c.args.stations) (sym (map-set items lists tail c.push.new.self))
    (HoldsOut-set c.args.tracks.now n c.args.stations (map items lists) tail c.push.new.self.items any_track c.loop-place.invariant within there refl
    (c.in_ok-push.ensures.items ∙ ap (λ l. l ++ track_id n ∷ []) before))
