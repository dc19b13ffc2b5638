use Rattle.std.proofs.Common.{◌≡◌, false, sym, ◌∙◌, subst}
use Rattle.optra_prices.specs.Rooms.{HasRoomForAll}
use Rattle.optra_prices.proofs.RoomLemmas.{room_for_both, room_for_narrow, room_for_wide}
use Rattle.optra_prices.proofs.rooms.has_room.Goals as goal

pub returns-then-fit_once : goal.returns-then-fit_once
returns-then-fit_once c =
    let room = c.args.room.now in
    let narrow = c.touches.inside.narrow.now in
    let wide = c.touches.inside.wide.now in
    let same = c.touches.view_is in (
      λ has. subst (HasRoomForAll room) same (room_for_both room narrow wide (c.fit_once.ensures.0 c.if-fit_once.true) (c.has_room_for_all.ensures.0 has)),
      λ all. c.has_room_for_all.ensures.1 (room_for_wide room narrow wide (subst (HasRoomForAll room) (sym same) all)),
    )

pub returns-else-fit_once : goal.returns-else-fit_once
returns-else-fit_once c =
    let room = c.args.room.now in
    let narrow = c.touches.inside.narrow.now in
    let wide = c.touches.inside.wide.now in
    let same = c.touches.view_is in
    let no : c.fit_once.result ≡ false = c.if-fit_once.false in (
      λ is. absurd (cc (sym no ∙ is)),
      λ all. c.fit_once.ensures.1 (room_for_narrow room narrow wide (subst (HasRoomForAll room) (sym same) all)),
    )
