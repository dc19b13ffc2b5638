use Rattle.std.proofs.Common.{subst}
use Rattle.optra_prices.specs.Rooms.{HasRoomOnHeld}
use Rattle.optra_prices.proofs.RoomLemmas.{room_on_held}
use Rattle.optra_prices.proofs.rooms.has_room_on_each.Goals as goal

pub returns-then-fit_each : goal.returns-then-fit_each
returns-then-fit_each c =
    let room = c.args.room.now in
    let touches = c.touches.inside in
    λ has. subst (HasRoomOnHeld room) c.touches.view_is (room_on_held room touches.narrow.now touches.wide.now (c.fit_each.ensures.0 c.if-fit_each.true) (c.has_room_for_all.ensures.0 has))
