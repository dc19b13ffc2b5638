use Rattle.std.proofs.Common.{◌≡◌, ℕ, ◌<◌, length, take}
use Rattle.optra_open.specs.Opens.{IsRoom}
use Rattle.optra_open.specs.ToCome.{to_come, IsYesAt}
use Rattle.optra_open.proofs.node_room.turn.Given as goal

abbrev pub invariant-back : goal.invariant-back
invariant-back g l = record {
  kept : IsRoom g.F.Row.Ord.cmp l.inst.net.now (g.F.RowFamily.rows_of l.rows l.inst.net.now) l.inst.bids.now l.room;
  to_come_is : to_come l.room.decisions.items ≡ to_come l.fn.room.decisions.items;
  first : take (length l.room.decisions.items) l.fn.room.decisions.items ≡ l.room.decisions.items;
  yes : (k : ℕ) → IsYesAt l.fn.room.decisions.items k → k < length l.room.decisions.items;
}

abbrev pub decreases-back : goal.decreases-back
decreases-back g l = length l.room.decisions.items
