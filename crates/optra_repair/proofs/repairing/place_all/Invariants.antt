-- The bids so far are placed, and the room of the tables is that beside what is placed.
use Rattle.std.proofs.Common.{ℕ, drop}
use Rattle.optra_prices.specs.Parts.{IsRoomIn}
use Rattle.optra_repair.proofs.TurnLemmas.{IsUnderWay}
use Rattle.optra_repair.proofs.repairing.place_all.Given as goal

abbrev pub invariant-loop-turn : goal.invariant-loop-turn
invariant-loop-turn g l =
    let rows = g.F.RowFamily.rows_of l.rows l.inst.net.now in
    (total : g.row.F-Row.Denot → ℕ) × IsUnderWay l.inst.net.now rows l.inst.bids.now l.node l.order (drop l.turn l.order) l.walks.items total × IsRoomIn rows l.kept total l.lent.room
