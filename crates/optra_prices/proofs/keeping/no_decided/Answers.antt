use Rattle.std.proofs.Common.{[], refl}
use Rattle.optra_prices.proofs.DecidedLemmas.{none_decided}
use Rattle.optra_prices.proofs.RoomLemmas.{unused_is}
use Rattle.optra_prices.proofs.keeping.no_decided.Goals as goal

pub returns : goal.returns
returns g c =
    let net = c.args.inst.net.now in
    let rows = g.F.RowFamily.rows_of c.args.rows.now net in
    let numbered = c.args.numbering.now.rows.items in
    none_decided net rows c.args.inst.bids.now numbered []
    (record { decisions = c.new.result; claims = c.new-2.result; room = c.in_ok-room.room }) refl c.new.ensures.items c.new-2.ensures.items
    (unused_is rows numbered c.args.loads.now c.in_ok-room.room c.requires.count c.requires.capacities c.in_ok-room.ensures)
