-- The records that are left give what all give.
use Rattle.std.proofs.Common.{◌≡◌, ◌+◌, ◌≤◌, length}
use Rattle.optra_cert.specs.Steps.{read_rows, started}
use Rattle.optra_cert.proofs.certificate_reader.read_rows.Given as goal

abbrev pub invariant-rows : goal.invariant-rows
invariant-rows g l =
    let frame = l.frame in
    let texts = g.F.RowText.texts_of frame.rows.now in
    let net = frame.inst.net.now in
    let bids = length frame.inst.bids.now in
    record {
      each : length l.parts.walks.choice ≡ bids;
      room : l.number + length l.records ≤ length l.fn.records + 2;
      rest : read_rows g.F.Row.Ord.cmp texts net bids frame.version l.parts l.number l.records
          ≡ read_rows g.F.Row.Ord.cmp texts net bids frame.version (started bids) 2 l.fn.records;
    }

abbrev pub decreases-rows : goal.decreases-rows
decreases-rows g l = length l.records
