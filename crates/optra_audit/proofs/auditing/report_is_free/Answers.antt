-- The law is one of every report.
use Rattle.std.proofs.Common.{length}
use Rattle.optra_network.specs.Net.{IsTrack}
use Rattle.optra_walk.specs.declared.Leg.{Leg}
use Rattle.optra_audit.specs.Trains.{trains_of}
use Rattle.optra_audit.proofs.TrainLemmas.{trains_len, trains_on}
use Rattle.optra_audit.proofs.LawLemmas.{law}
use Rattle.optra_audit.proofs.auditing.report_is_free.Goals as goal

pub returns : goal.returns
returns c =
    let net = c.args.inst.net.now in
    let bids = c.args.inst.bids.now in
    let lines = c.args.lines.now in
    law net bids (trains_of (length bids) lines) c.args.report.now c.args.inst.proper (trains_len (length bids) lines) (trains_on (λ (leg : Leg). IsTrack net leg.track) (length bids) lines c.requires.lines.on_tracks) c.requires.report
