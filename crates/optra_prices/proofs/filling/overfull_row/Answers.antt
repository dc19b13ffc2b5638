use Rattle.std.proofs.Common.{subst}
use Rattle.std.specs.Prelude.{All}
use Rattle.optra_prices.specs.Rooms.{IsClaimWithin}
use Rattle.optra_prices.proofs.FillLemmas.{none_overfull}
use Rattle.optra_prices.proofs.filling.overfull_row.Goals as goal

pub returns-then-are_within : goal.returns-then-are_within
returns-then-are_within g c =
    let kept = c.args.kept.now in
    let decided = c.requires.kept.is.decided in
    let room = kept.decided.room in
    let within = subst (All (IsClaimWithin room)) c.deref.ensures.value (c.are_within.ensures.0 c.if-are_within.true) in
    none_overfull (g.F.RowFamily.rows_of c.args.rows.now c.args.inst.net.now) c.args.inst.bids.now kept.numbering.rows.items room c.args.node.now kept.decided.claims.items decided.claims_are decided.room_is within
