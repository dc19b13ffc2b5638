-- The bid goes behind the others.
use Rattle.std.proofs.Common.{◌<◌, ◌-◌, ◌∙◌, length, ap, arith, remove}
use Rattle.optra_auction.specs.Machine.{Standing}
use Rattle.optra_auction.specs.Kept.{standing_in}
use Rattle.std.proofs.Common.{List}
use Rattle.optra_auction.proofs.KeptLemmas.{length-standing_in, standing-remove}
use Rattle.optra_auction.proofs.standing_bids.StandingBids.remove.Goals as goal

pub returns : goal.returns
returns c =
    let es = c.self.inside.terms.entries in
    let n = c.self.inside.count in
    let within : c.args.place < n = omega (arith, length-standing_in es n c.self.invariant.within, ap length c.self.view_is, c.requires) in
    ap (λ l. standing_in l (n - 1)) c.move_index.ensures.entries
    ∙ standing-remove es n (n - 1) c.args.place c.self.invariant.within (omega (arith, within)) within
    ∙ ap (λ (l : List Standing). remove l c.args.place) c.self.view_is
