-- The amount of a standing bid is in range.
use Rattle.std.proofs.Common.{rules, w64}
use Rattle.std.proofs.lemmas.Int.{to_z-of_z}
use Rattle.std.specs.Int.RustNames.{FitsSigned}
use Rattle.optra_auction.specs.Machine.{IsOn}
use Rattle.optra_auction.proofs.MachineLemmas.{All-slice_get}
use Rattle.optra_auction.proofs.auctions.Auction.least_raise.Goals as goal

pub least_raise-requires-clause-amount : goal.least_raise-requires-clause-amount
least_raise-requires-clause-amount c =
    let fits : FitsSigned w64 c.at.result.1.now.amount = search rules in
    simp to_z-of_z (All-slice_get (IsOn c.self.inside.specs) c.self.inside.standing c.args.standing _ c.self.invariant.standing c.at.ensures).amount
