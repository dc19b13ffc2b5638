-- A standing bid has a name, and its amount is in range.
use Rattle.std.proofs.Common.{◌∙◌, List, ℕ, IsTrue, ap, option_map}
use Rattle.std.proofs.lemmas.Option.{slice_get-map}
use Rattle.optra_network.specs.Names.{is_name}
use Rattle.optra_auction.specs.Machine.{IsOn, Standing, standing_names}
use Rattle.optra_auction.proofs.MachineLemmas.{All-slice_get}
use Rattle.optra_auction.proofs.auctions.Auction.planned.Goals as goal

pub planned-requires-clause-name : goal.planned-requires-clause-name
planned-requires-clause-name c =
    All-slice_get (λ (n : List ℕ). IsTrue (is_name n)) (standing_names c.self.inside.standing) c.args.place c.at.result.0.now c.self.invariant.names.each
    (slice_get-map (λ (b : Standing). b.name) c.self.inside.standing c.args.place ∙ ap (option_map (λ (b : Standing). b.name)) c.at.ensures)

pub planned-requires-clause-amount : goal.planned-requires-clause-amount
planned-requires-clause-amount c = (All-slice_get (IsOn c.self.inside.specs) c.self.inside.standing c.args.place _ c.self.invariant.standing c.at.ensures).amount
