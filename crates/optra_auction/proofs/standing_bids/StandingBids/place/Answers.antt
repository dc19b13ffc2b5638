-- The place of a name among all the entries, where it is one of the bids that stand.
use Rattle.std.proofs.Common.{◌∙◌, List, ap, sym}
use Rattle.optra_network.specs.Names.{place_of}
use Rattle.optra_auction.specs.Machine.{Standing, standing_names}
use Rattle.optra_auction.proofs.KeptLemmas.{place-front, place-behind, place-nowhere}
use Rattle.optra_auction.proofs.standing_bids.StandingBids.place.Goals as goal

pub returns-in_err-place-clause-place : goal.returns-in_err-place-clause-place
returns-in_err-place-clause-place c =
    c.from_residual.ensures
    ∙ place-nowhere c.args.name.now c.self.inside.terms.entries c.self.inside.count (sym c.in_err-place.ensures.index)
    ∙ ap (λ (l : List Standing). place_of c.args.name.now (standing_names l)) c.self.view_is

pub returns-then-place-self-clause-place : goal.returns-then-place-self-clause-place
returns-then-place-self-clause-place c =
    place-front c.args.name.now c.self.inside.terms.entries c.self.inside.count c.in_ok-place.place (sym c.in_ok-place.ensures.index) c.if-place-self.true
    ∙ ap (λ (l : List Standing). place_of c.args.name.now (standing_names l)) c.self.view_is

pub returns-else-place-self-clause-place : goal.returns-else-place-self-clause-place
returns-else-place-self-clause-place c =
    place-behind c.args.name.now c.self.inside.terms.entries c.self.inside.count c.in_ok-place.place (sym c.in_ok-place.ensures.index) c.if-place-self.false
    ∙ ap (λ (l : List Standing). place_of c.args.name.now (standing_names l)) c.self.view_is
