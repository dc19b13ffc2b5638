-- As many values as bids, each of a walk that is worth it.
use Rattle.std.proofs.Common.{◌≡◌, ◌∙◌, List, length, sym, ap, subst, rules}
use Rattle.std.specs.Prelude.{All}
use Rattle.std.proofs.lemmas.Slice.Zip.{AllZip-long}
use Rattle.optra_bid.specs.declared.bids.Bid.{Bid}
use Rattle.optra_house.specs.Payloads.{AreValues, IsValue}
use Rattle.optra_rounds.specs.Rounds.{values_of}
use Rattle.optra_play.proofs.HouseLemmas.{values-worth}
use Rattle.optra_play.proofs.PlayLemmas.{values-long}
use Rattle.optra_play.proofs.round_planner.RoundPlannerRounds.values.Goals as goal

pub returns-clause-each : goal.returns-clause-each
returns-clause-each g c =
    let net = c.args.self.now.net.now in
    let round = c.in_ok-round.round in
    let is = c.in_ok-round.ensures.plan in
    let are : c.in_ok-values.values.items ≡ values_of net round.bids.items round.plan.choice = search (rules, c.in_ok-values.ensures, c.deref.ensures.value) in
    let bids_are = c.in_ok-round.ensures.bids in
    record {
      count_is = ap length are ∙ values-long net round.bids.items round.plan.choice (AllZip-long _ round.bids.items round.plan.choice is.is_plan.certified.valid.walks) ∙ ap length bids_are;
      each = subst (All IsValue) (sym are) (values-worth net round.bids.items round.plan.choice is.is_plan.worth);
    }
