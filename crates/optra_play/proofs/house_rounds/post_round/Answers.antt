-- The round that was posted is the one that was printed.
use Rattle.std.proofs.Common.{◌≡◌, ◌∙◌, List, length, sym, ap, subst, rules, arith}
use Rattle.std.specs.List.{zip}
use Rattle.std.proofs.lemmas.List.{length-map}
use Rattle.optra_auction.specs.Machine.{ArePlanned, State, after_all, after_round, refusals_of, spec_names}
use Rattle.optra_auction.specs.declared.Act.{Act}
use Rattle.optra_house.specs.Replay.{IsPlannedRound}
use Rattle.optra_rounds.specs.Rounds.{acts_after, acts_of, asked_of, rows_of}
use Rattle.optra_tables.specs.declared.TimedAct.{TimedAct}
use Rattle.optra_verdict.specs.FamilyOf.{FamilyOf}
use Rattle.optra_play.specs.HouseRounds.{AreRoundValues}
use Rattle.optra_play.proofs.HouseLemmas.{acts-few, planned-after_round, planned-from_offers, posted-round, refusals-long, specs-after_round}
use Rattle.optra_play.proofs.house_rounds.post_round.Goals as goal

pub post-requires-clause-few : goal.post-requires-clause-few
post-requires-clause-few g c =
    let few = acts-few c.round-round.result c.args.actions.items c.requires.actions.few in
    omega (arith, few, ap length c.in_ok-parts.ensures.acts)

pub print_posted-requires-clause-names : goal.print_posted-requires-clause-names
print_posted-requires-clause-names g c =
    let state_is : c.state-2.result.now ≡ c.in_ok-house.field-0.house.auction = search rules in
    let goes = c.in_ok-house.ensures.state in
    c.requires.names
    ∙ ap spec_names (sym (ap (λ (t : State). t.specs) (state_is ∙ goes.next_is) ∙ specs-after_round c.args.house.auction c.in_ok-parts.parts.acts.items goes.values))

pub print_posted-requires-clause-long : goal.print_posted-requires-clause-long
print_posted-requires-clause-long g c =
    let own = acts_of c.round-round.result c.args.actions.items in
    omega (
      arith,
      ap length c.in_ok-house.ensures.outcomes,
      refusals-long c.args.house.auction c.in_ok-parts.parts.acts.items,
      ap length c.in_ok-parts.ensures.acts,
      ap length c.in_ok-parts.ensures.rows,
      length-map own (λ (a : TimedAct). a.act),
      length-map own (λ (a : TimedAct). a.row),
    )

pub print_posted-requires-clause-planned : goal.print_posted-requires-clause-planned
print_posted-requires-clause-planned g c =
    let state_is : c.state-2.result.now ≡ c.in_ok-house.field-0.house.auction = search rules in
    let goes = c.in_ok-house.ensures.state in
    let asked = c.in_ok-house.ensures.asked in
    let kept = rw c.in-Some.is at asked.2 in
    let acted = after_all c.args.house.auction c.in_ok-parts.parts.acts.items in
    let planned = planned-from_offers acted asked.0 c.in-Some.planned.bids.items asked.1 kept.1 in
    subst (λ (t : State). ArePlanned t c.in-Some.planned.bids.items) (sym (state_is ∙ goes.next_is)) (planned-after_round acted goes.values c.in-Some.planned.bids.items planned)

pub returns-in-Ok-clause-posts : goal.returns-in-Ok-clause-posts
returns-in-Ok-clause-posts g c =
    let net = c.args.net.now in
    let rows = c.args.rows.now in
    let Keeps = g.F.RowFamily.KeepsRule rows net in
    let family : FamilyOf g.row.F-Row.Denot = record { cmp = g.F.Row.Ord.cmp; rows = g.F.RowFamily.rows_of rows net; texts = g.F.RowText.texts_of rows } in
    let s = c.args.house.auction in
    let actions = c.args.actions.items in
    let bids = c.in-Some.planned.bids.items in
    let round_is : c.round-round.result ≡ s.round = search rules in
    let state_is : c.state-2.result.now ≡ c.in_ok-house.field-0.house.auction = search rules in
    let acts_are : c.in_ok-parts.parts.acts.items ≡ asked_of (acts_of s.round actions) = c.in_ok-parts.ensures.acts ∙ (λ i. asked_of (acts_of (round_is i) actions)) in
    let asked = c.in_ok-house.ensures.asked in
    let kept = rw c.in-Some.is at asked.2 in
    let planned = subst (λ (acts : List Act). ArePlanned (after_all s acts) bids) acts_are (planned-from_offers (after_all s c.in_ok-parts.parts.acts.items) asked.0 bids asked.1 kept.1) in
    let goes = subst (λ (acts : List Act). IsPlannedRound (AreRoundValues family.cmp net family.rows Keeps) s acts c.in_ok-house.field-0.house.auction) acts_are c.in_ok-house.ensures.state in
    let rows_are : c.in_ok-parts.parts.rows.items ≡ rows_of (acts_of s.round actions) = c.in_ok-parts.ensures.rows ∙ (λ i. rows_of (acts_of (round_is i) actions)) in
    let told_are : c.in_ok-house.field-0.outcomes.items ≡ refusals_of s (asked_of (acts_of s.round actions)) = c.in_ok-house.ensures.outcomes ∙ ap (refusals_of s) acts_are in
    posted-round family Keeps net c.args.names.now actions s c.in_ok-house.field-0.house.auction bids c.in-Some.planned.plan c.in-Some.planned.graphs
    c.requires.open (c.requires.rule bids) kept.0 planned goes _ _ _ c.in-Ok.answer.status c.in-Ok.answer.text.items
    round_is
    (λ i. zip (rows_are i) (told_are i))
    (c.in_ok-parts.ensures.later ∙ (λ i. rows_of (acts_after (round_is i) actions)))
    (rw state_is at c.in-Ok.ensures.text)
    c.in-Ok.ensures.status
