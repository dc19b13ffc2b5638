use Rattle.std.proofs.Common.{◌≡◌, ◌∙◌, ◌++◌, ◌<◌, ◌≤◌, ◌^◌, ℕ, ℤ, List, Option, Some, length, refl, sym, ap, subst, arith, All}
use Rattle.optra_bid.specs.declared.bids.Bid.{Bid}
use Rattle.optra_auction.specs.Machine.{IsAuction, State, after_all, after_round}
use Rattle.optra_auction.specs.declared.Rules.{Rules}
use Rattle.optra_auction.proofs.ActLemmas.{acts_keep}
use Rattle.optra_house.specs.Payloads.{AreValues, head_bytes, values_bytes}
use Rattle.optra_house.specs.Replay.{WasAsked, offers_of}
use Rattle.optra_house.proofs.PostLemmas.{posted_goes, values_at_most}
use Rattle.optra_house.proofs.closing.close_round.Goals as goal

pub values_of-requires : goal.values_of-requires
values_of-requires g c =
    subst (All (λ (spec : Bid). g.P.Rounds.takes c.args.planner.now spec.path)) (sym (ap (λ (s : State). s.specs) c.in_ok-outcomes.ensures.after ∙ (acts_keep c.args.auction.now c.args.acts.items).specs)) c.requires.paths

pub close_round-requires-clause-open : goal.close_round-requires-clause-open
close_round-requires-clause-open g c =
    ap (λ (s : State). s.closed) c.in_ok-outcomes.ensures.after ∙ (acts_keep c.args.auction.now c.args.acts.items).closed ∙ c.requires.is_open

pub returns-clause-state : goal.returns-clause-state
returns-clause-state g c =
    let before = c.args.auction.now in
    let acts = c.args.acts.items in
    let values = c.in_ok-values.values.items in
    let taken : c.take_acts.new.auction ≡ after_all before acts = c.in_ok-outcomes.ensures.after in record {
      values = values;
      meant = subst (λ (s : State). g.P.Rounds.Means c.args.planner.now (offers_of s) values) taken c.in_ok-values.ensures.values;
      next_is = c.close_round.ensures.round ∙ ap (after_round c.take_acts.new.auction) c.deref.ensures.value ∙ ap (λ (s : State). after_round s values) taken;
    }

pub returns-clause-asked : goal.returns-clause-asked
returns-clause-asked g c = subst (λ (s : State). WasAsked (g.P.Rounds.After c.args.planner.now) s c.values_of.new.planner) c.in_ok-outcomes.ensures.after c.in_ok-values.ensures.asked

pub returns-clause-read : goal.returns-clause-read
returns-clause-read g c =
    let before = c.args.auction.now in
    let acts = c.args.acts.items in
    let values = c.in_ok-values.values.items in
    let taken : c.take_acts.new.auction ≡ after_all before acts = c.in_ok-outcomes.ensures.after in
    let kept = acts_keep before acts in
    let here : IsAuction (after_all before acts) = subst IsAuction taken c.values_of.ensures.auction in
    let are : AreValues (length (after_all before acts).standing) values = subst (λ (s : State). AreValues (length s.standing) values) taken c.in_ok-values.ensures.each in
    let small : before.round < 2 ^ 16 = omega (arith, kept.round, ap (λ (r : Rules). r.rounds) kept.rules, here.round_max, here.rules.rounds_max) in
    let bytes_are : c.put_values.new.bytes.items ≡ head_bytes before.round acts ++ values_bytes values =
    c.in_ok-put_values.ensures ∙ ap (λ (l : List (Option ℤ)). c.args.payload.now.items ++ values_bytes l) c.deref-2.ensures.value ∙ ap (λ (l : List ℕ). l ++ values_bytes values) c.requires.head in
    let closed_is : c.close_round.new.self ≡ after_round (after_all before acts) values =
    c.close_round.ensures.round ∙ ap (after_round c.take_acts.new.auction) c.deref.ensures.value ∙ ap (λ (s : State). after_round s values) taken in
    posted_goes before before.round acts values c.put_values.new.bytes.items c.requires.is_open refl small c.requires.few c.requires.spelled are here.few bytes_are
    ∙ ap (λ (s : State). Some s) (sym closed_is)

pub returns-clause-size : goal.returns-clause-size
returns-clause-size g c =
    let few : length c.in_ok-values.values.items ≤ 500 = omega (arith, c.in_ok-values.ensures.each.count_is, c.values_of.ensures.auction.few) in
    values_at_most c.put_values.new.bytes.items c.args.payload.now.items c.in_ok-values.values.items
    (c.in_ok-put_values.ensures ∙ ap (λ (l : List (Option ℤ)). c.args.payload.now.items ++ values_bytes l) c.deref-2.ensures.value) few
