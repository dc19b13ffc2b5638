-- One more bid, and then the text of the winners.
use Rattle.std.proofs.Common.{◌≡◌, ◌++◌, ◌∙◌, [], ◌∷◌, ℕ, Some, Vec, map, ap, subst, arith, IfOk, rules}
use Rattle.std.proofs.lemmas.Int.{to_z-of_z}
use Rattle.std.proofs.lemmas.List.{map-append, take_all}
use Rattle.std.specs.Prelude.{FitsSigned}
use Rattle.std.specs.Int.{w64}
use Rattle.std.specs.declared.alloc.Global.{Global}
use Rattle.optra_records.specs.Texts.{records_text}
use Rattle.optra_text.specs.RoundTexts.{Close, close_records}
use Rattle.optra_text.specs.RoundViews.{award_of, close_text_of}
use Rattle.optra_text.specs.declared.rounds.Award.{Award}
use Rattle.optra_rounds.specs.Rounds.{awards_of}
use Rattle.optra_rounds.proofs.WinnerLemmas.{next-lost, next-won}
use Rattle.optra_rounds.proofs.winners.close_of.Goals as goal
use Rattle.optra_rounds.proofs.winners.close_of.Goals.{in-Some+in_ok-push-in-Some, in-None}

pub bids-preserved : goal.bids-preserved
bids-preserved c =
    elim c.match-award.branch [
      | in-Some+in_ok-push-in-Some w ↦
          let fits : FitsSigned w64 w.in-Some.value = search rules in
          next-won c.args.auction.now.specs c.args.auction.now.standing c.args.bids.now c.requires c.bids.place c.index-bids-place.result w.in-Some.value
          (map award_of c.bids.awards.items) (map award_of c.match-award.awards.items) (c.award.ensures ∙ ap Some w.in-Some.is) c.index-bids-place.is
          (ap (λ (v : Vec Award Global). map award_of v.items) w.awards-is ∙ ap (map award_of) w.in_ok-push-in-Some.ensures.items ∙ map-append award_of c.bids.awards.items _
          ∙ (λ i. map award_of c.bids.awards.items ++ (c.index-bids-place.result.name, c.index-bids-place.result.bidder, to_z-of_z w64 w.in-Some.value fits i) ∷ [])) c.bids.invariant
      | in-None w ↦ ap (λ (v : Vec Award Global). map award_of v.items) w.awards-is
          ∙ next-lost c.args.auction.now.specs c.args.auction.now.standing c.args.bids.now c.requires c.bids.place (map award_of c.bids.awards.items) (c.award.ensures ∙ ap Some w.in-None.is) c.bids.invariant
    ]

pub returns : goal.returns
unfolding close_text_of
returns c =
    let whole : map award_of c.bids.awards.items ≡ awards_of c.args.auction.now.standing = c.bids.invariant ∙ ap awards_of (take_all c.bids.place c.args.auction.now.standing (omega arith)) in
    let awards = ap (map award_of) c.deref.ensures.value ∙ whole in
    subst (λ (k : Close). IfOk c.close_text.result (λ (text : Vec ℕ Global). text.items ≡ records_text (close_records k)))
    (λ i. record { round = c.round.ensures i; late = c.args.late.now; awards = awards i }) c.close_text.ensures
