-- Each minute in which too many stand is added.
use Rattle.std.proofs.Common.{◌≡◌, ◌+◌, ◌++◌, ◌∷◌, [], ◌<◌, ◌≤◌, ℕ, List, get_or, sym, ap, ◌∙◌, subst, arith}
use Rattle.std.proofs.lemmas.List.{get_or_default}
use Rattle.optra_audit.specs.declared.Over.{Over}
use Rattle.optra_audit.specs.Listings.{AddsExactly}
use Rattle.optra_audit.specs.Overs.{over_key}
use Rattle.optra_audit.specs.Stays.{IsStationOver, standing_in}
use Rattle.optra_audit.proofs.ListingLemmas.{Until, at_all, turns_more, turns_skip}
use Rattle.optra_audit.proofs.StayLemmas.{MinuteOvers, minute_fits, minute_of, minute_over, minute_within, minutes_ordered, over_of}
use Rattle.optra_audit.proofs.overs.add_minutes.Goals as goal
use Rattle.optra_audit.proofs.overs.add_minutes.Goals.{in-Some+in_ok-push, in_default}

pub minutes-preserved : goal.minutes-preserved
minutes-preserved c =
    let own = c.args.own.now in
    let station = c.args.station in
    let limit = c.args.limit in
    let m = c.minutes.minute in
    let counts = c.in_ok-counts.counts.items in
    let long = c.in_ok-counts.ensures.long in
    let stand : c.index-standing.result.now ≡ standing_in m own =
    c.index-standing.ensures ∙ ap (λ (n : ℕ). get_or counts n c.index-standing.result.now) c.from.ensures
    ∙ get_or_default counts m c.index-standing.result.now 0 (omega (arith, long)) ∙ c.in_ok-counts.ensures.are m (omega arith) in
    let old = c.args.overs.now.items in
    let now = c.minutes.overs.items in
    elim c.match-over_in.branch [
      | in-Some+in_ok-push w ↦
          let is = w.in-Some.ensures in
          subst (λ (xs : List Over). AddsExactly over_key (Until over_key (MinuteOvers own station limit) (m + 1)) old xs)
          (sym (ap (λ v. v.items) w.overs-is ∙ w.in_ok-push.ensures.items ∙ ap (λ (o : Over). now ++ o ∷ []) (is.is ∙ ap (over_of station m) stand)))
          (turns_more over_key (MinuteOvers own station limit) old now _ m (minutes_ordered own station limit) c.minutes.invariant (minute_over own station limit m now (omega arith) (subst (λ (n : ℕ). limit < n) stand is.more)))
      | in_default w ↦
          subst (λ (xs : List Over). AddsExactly over_key (Until over_key (MinuteOvers own station limit) (m + 1)) old xs) (sym (ap (λ v. v.items) w.overs-is))
          (turns_skip over_key (MinuteOvers own station limit) old now m (minutes_ordered own station limit) (minute_fits own station limit m (subst (λ (n : ℕ). n ≤ limit) stand w.in_default.ensures)) c.minutes.invariant)
    ]

pub returns : goal.returns
returns c =
    let own = c.args.own.now in
    at_all over_key (IsStationOver own c.args.station c.args.limit) minute_of c.args.overs.now.items c.minutes.overs.items c.minutes.minute
    (λ x o. let l = minute_within own c.args.station c.args.limit x o in omega arith) c.minutes.invariant
