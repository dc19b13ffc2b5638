use Rattle.std.proofs.Common.{◌≡◌, ◌∙◌, sym, ap, length, arith, Some}
use Rattle.std.specs.Prelude.{⊤}
use Rattle.std.proofs.lemmas.Result.{err_from_is_err_and}
use Rattle.optra_auction.specs.Machine.{State, after_all, after_round}
use Rattle.optra_auction.proofs.ActLemmas.{acts_keep}
use Rattle.optra_house.specs.Payloads.{Posting}
use Rattle.optra_house.specs.Replay.{after_posting}
use Rattle.optra_house.proofs.PostLemmas.{closed_stops, count_stops, follows, goes, number_stops, steps_failed}
use Rattle.optra_house.proofs.replay.replay_round.Goals as goal
use Rattle.optra_house.proofs.replay.replay_round.Goals.{then-closed-via-then-closed, then-closed-via-else-closed+then-round}

pub returns-in_err-round : goal.returns-in_err-round
returns-in_err-round c =
    let p = err_from_is_err_and c.from_residual.result c.from_residual.ensures.1 in
    rw (p.1, p.2) (steps_failed ⊤ c.in_err-round.field-0.0 c.args.auction.now c.args.payload.now c.in_err-round.ensures.gives)

pub returns-then-closed : goal.returns-then-closed
returns-then-closed c = elim c.then-closed.branch [
  | then-closed-via-then-closed w ↦ closed_stops c.args.auction.now c.args.payload.now c.in_ok-round.round c.in_ok-round.ensures.gives (sym c.closed.ensures ∙ w.if-closed.true)
  | then-closed-via-else-closed+then-round w ↦
      let number : c.round.inside.number ≡ c.in_ok-round.round.number = ap (λ (p : Posting). p.number) c.round.view_is in
      number_stops c.args.auction.now c.args.payload.now c.in_ok-round.round c.in_ok-round.ensures.gives (λ same. w.if-round.true (number ∙ same ∙ sym w.round-else-closed.ensures))
]

pub returns-then-len-count : goal.returns-then-len-count
returns-then-len-count c =
    let values : length c.round.inside.values.items ≡ length c.in_ok-round.round.values = ap (λ (p : Posting). length p.values) c.round.view_is in
    let state : c.retake_acts.new.auction ≡ after_all c.args.auction.now c.in_ok-round.round.acts = c.retake_acts.ensures ∙ ap (λ (p : Posting). after_all c.args.auction.now p.acts) c.round.view_is in
    let standing : length (after_all c.args.auction.now c.in_ok-round.round.acts).standing ≡ c.count.result = ap (λ (s : State). length s.standing) (sym state) ∙ sym c.count.ensures.count in
    let counted : c.len.result ≡ length c.round.inside.values.items = grind arith in
    count_stops c.args.auction.now c.args.payload.now c.in_ok-round.round c.in_ok-round.ensures.gives (λ same. c.if-len-count.true (counted ∙ values ∙ same ∙ standing))

pub close_round-requires-clause-open : goal.close_round-requires-clause-open
close_round-requires-clause-open c =
    ap (λ (s : State). s.closed) c.retake_acts.ensures ∙ (acts_keep c.args.auction.now c.round.inside.acts.items).closed ∙ sym c.closed.ensures ∙ c.if-closed.false

pub returns : goal.returns
returns c =
    let posting = c.in_ok-round.round in
    let number : c.round.inside.number ≡ posting.number = ap (λ (p : Posting). p.number) c.round.view_is in
    let values : length c.round.inside.values.items ≡ length posting.values = ap (λ (p : Posting). length p.values) c.round.view_is in
    let state : c.retake_acts.new.auction ≡ after_all c.args.auction.now posting.acts = c.retake_acts.ensures ∙ ap (λ (p : Posting). after_all c.args.auction.now p.acts) c.round.view_is in
    let standing : length (after_all c.args.auction.now posting.acts).standing ≡ c.count.result = ap (λ (s : State). length s.standing) (sym state) ∙ sym c.count.ensures.count in
    let counted : c.len.result ≡ length c.round.inside.values.items = grind arith in
    let follow = follows c.args.auction.now posting (sym c.closed.ensures ∙ c.if-closed.false) (sym number ∙ c.if-round.false ∙ c.round-else-closed.ensures) (sym values ∙ sym counted ∙ c.if-len-count.false ∙ sym standing) in
    let new : c.close_round.new.self ≡ after_posting c.args.auction.now posting =
    c.close_round.ensures.round ∙ ap (after_round c.retake_acts.new.auction) (c.deref.ensures.value ∙ ap (λ (p : Posting). p.values) c.round.view_is) ∙ ap (λ (s : State). after_round s posting.values) state in
    goes c.args.auction.now c.args.payload.now posting c.in_ok-round.ensures.gives follow ∙ ap (λ (s : State). Some s) (sym new)
