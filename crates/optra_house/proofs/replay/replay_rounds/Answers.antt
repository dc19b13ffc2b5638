use Rattle.std.proofs.Common.{◌∙◌, sym, ap, subst, List, ℕ, Some, arith, length, length-drop, ◌∷◌}
use Rattle.std.specs.Prelude.{⊤}
use Rattle.std.proofs.lemmas.Result.{err_from_is_err_and}
use Rattle.optra_house.specs.declared.fields.Unread.{Unread}
use Rattle.optra_house.specs.Entries.{entry_at}
use Rattle.optra_house.specs.Reading.{Fails}
use Rattle.optra_house.specs.Replay.{after_payload}
use Rattle.optra_house.proofs.PostLemmas.{err_same, stops_by}
use Rattle.optra_house.proofs.ReplayLemmas.{IsUnder, entry_sizes, open_is, under_broken, under_end, under_refused, under_step}
use Rattle.optra_house.proofs.replay.replay_rounds.Goals as goal

pub returns-in_err-payload-clause-err : goal.returns-in_err-payload-clause-err
returns-in_err-payload-clause-err c =
    let rest = c.entries.rest.now in
    let behind = c.bytes_from.result.now in
    let ahead : IsUnder c.args.auction.now c.entries.auction c.args.bytes.now (1 ∷ behind) = subst (λ (r : List ℕ). IsUnder c.args.auction.now c.entries.auction c.args.bytes.now r) (open_is rest (sym c.is_open.ensures ∙ c.entries-test.true) ∙ ap (λ (l : List ℕ). 1 ∷ l) (sym c.bytes_from.ensures)) c.entries.invariant in
    let p = err_from_is_err_and c.from_residual.result c.from_residual.ensures.1 in
    rw (p.1, p.2) (λ is. under_broken c.args.auction.now c.entries.auction c.args.bytes.now behind ahead (subst (λ (e : Unread). Fails e (entry_at behind)) (err_same _ _ _ is) c.in_err-payload.ensures))

pub returns-in_err-replay_round-clause-err : goal.returns-in_err-replay_round-clause-err
returns-in_err-replay_round-clause-err c =
    let rest = c.entries.rest.now in
    let behind = c.bytes_from.result.now in
    let ahead : IsUnder c.args.auction.now c.entries.auction c.args.bytes.now (1 ∷ behind) = subst (λ (r : List ℕ). IsUnder c.args.auction.now c.entries.auction c.args.bytes.now r) (open_is rest (sym c.is_open.ensures ∙ c.entries-test.true) ∙ ap (λ (l : List ℕ). 1 ∷ l) (sym c.bytes_from.ensures)) c.entries.invariant in
    let p = err_from_is_err_and c.from_residual-in_err-replay_round.result c.from_residual-in_err-replay_round.ensures.1 in
    rw (p.1, p.2) (λ is. under_refused c.args.auction.now c.entries.auction c.args.bytes.now behind c.in_ok-payload.payload.now c.in_ok-payload.after.now ahead c.in_ok-payload.ensures (stops_by ⊤ c.in_err-replay_round.field-0.0 (after_payload (Some c.entries.auction) c.in_ok-payload.payload.now) c.replay_round.new.auction (err_same _ _ _ is) c.in_err-replay_round.ensures))

pub entries-smaller : goal.entries-smaller
entries-smaller c =
    let sizes = entry_sizes c.bytes_from.result.now c.in_ok-payload.payload.now c.in_ok-payload.after.now c.in_ok-payload.ensures in
    omega (arith, sizes.0, ap length c.bytes_from.ensures, length-drop 1 c.entries.rest.now, c.entries.invariant.some)

pub entries-preserved : goal.entries-preserved
entries-preserved c =
    let rest = c.entries.rest.now in
    let behind = c.bytes_from.result.now in
    let ahead : IsUnder c.args.auction.now c.entries.auction c.args.bytes.now (1 ∷ behind) = subst (λ (r : List ℕ). IsUnder c.args.auction.now c.entries.auction c.args.bytes.now r) (open_is rest (sym c.is_open.ensures ∙ c.entries-test.true) ∙ ap (λ (l : List ℕ). 1 ∷ l) (sym c.bytes_from.ensures)) c.entries.invariant in
    under_step c.args.auction.now c.entries.auction c.replay_round.new.auction c.args.bytes.now behind c.in_ok-payload.payload.now c.in_ok-payload.after.now ahead c.in_ok-payload.ensures c.in_ok-replay_round.ensures

pub returns-clause-ok : goal.returns-clause-ok
returns-clause-ok c = under_end _ _ _ _ c.entries.invariant (sym c.is_open.ensures ∙ c.entries-test.false)
