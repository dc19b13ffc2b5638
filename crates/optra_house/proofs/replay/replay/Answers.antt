use Rattle.std.proofs.Common.{◌≤◌, ◌∙◌, sym, ap, List, ℕ, length, arith, length-drop, refl, ◌∷◌}
use Rattle.std.specs.Prelude.{Err, bytes_eq}
use Rattle.optra_house.specs.declared.fields.Unread.{Unread}
use Rattle.std.proofs.lemmas.Result.{err_from_is_err_and}
use Rattle.optra_house.specs.Entries.{is_open}
use Rattle.optra_house.proofs.EntryLemmas.{short_none}
use Rattle.optra_house.proofs.ReplayLemmas.{entry_sizes, file_empty, file_failed, file_refused_by, file_replayed, file_stamped_otherwise, long_refused, not_so, open_is, so}
use Rattle.optra_house.proofs.replay.replay.Goals as goal

pub returns-then-file-le-NO_ENTRY : goal.returns-then-file-le-NO_ENTRY
returns-then-file-le-NO_ENTRY c = record { found = short_none c.args.file.now (omega (arith, c.if-file-le-NO_ENTRY.true)); laid = λ long. absurd (omega (arith, long, c.if-file-le-NO_ENTRY.true)); state = refl }

pub returns-then-not-starts_with : goal.returns-then-not-starts_with
returns-then-not-starts_with c =
    long_refused c.args.stamp.now c.args.file.now c.args.auction.now (omega (arith, c.if-file-le-NO_ENTRY.false)) (sym c.starts_with.ensures.value ∙ c.if-not-starts_with.true)

pub returns-then-not-is_open : goal.returns-then-not-is_open
returns-then-not-is_open c =
    file_empty c.args.stamp.now c.args.file.now c.args.auction.now (omega (arith, c.if-file-le-NO_ENTRY.false)) c.requires (sym c.starts_with.ensures.value ∙ c.if-not-starts_with.false) (λ i. omega (arith, c.type_inv.file i)) (ap is_open (sym c.bytes_from-rest.ensures) ∙ sym c.is_open.ensures ∙ c.if-not-is_open.true)

pub returns-in_err-first : goal.returns-in_err-first
returns-in_err-first c =
    let p = err_from_is_err_and c.from_residual.result c.from_residual.ensures.1 in
    rw (p.1, p.2) (file_failed c.args.stamp.now c.args.file.now c.args.auction.now (omega (arith, c.if-file-le-NO_ENTRY.false)) c.requires (sym c.starts_with.ensures.value ∙ c.if-not-starts_with.false)
    c.in_err-first.field-0.0 c.bytes_from.result.now (sym c.bytes_from-rest.ensures ∙ open_is c.bytes_from-rest.result.now (sym c.is_open.ensures ∙ c.if-not-is_open.false) ∙ ap (λ (l : List ℕ). 1 ∷ l) (sym c.bytes_from.ensures)) c.in_err-first.ensures)

pub returns-then-ne : goal.returns-then-ne
returns-then-ne c =
    file_stamped_otherwise c.args.stamp.now c.args.file.now c.args.auction.now (omega (arith, c.if-file-le-NO_ENTRY.false)) c.requires (sym c.starts_with.ensures.value ∙ c.if-not-starts_with.false)
    c.bytes_from.result.now c.in_ok-first.first.now c.in_ok-first.rest.now (sym c.bytes_from-rest.ensures ∙ open_is c.bytes_from-rest.result.now (sym c.is_open.ensures ∙ c.if-not-is_open.false) ∙ ap (λ (l : List ℕ). 1 ∷ l) (sym c.bytes_from.ensures)) c.in_ok-first.ensures (not_so (bytes_eq c.in_ok-first.first.now c.args.stamp.now) (sym c.ne.ensures ∙ c.if-ne.true))

pub replay_rounds-requires : goal.replay_rounds-requires
replay_rounds-requires c = (entry_sizes c.bytes_from.result.now c.in_ok-first.first.now c.in_ok-first.rest.now c.in_ok-first.ensures).1

pub returns-in_err-rest : goal.returns-in_err-rest
returns-in_err-rest c =
    let p = err_from_is_err_and c.from_residual-in_err-rest.result c.from_residual-in_err-rest.ensures.1 in
    rw (p.1, p.2) (file_refused_by c.args.stamp.now c.args.file.now c.args.auction.now (omega (arith, c.if-file-le-NO_ENTRY.false)) c.requires (sym c.starts_with.ensures.value ∙ c.if-not-starts_with.false)
    c.in_err-rest.field-0.0 c.bytes_from.result.now c.in_ok-first.first.now c.in_ok-first.rest.now c.replay_rounds.new.auction (sym c.bytes_from-rest.ensures ∙ open_is c.bytes_from-rest.result.now (sym c.is_open.ensures ∙ c.if-not-is_open.false) ∙ ap (λ (l : List ℕ). 1 ∷ l) (sym c.bytes_from.ensures)) c.in_ok-first.ensures (so (bytes_eq c.in_ok-first.first.now c.args.stamp.now) (sym c.ne.ensures ∙ c.if-ne.false)) (λ same. c.in_err-rest.ensures.err (ap (λ (e : Unread). Err e) same)))

pub overflow_sub-result : goal.overflow_sub-result
overflow_sub-result c =
    let sizes = entry_sizes c.bytes_from.result.now c.in_ok-first.first.now c.in_ok-first.rest.now c.in_ok-first.ensures in
    let behind : length c.bytes_from.result.now ≤ length c.args.file.now = omega (arith, ap length c.bytes_from.ensures, ap length c.bytes_from-rest.ensures, length-drop 1 c.bytes_from-rest.result.now, length-drop 8 c.args.file.now) in
    omega (arith, sizes.0, behind, c.in_ok-rest.ensures.ok.place)

pub returns : goal.returns
returns c =
    let sizes = entry_sizes c.bytes_from.result.now c.in_ok-first.first.now c.in_ok-first.rest.now c.in_ok-first.ensures in
    let behind : length c.bytes_from.result.now ≤ length c.args.file.now = omega (arith, ap length c.bytes_from.ensures, ap length c.bytes_from-rest.ensures, length-drop 1 c.bytes_from-rest.result.now, length-drop 8 c.args.file.now) in
    file_replayed c.args.stamp.now c.args.file.now c.args.auction.now (omega (arith, c.if-file-le-NO_ENTRY.false)) c.requires (sym c.starts_with.ensures.value ∙ c.if-not-starts_with.false)
    c.bytes_from.result.now c.in_ok-first.first.now c.in_ok-first.rest.now _ _ _ (λ i. omega (arith, c.type_inv.file i)) (sym c.bytes_from-rest.ensures ∙ open_is c.bytes_from-rest.result.now (sym c.is_open.ensures ∙ c.if-not-is_open.false) ∙ ap (λ (l : List ℕ). 1 ∷ l) (sym c.bytes_from.ensures)) c.in_ok-first.ensures (so (bytes_eq c.in_ok-first.first.now c.args.stamp.now) (sym c.ne.ensures ∙ c.if-ne.false)) c.in_ok-rest.ensures.ok (omega (arith, sizes.0, behind, c.in_ok-rest.ensures.ok.place))
