use Rattle.std.proofs.Common.{◌≡◌, ◌∙◌, ◌+◌, ℕ, ◌∷◌, Some, length, not, refl, sym, ap, subst, arith, All}
use Rattle.std.specs.List.{AllByRecursion}
use Rattle.std.proofs.lemmas.List.Elements.{recursion_from_All}
use Rattle.std.proofs.lemmas.Result.{err_from_is_err_and}
use Rattle.optra_bid.specs.declared.bids.Bid.{Bid}
use Rattle.optra_auction.specs.Machine.{HasAmount, State}
use Rattle.optra_house.specs.declared.house.Posted.{Posted}
use Rattle.optra_house.specs.Journal.{IsSettled}
use Rattle.optra_house.specs.Ledger.{IsAtRest, Ledger}
use Rattle.optra_house.specs.Payloads.{head_bytes}
use Rattle.optra_house.specs.Replay.{IsPlannedRound, after_payload}
use Rattle.optra_house.proofs.PostLemmas.{fault_kept, fault_rule, in_order, planned_as, reads_as, room_rule}
use Rattle.optra_house.proofs.RestLemmas.{append_leaves, opens_after, rest_leaves, rests_again}
use Rattle.optra_house.proofs.house.House.post.Goals as goal

pub returns-then-closed-clause-any_moment : goal.returns-then-closed-clause-any_moment
returns-then-closed-clause-any_moment g c = λ tells stamp specs rules rest.
    rest_leaves stamp specs rules c.args.self (g.D.Disk.state c.args.disk.now).file rest (IsPlannedRound (g.P.Rounds.Means c.args.planner.now) c.args.self.auction c.args.acts.items)

pub returns-in_err-payload-clause-any_moment : goal.returns-in_err-payload-clause-any_moment
returns-in_err-payload-clause-any_moment g c = λ tells stamp specs rules rest.
    rest_leaves stamp specs rules c.args.self (g.D.Disk.state c.args.disk.now).file rest (IsPlannedRound (g.P.Rounds.Means c.args.planner.now) c.args.self.auction c.args.acts.items)

pub returns-then-not-has_room-clause-any_moment : goal.returns-then-not-has_room-clause-any_moment
returns-then-not-has_room-clause-any_moment g c = λ tells stamp specs rules rest.
    rest_leaves stamp specs rules c.args.self (g.D.Disk.state c.args.disk.now).file rest (IsPlannedRound (g.P.Rounds.Means c.args.planner.now) c.args.self.auction c.args.acts.items)

pub returns-in_err-outcomes-clause-any_moment : goal.returns-in_err-outcomes-clause-any_moment
returns-in_err-outcomes-clause-any_moment g c = λ tells stamp specs rules rest.
    rest_leaves stamp specs rules c.args.self (g.D.Disk.state c.args.disk.now).file rest (IsPlannedRound (g.P.Rounds.Means c.args.planner.now) c.args.self.auction c.args.acts.items)

pub head_of-requires-clause-amounts : goal.head_of-requires-clause-amounts
head_of-requires-clause-amounts g c = subst (AllByRecursion HasAmount) (sym c.deref.ensures.value) (recursion_from_All HasAmount c.args.acts.items c.requires.amounts)

pub returns-then-not-has_room-clause-rule : goal.returns-then-not-has_room-clause-rule
returns-then-not-has_room-clause-rule g c =
    let view : c.self.inside.auction ≡ c.args.self.auction = ap (λ (h : Ledger). h.auction) c.self.view_is in
    let counted : c.len.result ≡ length c.in_ok-payload.payload.items = grind arith in
    let head : c.len.result ≡ length (head_bytes c.args.round c.args.acts.items) = counted ∙ ap length (c.in_ok-payload.ensures.bytes ∙ ap (head_bytes c.args.round) c.deref.ensures.value) in (
      in_order c.args.self.auction c.args.round (ap (λ (s : State). s.closed) (sym view) ∙ sym c.closed.ensures ∙ c.if-closed.false) (ap (λ (s : State). s.round) (sym view) ∙ sym c.round.ensures ∙ c.if-round.false),
      room_rule c.args.self c.args.round c.args.acts.items c.len.result head c.has_room.result c.has_room.ensures ∙ ap not c.if-not-has_room.true,
      refl,
    )

pub close_round-requires-clause-paths : goal.close_round-requires-clause-paths
close_round-requires-clause-paths g c = subst (All (λ (spec : Bid). g.P.Rounds.takes c.args.planner.now spec.path)) (sym (ap (λ (h : Ledger). h.auction.specs) c.self.view_is)) c.requires.paths

pub returns-in_err-append_entry-clause-rule : goal.returns-in_err-append_entry-clause-rule
returns-in_err-append_entry-clause-rule g c =
    let p = err_from_is_err_and c.from_residual-in_err-append_entry.result c.from_residual-in_err-append_entry.ensures.1 in
    rw (p.1, p.2) (fault_rule Posted c.in_err-append_entry.field-0.0 c.args.self c.args.round c.args.acts.items)

pub returns-in_err-append_entry-clause-refused : goal.returns-in_err-append_entry-clause-refused
returns-in_err-append_entry-clause-refused g c = λ refused.
    let p = err_from_is_err_and c.from_residual-in_err-append_entry.result c.from_residual-in_err-append_entry.ensures.1 in
    absurd (fault_kept Posted c.in_err-append_entry.field-0.0 (rw (p.1, p.2) at refused))

pub returns-in_err-append_entry-clause-any_moment : goal.returns-in_err-append_entry-clause-any_moment
returns-in_err-append_entry-clause-any_moment g c = λ tells stamp specs rules rest.
    let old = (g.D.Disk.state c.args.disk.now).file in
    let next = c.close_round.new.auction in
    let payload = c.deref-2.result.now in
    let reads : after_payload (Some c.args.self.auction) payload ≡ Some next =
    reads_as c.args.self.auction c.self.inside.auction next c.close_round.new.payload.items payload (ap (λ (h : Ledger). h.auction) c.self.view_is) c.deref-2.ensures.value c.in_ok-outcomes.ensures.read in
    let settled : IsSettled (stamp ∷ rest.rounds) c.self.inside.gate old.now = subst (λ (k : ℕ). IsSettled (stamp ∷ rest.rounds) k old.now) (sym (ap (λ (h : Ledger). h.gate) c.self.view_is)) rest.settled in
    let IsAfter = IsPlannedRound (g.P.Rounds.Means c.args.planner.now) c.args.self.auction c.args.acts.items in
    let planned = planned_as (g.P.Rounds.Means c.args.planner.now) c.args.acts.items c.args.self.auction c.self.inside.auction next (ap (λ (h : Ledger). h.auction) c.self.view_is) c.in_ok-outcomes.ensures.state in
    append_leaves stamp specs rules c.args.self old rest payload next reads IsAfter planned (g.D.Disk.state c.append_entry.new.disk).file (c.append_entry.ensures.any_moment tells (stamp ∷ rest.rounds) settled)

pub returns-clause-rule : goal.returns-clause-rule
returns-clause-rule g c =
    let view : c.self.inside.auction ≡ c.args.self.auction = ap (λ (h : Ledger). h.auction) c.self.view_is in
    let counted : c.len.result ≡ length c.in_ok-payload.payload.items = grind arith in
    let head : c.len.result ≡ length (head_bytes c.args.round c.args.acts.items) = counted ∙ ap length (c.in_ok-payload.ensures.bytes ∙ ap (head_bytes c.args.round) c.deref.ensures.value) in (
      in_order c.args.self.auction c.args.round (ap (λ (s : State). s.closed) (sym view) ∙ sym c.closed.ensures ∙ c.if-closed.false) (ap (λ (s : State). s.round) (sym view) ∙ sym c.round.ensures ∙ c.if-round.false),
      room_rule c.args.self c.args.round c.args.acts.items c.len.result head c.has_room.result c.has_room.ensures ∙ ap not c.if-not-has_room.false,
    )

pub returns-clause-at_rest : goal.returns-clause-at_rest
returns-clause-at_rest g c = λ tells stamp specs rules rest.
    let old = (g.D.Disk.state c.args.disk.now).file in
    let next = c.close_round.new.auction in
    let payload = c.deref-2.result.now in
    let view : c.self.inside.auction ≡ c.args.self.auction = ap (λ (h : Ledger). h.auction) c.self.view_is in
    let reads : after_payload (Some c.args.self.auction) payload ≡ Some next =
    reads_as c.args.self.auction c.self.inside.auction next c.close_round.new.payload.items payload view c.deref-2.ensures.value c.in_ok-outcomes.ensures.read in
    let settled : IsSettled (stamp ∷ rest.rounds) c.self.inside.gate old.now = subst (λ (k : ℕ). IsSettled (stamp ∷ rest.rounds) k old.now) (sym (ap (λ (h : Ledger). h.gate) c.self.view_is)) rest.settled in
    let place = c.self.inside.gate + 5 + length payload in
    let moment = (g.D.Disk.state c.append_entry.new.disk).file.now in
    let counted : c.len-2.result ≡ length c.close_round.new.payload.items = grind arith in
    let gate_is : place ≡ c.self.inside.gate + 5 + c.len-2.result = ap (λ (k : ℕ). c.self.inside.gate + 5 + k) (ap length c.deref-2.ensures.value ∙ sym counted) in
    subst (λ (h : Ledger). IsAtRest stamp specs rules h moment) (λ i. record { auction = next; gate = gate_is i })
    (rests_again stamp specs rules c.args.self old rest payload next reads place moment (c.in_ok-append_entry.ensures.settled tells (stamp ∷ rest.rounds) settled))

pub returns-clause-acknowledged : goal.returns-clause-acknowledged
returns-clause-acknowledged g c = λ tells stamp specs rules rest image left.
    let old = (g.D.Disk.state c.args.disk.now).file in
    let next = c.close_round.new.auction in
    let payload = c.deref-2.result.now in
    let reads : after_payload (Some c.args.self.auction) payload ≡ Some next =
    reads_as c.args.self.auction c.self.inside.auction next c.close_round.new.payload.items payload (ap (λ (h : Ledger). h.auction) c.self.view_is) c.deref-2.ensures.value c.in_ok-outcomes.ensures.read in
    let settled : IsSettled (stamp ∷ rest.rounds) c.self.inside.gate old.now = subst (λ (k : ℕ). IsSettled (stamp ∷ rest.rounds) k old.now) (sym (ap (λ (h : Ledger). h.gate) c.self.view_is)) rest.settled in
    opens_after stamp specs rules c.args.self old rest payload next reads image (c.in_ok-append_entry.ensures.acknowledged tells (stamp ∷ rest.rounds) settled image left)

pub returns-clause-any_moment : goal.returns-clause-any_moment
returns-clause-any_moment g c = λ tells stamp specs rules rest.
    let old = (g.D.Disk.state c.args.disk.now).file in
    let next = c.close_round.new.auction in
    let payload = c.deref-2.result.now in
    let reads : after_payload (Some c.args.self.auction) payload ≡ Some next =
    reads_as c.args.self.auction c.self.inside.auction next c.close_round.new.payload.items payload (ap (λ (h : Ledger). h.auction) c.self.view_is) c.deref-2.ensures.value c.in_ok-outcomes.ensures.read in
    let settled : IsSettled (stamp ∷ rest.rounds) c.self.inside.gate old.now = subst (λ (k : ℕ). IsSettled (stamp ∷ rest.rounds) k old.now) (sym (ap (λ (h : Ledger). h.gate) c.self.view_is)) rest.settled in
    let IsAfter = IsPlannedRound (g.P.Rounds.Means c.args.planner.now) c.args.self.auction c.args.acts.items in
    let planned = planned_as (g.P.Rounds.Means c.args.planner.now) c.args.acts.items c.args.self.auction c.self.inside.auction next (ap (λ (h : Ledger). h.auction) c.self.view_is) c.in_ok-outcomes.ensures.state in
    append_leaves stamp specs rules c.args.self old rest payload next reads IsAfter planned (g.D.Disk.state c.append_entry.new.disk).file (c.append_entry.ensures.any_moment tells (stamp ∷ rest.rounds) settled)
