use Rattle.std.proofs.Common.{◌≡◌, ◌≤◌, ◌<◌, ◌∙◌, ◌+◌, List, ℕ, [], ◌∷◌, inr, length, sym, ap, subst, refl, arith}
use Rattle.std.specs.Prelude.{⊤, Err, Ok}
use Rattle.std.proofs.lemmas.Bool.{leb-false}
use Rattle.std.proofs.lemmas.Result.{err_from_is_err_and}
use Rattle.optra_outside.specs.Disk.{DiskState, File, after_sync}
use Rattle.optra_auction.specs.Machine.{State, opened}
use Rattle.optra_house.specs.declared.refusals.OpenError.{OpenError}
use Rattle.optra_house.specs.Answers.{IsUnwritten, open_refusal}
use Rattle.optra_house.specs.Journal.{IsSettled}
use Rattle.optra_outside.specs.Moments.{LeavesOnly}
use Rattle.optra_house.specs.Replay.{opens_as}
use Rattle.optra_house.specs.Stamps.{payload_of}
use Rattle.optra_house.proofs.OpenLemmas.{not_refused, refused_over, error_rule, found_as, found_malformed, found_none, full_rule, leaves_synced, long_refused, none_refused, replay_refused, unread_rule, found_some, found_opens, found_specs, place_below, rests_found, rests_begun, begun_leaves, empty_rule, gate_begun, gate_found, replayed_rule}
use Rattle.optra_house.proofs.house.House.open.Goals as goal
use Rattle.optra_house.proofs.house.House.open.Goals.{in-Some, in-None+in_ok-gate-in-None}

pub returns-in_err-file-clause-rule : goal.returns-in_err-file-clause-rule
returns-in_err-file-clause-rule g c = λ tells.
    let old = (g.D.Disk.state c.args.disk.now).file in
    let stamp = payload_of c.args.stamp.now in
    let told = c.sync.ensures.leaves.tells ∙ tells in
    let synced = c.in_ok-sync.ensures.ok tells in
    let p = err_from_is_err_and c.from_residual-in_err-file.result c.from_residual-in_err-file.ensures.1 in
    rw (p.1, p.2) (error_rule ⊤ c.in_err-file.field-0.0 (open_refusal c.args.stamp.now c.args.specs.items c.args.rules old.now.bytes)
    (λ is. let over = c.in_err-file.ensures.long told (ap (λ (e : OpenError). Err e) is) in
    let most : 67108864 < length old.now.bytes = omega (arith, over, ap (λ (f : File). length f.now.bytes) synced) in
    none_refused c.args.stamp.now c.args.specs.items c.args.rules old.now.bytes (long_refused stamp c.args.specs.items c.args.rules old.now.bytes (omega arith) most))
    (λ is. absurd (c.in_err-file.ensures.not_full (ap (λ (e : OpenError). Err e) is))))

pub returns-in_err-file-clause-any_moment : goal.returns-in_err-file-clause-any_moment
returns-in_err-file-clause-any_moment g c = λ tells.
    let old = (g.D.Disk.state c.args.disk.now).file in
    let P = λ (image : List ℕ). opens_as (payload_of c.args.stamp.now) c.args.specs.items c.args.rules image ≡ opens_as (payload_of c.args.stamp.now) c.args.specs.items c.args.rules old.now.bytes in
    let told = c.sync.ensures.leaves.tells ∙ tells in
    let synced = c.read_file.ensures.keeps told ∙ c.in_ok-sync.ensures.ok tells in
    inr (subst (λ (f : File). LeavesOnly (after_sync old) f P) (sym synced) (leaves_synced old P refl))

pub returns-in_err-place-clause-rule : goal.returns-in_err-place-clause-rule
returns-in_err-place-clause-rule g c = λ tells.
    let old = (g.D.Disk.state c.args.disk.now).file in
    let p = err_from_is_err_and c.from_residual-in_err-place.result c.from_residual-in_err-place.ensures.1 in
    rw (p.1, p.2) (unread_rule ⊤ c.in_err-place.field-0.0 (open_refusal c.args.stamp.now c.args.specs.items c.args.rules old.now.bytes)
    (λ is. none_refused c.args.stamp.now c.args.specs.items c.args.rules old.now.bytes (replay_refused (payload_of c.args.stamp.now) c.args.specs.items c.args.rules old.now.bytes (found_malformed (payload_of c.args.stamp.now) old.now.bytes (opened c.args.specs.items c.args.rules) c.replay.new.auction c.in_err-place.field-0.0
    (found_as (payload_of c.args.stamp.now) c.deref.result.now old.now.bytes c.deref-2.result.now (opened c.args.specs.items c.args.rules) _ c.replay.new.auction (Err c.in_err-place.field-0.0) (c.deref.ensures.value ∙ c.in_ok-payload.ensures)
    (c.deref-2.ensures.value ∙ c.in_ok-file.ensures.bytes (c.sync.ensures.leaves.tells ∙ tells) ∙ ap (λ (f : File). f.now.bytes) (c.in_ok-sync.ensures.ok tells)) c.in_ok-auction.ensures.opened c.in_err-place.ensures) is))))

pub returns-in_err-place-clause-any_moment : goal.returns-in_err-place-clause-any_moment
returns-in_err-place-clause-any_moment g c = λ tells.
    let old = (g.D.Disk.state c.args.disk.now).file in
    let P = λ (image : List ℕ). opens_as (payload_of c.args.stamp.now) c.args.specs.items c.args.rules image ≡ opens_as (payload_of c.args.stamp.now) c.args.specs.items c.args.rules old.now.bytes in
    let told = c.sync.ensures.leaves.tells ∙ tells in
    let synced = c.read_file.ensures.keeps told ∙ c.in_ok-sync.ensures.ok tells in
    inr (subst (λ (f : File). LeavesOnly (after_sync old) f P) (sym synced) (leaves_synced old P refl))

pub returns-in_err-gate-in-None-clause-rule : goal.returns-in_err-gate-in-None-clause-rule
returns-in_err-gate-in-None-clause-rule g c = λ tells.
    let old = (g.D.Disk.state c.args.disk.now).file in
    let p = err_from_is_err_and c.from_residual-in_err-gate-in-None.result c.from_residual-in_err-gate-in-None.ensures.1 in
    let empty = found_none (payload_of c.args.stamp.now) old.now.bytes (opened c.args.specs.items c.args.rules) c.replay.new.auction c.in_ok-place.field-0 (c.in-None.is)
    (found_as (payload_of c.args.stamp.now) c.deref.result.now old.now.bytes c.deref-2.result.now (opened c.args.specs.items c.args.rules) _ c.replay.new.auction (Ok c.in_ok-place.field-0) (c.deref.ensures.value ∙ c.in_ok-payload.ensures)
    (c.deref-2.ensures.value ∙ c.in_ok-file.ensures.bytes (c.sync.ensures.leaves.tells ∙ tells) ∙ ap (λ (f : File). f.now.bytes) (c.in_ok-sync.ensures.ok tells)) c.in_ok-auction.ensures.opened c.in_ok-place.ensures) in
    rw (p.1, p.2) (error_rule ⊤ c.in_err-gate-in-None.field-0.0 (open_refusal c.args.stamp.now c.args.specs.items c.args.rules old.now.bytes)
    (λ is. absurd (c.in_err-gate-in-None.ensures.is_one (ap (λ (e : OpenError). Err e) is)))
    (λ is. full_rule c.args.stamp.now c.args.specs.items c.args.rules old.now.bytes empty.found (subst (λ (l : List ℕ). 67108864 < 14 + length l) (c.deref-in-None.ensures.value ∙ c.in_ok-payload.ensures) (c.in_err-gate-in-None.ensures.full (ap (λ (e : OpenError). Err e) is)))))

pub put_stamp-requires-clause-settled : goal.put_stamp-requires-clause-settled
put_stamp-requires-clause-settled g c = λ long told.
    let tells = sym c.sync.ensures.leaves.tells ∙ sym c.read_file.ensures.leaves.tells ∙ told in
    let old = (g.D.Disk.state c.args.disk.now).file in
    let stamp = payload_of c.args.stamp.now in
    let bytes_are = c.deref-2.ensures.value ∙ c.in_ok-file.ensures.bytes (c.sync.ensures.leaves.tells ∙ tells) ∙ ap (λ (f : File). f.now.bytes) (c.in_ok-sync.ensures.ok tells) in
    let stamp_is = c.deref.ensures.value ∙ c.in_ok-payload.ensures in
    let found = found_as stamp c.deref.result.now old.now.bytes c.deref-2.result.now (opened c.args.specs.items c.args.rules) _ c.replay.new.auction (Ok c.in_ok-place.field-0) stamp_is bytes_are c.in_ok-auction.ensures.opened c.in_ok-place.ensures in
    let empty = found_none stamp old.now.bytes (opened c.args.specs.items c.args.rules) c.replay.new.auction c.in_ok-place.field-0 c.in-None.is found in
    let synced = c.read_file.ensures.keeps (c.sync.ensures.leaves.tells ∙ tells) ∙ c.in_ok-sync.ensures.ok tells in
    let more : 9 < c.len.result = leb-false c.len.result 9 long in
    let counted : c.len.result ≡ length c.in_ok-file.file.items = grind arith in
    let over : 9 < length old.now.bytes = omega (arith, more, counted, ap length (sym c.deref-2.ensures.value ∙ bytes_are)) in
    subst (λ (f : File). IsSettled [] 8 f.now) (sym synced) (record { laid_out = empty.laid over; stands = refl; synced = record { grown = refl; written = refl } })

pub returns-in_err-gate-in-None-clause-unwritten : goal.returns-in_err-gate-in-None-clause-unwritten
returns-in_err-gate-in-None-clause-unwritten g c = λ tells refused.
    let old = (g.D.Disk.state c.args.disk.now).file in
    let stamp = payload_of c.args.stamp.now in
    let bytes_are = c.deref-2.ensures.value ∙ c.in_ok-file.ensures.bytes (c.sync.ensures.leaves.tells ∙ tells) ∙ ap (λ (f : File). f.now.bytes) (c.in_ok-sync.ensures.ok tells) in
    let stamp_is = c.deref.ensures.value ∙ c.in_ok-payload.ensures in
    let found = found_as stamp c.deref.result.now old.now.bytes c.deref-2.result.now (opened c.args.specs.items c.args.rules) _ c.replay.new.auction (Ok c.in_ok-place.field-0) stamp_is bytes_are c.in_ok-auction.ensures.opened c.in_ok-place.ensures in
    let empty = found_none stamp old.now.bytes (opened c.args.specs.items c.args.rules) c.replay.new.auction c.in_ok-place.field-0 c.in-None.is found in
    let synced = c.read_file.ensures.keeps (c.sync.ensures.leaves.tells ∙ tells) ∙ c.in_ok-sync.ensures.ok tells in
    let over = refused_over c.args.stamp.now c.args.specs.items c.args.rules old.now.bytes empty.found refused in
    let same = c.put_stamp.ensures.unwritten (subst (λ (l : List ℕ). 67108864 < 14 + length l) (sym (c.deref-in-None.ensures.value ∙ c.in_ok-payload.ensures)) over) in
    inr (ap (λ (d : DiskState). d.file) same ∙ synced)

pub returns-in_err-gate-in-None-clause-any_moment : goal.returns-in_err-gate-in-None-clause-any_moment
returns-in_err-gate-in-None-clause-any_moment g c = λ tells.
    let old = (g.D.Disk.state c.args.disk.now).file in
    let stamp = payload_of c.args.stamp.now in
    let bytes_are = c.deref-2.ensures.value ∙ c.in_ok-file.ensures.bytes (c.sync.ensures.leaves.tells ∙ tells) ∙ ap (λ (f : File). f.now.bytes) (c.in_ok-sync.ensures.ok tells) in
    let stamp_is = c.deref.ensures.value ∙ c.in_ok-payload.ensures in
    let found = found_as stamp c.deref.result.now old.now.bytes c.deref-2.result.now (opened c.args.specs.items c.args.rules) _ c.replay.new.auction (Ok c.in_ok-place.field-0) stamp_is bytes_are c.in_ok-auction.ensures.opened c.in_ok-place.ensures in
    let told = c.read_file.ensures.leaves.tells ∙ c.sync.ensures.leaves.tells ∙ tells in
    let synced = c.read_file.ensures.keeps (c.sync.ensures.leaves.tells ∙ tells) ∙ c.in_ok-sync.ensures.ok tells in
    let empty = found_none stamp old.now.bytes (opened c.args.specs.items c.args.rules) c.replay.new.auction c.in_ok-place.field-0 c.in-None.is found in
    inr (begun_leaves stamp c.deref-in-None.result.now c.args.specs.items c.args.rules old (g.D.Disk.state c.read_file.new.disk).file (g.D.Disk.state c.put_stamp.new.disk).file (c.deref-in-None.ensures.value ∙ c.in_ok-payload.ensures) synced empty.found (c.in_err-gate-in-None.ensures.any_moment told))

pub returns-clause-specs : goal.returns-clause-specs
returns-clause-specs g c = found_specs _ _ _ _ c.in_ok-place.field-0 c.in_ok-place.ensures ∙ ap (λ (s : State). s.specs) c.in_ok-auction.ensures.opened

pub returns-clause-state : goal.returns-clause-state
returns-clause-state g c = λ tells.
    let old = (g.D.Disk.state c.args.disk.now).file in
    let stamp = payload_of c.args.stamp.now in
    let bytes_are = c.deref-2.ensures.value ∙ c.in_ok-file.ensures.bytes (c.sync.ensures.leaves.tells ∙ tells) ∙ ap (λ (f : File). f.now.bytes) (c.in_ok-sync.ensures.ok tells) in
    let stamp_is = c.deref.ensures.value ∙ c.in_ok-payload.ensures in
    let found = found_as stamp c.deref.result.now old.now.bytes c.deref-2.result.now (opened c.args.specs.items c.args.rules) _ c.replay.new.auction (Ok c.in_ok-place.field-0) stamp_is bytes_are c.in_ok-auction.ensures.opened c.in_ok-place.ensures in
    found_opens stamp c.args.specs.items c.args.rules old.now.bytes c.replay.new.auction c.in_ok-place.field-0 found

pub invariant_of-result : goal.invariant_of-result
invariant_of-result g c = elim c.match-branch-6.branch [
  | in-Some w ↦ let below = place_below _ _ _ _ w.in-Some.place (found_some _ _ _ _ c.in_ok-place.field-0 w.in-Some.place w.in-Some.is c.in_ok-place.ensures) in omega (arith, w.gate-is, below)
  | in-None+in_ok-gate-in-None w ↦ omega (arith, w.gate-is, w.in_ok-gate-in-None.ensures.next, w.in_ok-gate-in-None.ensures.fits)
]

opens_unrefused : goal.returns-clause-rule
opens_unrefused g c = λ tells.
    let old = (g.D.Disk.state c.args.disk.now).file in
    let stamp = payload_of c.args.stamp.now in
    let bytes_are = c.deref-2.ensures.value ∙ c.in_ok-file.ensures.bytes (c.sync.ensures.leaves.tells ∙ tells) ∙ ap (λ (f : File). f.now.bytes) (c.in_ok-sync.ensures.ok tells) in
    let stamp_is = c.deref.ensures.value ∙ c.in_ok-payload.ensures in
    let found = found_as stamp c.deref.result.now old.now.bytes c.deref-2.result.now (opened c.args.specs.items c.args.rules) _ c.replay.new.auction (Ok c.in_ok-place.field-0) stamp_is bytes_are c.in_ok-auction.ensures.opened c.in_ok-place.ensures in
    elim c.match-branch-6.branch [
      | in-Some w ↦ replayed_rule c.args.stamp.now c.args.specs.items c.args.rules old.now.bytes c.replay.new.auction w.in-Some.place (found_some stamp old.now.bytes _ _ c.in_ok-place.field-0 w.in-Some.place w.in-Some.is found)
      | in-None+in_ok-gate-in-None w ↦
          let empty = found_none stamp old.now.bytes (opened c.args.specs.items c.args.rules) c.replay.new.auction c.in_ok-place.field-0 w.in-None.is found in
          empty_rule c.args.stamp.now c.args.specs.items c.args.rules old.now.bytes empty.found (subst (λ (l : List ℕ). 14 + length l ≤ 67108864) (w.deref-in-None.ensures.value ∙ c.in_ok-payload.ensures) w.in_ok-gate-in-None.ensures.fits)
    ]

pub returns-clause-rule : goal.returns-clause-rule
returns-clause-rule g c = opens_unrefused g c

pub returns-clause-unwritten : goal.returns-clause-unwritten
returns-clause-unwritten g c = λ tells refused.
    let old = (g.D.Disk.state c.args.disk.now).file in
    not_refused c.args.stamp.now c.args.specs.items c.args.rules old.now.bytes (IsUnwritten old _) (opens_unrefused g c tells) refused

pub returns-clause-gate : goal.returns-clause-gate
returns-clause-gate g c = λ tells.
    let old = (g.D.Disk.state c.args.disk.now).file in
    let stamp = payload_of c.args.stamp.now in
    let bytes_are = c.deref-2.ensures.value ∙ c.in_ok-file.ensures.bytes (c.sync.ensures.leaves.tells ∙ tells) ∙ ap (λ (f : File). f.now.bytes) (c.in_ok-sync.ensures.ok tells) in
    let stamp_is = c.deref.ensures.value ∙ c.in_ok-payload.ensures in
    let found = found_as stamp c.deref.result.now old.now.bytes c.deref-2.result.now (opened c.args.specs.items c.args.rules) _ c.replay.new.auction (Ok c.in_ok-place.field-0) stamp_is bytes_are c.in_ok-auction.ensures.opened c.in_ok-place.ensures in
    elim c.match-branch-6.branch [
      | in-Some w ↦ w.gate-is ∙ gate_found c.args.stamp.now old.now.bytes _ _ w.in-Some.place (found_some stamp old.now.bytes _ _ c.in_ok-place.field-0 w.in-Some.place w.in-Some.is found)
      | in-None+in_ok-gate-in-None w ↦
          let empty = found_none stamp old.now.bytes (opened c.args.specs.items c.args.rules) c.replay.new.auction c.in_ok-place.field-0 w.in-None.is found in
          let payload_is = w.deref-in-None.ensures.value ∙ c.in_ok-payload.ensures in
          w.gate-is ∙ w.in_ok-gate-in-None.ensures.next ∙ ap (λ (l : List ℕ). 13 + length l) payload_is ∙ gate_begun c.args.stamp.now old.now.bytes empty.found
    ]

pub returns-clause-at_rest : goal.returns-clause-at_rest
returns-clause-at_rest g c = λ tells.
    let old = (g.D.Disk.state c.args.disk.now).file in
    let stamp = payload_of c.args.stamp.now in
    let bytes_are = c.deref-2.ensures.value ∙ c.in_ok-file.ensures.bytes (c.sync.ensures.leaves.tells ∙ tells) ∙ ap (λ (f : File). f.now.bytes) (c.in_ok-sync.ensures.ok tells) in
    let stamp_is = c.deref.ensures.value ∙ c.in_ok-payload.ensures in
    let found = found_as stamp c.deref.result.now old.now.bytes c.deref-2.result.now (opened c.args.specs.items c.args.rules) _ c.replay.new.auction (Ok c.in_ok-place.field-0) stamp_is bytes_are c.in_ok-auction.ensures.opened c.in_ok-place.ensures in
    let told = c.read_file.ensures.leaves.tells ∙ c.sync.ensures.leaves.tells ∙ tells in
    let synced = c.read_file.ensures.keeps (c.sync.ensures.leaves.tells ∙ tells) ∙ c.in_ok-sync.ensures.ok tells in
    elim c.match-branch-6.branch [
      | in-Some w ↦
          rests_found stamp c.args.specs.items c.args.rules old c.replay.new.auction w.in-Some.place c.match-branch-6.gate (g.D.Disk.state c.match-branch-6.disk).file.now (found_some stamp old.now.bytes _ _ c.in_ok-place.field-0 w.in-Some.place w.in-Some.is found) w.gate-is
          (ap (λ d. (g.D.Disk.state d).file.now) w.disk-is ∙ ap (λ (f : File). f.now) synced)
      | in-None+in_ok-gate-in-None w ↦
          let empty = found_none stamp old.now.bytes (opened c.args.specs.items c.args.rules) c.replay.new.auction c.in_ok-place.field-0 w.in-None.is found in
          let payload_is = w.deref-in-None.ensures.value ∙ c.in_ok-payload.ensures in
          let settled = subst (λ (l : List ℕ). IsSettled (l ∷ []) (13 + length l) (g.D.Disk.state w.put_stamp.new.disk).file.now) payload_is (w.in_ok-gate-in-None.ensures.settled told) in
          let here = subst (λ d. IsSettled (stamp ∷ []) (13 + length stamp) (g.D.Disk.state d).file.now) (sym w.disk-is) settled in
          rests_begun stamp c.args.specs.items c.args.rules c.replay.new.auction c.match-branch-6.gate (g.D.Disk.state c.match-branch-6.disk).file.now here (w.gate-is ∙ w.in_ok-gate-in-None.ensures.next ∙ ap (λ (l : List ℕ). 13 + length l) payload_is) empty.state
    ]

pub returns-clause-any_moment : goal.returns-clause-any_moment
returns-clause-any_moment g c = λ tells.
    let old = (g.D.Disk.state c.args.disk.now).file in
    let stamp = payload_of c.args.stamp.now in
    let bytes_are = c.deref-2.ensures.value ∙ c.in_ok-file.ensures.bytes (c.sync.ensures.leaves.tells ∙ tells) ∙ ap (λ (f : File). f.now.bytes) (c.in_ok-sync.ensures.ok tells) in
    let stamp_is = c.deref.ensures.value ∙ c.in_ok-payload.ensures in
    let found = found_as stamp c.deref.result.now old.now.bytes c.deref-2.result.now (opened c.args.specs.items c.args.rules) _ c.replay.new.auction (Ok c.in_ok-place.field-0) stamp_is bytes_are c.in_ok-auction.ensures.opened c.in_ok-place.ensures in
    let told = c.read_file.ensures.leaves.tells ∙ c.sync.ensures.leaves.tells ∙ tells in
    let synced = c.read_file.ensures.keeps (c.sync.ensures.leaves.tells ∙ tells) ∙ c.in_ok-sync.ensures.ok tells in
    let P = λ (image : List ℕ). opens_as stamp c.args.specs.items c.args.rules image ≡ opens_as stamp c.args.specs.items c.args.rules old.now.bytes in
    elim c.match-branch-6.branch [
      | in-Some w ↦ inr (subst (λ (f : File). LeavesOnly (after_sync old) f P) (sym (ap (λ d. (g.D.Disk.state d).file) w.disk-is ∙ synced)) (leaves_synced old P refl))
      | in-None+in_ok-gate-in-None w ↦
          let empty = found_none stamp old.now.bytes (opened c.args.specs.items c.args.rules) c.replay.new.auction c.in_ok-place.field-0 w.in-None.is found in
          inr (subst (λ d. LeavesOnly (after_sync old) (g.D.Disk.state d).file P) (sym w.disk-is)
          (begun_leaves stamp w.deref-in-None.result.now c.args.specs.items c.args.rules old (g.D.Disk.state c.read_file.new.disk).file (g.D.Disk.state w.put_stamp.new.disk).file (w.deref-in-None.ensures.value ∙ c.in_ok-payload.ensures) synced empty.found (w.in_ok-gate-in-None.ensures.any_moment told)))
    ]
