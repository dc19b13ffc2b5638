-- What is known of a house that was opened, and what each moment of an opening leaves.
use Rattle.std.proofs.Common.{◌≡◌, inl, inr, ⊎_elim, ℕ, ◌+◌, ◌<◌, ◌≤◌, Bool, true, false, cond, List, [], ◌∷◌, ◌++◌, length, nat_eq, nat_lt, nat_le, ◌&&◌, Option, Some, None, refl, sym, ap, subst, ◌∙◌, arith, length-append, ne_eqb}
use Rattle.std.specs.Int.{to_be_bytes, w32, w64}
use Rattle.std.specs.List.{fold}
use Rattle.std.specs.Prelude.{ℤ, IfSome, Err, Ok, Result, map, if◌then◌else◌, is_none, is_some, unwrap_or}
use Rattle.std.proofs.lemmas.Bool.{cases_lt, le-ltb}
use Rattle.optra_house.specs.Payloads.{part_bytes, stamp_payload}
use Rattle.optra_house.specs.Stamps.{Stamp, payload_of, stamped_size}
use Rattle.std.specs.Option.{option_and_then, option_map_or}
use Rattle.std.proofs.lemmas.Bool.Decides.{nat_tests}
use Rattle.optra_outside.specs.Disk.{File, Moment, after_sync}
use Rattle.optra_bid.specs.declared.bids.Bid.{Bid}
use Rattle.optra_auction.specs.Machine.{State, after_all, after_round, is_last_round, opened, rested, with_values}
use Rattle.optra_auction.proofs.ActLemmas.{acts_keep}
use Rattle.optra_auction.specs.declared.Rules.{Rules}
use Rattle.optra_network.specs.Refusals.{first_of}
use Rattle.optra_house.specs.declared.refusals.OpenError.{OpenError}
use Rattle.optra_house.specs.declared.refusals.OpenError.TheVariants.{NotAJournal, Full, Disk, NoMemory}
use Rattle.optra_house.specs.declared.fields.Unread.{Unread}
use Rattle.optra_house.specs.declared.fields.Unread.TheVariants as unread
use Rattle.optra_house.specs.Answers.{FollowsOpenRule, has_no_entry, of_unread, open_refusal, opened_gate}
use Rattle.optra_house.specs.Entries.{entries, most_bytes, payloads_of}
use Rattle.optra_house.specs.Journal.{HasEntries, HasBeforeOrAfter, IsSettled}
use Rattle.optra_house.specs.Ledger.{IsAtRest}
use Rattle.optra_outside.specs.Moments.{LeavesOnly}
use Rattle.optra_house.specs.Payloads.{Posting}
use Rattle.optra_house.specs.Reading.{round_of}
use Rattle.optra_house.specs.Replay.{after_payload, after_payloads, after_posting, after_round_entry, may_follow, opens_as, replayed}
use Rattle.optra_house.specs.Replayed.{IsEmpty, IsFound, IsReplayed}
use Rattle.optra_outside.proofs.Moments.{started, wider}
use Rattle.optra_house.proofs.PostLemmas.{opens_empty, opens_with}
use Rattle.optra_house.proofs.Torn.{stays}

length-stamp : (bids stops rules : List ℕ) → length (stamp_payload bids stops rules) ≡ 25 + length bids + length stops + length rules
unfolding stamp_payload
length-stamp bids stops rules =
    omega (
      arith,
      length-append (part_bytes bids) (part_bytes stops ++ part_bytes rules),
      length-append (part_bytes stops) (part_bytes rules),
      length-append (to_be_bytes w64 (length bids)) bids,
      length-append (to_be_bytes w64 (length stops)) stops,
      length-append (to_be_bytes w64 (length rules)) rules,
    )

-- a journal with the stamp alone has the payload, and 14 bytes more
stamped_is : (stamp : Stamp) → stamped_size stamp ≡ 14 + length (payload_of stamp)
stamped_is stamp = omega (arith, length-stamp stamp.bids stamp.stops stamp.rules)

module _ (stamp : Stamp) (specs : List Bid) (rules : Rules) (file : List ℕ) where
  -- ---- why a file isn't opened

  abbrev is_too_long : Bool
  is_too_long = has_no_entry file && nat_lt most_bytes (stamped_size stamp)

  pub none_refused : opens_as (payload_of stamp) specs rules file ≡ None → open_refusal stamp specs rules file ≡ Some NotAJournal
  none_refused none = ap (λ (o : Option State). first_of ((is_none o, NotAJournal) ∷ (is_too_long, Full) ∷ [])) none

  some_rule : (s : State) → opens_as (payload_of stamp) specs rules file ≡ Some s → open_refusal stamp specs rules file ≡ cond is_too_long (Some Full) None
  some_rule s opens = ap (λ (o : Option State). first_of ((is_none o, NotAJournal) ∷ (is_too_long, Full) ∷ [])) opens ∙ by is_too_long
    where
      by : (b : Bool) → first_of ((false, NotAJournal) ∷ (b, Full) ∷ []) ≡ cond b (Some Full) None
      by true = refl
      by false = refl

  no_entry : HasEntries [] file → has_no_entry file ≡ true
  no_entry has = ap (λ o. option_map_or (λ (payloads : List (List ℕ)). nat_eq (length payloads) 0) o false) has

  some_entry : (first : List ℕ) (rounds : List (List ℕ)) → HasEntries (first ∷ rounds) file → has_no_entry file ≡ false
  some_entry first rounds has = ap (λ o. option_map_or (λ (payloads : List (List ℕ)). nat_eq (length payloads) 0) o false) has ∙ ne_eqb (length (first ∷ rounds)) 0 (λ e. omega (arith, e))

  unbegun_rule : HasEntries [] file → (b : Bool) → nat_lt most_bytes (stamped_size stamp) ≡ b → open_refusal stamp specs rules file ≡ cond b (Some Full) None
  unbegun_rule has b test =
      some_rule (opened specs rules) (opens_empty (payload_of stamp) specs rules file has) ∙ ap (λ b. cond (b && nat_lt most_bytes (stamped_size stamp)) (Some Full) None) (no_entry has) ∙ ap (λ b. cond b (Some Full) None) test

  -- a stamp that doesn't fit
  pub full_rule : HasEntries [] file → most_bytes < 14 + length (payload_of stamp) → open_refusal stamp specs rules file ≡ Some Full
  full_rule has over =
      let more : 67108864 < stamped_size stamp = omega (arith, over, stamped_is stamp) in
      unbegun_rule has true (grind (arith, nat_tests))

  -- one that does
  pub empty_rule : HasEntries [] file → 14 + length (payload_of stamp) ≤ most_bytes → open_refusal stamp specs rules file ≡ None
  empty_rule has under = unbegun_rule has false (le-ltb _ _ (omega (arith, under, stamped_is stamp)))

  -- a file with a stamp and rounds
  pub replayed_rule : (s : State) (place : ℕ) → IsReplayed (payload_of stamp) file (opened specs rules) s place → open_refusal stamp specs rules file ≡ None
  replayed_rule s place is =
      some_rule s (opens_with (payload_of stamp) specs rules is.rounds s file is.state is.found) ∙ ap (λ b. cond (b && nat_lt most_bytes (stamped_size stamp)) (Some Full) None) (some_entry (payload_of stamp) is.rounds is.found)

  -- a file that isn't refused
  pub not_refused : (T : Type 0) → open_refusal stamp specs rules file ≡ None → is_some (open_refusal stamp specs rules file) ≡ true → T
  not_refused T none some = absurd (true_not_false (sym some ∙ ap (λ (o : Option OpenError). is_some o) none))
    where
      true_not_false : true ≡ false → ⊥
      true_not_false e = cc

  -- a file that has no entry and is refused has no room for the stamp
  pub refused_over : HasEntries [] file → is_some (open_refusal stamp specs rules file) ≡ true → most_bytes < 14 + length (payload_of stamp)
  refused_over has refused = elim (cases_lt 67108864 (14 + length (payload_of stamp))) [
    | inl over ↦ over
    | inr under ↦ not_refused (67108864 < 14 + length (payload_of stamp)) (empty_rule has under) refused
  ]

module _ (stamp : List ℕ) (specs : List Bid) (rules : Rules) (file : List ℕ) where
  pub replayed_opens : (s : State) (place : ℕ) → IsReplayed stamp file (opened specs rules) s place → opens_as stamp specs rules file ≡ Some s
  replayed_opens s place is = opens_with stamp specs rules is.rounds s file is.state is.found

  -- a file that is longer than a journal, or is refused by its replay
  pub long_refused : 9 < length file → most_bytes < length file → opens_as stamp specs rules file ≡ None
  unfolding opens_as payloads_of
  long_refused long over =
      let first : nat_le (length file) 9 ≡ false = grind (arith, nat_tests) in
      let second : nat_le (length file) most_bytes ≡ false = grind (arith, nat_tests) in
      rw (first, second) refl

  pub replay_refused : option_and_then (replayed stamp (opened specs rules)) (payloads_of file) ≡ None → opens_as stamp specs rules file ≡ None
  unfolding opens_as
  replay_refused none = none

  -- ---- what a stamp leaves

  -- with a stamp or without, a file opens as the auction before its first round
  pub either_opens : (image : List ℕ) → HasEntries [] file → HasBeforeOrAfter [] stamp image → opens_as stamp specs rules image ≡ opens_as stamp specs rules file
  either_opens image has either =
      ⊎_elim (λ none. opens_empty stamp specs rules image none ∙ sym (opens_empty stamp specs rules file has)) (λ one. opens_with stamp specs rules [] (opened specs rules) image refl one ∙ sym (opens_empty stamp specs rules file has)) either

-- a disk's file that was synced, and nothing since
pub leaves_synced : (old : File) (P : List ℕ → Type 0) → P old.now.bytes → LeavesOnly (after_sync old) (after_sync old) P
leaves_synced old P here = started (after_sync old) P (λ image left. subst P (sym (stays (after_sync old).now image (record { grown = refl; written = refl }) left)) here)

-- ---- an error against the rule

pub error_rule : (T : Type 0) (e : OpenError) (rule : Option OpenError) → (e ≡ NotAJournal → rule ≡ Some NotAJournal) → (e ≡ Full → rule ≡ Some Full) → FollowsOpenRule {T = T} rule (Err e)
error_rule T NotAJournal rule one full = one refl
error_rule T Full rule one full = full refl
error_rule T Disk rule one full = tt
error_rule T NoMemory rule one full = tt

pub unread_rule : (T : Type 0) (u : Unread) (rule : Option OpenError) → (u ≡ unread.Malformed → rule ≡ Some NotAJournal) → FollowsOpenRule {T = T} rule (Err (of_unread u))
unread_rule T unread.Malformed rule one = one refl
unread_rule T unread.NoMemory rule one = tt

pub found_malformed : (stamp file : List ℕ) (old now : State) (u : Unread) → IsFound stamp file old now (Err u) → u ≡ unread.Malformed → option_and_then (replayed stamp old) (payloads_of file) ≡ None
found_malformed stamp file old now unread.Malformed found is = found
found_malformed stamp file old now unread.NoMemory found is = absurd cc

-- ---- what a replay found, of the file as it was

pub found_as : (stamp stamp' file file' : List ℕ) (old old' now : State) (r : Result (Option ℕ) Unread) → stamp' ≡ stamp → file' ≡ file → old' ≡ old → IsFound stamp' file' old' now r → IsFound stamp file old now r
found_as stamp stamp' file file' old old' now r p q s found =
    subst (λ (x : List ℕ). IsFound x file old now r) p (subst (λ (x : List ℕ). IsFound stamp' x old now r) q (subst (λ (x : State). IsFound stamp' file' x now r) s found))

pub found_none : (stamp file : List ℕ) (old now : State) (o : Option ℕ) → o ≡ None → IsFound stamp file old now (Ok o) → IsEmpty file old now
found_none stamp file old now o is found = subst (λ (x : Option ℕ). IsFound stamp file old now (Ok x)) is found

pub found_some : (stamp file : List ℕ) (old now : State) (o : Option ℕ) (place : ℕ) → o ≡ Some place → IsFound stamp file old now (Ok o) → IsReplayed stamp file old now place
found_some stamp file old now o place is found = subst (λ (x : Option ℕ). IsFound stamp file old now (Ok x)) is found

-- what was found is the auction as which the file opens
pub found_opens : (stamp : List ℕ) (specs : List Bid) (rules : Rules) (file : List ℕ) (now : State) (o : Option ℕ) → IsFound stamp file (opened specs rules) now (Ok o) → opens_as stamp specs rules file ≡ Some now
found_opens stamp specs rules file now None found = opens_empty stamp specs rules file found.found ∙ ap (λ (s : State). Some s) (sym found.state)
found_opens stamp specs rules file now (Some place) found = replayed_opens stamp specs rules file now place found

pub place_below : (stamp file : List ℕ) (old now : State) (place : ℕ) → IsReplayed stamp file old now place → place < most_bytes
place_below stamp file old now place is = omega (arith, is.place_is, is.laid.fits, ap length is.laid.is, length-append (entries (stamp ∷ is.rounds)) (is.laid.gate ∷ is.laid.behind))

-- a house on a file with a stamp and rounds
pub rests_found : (stamp : List ℕ) (specs : List Bid) (rules : Rules) (old : File) (now : State) (place gate : ℕ) (moment : Moment) → IsReplayed stamp old.now.bytes (opened specs rules) now place → gate ≡ place → moment ≡ (after_sync old).now
    → IsAtRest stamp specs rules (record { auction = now; gate = gate }) moment
rests_found stamp specs rules old now place gate moment is same at =
    subst (λ (m : Moment). IsAtRest stamp specs rules (record { auction = now; gate = gate }) m) (sym at)
    (record { rounds = is.rounds; settled = record { laid_out = is.laid; stands = same ∙ is.place_is; synced = record { grown = refl; written = refl } }; state = is.state })

-- and on one on which the stamp was put
pub rests_begun : (stamp : List ℕ) (specs : List Bid) (rules : Rules) (now : State) (gate : ℕ) (moment : Moment) → IsSettled (stamp ∷ []) (13 + length stamp) moment → gate ≡ 13 + length stamp → now ≡ opened specs rules → IsAtRest stamp specs rules (record { auction = now; gate = gate }) moment
rests_begun stamp specs rules now gate moment settled same is = record {
  rounds = [];
  settled = record { laid_out = settled.laid_out; stands = same ∙ settled.stands; synced = settled.synced };
  state = ap (λ (s : State). Some s) (sym is);
}

-- ---- the specifications of an auction that was replayed

round_specs : (s : State) (values : List (Option ℤ)) → (after_round s values).specs ≡ s.specs
round_specs s values = by (is_last_round s)
  where
    by : (b : Bool) → (if b then record s { standing = with_values s.standing values; closed = true } else record s { standing = map rested (with_values s.standing values); round = s.round + 1; moved = false }).specs ≡ s.specs
    by true = refl
    by false = refl

posting_specs : (s : State) (posting : Posting) → (after_posting s posting).specs ≡ s.specs
posting_specs s posting = round_specs (after_all s posting.acts) posting.values ∙ (acts_keep s posting.acts).specs

entry_specs : (s t : State) (posting : Option Posting) → option_and_then (after_round_entry s) posting ≡ Some t → t.specs ≡ s.specs
entry_specs s t None is = absurd cc
entry_specs s t (Some posting) is = by (may_follow s posting) is
  where
    by : (b : Bool) → cond b (Some (after_posting s posting)) None ≡ Some t → t.specs ≡ s.specs
    by true is = let same : after_posting s posting ≡ t = cc in ap (λ (x : State). x.specs) (sym same) ∙ posting_specs s posting
    by false is = absurd cc

payload_specs : (s t : State) (payload : List ℕ) → after_payload (Some s) payload ≡ Some t → t.specs ≡ s.specs
unfolding after_payload
payload_specs s t payload is = entry_specs s t (round_of payload) is

none_stays : (payloads : List (List ℕ)) → fold after_payload None payloads ≡ None
unfolding after_payload
none_stays [] = refl
none_stays (payload ∷ payloads) = none_stays payloads

step_specs : (s t : State) (payload : List ℕ) → t.specs ≡ s.specs → (o : Option State) → after_payload (Some t) payload ≡ o → IfSome o (λ (x : State). x.specs ≡ s.specs)
step_specs s t payload same None e = tt
step_specs s t payload same (Some x) e = payload_specs t x payload e ∙ same

going_specs : (s now : State) (payloads : List (List ℕ)) (o : Option State) → IfSome o (λ (x : State). x.specs ≡ s.specs) → fold after_payload o payloads ≡ Some now → now.specs ≡ s.specs
going_specs s now [] None same is = absurd cc
going_specs s now [] (Some t) same is = let here : t ≡ now = cc in ap (λ (x : State). x.specs) (sym here) ∙ same
going_specs s now (payload ∷ payloads) None same is = let no : None ≡ Some now = sym (none_stays (payload ∷ payloads)) ∙ is in absurd cc
going_specs s now (payload ∷ payloads) (Some t) same is = going_specs s now payloads (after_payload (Some t) payload) (step_specs s t payload same (after_payload (Some t) payload) refl) is

replayed_specs : (s now : State) (payloads : List (List ℕ)) → after_payloads s payloads ≡ Some now → now.specs ≡ s.specs
replayed_specs s now payloads is = going_specs s now payloads (Some s) refl is

-- what is found in a file leaves them as they are
pub found_specs : (stamp file : List ℕ) (old now : State) (place : Option ℕ) → IsFound stamp file old now (Ok place) → now.specs ≡ old.specs
found_specs stamp file old now None is = ap (λ (x : State). x.specs) is.state
found_specs stamp file old now (Some place) is = replayed_specs old now is.rounds is.state

-- ---- the last gate of a house that was opened

-- where there are these payloads, the last gate stands behind them, or behind the stamp where there is none
abbrev gate_of : Stamp → Option (List (List ℕ)) → ℕ
gate_of stamp found = length (entries (if option_map_or (λ payloads. nat_eq (length payloads) 0) found false then payload_of stamp ∷ [] else unwrap_or found []))

pub gate_found : (stamp : Stamp) (file : List ℕ) (old now : State) (place : ℕ) → IsReplayed (payload_of stamp) file old now place → place ≡ opened_gate stamp file
gate_found stamp file old now place is =
    let some : nat_eq (length (payload_of stamp ∷ is.rounds)) 0 ≡ false = ne_eqb (length (payload_of stamp ∷ is.rounds)) 0 (λ none. absurd (omega (arith, none))) in
    is.place_is
    ∙ ap (λ (b : Bool). length (entries (cond b (payload_of stamp ∷ []) (payload_of stamp ∷ is.rounds)))) (sym some)
    ∙ ap (gate_of stamp) (sym is.found)

pub gate_begun : (stamp : Stamp) (file : List ℕ) → payloads_of file ≡ Some [] → 13 + length (payload_of stamp) ≡ opened_gate stamp file
gate_begun stamp file none = begun ∙ ap (gate_of stamp) (sym none)
  where
    begun : 13 + length (payload_of stamp) ≡ length (entries (payload_of stamp ∷ []))
    begun = omega (arith, length-append (to_be_bytes w32 (length (payload_of stamp))) (payload_of stamp), length-append (1 ∷ (to_be_bytes w32 (length (payload_of stamp)) ++ payload_of stamp)) [])

-- a stamp that is put leaves a file that opens as it did
pub begun_leaves : (stamp payload : List ℕ) (specs : List Bid) (rules : Rules) (old read new : File) → payload ≡ stamp → read ≡ after_sync old → HasEntries [] old.now.bytes → LeavesOnly read new (HasBeforeOrAfter [] payload)
    → LeavesOnly (after_sync old) new (λ image. opens_as stamp specs rules image ≡ opens_as stamp specs rules old.now.bytes)
begun_leaves stamp payload specs rules old read new same at has run =
    let P = λ (image : List ℕ). opens_as stamp specs rules image ≡ opens_as stamp specs rules old.now.bytes in
    let run_here : LeavesOnly (after_sync old) new (HasBeforeOrAfter [] payload) = subst (λ (f : File). LeavesOnly f new (HasBeforeOrAfter [] payload)) at run in
    wider (after_sync old) new (HasBeforeOrAfter [] payload) P run_here (λ image either. either_opens stamp specs rules old.now.bytes image has (subst (λ (l : List ℕ). HasBeforeOrAfter [] l image) same either))
