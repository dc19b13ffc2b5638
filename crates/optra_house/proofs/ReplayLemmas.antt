-- How a replay goes on from entry to entry.
use Rattle.std.proofs.Common.{◌≡◌, ℕ, zero, suc, ◌+◌, ◌<◌, ◌≤◌, Bool, true, false, cond, not, List, [], ◌∷◌, ◌++◌, length, take, drop, nat_eq, nat_lt, nat_le, ◌&&◌, Option, Some, None, refl, sym, ap, subst, ◌∙◌, append_assoc, append-nil, length-append, length-drop, arith}
use Rattle.std.specs.Prelude.{Err, option_map, bytes_eq}
use Rattle.std.specs.Int.{to_be_bytes, from_be_bytes, w32}
use Rattle.std.specs.List.{flat_map, fold, starts_with}
use Rattle.std.specs.Option.{option_and_then}
use Rattle.std.proofs.lemmas.Bool.{eqb-true, ltb-true, ltb-false}
use Rattle.std.proofs.lemmas.Bool.Decides.{nat_tests}
use Rattle.std.proofs.lemmas.List.{length-take}
use Rattle.std.proofs.lemmas.Slice.Eq.{bytes_eq-Decides}
use Rattle.optra_auction.specs.Machine.{State}
use Rattle.optra_house.specs.Entries.{IsLaidOut, heading, entry, entries, entry_at, is_open, most_bytes, payloads_within, payloads_from, payloads_of}
use Rattle.optra_house.specs.declared.fields.Unread.{Unread}
use Rattle.optra_house.specs.declared.fields.Unread.TheVariants as errors
use Rattle.optra_house.specs.Reading.{◌>>=◌, Fails, number_at}
use Rattle.optra_house.specs.Replay.{after_payload, after_payloads, replayed}
use Rattle.optra_house.specs.Replayed.{IsEmpty, IsFound, IsRefused, IsReplayed, Replays}
use Rattle.optra_house.proofs.EntryLemmas.{laid_out}
use Rattle.optra_house.proofs.FieldLemmas.{IsBytes, bind_some, guard_held, guard_some}

-- ---- an entry takes so many bytes

pub entry_sizes : (bytes payload rest : List ℕ) → entry_at bytes ≡ Some (payload, rest) → (length bytes ≡ 4 + length payload + length rest) × (0 < length rest)
unfolding entry_at
entry_sizes bytes payload rest e =
    let b = bind_some (number_at w32 bytes) (λ len. cond (nat_lt len.0 (length len.1)) (Some (take len.0 len.1, drop len.0 len.1)) None) (payload, rest) e in
    let n = b.0 in
    let g = guard_held (nat_lt n.0 (length n.1)) (take n.0 n.1, drop n.0 n.1) (payload, rest) b.2 in
    let long : n.0 < length n.1 = ltb-true _ _ g.0 in
    let h = guard_some (nat_lt (length bytes) 4) (from_be_bytes w32 (take 4 bytes), drop 4 bytes) n b.1 in
    let four : 4 ≤ length bytes = ltb-false _ _ h.0 in
    let behind : drop 4 bytes ≡ n.1 = ap (λ (p : ℕ × List ℕ). p.1) h.1 in
    let len_is : length n.1 + 4 ≡ length bytes = omega (arith, ap length behind, length-drop 4 bytes) in
    let first : length (take n.0 n.1) ≡ n.0 = omega (arith, length-take n.0 n.1) in
    let second : length (drop n.0 n.1) + n.0 ≡ length n.1 = omega (arith, length-drop n.0 n.1) in
    let whole : (length bytes ≡ 4 + length (take n.0 n.1) + length (drop n.0 n.1)) × (0 < length (drop n.0 n.1)) = (omega arith, omega arith) in
    subst (λ (p : List ℕ × List ℕ). (length bytes ≡ 4 + length p.0 + length p.1) × (0 < length p.1)) g.1 whole

same_bind : {A B : Type 0} (o : Option A) (f g : A → Option B) → ((x : A) → o ≡ Some x → f x ≡ g x) → (o >>= f) ≡ (o >>= g)
same_bind (Some x) f g h = h x refl
same_bind None f g h = refl

-- more gates than bytes change nothing
enough : (n m : ℕ) (bytes : List ℕ) → length bytes ≤ n → length bytes ≤ m → payloads_within n bytes ≡ payloads_within m bytes
unfolding payloads_within
enough zero zero [] p q = refl
enough zero (suc m) [] p q = refl
enough (suc n) zero [] p q = refl
enough (suc n) (suc m) [] p q = refl
enough zero m (gate ∷ behind) p q = absurd (omega arith)
enough (suc n) zero (gate ∷ behind) p q = absurd (omega arith)
enough (suc n) (suc m) (gate ∷ behind) p q =
    ap (λ (o : Option (List (List ℕ))). cond (nat_eq gate 1) o (Some []))
    (same_bind (entry_at behind) (λ first. option_map (λ others. first.0 ∷ others) (payloads_within n first.1)) (λ first. option_map (λ others. first.0 ∷ others) (payloads_within m first.1)) (λ first e.
    let sizes = entry_sizes behind first.0 first.1 e in
    ap (option_map (λ others. first.0 ∷ others)) (enough n m first.1 (omega (arith, sizes.0)) (omega (arith, sizes.0)))))

-- ---- the entries from a gate on

pub from_open : (behind payload rest : List ℕ) → entry_at behind ≡ Some (payload, rest) → payloads_from (1 ∷ behind) ≡ option_map (λ others. payload ∷ others) (payloads_from rest)
unfolding payloads_within
from_open behind payload rest e =
    let sizes = entry_sizes behind payload rest e in
    ap (λ (o : Option (List ℕ × List ℕ)). o >>= λ first. option_map (λ others. first.0 ∷ others) (payloads_within (length behind) first.1)) e
    ∙ ap (option_map (λ others. payload ∷ others)) (enough (length behind) (length rest) rest (omega (arith, sizes.0)) (omega arith))

pub from_broken : (behind : List ℕ) → entry_at behind ≡ None → payloads_from (1 ∷ behind) ≡ None
unfolding payloads_within
from_broken behind e = ap (λ (o : Option (List ℕ × List ℕ)). o >>= λ first. option_map (λ others. first.0 ∷ others) (payloads_within (length behind) first.1)) e

pub from_shut : (bytes : List ℕ) → 0 < length bytes → is_open bytes ≡ false → payloads_from bytes ≡ Some []
unfolding payloads_within
from_shut [] some shut = absurd (omega arith)
from_shut (gate ∷ behind) some shut = ap (λ b. cond b (entry_at behind >>= λ first. option_map (λ others. first.0 ∷ others) (payloads_within (length behind) first.1)) (Some [])) shut

pub open_is : (bytes : List ℕ) → is_open bytes ≡ true → bytes ≡ 1 ∷ drop 1 bytes
open_is [] is = absurd cc
open_is (gate ∷ behind) is = ap (λ (g : ℕ). g ∷ behind) (eqb-true gate 1 is)

-- ---- a replay that is under way

none_after : (payloads : List (List ℕ)) → fold after_payload None payloads ≡ None
unfolding after_payload
none_after [] = refl
none_after (payload ∷ payloads) = none_after payloads

after_push : (s : State) (done : List (List ℕ)) (payload : List ℕ) → after_payloads s (done ++ payload ∷ []) ≡ after_payload (after_payloads s done) payload
after_push s done payload = by (Some s) done
  where
    by : (o : Option State) (done : List (List ℕ)) → fold after_payload o (done ++ payload ∷ []) ≡ after_payload (fold after_payload o done) payload
    by o [] = refl
    by o (first ∷ done) = by (after_payload o first) done

after_more : (o : Option State) (done others : List (List ℕ)) → fold after_payload o (done ++ others) ≡ fold after_payload (fold after_payload o done) others
after_more o [] others = refl
after_more o (first ∷ done) others = after_more (after_payload o first) done others

-- a first part of the entries is replayed, and this is what stands from the next gate on
pub record IsUnder (start now : State) (bytes rest : List ℕ) : Type 0 where
  pub done : List (List ℕ)
  pub found : payloads_from bytes ≡ option_map (λ others. done ++ others) (payloads_from rest)
  pub place : length bytes ≡ length (flat_map entry done) + length rest
  pub state : after_payloads start done ≡ Some now
  pub some : 0 < length rest

map_same : (o : Option (List (List ℕ))) → o ≡ option_map (λ others. [] ++ others) o
map_same (Some x) = refl
map_same None = refl

pub under_start : (start : State) (bytes : List ℕ) → 0 < length bytes → IsUnder start start bytes bytes
under_start start bytes some = record { done = []; found = map_same (payloads_from bytes); place = omega arith; state = refl; some = some }

map_push : (done : List (List ℕ)) (payload : List ℕ) (o : Option (List (List ℕ))) → option_map (λ others. done ++ others) (option_map (λ others. payload ∷ others) o) ≡ option_map (λ others. (done ++ payload ∷ []) ++ others) o
map_push done payload (Some others) = ap (λ (ps : List (List ℕ)). Some ps) (sym (append_assoc done (payload ∷ []) others))
map_push done payload None = refl

length-entry : (payload : List ℕ) → length (entry payload) ≡ 5 + length payload
length-entry payload = omega (arith, length-append (to_be_bytes w32 (length payload)) payload)

length-push : (done : List (List ℕ)) (payload : List ℕ) → length (flat_map entry (done ++ payload ∷ [])) ≡ length (flat_map entry done) + 5 + length payload
length-push [] payload = omega (arith, length-append (entry payload) [], length-entry payload)
length-push (first ∷ done) payload =
    omega (arith, length-push done payload, length-append (entry first) (flat_map entry (done ++ payload ∷ [])), length-append (entry first) (flat_map entry done))

pub under_step : (start now next : State) (bytes behind payload rest : List ℕ) → IsUnder start now bytes (1 ∷ behind) → entry_at behind ≡ Some (payload, rest) → after_payload (Some now) payload ≡ Some next → IsUnder start next bytes rest
under_step start now next bytes behind payload rest under e goes =
    let sizes = entry_sizes behind payload rest e in
    record {
      done = under.done ++ payload ∷ [];
      found = under.found ∙ ap (option_map (λ others. under.done ++ others)) (from_open behind payload rest e) ∙ map_push under.done payload (payloads_from rest);
      place = omega (arith, under.place, sizes.0, length-push under.done payload);
      state = after_push start under.done payload ∙ ap (λ (o : Option State). after_payload o payload) under.state ∙ goes;
      some = sizes.1;
    }

pub under_end : (start now : State) (bytes rest : List ℕ) → IsUnder start now bytes rest → is_open rest ≡ false → Replays start bytes now rest
under_end start now bytes rest under shut = record {
  payloads = under.done;
  found = under.found ∙ ap (option_map (λ others. under.done ++ others)) (from_shut rest under.some shut) ∙ ap (λ (ps : List (List ℕ)). Some ps) (append-nil under.done);
  place = under.place;
  state = under.state;
}

pub under_broken : (start now : State) (bytes behind : List ℕ) → IsUnder start now bytes (1 ∷ behind) → entry_at behind ≡ None → IsRefused start bytes
under_broken start now bytes behind under e =
    ap (option_and_then (after_payloads start)) (under.found ∙ ap (option_map (λ others. under.done ++ others)) (from_broken behind e))

refused_by : (start now : State) (done : List (List ℕ)) (payload : List ℕ) (o : Option (List (List ℕ))) → after_payloads start done ≡ Some now → after_payload (Some now) payload ≡ None
    → option_and_then (after_payloads start) (option_map (λ others. done ++ others) (option_map (λ others. payload ∷ others) o)) ≡ None
refused_by start now done payload None state stops = refl
refused_by start now done payload (Some others) state stops =
    after_more (Some start) done (payload ∷ others)
    ∙ ap (λ (o : Option State). fold after_payload o (payload ∷ others)) state
    ∙ ap (λ (o : Option State). fold after_payload o others) stops
    ∙ none_after others

pub under_refused : (start now : State) (bytes behind payload rest : List ℕ) → IsUnder start now bytes (1 ∷ behind) → entry_at behind ≡ Some (payload, rest) → after_payload (Some now) payload ≡ None → IsRefused start bytes
under_refused start now bytes behind payload rest under e stops =
    ap (option_and_then (after_payloads start)) (under.found ∙ ap (option_map (λ others. under.done ++ others)) (from_open behind payload rest e))
    ∙ refused_by start now under.done payload (payloads_from rest) under.state stops

-- ---- a whole file

pub not_so : (b : Bool) → not b ≡ true → b ≡ false
not_so true e = absurd cc
not_so false e = refl

pub so : (b : Bool) → not b ≡ false → b ≡ true
so true e = refl
so false e = absurd cc

-- behind the heading the entries of a long file begin
pub long_from : (file : List ℕ) → 9 < length file → length file ≤ most_bytes → starts_with nat_eq file heading ≡ true → payloads_of file ≡ payloads_from (drop 8 file)
unfolding payloads_of
long_from file long fits starts =
    let over : nat_le (length file) 9 ≡ false = grind (arith, nat_tests) in
    let under : nat_le (length file) 67108864 ≡ true = grind (arith, nat_tests) in
    rw (over, under, starts) refl

pub long_none : (file : List ℕ) → 9 < length file → starts_with nat_eq file heading ≡ false → payloads_of file ≡ None
unfolding payloads_of
long_none file long starts =
    let over : nat_le (length file) 9 ≡ false = grind (arith, nat_tests) in
    cases (nat_le (length file) most_bytes) over starts
  where
    cases : (b : Bool) → nat_le (length file) 9 ≡ false → starts_with nat_eq file heading ≡ false → cond (nat_le (length file) 9) (Some []) (cond (b && starts_with nat_eq file heading) (payloads_from (drop 8 file)) None) ≡ None
    cases true over starts = rw (over, starts) refl
    cases false over starts = rw over refl

pub long_refused : (stamp file : List ℕ) (old : State) → 9 < length file → starts_with nat_eq file heading ≡ false → option_and_then (replayed stamp old) (payloads_of file) ≡ None
long_refused stamp file old long starts = ap (option_and_then (replayed stamp old)) (long_none file long starts)

module _ (stamp file : List ℕ) (old : State) (long : 9 < length file) (fits : length file ≤ most_bytes) (starts : starts_with nat_eq file heading ≡ true) where
  pub file_empty : IsBytes file → is_open (drop 8 file) ≡ false → IsEmpty file old old
  file_empty bytes shut =
      let found : payloads_of file ≡ Some [] = long_from file long fits starts ∙ from_shut (drop 8 file) (omega (arith, length-drop 8 file)) shut in
      record { found = found; laid = λ _. laid_out file [] long bytes found; state = refl }

  pub file_broken : (behind : List ℕ) → drop 8 file ≡ 1 ∷ behind → entry_at behind ≡ None → option_and_then (replayed stamp old) (payloads_of file) ≡ None
  file_broken behind is e = ap (option_and_then (replayed stamp old)) (long_from file long fits starts ∙ ap payloads_from is ∙ from_broken behind e)

  begun : (behind first rest : List ℕ) → drop 8 file ≡ 1 ∷ behind → entry_at behind ≡ Some (first, rest) → payloads_of file ≡ option_map (λ others. first ∷ others) (payloads_from rest)
  begun behind first rest is e = long_from file long fits starts ∙ ap payloads_from is ∙ from_open behind first rest e

  other_stamp : (first : List ℕ) (o : Option (List (List ℕ))) → bytes_eq first stamp ≡ false → option_and_then (replayed stamp old) (option_map (λ others. first ∷ others) o) ≡ None
  other_stamp first None other = refl
  other_stamp first (Some others) other = ap (λ b. cond b (after_payloads old others) None) other

  pub file_stamped_otherwise : (behind first rest : List ℕ) → drop 8 file ≡ 1 ∷ behind → entry_at behind ≡ Some (first, rest) → bytes_eq first stamp ≡ false → option_and_then (replayed stamp old) (payloads_of file) ≡ None
  file_stamped_otherwise behind first rest is e other =
      ap (option_and_then (replayed stamp old)) (begun behind first rest is e) ∙ other_stamp first (payloads_from rest) other

  same_stamp : (first : List ℕ) (o : Option (List (List ℕ))) → bytes_eq first stamp ≡ true → option_and_then (replayed stamp old) (option_map (λ others. first ∷ others) o) ≡ option_and_then (after_payloads old) o
  same_stamp first None same = refl
  same_stamp first (Some others) same = ap (λ b. cond b (after_payloads old others) None) same

  pub file_refused : (behind first rest : List ℕ) → drop 8 file ≡ 1 ∷ behind → entry_at behind ≡ Some (first, rest) → bytes_eq first stamp ≡ true → IsRefused old rest → option_and_then (replayed stamp old) (payloads_of file) ≡ None
  file_refused behind first rest is e same refused =
      ap (option_and_then (replayed stamp old)) (begun behind first rest is e) ∙ same_stamp first (payloads_from rest) same ∙ refused

  stamp_is : (first : List ℕ) → bytes_eq first stamp ≡ true → first ≡ stamp
  stamp_is first same = (bytes_eq-Decides first stamp).0 same

  pub file_replayed : (behind first rest left : List ℕ) (now : State) (place : ℕ) → IsBytes file → drop 8 file ≡ 1 ∷ behind → entry_at behind ≡ Some (first, rest) → bytes_eq first stamp ≡ true → Replays old rest now left → place + length left ≡ length file → IsReplayed stamp file old now place
  file_replayed behind first rest left now place bytes is e same replays ends =
      let sizes = entry_sizes behind first rest e in
      let found : payloads_of file ≡ Some (first ∷ replays.payloads) = begun behind first rest is e ∙ ap (option_map (λ others. first ∷ others)) replays.found in
      let place_is : place ≡ length (entries (first ∷ replays.payloads)) =
      omega (arith, ends, sizes.0, replays.place, ap length is, length-drop 8 file, length-append heading (flat_map entry (first ∷ replays.payloads)), length-append (entry first) (flat_map entry replays.payloads), length-entry first) in
      record {
        rounds = replays.payloads;
        found = found ∙ ap (λ (l : List ℕ). Some (l ∷ replays.payloads)) (stamp_is first same);
        laid = subst (λ (l : List ℕ). IsLaidOut (l ∷ replays.payloads) file) (stamp_is first same) (laid_out file (first ∷ replays.payloads) long bytes found);
        place_is = place_is ∙ ap (λ (l : List ℕ). length (entries (l ∷ replays.payloads))) (stamp_is first same);
        state = replays.state;
      }

  pub file_failed : (e : Unread) (behind : List ℕ) → drop 8 file ≡ 1 ∷ behind → Fails e (entry_at behind) → IsFound stamp file old old (Err e)
  file_failed errors.NoMemory behind is fails = tt
  file_failed errors.Malformed behind is fails = file_broken behind is fails

  pub file_refused_by : (e : Unread) (behind first rest : List ℕ) (now : State) → drop 8 file ≡ 1 ∷ behind → entry_at behind ≡ Some (first, rest) → bytes_eq first stamp ≡ true → (e ≡ errors.Malformed → IsRefused old rest) → IsFound stamp file old now (Err e)
  file_refused_by errors.NoMemory behind first rest now is found same refused = tt
  file_refused_by errors.Malformed behind first rest now is found same refused = file_refused behind first rest is found same (refused refl)
