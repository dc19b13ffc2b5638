-- A file opens where it is laid out with a stamp and rounds that follow one another, and only there.
use Rattle.std.proofs.Common.{◌≡◌, inl, inr, ⊎_elim, ℕ, ◌<◌, ◌^◌, Bool, true, false, cond, not, List, [], ◌∷◌, ◌++◌, length, map, drop, take, nat_eq, ◌&&◌, Option, Some, None, refl, sym, ap, subst, ◌∙◌, append_assoc, arith}
use Rattle.std.specs.Prelude.{bytes_eq}
use Rattle.std.specs.Int.{to_be_bytes, w32, w64}
use Rattle.std.specs.List.{AllByRecursion, flat_map, fold}
use Rattle.std.specs.Option.{option_and_then}
use Rattle.std.proofs.lemmas.Bool.{and_parts, cases_lt, eqb-true}
use Rattle.std.proofs.lemmas.List.{drop_at, take_at, get_or_append_left, get_or_past}
use Rattle.std.proofs.lemmas.Option.{none-some, same_Some}
use Rattle.std.proofs.lemmas.Slice.Eq.{bytes_eq-Decides}
use Rattle.optra_bid.specs.declared.bids.Bid.{Bid}
use Rattle.optra_auction.specs.Machine.{State, after_all, opened}
use Rattle.optra_auction.specs.declared.Rules.{Rules}
use Rattle.optra_house.specs.Entries.{IsLaidOut, entries, entry, heading, payloads_of}
use Rattle.optra_house.specs.Forms.{AreBytes, Follow, IsUnbegun, MayFollow, StandsAt}
use Rattle.optra_house.specs.Payloads.{Posting, IsPosting, part_bytes, round_payload, stamp_payload}
use Rattle.optra_house.specs.Reading.{number_at, round_of}
use Rattle.optra_house.specs.Replay.{after_payload, after_payloads, after_posting, after_round_entry, may_follow, opens_as, replayed}
use Rattle.optra_house.proofs.AgainLemmas.{round_again}
use Rattle.optra_house.proofs.EntryLemmas.{laid_out, reads_back, short_none}
use Rattle.optra_house.proofs.FieldLemmas.{IsBytes, IsBytes-drop, number_again, some_is, wide64}
use Rattle.optra_house.proofs.PostLemmas.{follows, opens_empty, opens_with, posted_after}
use Rattle.optra_house.proofs.TakenLemmas.{round_taken}

-- ---- the bytes of parts

bytes_each : (bytes : List ℕ) → AreBytes bytes → IsBytes bytes
bytes_each bytes are i = elim (cases_lt i (length bytes)) [
  | inl within ↦ are i 0 within
  | inr past ↦ subst (λ (b : ℕ). b < 256) (sym (get_or_past bytes i 0 past)) (omega arith)
]

bytes_left : (front rest : List ℕ) → IsBytes (front ++ rest) → IsBytes front
bytes_left front rest are i = elim (cases_lt i (length front)) [
  | inl within ↦ subst (λ (b : ℕ). b < 256) (get_or_append_left front rest 0 i within) (are i)
  | inr past ↦ subst (λ (b : ℕ). b < 256) (sym (get_or_past front i 0 past)) (omega arith)
]

bytes_right : (front rest : List ℕ) → IsBytes (front ++ rest) → IsBytes rest
bytes_right front rest are = subst IsBytes (drop_at front rest (length front) refl) (IsBytes-drop (length front) (front ++ rest) are)

bytes_entries : (payloads : List (List ℕ)) → IsBytes (flat_map entry payloads) → AllByRecursion IsBytes payloads
bytes_entries [] are = tt
bytes_entries (payload ∷ payloads) are =
    let front = 1 ∷ to_be_bytes w32 (length payload) in (
      bytes_right front payload (bytes_left (entry payload) (flat_map entry payloads) are),
      bytes_entries payloads (bytes_right (entry payload) (flat_map entry payloads) are),
    )

-- the payloads of a file of bytes are bytes
bytes_payloads : (payloads : List (List ℕ)) (file : List ℕ) → AreBytes file → IsLaidOut payloads file → AllByRecursion IsBytes payloads
bytes_payloads payloads file are laid =
    let whole : IsBytes (entries payloads ++ laid.gate ∷ laid.behind) = subst IsBytes laid.is (bytes_each file are) in
    bytes_entries payloads (bytes_right heading (flat_map entry payloads) (bytes_left (entries payloads) (laid.gate ∷ laid.behind) whole))

-- what is read as a round is the payload of that round, and that is read as the round
pub round_is : (payload : List ℕ) (posting : Posting) → AreBytes payload → round_of payload ≡ Some posting → (payload ≡ round_payload posting) × IsPosting posting
round_is payload posting are read = let taken = round_taken payload posting (bytes_each payload are) read in (taken.spelled, taken.is)

pub is_round : (payload : List ℕ) (posting : Posting) → (payload ≡ round_payload posting) × IsPosting posting → round_of payload ≡ Some posting
is_round payload posting is = ap round_of is.0 ∙ round_again posting is.1

-- ---- rounds that are replayed follow one another

-- what a step found
step_some : {A B : Type 0} (f : A → Option B) (o : Option A) (y : B) → option_and_then f o ≡ Some y → (x : A) × (o ≡ Some x) × (f x ≡ Some y)
step_some f (Some x) y e = (x, refl, e)
step_some f None y e = absurd cc

held : {A : Type 0} (b : Bool) (x y : A) → cond b (Some x) None ≡ Some y → (b ≡ true) × (x ≡ y)
held true x y e = (refl, cc)
held false x y e = absurd cc

is_not : (b : Bool) → not b ≡ true → b ≡ false
is_not true e = absurd cc
is_not false e = refl

-- a payload after which the auction goes on is that of a round that may follow
record IsNext (s : State) (payload : List ℕ) (next : State) : Type 0 where
  pub posting : Posting
  pub spelled : payload ≡ round_payload posting
  pub may : MayFollow s posting
  pub next_is : next ≡ after_posting s posting

payload_next : (s next : State) (payload : List ℕ) → IsBytes payload → after_payload (Some s) payload ≡ Some next → IsNext s payload next
unfolding after_payload
payload_next s next payload are e =
    let found = step_some (after_round_entry s) (round_of payload) next e in
    let posting = found.0 in
    let follows_it = held (may_follow s posting) (after_posting s posting) next found.2 in
    let tests = and_parts (not s.closed && nat_eq posting.number s.round) (nat_eq (length posting.values) (length (after_all s posting.acts).standing)) follows_it.0 in
    let first = and_parts (not s.closed) (nat_eq posting.number s.round) tests.0 in
    let taken = round_taken payload posting are found.1 in
    record {
      posting = posting;
      spelled = taken.spelled;
      may = record { in_range = taken.is; is_open = is_not s.closed first.0; number = eqb-true _ _ first.1; count = eqb-true _ _ tests.1 };
      next_is = sym follows_it.1;
    }

none_after : (payloads : List (List ℕ)) → fold after_payload None payloads ≡ None
unfolding after_payload
none_after [] = refl
none_after (payload ∷ payloads) = none_after payloads

-- payloads that lead from one state to another are those of rounds that follow one another
record AreRounds (s : State) (payloads : List (List ℕ)) (now : State) : Type 0 where
  pub postings : List Posting
  pub spelled : payloads ≡ map round_payload postings
  pub rounds : Follow s postings now

payloads_follow : (payloads : List (List ℕ)) (s now : State) → AllByRecursion IsBytes payloads → after_payloads s payloads ≡ Some now → AreRounds s payloads now
payloads_follow [] s now are e = record { postings = []; spelled = refl; rounds = same_Some now s (sym e) }
payloads_follow (payload ∷ payloads) s now are e = by (after_payload (Some s) payload) refl (λ next. payloads_follow payloads next now are.1)
  where
    by : (o : Option State) → after_payload (Some s) payload ≡ o → ((next : State) → after_payloads next payloads ≡ Some now → AreRounds next payloads now) → AreRounds s (payload ∷ payloads) now
    by None is others = absurd (none-some now (sym (none_after payloads) ∙ sym (ap (λ (o : Option State). fold after_payload o payloads) is) ∙ e))
    by (Some next) is others =
        let first = payload_next s next payload are.0 is in
        let behind = others next (sym (ap (λ (o : Option State). fold after_payload o payloads) is) ∙ e) in
        record {
          postings = first.posting ∷ behind.postings;
          spelled = (λ i. first.spelled i ∷ behind.spelled i);
          rounds = (first.may, subst (λ (t : State). Follow t behind.postings now) first.next_is behind.rounds);
        }

follow_payloads : (postings : List Posting) (s now : State) → Follow s postings now → after_payloads s (map round_payload postings) ≡ Some now
follow_payloads [] s now is = ap (λ (t : State). Some t) (sym is)
follow_payloads (posting ∷ postings) s now follow =
    let may = follow.0 in
    let step : after_payload (Some s) (round_payload posting) ≡ Some (after_posting s posting) = posted_after s posting may.in_range (follows s posting may.is_open may.number may.count) in
    ap (λ (o : Option State). fold after_payload o (map round_payload postings)) step ∙ follow_payloads postings (after_posting s posting) now follow.1

-- ---- a whole file

unbegun_none : (file : List ℕ) → IsUnbegun file → payloads_of file ≡ Some []
unbegun_none file unbegun = ⊎_elim (λ short. short_none file short) (λ laid. reads_back [] file laid) unbegun

module _ (stamp : List ℕ) (specs : List Bid) (rules : Rules) (file : List ℕ) (now : State) where
  pub stands_opens : StandsAt stamp specs rules file now → opens_as stamp specs rules file ≡ Some now
  stands_opens stands = ⊎_elim
      (λ begun. opens_empty stamp specs rules file (unbegun_none file begun.0) ∙ ap (λ (s : State). Some s) (sym begun.1))
      (λ is. opens_with stamp specs rules (map round_payload is.postings) now file (follow_payloads is.postings (opened specs rules) now is.rounds) (reads_back (stamp ∷ map round_payload is.postings) file is.laid_out))
      stands

  replayed_stands : (payloads : List (List ℕ)) → AreBytes file → payloads_of file ≡ Some payloads → replayed stamp (opened specs rules) payloads ≡ Some now → StandsAt stamp specs rules file now
  replayed_stands [] are found e =
      let unbegun : IsUnbegun file = elim (cases_lt 9 (length file)) [
        | inl long ↦ inr (laid_out file [] long (bytes_each file are) found)
        | inr short ↦ inl short
      ] in
      inl (unbegun, same_Some now (opened specs rules) (sym e))
  replayed_stands (first ∷ payloads) are found e = elim (cases_lt 9 (length file)) [
    | inl long ↦
        let laid = laid_out file (first ∷ payloads) long (bytes_each file are) found in
        let bytes = bytes_payloads (first ∷ payloads) file are laid in
        let same = cond_held (bytes_eq first stamp) (after_payloads (opened specs rules) payloads) now e in
        let rounds = payloads_follow payloads (opened specs rules) now bytes.1 same.1 in
        let stamp_is : first ≡ stamp = (bytes_eq-Decides first stamp).0 same.0 in
        inr (record {
          postings = rounds.postings;
          laid_out = subst (λ (ps : List (List ℕ)). IsLaidOut ps file) (λ i. stamp_is i ∷ rounds.spelled i) laid;
          rounds = rounds.rounds;
        })
    | inr short ↦ absurd (one_too_many first payloads (some_is [] (first ∷ payloads) (sym (short_none file short) ∙ found)))
  ]
    where
      cond_held : (b : Bool) (o : Option State) (y : State) → cond b o None ≡ Some y → (b ≡ true) × (o ≡ Some y)
      cond_held true o y e = (refl, e)
      cond_held false o y e = absurd cc

      one_too_many : (first : List ℕ) (payloads : List (List ℕ)) → [] ≡ first ∷ payloads → ⊥
      one_too_many first payloads e = cc

  pub opens_stands : AreBytes file → opens_as stamp specs rules file ≡ Some now → StandsAt stamp specs rules file now
  unfolding opens_as
  opens_stands are e =
      let found = step_some (replayed stamp (opened specs rules)) (payloads_of file) now e in
      replayed_stands found.0 are found.1 found.2

-- a file that is refused stands nowhere, and one that stands nowhere is refused
pub refused_nowhere : (stamp : List ℕ) (specs : List Bid) (rules : Rules) (file : List ℕ) → opens_as stamp specs rules file ≡ None → (now : State) → StandsAt stamp specs rules file now → ⊥
refused_nowhere stamp specs rules file none now stands = none-some now (sym none ∙ stands_opens stamp specs rules file now stands)

pub nowhere_refused : (stamp : List ℕ) (specs : List Bid) (rules : Rules) (file : List ℕ) → AreBytes file → ((now : State) → StandsAt stamp specs rules file now → ⊥) → opens_as stamp specs rules file ≡ None
nowhere_refused stamp specs rules file are nowhere = by (opens_as stamp specs rules file) refl
  where
    by : (o : Option State) → opens_as stamp specs rules file ≡ o → o ≡ None
    by None is = refl
    by (Some now) is = absurd (nowhere now (opens_stands stamp specs rules file now are is))

-- ---- stamps

-- parts that begin the same bytes are the same, and so is what stands behind them
part_same : (one two rest others : List ℕ) → length one < 2 ^ 64 → length two < 2 ^ 64 → part_bytes one ++ rest ≡ part_bytes two ++ others → (one ≡ two) × (rest ≡ others)
part_same one two rest others p q e =
    let first = number_again w64 (2 ^ 64) wide64 (length one) (one ++ rest) p in
    let second = number_again w64 (2 ^ 64) wide64 (length two) (two ++ others) q in
    let bytes : to_be_bytes w64 (length one) ++ (one ++ rest) ≡ to_be_bytes w64 (length two) ++ (two ++ others) =
    sym (append_assoc (to_be_bytes w64 (length one)) one rest) ∙ e ∙ append_assoc (to_be_bytes w64 (length two)) two others in
    let same : (length one, one ++ rest) ≡ (length two, two ++ others) = some_is _ _ (sym first ∙ ap (number_at w64) bytes ∙ second) in
    let long : length one ≡ length two = ap (λ (p : ℕ × List ℕ). p.0) same in
    let behind : one ++ rest ≡ two ++ others = ap (λ (p : ℕ × List ℕ). p.1) same in (
      sym (take_at one rest (length one) refl) ∙ ap (take (length one)) behind ∙ ap (λ (k : ℕ). take k (two ++ others)) long ∙ take_at two others (length two) refl,
      sym (drop_at one rest (length one) refl) ∙ ap (drop (length one)) behind ∙ ap (λ (k : ℕ). drop k (two ++ others)) long ∙ drop_at two others (length two) refl,
    )

last_same : (one two : List ℕ) → length one < 2 ^ 64 → length two < 2 ^ 64 → part_bytes one ≡ part_bytes two → one ≡ two
last_same one two p q e = (part_same one two [] [] p q (ap (λ (l : List ℕ). l ++ []) e)).0

pub stamp_same : (a b d a' b' d' : List ℕ) → length a < 2 ^ 64 → length b < 2 ^ 64 → length d < 2 ^ 64 → length a' < 2 ^ 64 → length b' < 2 ^ 64 → length d' < 2 ^ 64
    → stamp_payload a b d ≡ stamp_payload a' b' d' → (a ≡ a') × (b ≡ b') × (d ≡ d')
unfolding stamp_payload
stamp_same a b d a' b' d' p q r p' q' r' e =
    let behind : part_bytes a ++ (part_bytes b ++ part_bytes d) ≡ part_bytes a' ++ (part_bytes b' ++ part_bytes d') = ap (drop 1) e in
    let first = part_same a a' (part_bytes b ++ part_bytes d) (part_bytes b' ++ part_bytes d') p p' behind in
    let second = part_same b b' (part_bytes d) (part_bytes d') q q' first.1 in
    (first.0, second.0, last_same d d' r r' second.1)
