-- What a round makes of an auction, and of the bids that are planned in it.
use Rattle.std.proofs.Common.{◌≡◌, ◌≢◌, ℕ, ℤ, ◌+◌, ◌*◌, ◌^◌, ◌<◌, ◌≤◌, Bool, true, false, cond, not, List, [], ◌∷◌, ◌++◌, length, map, nat_eq, ◌&&◌, ◌||◌, inl, inr, Option, Some, None, refl, sym, ap, subst, ◌∙◌, length-append, arith, eq-eqb, ne_eqb}
use Rattle.std.specs.Prelude.{◌↔◌, IsTrue, Result, Err}
use Rattle.std.specs.Int.{to_be_bytes, w16, w32}
use Rattle.std.specs.List.{cons_option, filter_map, flat_map, fold, AllByRecursion}
use Rattle.std.specs.Option.{option_and_then}
use Rattle.std.proofs.lemmas.Bool.{and_from, and_right, cases_lt, le-ltb}
use Rattle.std.proofs.lemmas.Bool.Decides.{nat_tests}
use Rattle.std.proofs.lemmas.List.Elements.{All-from_recursion}
use Rattle.std.proofs.lemmas.Slice.Eq.{bytes_eq-Decides}
use Rattle.optra_bid.specs.declared.bids.Bid.{Bid}
use Rattle.optra_auction.specs.Machine.{ArePlanned, Offer, Standing, State, after_all, after_round, offer_of, opened, planned_of}
use Rattle.optra_auction.specs.declared.Act.{Act}
use Rattle.optra_auction.specs.declared.Rules.{Rules}
use Rattle.optra_outside.specs.declared.disks.DiskError.{DiskError}
use Rattle.optra_outside.specs.declared.disks.DiskError.TheVariants as disk_errors
use Rattle.optra_house.specs.PostAnswers.{FollowsPostRule, IsRefusal, has_no_room, is_out_of_order, of_disk}
use Rattle.optra_house.specs.Ledger.{Ledger}
use Rattle.optra_house.specs.Entries.{most_bytes}
use Rattle.optra_house.specs.Journal.{HasEntries}
use Rattle.optra_house.specs.Payloads.{AreValues, Posting, IsPosting, IsSpelled, act_bytes, head_bytes, value_bytes, values_bytes, round_payload}
use Rattle.optra_house.specs.declared.fields.Unread.{Unread}
use Rattle.optra_house.specs.declared.fields.Unread.TheVariants as errors
use Rattle.optra_house.specs.Reading.{Fails, round_of}
use Rattle.optra_house.specs.Replayed.{Steps}
use Rattle.optra_house.specs.Replay.{IsPlannedRound, WasAsked, after_payload, after_payloads, after_posting, after_round_entry, may_follow, opens_as, replayed}
use Rattle.optra_house.proofs.AgainLemmas.{round_again}

-- ---- planned bids

-- the offers of planned bids are those of the auction, one for each bid that stands
pub planned_offers : (specs : List Bid) (standing : List Standing) (bids : List Bid) → map (λ (bid : Bid). Some (offer_of bid)) bids ≡ map (planned_of specs) standing
    → map offer_of bids ≡ filter_map (planned_of specs) standing
planned_offers specs [] [] e = refl
planned_offers specs [] (x ∷ bids) e = absurd cc
planned_offers specs (b ∷ standing) [] e = absurd cc
planned_offers specs (b ∷ standing) (x ∷ bids) e =
    let head : Some (offer_of x) ≡ planned_of specs b = cc in
    let tail : map (λ (bid : Bid). Some (offer_of bid)) bids ≡ map (planned_of specs) standing = cc in
    ap (λ (os : List Offer). offer_of x ∷ os) (planned_offers specs standing bids tail)
    ∙ ap (λ (o : Option Offer). cons_option o (filter_map (planned_of specs) standing)) head

pub planned_count : (specs : List Bid) (standing : List Standing) (bids : List Bid) → map (λ (bid : Bid). Some (offer_of bid)) bids ≡ map (planned_of specs) standing → length bids ≡ length standing
planned_count specs [] [] e = refl
planned_count specs [] (x ∷ bids) e = absurd cc
planned_count specs (b ∷ standing) [] e = absurd cc
planned_count specs (b ∷ standing) (x ∷ bids) e =
    let tail : map (λ (bid : Bid). Some (offer_of bid)) bids ≡ map (planned_of specs) standing = cc in
    omega (arith, planned_count specs standing bids tail)

-- ---- the bytes of values

value_few : (value : Option ℤ) → length (value_bytes value) ≤ 9
unfolding value_bytes
value_few None = omega arith
value_few (Some cents) = omega arith

pub values_few : (values : List (Option ℤ)) → length (flat_map value_bytes values) ≤ 9 * length values
values_few [] = omega arith
values_few (value ∷ values) = omega (arith, values_few values, value_few value, length-append (value_bytes value) (flat_map value_bytes values))

-- ---- one more round in the journal

-- the auction after a round that is read from its payload
pub posted_after : (s : State) (posting : Posting) → IsPosting posting → may_follow s posting ≡ true → after_payload (Some s) (round_payload posting) ≡ Some (after_posting s posting)
unfolding after_payload
posted_after s posting is follows =
    ap (option_and_then (after_round_entry s)) (round_again posting is) ∙ ap (λ b. cond b (Some (after_posting s posting)) None) follows

fold_push : (o : Option State) (done : List (List ℕ)) (payload : List ℕ) → fold after_payload o (done ++ payload ∷ []) ≡ after_payload (fold after_payload o done) payload
fold_push o [] payload = refl
fold_push o (first ∷ done) payload = fold_push (after_payload o first) done payload

pub after_one_more : (start s next : State) (rounds : List (List ℕ)) (payload : List ℕ) → after_payloads start rounds ≡ Some s → after_payload (Some s) payload ≡ Some next → after_payloads start (rounds ++ payload ∷ []) ≡ Some next
after_one_more start s next rounds payload state goes = fold_push (Some start) rounds payload ∙ ap (λ (o : Option State). after_payload o payload) state ∙ goes

-- a file with a stamp and rounds opens as the auction after them
pub opens_with : (stamp : List ℕ) (specs : List Bid) (rules : Rules) (rounds : List (List ℕ)) (s : State) (file : List ℕ) → after_payloads (opened specs rules) rounds ≡ Some s → HasEntries (stamp ∷ rounds) file → opens_as stamp specs rules file ≡ Some s
unfolding opens_as
opens_with stamp specs rules rounds s file state has =
    ap (option_and_then (replayed stamp (opened specs rules))) has
    ∙ ap (λ b. cond b (after_payloads (opened specs rules) rounds) None) ((bytes_eq-Decides stamp stamp).1 refl)
    ∙ state

-- a file with no entry opens as the auction before its first round
pub opens_empty : (stamp : List ℕ) (specs : List Bid) (rules : Rules) (file : List ℕ) → HasEntries [] file → opens_as stamp specs rules file ≡ Some (opened specs rules)
unfolding opens_as
opens_empty stamp specs rules file has = ap (option_and_then (replayed stamp (opened specs rules))) has

-- ---- whether a round follows

closed_not : (s : State) (posting : Posting) → s.closed ≡ true → may_follow s posting ≡ false
closed_not s posting closed = ap (λ b. not b && nat_eq posting.number s.round && nat_eq (length posting.values) (length (after_all s posting.acts).standing)) closed

number_not : (s : State) (posting : Posting) → posting.number ≢ s.round → may_follow s posting ≡ false
number_not s posting other = by (not s.closed)
  where
    by : (b : Bool) → (b && nat_eq posting.number s.round && nat_eq (length posting.values) (length (after_all s posting.acts).standing)) ≡ false
    by true = ap (λ b. b && nat_eq (length posting.values) (length (after_all s posting.acts).standing)) (ne_eqb posting.number s.round other)
    by false = refl

count_not : (s : State) (posting : Posting) → length posting.values ≢ length (after_all s posting.acts).standing → may_follow s posting ≡ false
count_not s posting other = and_right (not s.closed && nat_eq posting.number s.round) (nat_eq (length posting.values) (length (after_all s posting.acts).standing)) (ne_eqb _ _ other)

pub follows : (s : State) (posting : Posting) → s.closed ≡ false → posting.number ≡ s.round → length posting.values ≡ length (after_all s posting.acts).standing → may_follow s posting ≡ true
follows s posting opened_is number count =
    and_from (not s.closed && nat_eq posting.number s.round) _ (and_from (not s.closed) _ (ap not opened_is) (eq-eqb posting.number s.round number)) (eq-eqb _ _ count)

stops : (s : State) (payload : List ℕ) (posting : Posting) → round_of payload ≡ Some posting → may_follow s posting ≡ false → after_payload (Some s) payload ≡ None
unfolding after_payload
stops s payload posting read fails = ap (option_and_then (after_round_entry s)) read ∙ ap (λ b. cond b (Some (after_posting s posting)) None) fails

pub closed_stops : (s : State) (payload : List ℕ) (posting : Posting) → round_of payload ≡ Some posting → s.closed ≡ true → after_payload (Some s) payload ≡ None
closed_stops s payload posting read closed = stops s payload posting read (closed_not s posting closed)

pub number_stops : (s : State) (payload : List ℕ) (posting : Posting) → round_of payload ≡ Some posting → posting.number ≢ s.round → after_payload (Some s) payload ≡ None
number_stops s payload posting read other = stops s payload posting read (number_not s posting other)

pub count_stops : (s : State) (payload : List ℕ) (posting : Posting) → round_of payload ≡ Some posting → length posting.values ≢ length (after_all s posting.acts).standing → after_payload (Some s) payload ≡ None
count_stops s payload posting read other = stops s payload posting read (count_not s posting other)

pub goes : (s : State) (payload : List ℕ) (posting : Posting) → round_of payload ≡ Some posting → may_follow s posting ≡ true → after_payload (Some s) payload ≡ Some (after_posting s posting)
unfolding after_payload
goes s payload posting read follows = ap (option_and_then (after_round_entry s)) read ∙ ap (λ b. cond b (Some (after_posting s posting)) None) follows

pub steps_failed : (T : Type 0) (e : Unread) (s : State) (payload : List ℕ) → Fails e (round_of payload) → Steps {T = T} (after_payload (Some s) payload) s (Err e)
unfolding after_payload
steps_failed T errors.NoMemory s payload fails = tt
steps_failed T errors.Malformed s payload fails = ap (option_and_then (after_round_entry s)) fails

pub stops_by : (T : Type 0) (e : Unread) (o : Option State) (s : State) → e ≡ errors.Malformed → Steps {T = T} o s (Err e) → o ≡ None
stops_by T errors.Malformed o s is steps = steps
stops_by T errors.NoMemory o s is steps = absurd cc

pub err_same : (T : Type 0) (e f : Unread) → ◌≡◌ {A = Result T Unread} (Err e) (Err f) → e ≡ f
err_same T e f is = cc

-- ---- the payload of a round that is posted

pub posted_goes : (s : State) (round : ℕ) (acts : List Act) (values : List (Option ℤ)) (payload : List ℕ) → s.closed ≡ false → s.round ≡ round → round < 2 ^ 16 → length acts ≤ 100000 → AllByRecursion IsSpelled acts
    → AreValues (length (after_all s acts).standing) values → length (after_all s acts).standing ≤ 500 → payload ≡ head_bytes round acts ++ values_bytes values → after_payload (Some s) payload ≡ Some (after_round (after_all s acts) values)
posted_goes s round acts values payload opened_is same small few spelled are standing is =
    let posting : Posting = record { number = round; acts = acts; values = values } in
    let in_range : IsPosting posting = record { number = small; acts_count = omega (arith, few); acts = All-from_recursion IsSpelled acts spelled; values_count = omega (arith, are.count_is, standing); values = are.each } in
    ap (after_payload (Some s)) is ∙ posted_after s posting in_range (follows s posting opened_is (sym same) are.count_is)

pub length-head : (round : ℕ) (acts : List Act) → length (head_bytes round acts) ≡ 7 + length (flat_map act_bytes acts)
unfolding head_bytes
length-head round acts = omega (arith, length-append (to_be_bytes w16 round) (to_be_bytes w32 (length acts) ++ flat_map act_bytes acts), length-append (to_be_bytes w32 (length acts)) (flat_map act_bytes acts))

pub values_room : (values : List (Option ℤ)) → length values ≤ 500 → length (values_bytes values) ≤ 4504
unfolding values_bytes
values_room values few = omega (arith, few, values_few values, length-append (to_be_bytes w32 (length values)) (flat_map value_bytes values))

pub values_at_most : (payload head : List ℕ) (values : List (Option ℤ)) → payload ≡ head ++ values_bytes values → length values ≤ 500 → length payload ≤ length head + 4504
values_at_most payload head values is few = omega (arith, ap length is, values_room values few, length-append head (values_bytes values))

-- ---- whether a round is posted

-- the round is the one of an auction that is open
pub in_order : (s : State) (round : ℕ) → s.closed ≡ false → s.round ≡ round → is_out_of_order s round ≡ false
in_order s round open_is same = ap (λ b. b || not (nat_eq s.round round)) open_is ∙ ap not (eq-eqb s.round round same)

-- whether there is no room, by the length of the payload up to its values
pub room_rule : (house : Ledger) (round : ℕ) (acts : List Act) (head : ℕ) → head ≡ length (head_bytes round acts) → (b : Bool) → IsTrue b ↔ (house.gate + 10 + head + 4500 ≤ most_bytes) → has_no_room house acts ≡ not b
room_rule house round acts head is true fits =
    let enough : house.gate + 10 + head + 4500 ≤ 67108864 = fits.0 refl in
    le-ltb _ _ (omega (arith, enough, is, length-head round acts))
room_rule house round acts head is false fits = elim (cases_lt 67108864 (house.gate + 10 + head + 4500)) [
  | inl over ↦ let more : 67108864 < house.gate + 17 + length (flat_map act_bytes acts) + 4500 = omega (arith, over, is, length-head round acts) in grind (arith, nat_tests)
  | inr enough ↦ absurd (no_truth (fits.1 enough))
]
  where
    no_truth : IsTrue false → ⊥
    no_truth e = cc

-- a fault of the disk hands no house back
pub fault_rule : (T : Type 0) (e : DiskError) (house : Ledger) (round : ℕ) (acts : List Act) → FollowsPostRule {T = T} house round acts (Err (of_disk e))
fault_rule T disk_errors.Failed house round acts = tt
fault_rule T disk_errors.NoMemory house round acts = tt

pub fault_kept : (T : Type 0) (e : DiskError) → IsRefusal {T = T} (Err (of_disk e)) → ⊥
fault_kept T disk_errors.Failed refused = refused
fault_kept T disk_errors.NoMemory refused = refused

-- what the payload is read as, of the auction as it was handed in
pub reads_as : (before here now : State) (payload bytes : List ℕ) → here ≡ before → bytes ≡ payload → after_payload (Some here) payload ≡ Some now → after_payload (Some before) bytes ≡ Some now
reads_as before here now payload bytes same is read = ap (λ (s : State). after_payload (Some s) bytes) (sym same) ∙ ap (after_payload (Some here)) is ∙ read

-- the round of an auction as it was handed in
pub planned_as : (Means : List Offer → List (Option ℤ) → Type 0) (acts : List Act) (before here next : State) → here ≡ before → IsPlannedRound Means here acts next → IsPlannedRound Means before acts next
planned_as Means acts before here next same is = subst (λ (s : State). IsPlannedRound Means s acts next) same is

-- ---- the bids that a planner was asked for

some_offers : (bids : List Bid) → map Some (map offer_of bids) ≡ map (λ (bid : Bid). Some (offer_of bid)) bids
some_offers [] = refl
some_offers (bid ∷ bids) = ap (λ (os : List (Option Offer)). Some (offer_of bid) ∷ os) (some_offers bids)

-- asked for the standing bids as they are planned, it was asked for their offers
pub was_asked : {P : Type 0} (After : List Offer → P → Type 0) (s : State) (planner : P) (bids : List Bid) → ArePlanned s bids → After (map offer_of bids) planner → WasAsked After s planner
was_asked After s planner bids planned after = (map offer_of bids, some_offers bids ∙ planned, after)
