-- A leg is told by its fields, and a leg that is told has those fields.
use Rattle.std.proofs.Common.{◌≡◌, ◌<◌, ◌≤◌, ◌^◌, ◌+◌, ◌-◌, ◌==◌, ℕ, zero, suc, Bool, true, false, [], ◌∷◌, drop, Option, None, Some, refl, sym, ap, ◌∙◌, subst, arith, lit<}
use Rattle.std.specs.Prelude.{Result, Ok, slice_get, unwrap_or}
use Rattle.std.specs.Fmt.{decimal}
use Rattle.std.specs.Option.{option_map}
use Rattle.optra_network.specs.Net.{Net, IsBuilt}
use Rattle.optra_network.specs.Names.{place_of}
use Rattle.optra_walk.specs.declared.Action.{Action}
use Rattle.optra_walk.specs.declared.Action.TheVariants.{Pass, Halt, Wait, Finish}
use Rattle.optra_walk.specs.declared.Leg.{Leg}
use Rattle.optra_walk.specs.Legs.{dwell_of}
use Rattle.optra_walk.specs.Words.{action_at, action_of_word, action_word, action_words, longest_dwell, start_of_word, start_word, start_words, with_dwell}
use Rattle.optra_node.specs.Nodes.{IsFormedLeg}
use Rattle.optra_records.specs.Numbers.{plain_number_of}
use Rattle.optra_records.specs.Reading.{Field, Record}
use Rattle.optra_cert.specs.CertTexts.{leg_record}
use Rattle.optra_cert.specs.Columns.{a_track, in_range}
use Rattle.optra_cert.specs.Outcomes.{◌>>=◌}
use Rattle.optra_cert.specs.RecordFields.{leg_by_fields, leg_told, or_fault}
use Rattle.optra_cert.specs.declared.CertCode.{CertCode}
use Rattle.optra_cert.specs.declared.CertCode.TheVariants as codes
use Rattle.optra_cert.proofs.ColumnLemmas.{number_shown, place_told, shown_number, shown_told, told_shown}

-- ---- words

start_back : (b : Bool) → start_of_word (start_word b) ≡ Some b
start_back true = refl
start_back false = refl

action_back : (a : Action) → action_of_word (action_word a) ≡ Some (with_dwell a 0)
action_back Pass = refl
action_back (Halt dwell) = refl
action_back (Wait dwell) = refl
action_back Finish = refl

dwell_back : (a : Action) → with_dwell (with_dwell a 0) (dwell_of a) ≡ a
dwell_back Pass = refl
dwell_back (Halt dwell) = refl
dwell_back (Wait dwell) = refl
dwell_back Finish = refl

dwell_fits : (a : Action) → dwell_of a ≤ 240 → dwell_of a ≤ longest_dwell (with_dwell a 0)
dwell_fits Pass h = omega arith
dwell_fits (Halt dwell) h = h
dwell_fits (Wait dwell) h = h
dwell_fits Finish h = omega arith

longest_few : (a : Action) → longest_dwell a < 10 ^ 18
longest_few Pass = lit< tt
longest_few (Halt dwell) = lit< tt
longest_few (Wait dwell) = lit< tt
longest_few Finish = lit< tt

-- a word that tells a start is that of the start
start_told : (field : Field) (b : Bool) → start_of_word field ≡ Some b → start_word b ≡ field
start_told field b e = by (place_of field start_words) refl e
  where
    by : (o : Option ℕ) → place_of field start_words ≡ o → option_map (λ n. n == 0) o ≡ Some b → start_word b ≡ field
    by None p q = absurd (cc q)
    by (Some zero) p q = let same : true ≡ b = cc q in subst (λ v. start_word v ≡ field) same (place_told start_words field 0 p).1
    by (Some (suc zero)) p q = let same : false ≡ b = cc q in subst (λ v. start_word v ≡ field) same (place_told start_words field 1 p).1
    by (Some (suc (suc n))) p q = absurd (omega (arith, (place_told start_words field (suc (suc n)) p).0))

-- what a word and a dwell tell has the word and the dwell
abbrev HasWord : Field → Action → Type 0
HasWord field a = (minutes : ℕ) → minutes ≤ longest_dwell a → (action_word (with_dwell a minutes) ≡ field) × (dwell_of (with_dwell a minutes) ≡ minutes) × (minutes ≤ 240)

word_at : (field : Field) (n : ℕ) → place_of field action_words ≡ Some n → HasWord field (action_at n 0)
word_at field zero p minutes most = let none : minutes ≤ 0 = most in ((place_told action_words field 0 p).1, omega (arith, none), omega (arith, none))
word_at field (suc zero) p minutes most = ((place_told action_words field 1 p).1, refl, most)
word_at field (suc (suc zero)) p minutes most = ((place_told action_words field 2 p).1, refl, most)
word_at field (suc (suc (suc zero))) p minutes most = let none : minutes ≤ 0 = most in ((place_told action_words field 3 p).1, omega (arith, none), omega (arith, none))
word_at field (suc (suc (suc (suc n)))) p minutes most = absurd (omega (arith, (place_told action_words field (suc (suc (suc (suc n)))) p).0))

action_told : (field : Field) (a : Action) → action_of_word field ≡ Some a → HasWord field a
action_told field a e = by (place_of field action_words) refl e
  where
    by : (o : Option ℕ) → place_of field action_words ≡ o → option_map (λ n. action_at n 0) o ≡ Some a → HasWord field a
    by None p q = absurd (cc q)
    by (Some n) p q = let same : action_at n 0 ≡ a = cc q in subst (HasWord field) same (word_at field n p)

-- ---- the fields of a leg

-- the fields behind the word
abbrev pub leg_fields : Net → ℕ → Leg → Record
leg_fields net bid leg = drop 1 (leg_record net [] bid leg)

module _ (net : Net) (built : IsBuilt net) (bids : ℕ) (few : bids < 10 ^ 18) where
  -- a leg is told by its fields
  pub leg_back : (bid : ℕ) (leg : Leg) → bid < bids → IsFormedLeg net leg → leg_told net bids (leg_fields net bid leg) ≡ Ok (bid, leg)
  unfolding leg_told leg_by_fields
  leg_back bid leg within formed =
      let before : bid + 1 - 1 ≡ bid = omega arith in
      rw (
        start_back leg.from_halt,
        action_back leg.action,
        number_shown 1 bids (bid + 1) few (omega arith) (omega (arith, within)),
        told_shown net built a_track leg.track.0 tt formed.track,
        number_shown 0 2879 leg.depart (lit< tt) (omega arith) formed.depart,
        number_shown 0 (longest_dwell (with_dwell leg.action 0)) (dwell_of leg.action) (longest_few (with_dwell leg.action 0)) (omega arith) (dwell_fits leg.action formed.dwell),
      )
      (λ i. Ok (before i, record { track = leg.track; depart = leg.depart; from_halt = leg.from_halt; action = dwell_back leg.action i }))

  -- what a told leg is
  abbrev pub IsTold : Record → ℕ × Leg → Type 0
  IsTold fields told = (told.0 < bids) × IsFormedLeg net told.1 × (leg_fields net told.0 told.1 ≡ fields)

  -- the leg of these parts
  abbrev leg_from : Bool → Action → ℕ → ℕ → ℕ → ℕ → ℕ × Leg
  leg_from from_halt does n place minute minutes = (n - 1, record { track = record { 0 = place }; depart = minute; from_halt = from_halt; action = with_dwell does minutes })

  module _ (b t d s a w : Field) where
    abbrev six : Record
    six = b ∷ t ∷ d ∷ s ∷ a ∷ w ∷ []

    told_from : (from_halt : Bool) (does : Action) (n place minute minutes : ℕ) → start_of_word s ≡ Some from_halt → action_of_word a ≡ Some does → in_range 1 bids (plain_number_of b) ≡ Some n
        → place_of t net.track_names ≡ Some place → in_range 0 2879 (plain_number_of d) ≡ Some minute → in_range 0 (longest_dwell does) (plain_number_of w) ≡ Some minutes
        → IsTold six (leg_from from_halt does n place minute minutes)
    told_from from_halt does n place minute minutes e f g h k l =
        let number = shown_number 1 bids b n few g in
        let track = shown_told net built a_track t place tt h in
        let depart = shown_number 0 2879 d minute (lit< tt) k in
        let dwell = shown_number 0 (longest_dwell does) w minutes (longest_few does) l in
        let word = action_told a does f minutes dwell.0.1 in
        let least = number.0.0 in
        let most = number.0.1 in
        let same : dwell_of (with_dwell does minutes) ≡ minutes = word.1 in
        let short : minutes ≤ 240 = word.2 in
        let next : n - 1 + 1 ≡ n = omega (arith, least) in (
          omega (arith, least, most),
          record { track = track.0; depart = depart.0.1; dwell = omega (arith, same, short) },
          λ i. (ap decimal next ∙ number.1) i ∷ track.1 i ∷ depart.1 i ∷ start_told s from_halt e i ∷ word.0 i ∷ (ap decimal same ∙ dwell.1) i ∷ [],
        )

    -- what is told where the fields tell this
    abbrev Tells : Option Bool → Option Action → Option ℕ → Option ℕ → Option ℕ → ℕ × Leg → Type 0
    Tells from_halt does n place minute told =
        (or_fault codes.Record from_halt >>= λ from_halt.
        or_fault codes.Record does >>= λ does.
        or_fault codes.Number n >>= λ n.
        or_fault codes.Name place >>= λ place.
        or_fault codes.Number minute >>= λ minute.
        or_fault codes.Number (in_range 0 (longest_dwell does) (plain_number_of w)) >>= λ minutes.
        Ok (leg_from from_halt does n place minute minutes))
        ≡ Ok told

    told_six : (told : ℕ × Leg) → Tells (start_of_word s) (action_of_word a) (in_range 1 bids (plain_number_of b)) (place_of t net.track_names) (in_range 0 2879 (plain_number_of d)) told → IsTold six told
    told_six told is =
        by (start_of_word s) refl (action_of_word a) refl (in_range 1 bids (plain_number_of b)) refl (place_of t net.track_names) refl (in_range 0 2879 (plain_number_of d)) refl is
      where
        by : (from_halt : Option Bool) → start_of_word s ≡ from_halt → (does : Option Action) → action_of_word a ≡ does → (n : Option ℕ) → in_range 1 bids (plain_number_of b) ≡ n
            → (place : Option ℕ) → place_of t net.track_names ≡ place → (minute : Option ℕ) → in_range 0 2879 (plain_number_of d) ≡ minute
            → Tells from_halt does n place minute told → IsTold six told
        by None e does f n g place h minute k is = absurd (cc is)
        by (Some from_halt) e None f n g place h minute k is = absurd (cc is)
        by (Some from_halt) e (Some does) f None g place h minute k is = absurd (cc is)
        by (Some from_halt) e (Some does) f (Some n) g None h minute k is = absurd (cc is)
        by (Some from_halt) e (Some does) f (Some n) g (Some place) h None k is = absurd (cc is)
        by (Some from_halt) e (Some does) f (Some n) g (Some place) h (Some minute) k is = last (in_range 0 (longest_dwell does) (plain_number_of w)) refl is
          where
            last : (minutes : Option ℕ) → in_range 0 (longest_dwell does) (plain_number_of w) ≡ minutes
                → (or_fault codes.Number minutes >>= λ minutes. Ok (leg_from from_halt does n place minute minutes)) ≡ Ok told → IsTold six told
            last None l is = absurd (cc is)
            last (Some minutes) l is =
                let same : leg_from from_halt does n place minute minutes ≡ told = cc is in
                subst (λ (v : ℕ × Leg). IsTold six v) same (told_from from_halt does n place minute minutes e f g h k l)

  -- a leg that is told is formed, and has those fields
  pub leg_is : (fields : Record) (told : ℕ × Leg) → leg_told net bids fields ≡ Ok told → IsTold fields told
  unfolding leg_told leg_by_fields
  leg_is [] told e = absurd (cc e)
  leg_is (b ∷ []) told e = absurd (cc e)
  leg_is (b ∷ t ∷ []) told e = absurd (cc e)
  leg_is (b ∷ t ∷ d ∷ []) told e = absurd (cc e)
  leg_is (b ∷ t ∷ d ∷ s ∷ []) told e = absurd (cc e)
  leg_is (b ∷ t ∷ d ∷ s ∷ a ∷ []) told e = absurd (cc e)
  leg_is (b ∷ t ∷ d ∷ s ∷ a ∷ w ∷ []) told e = told_six b t d s a w told e
  leg_is (b ∷ t ∷ d ∷ s ∷ a ∷ w ∷ x ∷ rest) told e = absurd (cc e)
