-- The records of the legs of a walk tell its legs.
use Rattle.std.proofs.Common.{◌≡◌, ◌≢◌, ℕ, suc, ◌+◌, ◌<◌, ◌≤◌, Bool, true, not, List, [], ◌∷◌, map, length, get_or, drop, refl, sym, ap, ◌∙◌, subst, arith, add-one, inl, inr}
use Rattle.std.specs.Prelude.{All}
use Rattle.std.specs.List.{AllAdjacentBelow}
use Rattle.std.specs.Fmt.{decimal}
use Rattle.std.proofs.lemmas.Bool.{cases_order}
use Rattle.std.proofs.lemmas.Fmt.{decimal_injective}
use Rattle.std.proofs.lemmas.List.Elements.{All-head, All-tail}
use Rattle.std.proofs.lemmas.Option.{unwrap_or-slice_get}
use Rattle.optra_network.specs.Names.{AllDiffer}
use Rattle.optra_network.specs.Net.{Net}
use Rattle.optra_network.specs.declared.TrackId.{TrackId}
use Rattle.optra_network.specs.declared.TypeId.{TypeId}
use Rattle.optra_bid.specs.Specs.{Path}
use Rattle.optra_walk.specs.declared.Action.{Action}
use Rattle.optra_walk.specs.declared.Action.TheVariants.{Pass, Halt, Wait, Finish}
use Rattle.optra_walk.specs.declared.Leg.{Leg}
use Rattle.optra_walk.specs.Legs.{is_pass, dwell_of}
use Rattle.optra_walk.specs.Walks.{IsNext, IsWalk}
use Rattle.optra_records.specs.Reading.{Record}
use Rattle.optra_text.specs.PlanTexts.{leg_record, track_text}
use Rattle.optra_walk.specs.Words.{action_word}

-- a name tells its place
place_told : (names : List (List ℕ)) (i j : ℕ) → AllDiffer names → i < length names → j < length names → get_or names i [] ≡ get_or names j [] → i ≡ j
place_told names i j differ hi hj e = elim (cases_order i j) [
  | inl same ↦ same
  | inr other ↦ elim other [
    | inl less ↦ absurd (differ i j [] less hj e)
    | inr more ↦ absurd (differ j i [] more hi (sym e))
  ]
]

-- the name of a track tells the track
track_told : (net : Net) (a b : TrackId) → AllDiffer net.track_names → a.0 < length net.track_names → b.0 < length net.track_names → track_text net a ≡ track_text net b → a ≡ b
track_told net a b differ ha hb e =
    let same : get_or net.track_names a.0 [] ≡ get_or net.track_names b.0 [] = sym (unwrap_or-slice_get net.track_names a.0 []) ∙ e ∙ unwrap_or-slice_get net.track_names b.0 [] in
    let make : ℕ → TrackId = λ n. record { 0 = n } in
    ap make (place_told net.track_names a.0 b.0 differ ha hb same)

-- the first bytes differ
clash : (m n : ℕ) (xs ys : List ℕ) → m ≢ n → m ∷ xs ≡ n ∷ ys → ⊥
clash m n xs ys differ e = differ (ap (λ (t : List ℕ). get_or t 0 0) e)

-- the word and the dwell tell an action
action_told : (a b : Action) → dwell_of a ≤ 240 → dwell_of b ≤ 240 → action_word a ≡ action_word b → decimal (dwell_of a) ≡ decimal (dwell_of b) → a ≡ b
action_told Pass Pass ha hb w d = refl
action_told Pass (Halt n) ha hb w d = absurd (clash 112 104 _ _ (λ e. absurd (omega (arith, e))) w)
action_told Pass (Wait n) ha hb w d = absurd (clash 112 119 _ _ (λ e. absurd (omega (arith, e))) w)
action_told Pass Finish ha hb w d = absurd (clash 112 102 _ _ (λ e. absurd (omega (arith, e))) w)
action_told (Halt m) Pass ha hb w d = absurd (clash 104 112 _ _ (λ e. absurd (omega (arith, e))) w)
action_told (Halt m) (Halt n) ha hb w d = ap (λ (k : ℕ). Halt k) (decimal_injective m n (omega arith) (omega arith) d)
action_told (Halt m) (Wait n) ha hb w d = absurd (clash 104 119 _ _ (λ e. absurd (omega (arith, e))) w)
action_told (Halt m) Finish ha hb w d = absurd (clash 104 102 _ _ (λ e. absurd (omega (arith, e))) w)
action_told (Wait m) Pass ha hb w d = absurd (clash 119 112 _ _ (λ e. absurd (omega (arith, e))) w)
action_told (Wait m) (Halt n) ha hb w d = absurd (clash 119 104 _ _ (λ e. absurd (omega (arith, e))) w)
action_told (Wait m) (Wait n) ha hb w d = ap (λ (k : ℕ). Wait k) (decimal_injective m n (omega arith) (omega arith) d)
action_told (Wait m) Finish ha hb w d = absurd (clash 119 102 _ _ (λ e. absurd (omega (arith, e))) w)
action_told Finish Pass ha hb w d = absurd (clash 102 112 _ _ (λ e. absurd (omega (arith, e))) w)
action_told Finish (Halt n) ha hb w d = absurd (clash 102 104 _ _ (λ e. absurd (omega (arith, e))) w)
action_told Finish (Wait n) ha hb w d = absurd (clash 102 119 _ _ (λ e. absurd (omega (arith, e))) w)
action_told Finish Finish ha hb w d = refl

-- a leg whose track has a name, and whose numbers are small
pub record IsSmall (net : Net) (leg : Leg) : Type 0 where
  pub track : leg.track.0 < length net.track_names
  pub depart : leg.depart ≤ 2879
  pub dwell : dwell_of leg.action ≤ 240

-- the record of a leg tells the leg, but for whether it starts from a halt
leg_told : (net : Net) (kind : TypeId) (a b : Leg) → AllDiffer net.track_names → IsSmall net a → IsSmall net b → a.from_halt ≡ b.from_halt → leg_record net kind a ≡ leg_record net kind b → a ≡ b
leg_told net kind a b differ ha hb mode e =
    let track = track_told net a.track b.track differ ha.track hb.track (ap (λ (r : Record). get_or r 1 []) e) in
    let depart = decimal_injective a.depart b.depart (let h = ha.depart in omega arith) (let h = hb.depart in omega arith) (ap (λ (r : Record). get_or r 3 []) e) in
    let action = action_told a.action b.action ha.dwell hb.dwell (ap (λ (r : Record). get_or r 6 []) e) (ap (λ (r : Record). get_or r 7 []) e) in
    λ i. record { track = track i; depart = depart i; from_halt = mode i; action = action i }

-- the first leg starts from a halt or not, as is said, and each later one by the action before it
abbrev pub HasModes : Bool → List Leg → Type 0
HasModes mode [] = Unit {0}
HasModes mode (leg ∷ legs) = (leg.from_halt ≡ mode) × HasModes (not (is_pass leg.action)) legs

-- the records of legs tell the legs
pub legs_told : (net : Net) (kind : TypeId) (mode : Bool) (xs ys : List Leg) → AllDiffer net.track_names → All (IsSmall net) xs → All (IsSmall net) ys → HasModes mode xs → HasModes mode ys
    → map (leg_record net kind) xs ≡ map (leg_record net kind) ys → xs ≡ ys
legs_told net kind mode [] [] differ ha hb ma mb e = refl
legs_told net kind mode [] (b ∷ ys) differ ha hb ma mb e = absurd (cc e)
legs_told net kind mode (a ∷ xs) [] differ ha hb ma mb e = absurd (cc e)
legs_told net kind mode (a ∷ xs) (b ∷ ys) differ ha hb ma mb e =
    let first = leg_told net kind a b differ (All-head (IsSmall net) a xs ha) (All-head (IsSmall net) b ys hb) (ma.0 ∙ sym mb.0) (ap (λ (rs : List Record). get_or rs 0 []) e) in
    let same : not (is_pass b.action) ≡ not (is_pass a.action) = ap (λ (leg : Leg). not (is_pass leg.action)) (sym first) in
    let modes = subst (λ (m : Bool). HasModes m ys) same mb.1 in
    let rest = legs_told net kind (not (is_pass a.action)) xs ys differ (All-tail (IsSmall net) a xs ha) (All-tail (IsSmall net) b ys hb) ma.1 modes (ap (λ (rs : List Record). drop 1 rs) e) in
    λ i. first i ∷ rest i

-- along legs that go on from one another
modes_on : (net : Net) (kind : TypeId) (mode : Bool) (leg : Leg) (legs : List Leg) → leg.from_halt ≡ mode → AllAdjacentBelow (IsNext net kind) (leg ∷ legs) (length (leg ∷ legs)) → HasModes mode (leg ∷ legs)
modes_on net kind mode leg [] first on = (first, tt)
modes_on net kind mode leg (next ∷ legs) first on =
    let step : IsNext net kind leg next = on 0 leg (omega arith) in
    let rest : AllAdjacentBelow (IsNext net kind) (next ∷ legs) (length (next ∷ legs)) = λ k d l. later k d (omega arith) in
    (first, modes_on net kind (not (is_pass leg.action)) next legs step.mode rest)
  where
    later : (k : ℕ) (d : Leg) → k + 2 < length (leg ∷ next ∷ legs) → IsNext net kind (get_or (next ∷ legs) k d) (get_or (next ∷ legs) (k + 1) d)
    later k d l = rw (add-one k) (rw (add-one k, add-one (suc k)) at (on (k + 1) d (omega arith)))

-- the modes of a walk
pub walk_modes : (net : Net) (path : Path) (legs : List Leg) → IsWalk net path legs → HasModes true legs
walk_modes net path [] walk = tt
walk_modes net path (leg ∷ legs) walk = modes_on net path.kind true leg legs walk.start.halted walk.goes_on
