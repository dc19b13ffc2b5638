-- The records of the trains tell the walks.
use Rattle.std.proofs.Common.{◌≡◌, ℕ, ◌+◌, ◌<◌, ◌≤◌, ◌^◌, true, List, [], ◌∷◌, ◌++◌, map, length, get_or, drop, Option, Some, None, refl, sym, ap, subst, arith, codes}
use Rattle.std.specs.Prelude.{All}
use Rattle.std.specs.Fmt.{decimal}
use Rattle.std.proofs.lemmas.Fmt.{decimal_injective}
use Rattle.optra_network.specs.Net.{Net, IsProper}
use Rattle.optra_network.specs.declared.TypeId.{TypeId}
use Rattle.optra_bid.specs.declared.bids.Bid.{Bid}
use Rattle.optra_walk.specs.declared.Leg.{Leg}
use Rattle.optra_walk.specs.Walks.{IsWalk}
use Rattle.optra_walk.specs.Choices.{IsChoice}
use Rattle.optra_walk.proofs.UsableLemmas.{walk_usable}
use Rattle.optra_records.specs.Reading.{Record}
use Rattle.optra_records.specs.Texts.{AreShown}
use Rattle.optra_text.specs.PlanTexts.{leg_record, train_record, train_records}
use Rattle.optra_text.proofs.TrackLemmas.{walk_tracks}
use Rattle.optra_text.proofs.LegsTold.{IsSmall, legs_told, walk_modes}

-- there is no record, or the first one is of a train, with a number from this one to the end
abbrev pub StartsTrain : ℕ → ℕ → List Record → Type 0
StartsTrain number end [] = Unit {0}
StartsTrain number end (row ∷ rows) = (n : ℕ) × (number ≤ n) × (n < end) × (get_or row 0 [] ≡ codes "train") × (get_or row 1 [] ≡ decimal n)

earlier : (number end : ℕ) (rows : List Record) → StartsTrain (number + 1) end rows → StartsTrain number end rows
earlier number end [] h = tt
earlier number end (row ∷ rows) h = (h.0, (let m = h.1 in omega arith), h.2, h.3, h.4)

-- trains are numbered upwards
pub trains_start : (net : Net) (number end : ℕ) (bids : List Bid) (walks : List (Option (List Leg))) → number + length bids ≤ end → StartsTrain number end (train_records net number bids walks)
trains_start net number end [] walks h = tt
trains_start net number end (bid ∷ bids) [] h = tt
trains_start net number end (bid ∷ bids) (None ∷ walks) h = earlier number end (train_records net (number + 1) bids walks) (trains_start net (number + 1) end bids walks (omega arith))
trains_start net number end (bid ∷ bids) (Some legs ∷ walks) h = (number, omega arith, omega arith, refl, refl)

no_leg : codes "leg" ≡ codes "train" → ⊥
no_leg e = let h = ap (λ (t : List ℕ). get_or t 0 0) e in absurd (omega (arith, h))

-- legs end where the next train begins
legs_end : (net : Net) (kind : TypeId) (number end : ℕ) (xs ys : List Leg) (after after2 : List Record) → StartsTrain number end after → StartsTrain number end after2
    → map (leg_record net kind) xs ++ after ≡ map (leg_record net kind) ys ++ after2
    → (map (leg_record net kind) xs ≡ map (leg_record net kind) ys) × (after ≡ after2)
legs_end net kind number end [] [] after after2 ha hb e = (refl, e)
legs_end net kind number end [] (b ∷ ys) after after2 ha hb e =
    let starts = subst (StartsTrain number end) e ha in
    absurd (no_leg starts.3)
legs_end net kind number end (a ∷ xs) [] after after2 ha hb e =
    let starts = subst (StartsTrain number end) (sym e) hb in
    absurd (no_leg starts.3)
legs_end net kind number end (a ∷ xs) (b ∷ ys) after after2 ha hb e =
    let first = ap (λ (rs : List Record). get_or rs 0 []) e in
    let rest = legs_end net kind number end xs ys after after2 ha hb (ap (λ (rs : List Record). drop 1 rs) e) in
    (λ i. first i ∷ rest.0 i, rest.1)

-- a walk's legs have a track with a name and small numbers
walk_small : (net : Net) → IsProper net → (bid : Bid) (legs : List Leg) → IsWalk net bid.path legs → All (IsSmall net) legs
walk_small net proper bid legs walk k d l =
    let usable = walk_usable net proper bid legs walk k d l in
    let track = walk_tracks net bid.path legs proper walk k d l in
    let named = proper.built.named in
    record { track = omega arith; depart = usable.depart; dwell = usable.dwell }

-- one bid is served, and the other way it is not: the first train then has another number
other_number : (net : Net) (number end : ℕ) (bid : Bid) (legs : List Leg) (rows rows2 : List Record) → number < end → end ≤ 2 ^ 64 → StartsTrain (number + 1) end rows → rows ≡ train_record net number bid legs ∷ rows2 → ⊥
other_number net number end bid legs rows rows2 h small starts e =
    let starts2 = subst (StartsTrain (number + 1) end) e starts in
    let m = starts2.1 in
    let l = starts2.2 in
    let same : number ≡ starts2.0 = decimal_injective number starts2.0 (omega arith) (omega arith) starts2.4 in
    absurd (omega arith)

-- the records of the trains tell the walks
pub walks_told : (net : Net) → IsProper net → (number : ℕ) (bids : List Bid) (xs ys : List (Option (List Leg))) → number + length bids ≤ 2 ^ 64
    → IsChoice net bids xs → IsChoice net bids ys → train_records net number bids xs ≡ train_records net number bids ys → xs ≡ ys
walks_told net proper number [] [] [] h ha hb e = refl
walks_told net proper number [] [] (b ∷ ys) h ha hb e = absurd hb
walks_told net proper number [] (a ∷ xs) ys h ha hb e = absurd ha
walks_told net proper number (bid ∷ bids) [] ys h ha hb e = absurd ha
walks_told net proper number (bid ∷ bids) (a ∷ xs) [] h ha hb e = absurd hb
walks_told net proper number (bid ∷ bids) (None ∷ xs) (None ∷ ys) h ha hb e =
    ap (λ (ws : List (Option (List Leg))). None ∷ ws) (walks_told net proper (number + 1) bids xs ys (omega arith) ha.1 hb.1 e)
walks_told net proper number (bid ∷ bids) (None ∷ xs) (Some legs ∷ ys) h ha hb e =
    absurd (other_number net number (number + 1 + length bids) bid legs _ _ (omega arith) (omega arith) (trains_start net (number + 1) (number + 1 + length bids) bids xs (omega arith)) e)
walks_told net proper number (bid ∷ bids) (Some legs ∷ xs) (None ∷ ys) h ha hb e =
    absurd (other_number net number (number + 1 + length bids) bid legs _ _ (omega arith) (omega arith) (trains_start net (number + 1) (number + 1 + length bids) bids ys (omega arith)) (sym e))
walks_told net proper number (bid ∷ bids) (Some legs ∷ xs) (Some legs2 ∷ ys) h ha hb e =
    let end = number + 1 + length bids in
    let split = legs_end net bid.path.kind (number + 1) end legs legs2 (train_records net (number + 1) bids xs) (train_records net (number + 1) bids ys)
    (trains_start net (number + 1) end bids xs (omega arith)) (trains_start net (number + 1) end bids ys (omega arith)) (ap (λ (rs : List Record). drop 1 rs) e) in
    let same = legs_told net bid.path.kind true legs legs2 proper.built.names.names_of_tracks.differ (walk_small net proper bid legs ha.0) (walk_small net proper bid legs2 hb.0) (walk_modes net bid.path legs ha.0) (walk_modes net bid.path legs2 hb.0) split.0 in
    let rest = walks_told net proper (number + 1) bids xs ys (omega arith) ha.1 hb.1 split.1 in
    λ i. Some (same i) ∷ rest i

-- the records of legs can be printed
legs_shown : (net : Net) (kind : TypeId) (legs : List Leg) (rows : List Record) → AreShown rows → AreShown (map (leg_record net kind) legs ++ rows)
legs_shown net kind [] rows h = h
legs_shown net kind (leg ∷ legs) rows h = (refl, legs_shown net kind legs rows h)

-- the records of trains can be printed
pub trains_shown : (net : Net) (number : ℕ) (bids : List Bid) (walks : List (Option (List Leg))) → AreShown (train_records net number bids walks)
trains_shown net number [] walks = tt
trains_shown net number (bid ∷ bids) [] = tt
trains_shown net number (bid ∷ bids) (None ∷ walks) = trains_shown net (number + 1) bids walks
trains_shown net number (bid ∷ bids) (Some legs ∷ walks) = (refl, legs_shown net bid.path.kind legs (train_records net (number + 1) bids walks) (trains_shown net (number + 1) bids walks))
