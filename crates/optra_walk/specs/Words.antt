-- The words that tell how a leg starts and what it does at its head, and the dwells that go with them.
use Rattle.std.proofs.Common.{refl, ap}
use Rattle.std.proofs.lemmas.Bool.{le-leb}
use Rattle.std.specs.Prelude.{◌≡◌, ◌≤◌, ℕ, ◌==◌, nat_le, Bool, true, false, List, [], ◌∷◌, Option, None, Some, codes, if◌then◌else◌}
use Rattle.std.specs.Option.{option_map, option_and_then}
use Rattle.optra_network.specs.Names.{place_of}
use Rattle.optra_walk.specs.declared.Action.{Action}
use Rattle.optra_walk.specs.declared.Action.TheVariants.{Pass, Halt, Wait, Finish}
use Rattle.optra_walk.specs.Legs.{dwell_of}

-- the words of a start: from a halt, and from a pass
abbrev pub start_words : List (List ℕ)
start_words = codes "halt" ∷ codes "pass" ∷ []

-- the words of actions
abbrev pub action_words : List (List ℕ)
action_words = codes "pass" ∷ codes "halt" ∷ codes "wait" ∷ codes "finish" ∷ []

-- the word of a start
abbrev pub start_word : Bool → List ℕ
start_word true = codes "halt"
start_word false = codes "pass"

-- the word of an action
abbrev pub action_word : Action → List ℕ
action_word Pass = codes "pass"
action_word (Halt dwell) = codes "halt"
action_word (Wait dwell) = codes "wait"
action_word Finish = codes "finish"

-- whether the train stood at the tail, by a word; none where it is no word of a start
abbrev pub start_of_word : List ℕ → Option Bool
start_of_word word = option_map (λ n. n == 0) (place_of word start_words)

-- the action of a word's place and of a dwell
abbrev pub action_at : ℕ → ℕ → Action
action_at place dwell = if place == 0 then Pass else (if place == 1 then Halt dwell else (if place == 2 then Wait dwell else Finish))

-- the action of a word, for no minutes yet; none where it is no word of an action
abbrev pub action_of_word : List ℕ → Option Action
action_of_word word = option_map (λ n. action_at n 0) (place_of word action_words)

-- the longest dwell of an action, in minutes: 240 of a halt or a wait, and none of the others
abbrev pub longest_dwell : Action → ℕ
longest_dwell Pass = 0
longest_dwell (Halt dwell) = 240
longest_dwell (Wait dwell) = 240
longest_dwell Finish = 0

-- an action for so many minutes, where it stands at all
abbrev pub with_dwell : Action → ℕ → Action
with_dwell Pass minutes = Pass
with_dwell (Halt dwell) minutes = Halt minutes
with_dwell (Wait dwell) minutes = Wait minutes
with_dwell Finish minutes = Finish

-- an action for so many minutes; none where it may not stand for as long
abbrev pub checked_dwell : Action → ℕ → Option Action
checked_dwell action minutes = if nat_le minutes (longest_dwell action) then Some (with_dwell action minutes) else None

-- the action that a word and a dwell tell; none where the word is none of an action, or may not have the dwell
abbrev pub action_told : List ℕ → ℕ → Option Action
action_told word minutes = option_and_then (λ action. checked_dwell action minutes) (action_of_word word)

-- ---- what is written is read back

pub start_read : (from_halt : Bool) → start_of_word (start_word from_halt) ≡ Some from_halt
start_read true = refl
start_read false = refl

pub action_read : (action : Action) → dwell_of action ≤ longest_dwell action → action_told (action_word action) (dwell_of action) ≡ Some action
action_read Pass within = refl
action_read (Halt dwell) within = ap (λ (b : Bool). if b then Some (Halt dwell) else None) (le-leb dwell 240 within)
action_read (Wait dwell) within = ap (λ (b : Bool). if b then Some (Wait dwell) else None) (le-leb dwell 240 within)
action_read Finish within = refl
