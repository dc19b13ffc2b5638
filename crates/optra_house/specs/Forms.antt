-- When a file is the journal of an auction, told by the forms that are written and the rounds that follow one another.
use Rattle.std.specs.Prelude.{◌≡◌, ◌⊎◌, ◌<◌, ◌≤◌, ℕ, List, [], ◌∷◌, length, map, All, false}
use Rattle.optra_bid.specs.declared.bids.Bid.{Bid}
use Rattle.optra_auction.specs.Machine.{State, after_all, opened}
use Rattle.optra_auction.specs.declared.Rules.{Rules}
use Rattle.optra_house.specs.Entries.{IsLaidOut}
use Rattle.optra_house.specs.Payloads.{IsPosting, Posting, round_payload}
use Rattle.optra_house.specs.Replay.{after_posting}

-- each of them is a byte
abbrev pub AreBytes : List ℕ → Type 0
AreBytes bytes = All (λ b. b < 256) bytes

-- A round may follow: its names, amounts and values are in range, the auction is open and in that round, and it has a value
-- for each bid that stands after its actions.
pub record MayFollow (s : State) (posting : Posting) : Type 0 where
  pub in_range : IsPosting posting
  pub is_open : s.closed ≡ false
  pub number : posting.number ≡ s.round
  pub count : length posting.values ≡ length (after_all s posting.acts).standing

-- rounds follow one another from one state of the auction to another
abbrev pub Follow : State → List Posting → State → Type 0
Follow s [] now = now ≡ s
Follow s (posting ∷ postings) now = MayFollow s posting × Follow (after_posting s posting) postings now

-- no auction was begun in the file: it is too short for an entry, or is laid out with none
abbrev pub IsUnbegun : List ℕ → Type 0
IsUnbegun file = (length file ≤ 9) ⊎ IsLaidOut [] file

-- the file is laid out with the stamp and then with the payloads of rounds that follow one another
pub record IsJournal (stamp : List ℕ) (specs : List Bid) (rules : Rules) (file : List ℕ) (now : State) : Type 0 where
  pub postings : List Posting
  pub laid_out : IsLaidOut (stamp ∷ map round_payload postings) file
  pub rounds : Follow (opened specs rules) postings now

-- the file is a journal of an auction that is now in this state
abbrev pub StandsAt : List ℕ → List Bid → Rules → List ℕ → State → Type 0
StandsAt stamp specs rules file now = (IsUnbegun file × (now ≡ opened specs rules)) ⊎ IsJournal stamp specs rules file now
