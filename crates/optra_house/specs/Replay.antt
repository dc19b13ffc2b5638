-- What the entries of a journal make of an auction.
use Rattle.std.specs.Prelude.{◌≡◌, ℕ, ℤ, Bool, not, nat_eq, bytes_eq, ◌&&◌, if◌then◌else◌, List, [], ◌∷◌, length, map, Option, Some, None}
use Rattle.std.specs.List.{fold, filter_map}
use Rattle.std.specs.Option.{option_and_then}
use Rattle.optra_bid.specs.declared.bids.Bid.{Bid}
use Rattle.optra_auction.specs.Machine.{Offer, State, after_all, after_round, opened, planned_of}
use Rattle.optra_auction.specs.declared.Act.{Act}
use Rattle.optra_auction.specs.declared.Rules.{Rules}
use Rattle.optra_house.specs.Entries.{payloads_of}
use Rattle.optra_house.specs.Payloads.{Posting}
use Rattle.optra_house.specs.Reading.{round_of}

-- ---- the steps of a round

-- the standing bids as they are planned, in order
abbrev pub offers_of : State → List Offer
offers_of s = filter_map (planned_of s.specs) s.standing

-- the auction after a round
abbrev pub after_posting : State → Posting → State
after_posting s posting = after_round (after_all s posting.acts) posting.values

-- The auction after a round of these actions, with values that a planner means for the bids that stand then.
pub record IsPlannedRound (Means : List Offer → List (Option ℤ) → Type 0) (s : State) (acts : List Act) (next : State) : Type 0 where
  pub values : List (Option ℤ)
  pub meant : Means (offers_of (after_all s acts)) values
  pub next_is : next ≡ after_round (after_all s acts) values

-- the planner has answered for the bids that stand, as they are planned
abbrev pub WasAsked : {P : Type 0} → (List Offer → P → Type 0) → State → P → Type 0
WasAsked After s planner = (offers : List Offer) × (map Some offers ≡ map (planned_of s.specs) s.standing) × After offers planner

-- the round may follow: the auction is open, the round is the one that it is in, and it has a value for each bid that
-- stands after its actions
abbrev pub may_follow : State → Posting → Bool
may_follow s posting = not s.closed && nat_eq posting.number s.round && nat_eq (length posting.values) (length (after_all s posting.acts).standing)

-- ---- the replay

-- the auction after a round, where it may follow
abbrev pub after_round_entry : State → Posting → Option State
after_round_entry s posting = if may_follow s posting then Some (after_posting s posting) else None

-- the auction after an entry behind the stamp, where it may follow
unfoldable pub after_payload : Option State → List ℕ → Option State
after_payload None payload = None
after_payload (Some s) payload = option_and_then (after_round_entry s) (round_of payload)

-- the auction after entries behind the stamp
abbrev pub after_payloads : State → List (List ℕ) → Option State
after_payloads s payloads = fold after_payload (Some s) payloads

-- the auction after the entries of a journal with this stamp, in the state before its first round
abbrev pub replayed : List ℕ → State → List (List ℕ) → Option State
replayed stamp s [] = Some s
replayed stamp s (first ∷ payloads) = if bytes_eq first stamp then after_payloads s payloads else None

-- The auction as which a file opens, with a stamp's payload, specifications and rules. There is none where the file isn't
-- a journal of this auction.
unfoldable pub opens_as : List ℕ → List Bid → Rules → List ℕ → Option State
opens_as stamp specs rules file = option_and_then (replayed stamp (opened specs rules)) (payloads_of file)
