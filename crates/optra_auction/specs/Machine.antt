-- The auction machine: what stands, which actions are refused, what an accepted one changes, and what the close of a round leaves.
use Rattle.std.specs.Prelude.{◌≡◌, ℕ, ◌+◌, ◌≤◌, not, Bool, true, false, List, [], ◌∷◌, ◌++◌, length, map, slice_get, slice_set, remove, nat_le, bytes_eq, All, Contains, Option, None, Some, is_some, is_none, option_map, Result, MatchResult, if◌then◌else◌, ⊤}
use Rattle.std.specs.Prelude.{ℤ, pos, int_lt, ◌≤ℤ◌, ◌+ℤ◌, ◌*ℤ◌}
use Rattle.std.specs.Int.{int_div_euclid, int_max}
use Rattle.std.specs.Option.{option_map_or, option_and_then}
use Rattle.optra_network.specs.Names.{AllDiffer, AreNames, place_of}
use Rattle.optra_network.specs.Refusals.{first_of}
use Rattle.optra_bid.specs.Specs.{IsBetween, Path}
pub use Rattle.optra_bid.specs.Offers.{Offer, offer_of}
use Rattle.optra_bid.specs.declared.bids.Bid.{Bid}
use Rattle.optra_auction.specs.declared.Act.{Act}
use Rattle.optra_auction.specs.declared.Act.TheVariants.{Opening, Raise, Amend, Withdraw}
use Rattle.optra_auction.specs.declared.Refusal.{Refusal}
use Rattle.optra_auction.specs.declared.Refusal.TheVariants.{A1, A2, A3, A4, A5, A6, A7, A8, A9, A10}
use Rattle.optra_auction.specs.declared.Refused.{Refused}
use Rattle.optra_auction.specs.declared.Rules.{Rules}

-- ---- what stands

-- a standing bid: its name, who made it, the place of its specification, its amount, the value at which it won the last
-- round, if it did, and whether it was opened, raised or amended in this round
pub record Standing : Type 0 where
  pub name : List ℕ
  pub bidder : List ℕ
  pub spec : ℕ
  pub amount : ℤ
  pub won : Option ℤ
  pub acted : Bool

-- an auction: its specifications and rules, its round from 1, what stands, whether an action of this round was accepted,
-- and whether it is closed
pub record State : Type 0 where
  pub specs : List Bid
  pub rules : Rules
  pub round : ℕ
  pub standing : List Standing
  pub moved : Bool
  pub closed : Bool

abbrev pub state_of : List Bid → Rules → ℕ → List Standing → Bool → Bool → State
state_of specs rules round standing moved closed = record { specs = specs; rules = rules; round = round; standing = standing; moved = moved; closed = closed }

-- an auction before its first action
abbrev pub opened : List Bid → Rules → State
opened specs rules = state_of specs rules 1 [] false false

-- the names of specifications
abbrev pub spec_names : List Bid → List (List ℕ)
spec_names specs = map (λ (spec : Bid). spec.name) specs

-- the names of standing bids
abbrev pub standing_names : List Standing → List (List ℕ)
standing_names bids = map (λ (b : Standing). b.name) bids

-- ---- by name

-- the place of the specification of a name
abbrev pub spec_named : State → List ℕ → Option ℕ
spec_named s name = place_of name (spec_names s.specs)

-- the place of the standing bid of a name
abbrev pub place_named : State → List ℕ → Option ℕ
place_named s name = place_of name (standing_names s.standing)

-- the standing bid of a name
abbrev pub standing_named : State → List ℕ → Option Standing
standing_named s name = option_and_then (slice_get s.standing) (place_named s name)

-- the reserve of the specification at a place, which is its base
abbrev pub reserve_at : List Bid → ℕ → ℤ
reserve_at specs place = option_map_or (λ (spec : Bid). spec.money.base) (slice_get specs place) (pos 0)

-- the reserve of the specification of a name
abbrev pub reserve_named : State → List ℕ → ℤ
reserve_named s name = option_map_or (reserve_at s.specs) (spec_named s name) (pos 0)

-- ---- raises

-- so many thousandths of an amount, rounded up
abbrev pub share_of : ℤ → ℕ → ℤ
share_of amount permille = int_div_euclid (amount *ℤ pos permille +ℤ pos 999) (pos 1000)

-- the greater of the least increment and of so many thousandths of the amount
abbrev pub least_raise_of : Rules → ℤ → ℤ
least_raise_of rules amount = int_max rules.min_increment (share_of amount rules.permille)

-- ---- refusals

-- a test of the standing bid of a name; it does not hold where there is none
abbrev pub standing_is : State → List ℕ → (Standing → Bool) → Bool
standing_is s name test = option_map_or test (standing_named s name) false

-- whether a bidder is not the one of a standing bid
abbrev pub is_anothers : List ℕ → Standing → Bool
is_anothers bidder b = not (bytes_eq bidder b.bidder)

-- whether an amount is below that of a standing bid and its least raise
abbrev pub is_below_raise : Rules → ℤ → Standing → Bool
is_below_raise rules amount b = int_lt amount (b.amount +ℤ least_raise_of rules b.amount)

-- whether a standing bid won the last planned round
abbrev pub is_winning : Standing → Bool
is_winning b = is_some b.won

-- whether a standing bid was opened, raised or amended in this round
abbrev pub has_acted : Standing → Bool
has_acted b = b.acted

-- whether the amount of a standing bid is below a reserve
abbrev pub is_below : ℤ → Standing → Bool
is_below reserve b = int_lt b.amount reserve

-- whether as many bids stand as may
abbrev pub is_full : List Standing → Bool
is_full bids = nat_le 500 (length bids)

-- the tests of an opening, in order
abbrev pub opening_table : State → List ℕ → List ℕ → ℤ → List (Bool × Refusal)
opening_table s bid spec amount =
    (s.closed, A9)
    ∷ (is_none (spec_named s spec), A1)
    ∷ (is_some (place_named s bid), A2)
    ∷ (int_lt amount (reserve_named s spec), A3)
    ∷ (is_full s.standing, A10)
    ∷ []

-- the tests of a raise
abbrev pub raise_table : State → List ℕ → List ℕ → ℤ → List (Bool × Refusal)
raise_table s bidder bid amount =
    (s.closed, A9)
    ∷ (is_none (place_named s bid), A4)
    ∷ (standing_is s bid (is_anothers bidder), A5)
    ∷ (standing_is s bid (is_below_raise s.rules amount), A6)
    ∷ (standing_is s bid is_winning, A7)
    ∷ (standing_is s bid has_acted, A8)
    ∷ []

-- the tests of an amendment
abbrev pub amend_table : State → List ℕ → List ℕ → List ℕ → List (Bool × Refusal)
amend_table s bidder bid spec =
    (s.closed, A9)
    ∷ (is_none (spec_named s spec), A1)
    ∷ (is_none (place_named s bid), A4)
    ∷ (standing_is s bid (is_anothers bidder), A5)
    ∷ (standing_is s bid is_winning, A7)
    ∷ (standing_is s bid has_acted, A8)
    ∷ (standing_is s bid (is_below (reserve_named s spec)), A3)
    ∷ []

-- the tests of a withdrawal
abbrev pub withdraw_table : State → List ℕ → List ℕ → List (Bool × Refusal)
withdraw_table s bidder bid =
    (s.closed, A9)
    ∷ (is_none (place_named s bid), A4)
    ∷ (standing_is s bid (is_anothers bidder), A5)
    ∷ (standing_is s bid is_winning, A7)
    ∷ (standing_is s bid has_acted, A8)
    ∷ []

-- why an opening is refused: the first of its tests that holds
unfoldable pub opening_refusal : State → List ℕ → List ℕ → ℤ → Option Refusal
opening_refusal s bid spec amount = first_of (opening_table s bid spec amount)

-- why a raise is refused
unfoldable pub raise_refusal : State → List ℕ → List ℕ → ℤ → Option Refusal
raise_refusal s bidder bid amount = first_of (raise_table s bidder bid amount)

-- why an amendment is refused
unfoldable pub amend_refusal : State → List ℕ → List ℕ → List ℕ → Option Refusal
amend_refusal s bidder bid spec = first_of (amend_table s bidder bid spec)

-- why a withdrawal is refused
unfoldable pub withdraw_refusal : State → List ℕ → List ℕ → Option Refusal
withdraw_refusal s bidder bid = first_of (withdraw_table s bidder bid)

-- why an action is refused, if it is
abbrev pub refusal_of : State → Act → Option Refusal
refusal_of s (Opening bidder bid spec amount) = opening_refusal s bid spec amount
refusal_of s (Raise bidder bid amount) = raise_refusal s bidder bid amount
refusal_of s (Amend bidder bid spec) = amend_refusal s bidder bid spec
refusal_of s (Withdraw bidder bid) = withdraw_refusal s bidder bid

-- ---- what an accepted action changes

-- a list of standing bids with a change of the one at a place
abbrev pub with_change : List Standing → ℕ → (Standing → Standing) → List Standing
with_change bids place change = option_map_or (λ b. slice_set bids place (change b)) (slice_get bids place) bids

-- a bid that was opened
abbrev pub opened_bid : List ℕ → List ℕ → ℕ → ℤ → Standing
opened_bid bidder bid spec amount = record { name = bid; bidder = bidder; spec = spec; amount = amount; won = None; acted = true }

-- a bid that was raised
abbrev pub raised_bid : ℤ → Standing → Standing
raised_bid amount b = record b { amount = amount; acted = true }

-- a bid that was amended
abbrev pub amended_bid : ℕ → Standing → Standing
amended_bid spec b = record b { spec = spec; acted = true }

-- The bids that stand after an action that is not refused: an opened bid comes last, a raised or amended one keeps its
-- place, and without a withdrawn one the others keep their order.
abbrev pub standing_after : State → Act → List Standing
standing_after s (Opening bidder bid spec amount) =
    option_map_or (λ place. s.standing ++ opened_bid bidder bid place amount ∷ []) (spec_named s spec) s.standing
standing_after s (Raise bidder bid amount) =
    option_map_or (λ place. with_change s.standing place (raised_bid amount)) (place_named s bid) s.standing
standing_after s (Amend bidder bid spec) =
    option_map_or (λ place. option_map_or (λ new. with_change s.standing place (amended_bid new)) (spec_named s spec) s.standing) (place_named s bid) s.standing
standing_after s (Withdraw bidder bid) =
    option_map_or (remove s.standing) (place_named s bid) s.standing

-- The auction after an action that is not refused.
abbrev pub after_act : State → Act → State
after_act s act = record s { standing = standing_after s act; moved = true }

-- an action is accepted: nothing refuses it, and the auction is as it is after it
pub record IsAccepted (old : State) (act : Act) (new : State) : Type 0 where
  pub due : refusal_of old act ≡ None
  pub after : new ≡ after_act old act

-- an action is refused for the first reason, handed back as it was, and changes nothing
pub record IsHandedBack (old : State) (act : Act) (refused : Refused) (new : State) : Type 0 where
  pub why : refusal_of old act ≡ Some refused.why
  pub back : refused.action ≡ act
  pub same : new ≡ old

-- the answer to an action, and the auction after it: it is accepted, or refused
abbrev pub IsStep : {T : Type 0} → State → Act → State → Result T Refused → Type 0
IsStep old act new result = MatchResult result (λ _. IsAccepted old act new) (λ refused. IsHandedBack old act refused new)

-- ---- actions, one after another

-- the auction after an action, which is accepted or refused
abbrev pub after_any : State → Act → State
after_any s act = option_map_or (λ _. s) (refusal_of s act) (after_act s act)

-- the auction after all of these actions
abbrev pub after_all : State → List Act → State
after_all s [] = s
after_all s (act ∷ acts) = after_all (after_any s act) acts

-- what becomes of each of them: why it is refused, if it is
abbrev pub refusals_of : State → List Act → List (Option Refusal)
refusals_of s [] = []
refusals_of s (act ∷ acts) = refusal_of s act ∷ refusals_of (after_any s act) acts

-- what no action changes: the specifications and the rules, the round, and whether the auction is closed
pub record IsSameRound (old new : State) : Type 0 where
  pub specs : new.specs ≡ old.specs
  pub rules : new.rules ≡ old.rules
  pub round : new.round ≡ old.round
  pub closed : new.closed ≡ old.closed

-- ---- the close of a round

-- a standing bid with the value at which it won the round, if it did
abbrev pub valued : Option ℤ → Standing → Standing
valued value b = record b { won = value }

-- each standing bid with its value
abbrev pub with_values : List Standing → List (Option ℤ) → List Standing
with_values [] values = []
with_values (b ∷ bids) [] = b ∷ bids
with_values (b ∷ bids) (value ∷ values) = valued value b ∷ with_values bids values

-- a standing bid at the start of a round
abbrev pub rested : Standing → Standing
rested b = record b { acted = false }

-- whether the auction closes with this round: no action of it was accepted, or it is the last one by the rules
abbrev pub is_last_round : State → Bool
is_last_round s = if s.moved then nat_le s.rules.rounds s.round else true

-- The auction after the close of a round with these values of the bids that stand: it is closed, or the next round opens.
abbrev pub after_round : State → List (Option ℤ) → State
after_round s values =
    if is_last_round s
    then record s { standing = with_values s.standing values; closed = true }
    else record s { standing = map rested (with_values s.standing values); round = s.round + 1; moved = false }

-- ---- the bids that are planned

-- a standing bid on a specification as it is planned: the specification with the standing bid's own name and bidder, and with
-- its amount as base
abbrev pub offer_on : Bid → Standing → Offer
offer_on spec b = record { name = b.name; bidder = b.bidder; path = spec.path; money = record spec.money { base = b.amount } }

-- a standing bid as it is planned, on its specification
abbrev pub planned_of : List Bid → Standing → Option Offer
planned_of specs b = option_map (λ (spec : Bid). offer_on spec b) (slice_get specs b.spec)

-- these bids are the standing ones as they are planned, in order
abbrev pub ArePlanned : State → List Bid → Type 0
ArePlanned s bids = map (λ (bid : Bid). Some (offer_of bid)) bids ≡ map (planned_of s.specs) s.standing

-- the paths of bids
abbrev pub paths_of : List Bid → List Path
paths_of bids = map (λ (bid : Bid). bid.path) bids

-- each bid is for the path of a specification, so that it has what all of these have
abbrev pub ArePathsOfSpecs : List Bid → List Bid → Type 0
ArePathsOfSpecs specs bids = All (Contains (paths_of specs)) (paths_of bids)

-- ---- what every auction keeps

-- an amount of cents is 0 to 1,000,000,000
abbrev pub IsAmount : ℤ → Type 0
IsAmount amount = IsBetween (pos 0) (pos 1000000000) amount

-- the amount of an action that has one is in range
abbrev pub HasAmount : Act → Type 0
HasAmount (Opening bidder bid spec amount) = IsAmount amount
HasAmount (Raise bidder bid amount) = IsAmount amount
HasAmount (Amend bidder bid spec) = ⊤
HasAmount (Withdraw bidder bid) = ⊤

-- the rules are in range
pub record AreRules (rules : Rules) : Type 0 where
  pub min_increment : IsBetween (pos 1) (pos 1000000000) rules.min_increment
  pub permille : rules.permille ≤ 1000
  pub rounds : 1 ≤ rules.rounds
  pub rounds_max : rules.rounds ≤ 100

-- at most 1,000 specifications, with different names
pub record AreSpecs (specs : List Bid) : Type 0 where
  pub few : length specs ≤ 1000
  pub differ : AllDiffer (spec_names specs)

-- a standing bid is on a specification, for an amount from its reserve to 1,000,000,000
pub record IsOn (specs : List Bid) (b : Standing) : Type 0 where
  pub spec : is_some (slice_get specs b.spec) ≡ true
  pub reserve : reserve_at specs b.spec ≤ℤ b.amount
  pub amount : IsAmount b.amount

-- what every auction keeps: its specifications and its rules as they were made, a round of these rules, at most 500 standing
-- bids with different names, and each of them on its specification
pub record IsAuction (s : State) : Type 0 where
  pub specs : AreSpecs s.specs
  pub rules : AreRules s.rules
  pub round : 1 ≤ s.round
  pub round_max : s.round ≤ s.rules.rounds
  pub few : length s.standing ≤ 500
  pub names : AreNames (standing_names s.standing)
  pub standing : All (IsOn s.specs) s.standing
