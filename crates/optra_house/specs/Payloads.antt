-- The payloads of entries: a stamp, or a round of an auction.
use Rattle.std.specs.Prelude.{All, ◌≡◌, ℕ, ℤ, ◌<◌, ◌^◌, IsTrue, List, [], ◌∷◌, ◌++◌, length, Option, Some, None, pos, ⊤}
use Rattle.std.specs.Int.{to_be_bytes, w16, w32, w64}
use Rattle.std.specs.Int.RustNames.{unsigned_abs}
use Rattle.std.specs.List.{flat_map}
use Rattle.optra_network.specs.Names.{is_name}
use Rattle.optra_bid.specs.Specs.{IsBetween}
use Rattle.optra_auction.specs.Machine.{IsAmount}
use Rattle.optra_auction.specs.declared.Act.{Act}
use Rattle.optra_auction.specs.declared.Act.TheVariants.{Opening, Raise, Amend, Withdraw}

-- what is posted of a round: its number, its actions in order, and the value at which each bid that stands then wins it, if
-- it does
pub record Posting : Type 0 where
  pub number : ℕ
  pub acts : List Act
  pub values : List (Option ℤ)

-- ---- what is written

-- its length in a byte, and its bytes
abbrev pub name_bytes : List ℕ → List ℕ
name_bytes name = length name ∷ name

-- cents, which are not negative, in eight bytes
abbrev pub cents_bytes : ℤ → List ℕ
cents_bytes cents = to_be_bytes w64 (unsigned_abs cents)

-- the kind of the action, its names, and its amount where it has one
unfoldable pub act_bytes : Act → List ℕ
act_bytes (Opening bidder bid spec amount) = 0 ∷ (name_bytes bidder ++ (name_bytes bid ++ (name_bytes spec ++ cents_bytes amount)))
act_bytes (Raise bidder bid amount) = 1 ∷ (name_bytes bidder ++ (name_bytes bid ++ cents_bytes amount))
act_bytes (Amend bidder bid spec) = 2 ∷ (name_bytes bidder ++ (name_bytes bid ++ name_bytes spec))
act_bytes (Withdraw bidder bid) = 3 ∷ (name_bytes bidder ++ name_bytes bid)

-- whether there is a value, and the value
unfoldable pub value_bytes : Option ℤ → List ℕ
value_bytes None = 0 ∷ []
value_bytes (Some cents) = 1 ∷ cents_bytes cents

-- the payload of a round up to its values: a byte 1, the number of the round, and its actions behind their number
unfoldable pub head_bytes : ℕ → List Act → List ℕ
head_bytes number acts = 1 ∷ (to_be_bytes w16 number ++ (to_be_bytes w32 (length acts) ++ flat_map act_bytes acts))

-- values behind their number
unfoldable pub values_bytes : List (Option ℤ) → List ℕ
values_bytes values = to_be_bytes w32 (length values) ++ flat_map value_bytes values

-- the payload of a round
abbrev pub round_payload : Posting → List ℕ
round_payload posting = head_bytes posting.number posting.acts ++ values_bytes posting.values

-- a part of a stamp behind its length
abbrev pub part_bytes : List ℕ → List ℕ
part_bytes part = to_be_bytes w64 (length part) ++ part

-- the payload of a stamp: a byte 0, and its three parts
unfoldable pub stamp_payload : List ℕ → List ℕ → List ℕ → List ℕ
stamp_payload bids stops rules = 0 ∷ (part_bytes bids ++ (part_bytes stops ++ part_bytes rules))

-- ---- what may be written

-- a value at which a bid wins is 1 to 1,000,000,000 cents
abbrev pub IsValue : Option ℤ → Type 0
IsValue None = ⊤
IsValue (Some cents) = IsBetween (pos 1) (pos 1000000000) cents

-- the names of the action are names, and its amount is in range
unfoldable pub IsSpelled : Act → Type 0
IsSpelled (Opening bidder bid spec amount) = IsTrue (is_name bidder) × IsTrue (is_name bid) × IsTrue (is_name spec) × IsAmount amount
IsSpelled (Raise bidder bid amount) = IsTrue (is_name bidder) × IsTrue (is_name bid) × IsAmount amount
IsSpelled (Amend bidder bid spec) = IsTrue (is_name bidder) × IsTrue (is_name bid) × IsTrue (is_name spec)
IsSpelled (Withdraw bidder bid) = IsTrue (is_name bidder) × IsTrue (is_name bid)

-- what has a payload
pub record IsPosting (posting : Posting) : Type 0 where
  pub number : posting.number < 2 ^ 16
  pub acts_count : length posting.acts < 2 ^ 32
  pub acts : All IsSpelled posting.acts
  pub values_count : length posting.values < 2 ^ 32
  pub values : All IsValue posting.values

-- one value for each of so many bids
pub record AreValues (count : ℕ) (values : List (Option ℤ)) : Type 0 where
  pub count_is : length values ≡ count
  pub each : All IsValue values
