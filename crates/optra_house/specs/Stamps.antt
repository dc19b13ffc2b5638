-- The payload of a stamp that is handed in, and what it takes of a journal.
use Rattle.std.specs.Prelude.{ℕ, ◌+◌, List, length}
use Rattle.optra_house.specs.Payloads.{stamp_payload}

-- the bytes that an auction was made from
pub record Stamp : Type 0 where
  pub bids : List ℕ
  pub stops : List ℕ
  pub rules : List ℕ

abbrev pub payload_of : Stamp → List ℕ
payload_of stamp = stamp_payload stamp.bids stamp.stops stamp.rules

-- so many bytes has a journal with the stamp alone: the heading, the stamp's entry and a gate
abbrev pub stamped_size : Stamp → ℕ
stamped_size stamp = 39 + length stamp.bids + length stamp.stops + length stamp.rules
