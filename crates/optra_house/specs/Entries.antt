-- The entries of a journal's file: a function of its bytes alone.
use Rattle.std.specs.Prelude.{◌≡◌, ◌≢◌, ℕ, Bool, false, zero, suc, ◌≤◌, List, [], ◌∷◌, ◌++◌, length, take, drop, nat_eq, nat_lt, nat_le, ◌&&◌, if◌then◌else◌, Option, Some, None, option_map}
use Rattle.std.specs.Int.{to_be_bytes, w32}
use Rattle.std.specs.List.{flat_map, starts_with}
use Rattle.optra_house.specs.Reading.{◌>>=◌, number_at}

-- a journal is at most so many bytes
abbrev pub most_bytes : ℕ
most_bytes = 67108864

-- OPTRAJ1 and a line feed
abbrev pub heading : List ℕ
heading = 79 ∷ 80 ∷ 84 ∷ 82 ∷ 65 ∷ 74 ∷ 49 ∷ 10 ∷ []

-- an entry in the journal: an open gate, the length of the payload in four bytes, and the payload
abbrev pub entry : List ℕ → List ℕ
entry payload = 1 ∷ (to_be_bytes w32 (length payload) ++ payload)

-- the heading, and the entries behind one another
abbrev pub entries : List (List ℕ) → List ℕ
entries payloads = heading ++ flat_map entry payloads

-- the payload of an entry behind its gate, and what stands behind the entry, of which there is at least a byte
unfoldable pub entry_at : List ℕ → Option (List ℕ × List ℕ)
entry_at bytes = do
  len ← number_at w32 bytes
  if nat_lt len.0 (length len.1) then Some (take len.0 len.1, drop len.0 len.1) else None

-- whether the bytes begin with an open gate
abbrev pub is_open : List ℕ → Bool
is_open [] = false
is_open (gate ∷ behind) = nat_eq gate 1

-- The payloads of the entries from a gate on, up to so many gates. A gate that is open has a whole entry behind it, and a
-- byte behind that; any other gate ends them, and what stands behind it means nothing.
unfoldable pub payloads_within : ℕ → List ℕ → Option (List (List ℕ))
payloads_within zero bytes = None
payloads_within (suc n) [] = None
payloads_within (suc n) (gate ∷ behind) =
    if nat_eq gate 1 then (entry_at behind >>= λ first. option_map (λ others. first.0 ∷ others) (payloads_within n first.1)) else Some []

-- the payloads of the entries from a gate on: there are no more gates than bytes
abbrev pub payloads_from : List ℕ → Option (List (List ℕ))
payloads_from bytes = payloads_within (length bytes) bytes

-- The payloads of a file's entries, where the file is laid out as a journal. A file of at most 9 bytes has none.
unfoldable pub payloads_of : List ℕ → Option (List (List ℕ))
payloads_of file =
    if nat_le (length file) 9 then Some []
    else (if nat_le (length file) most_bytes && starts_with nat_eq file heading then payloads_from (drop 8 file) else None)

-- The file is laid out as a journal with these entries: behind them stands a gate that is not open.
pub record IsLaidOut (payloads : List (List ℕ)) (file : List ℕ) : Type 0 where
  pub gate : ℕ
  pub behind : List ℕ
  pub shut : gate ≢ 1
  pub is : file ≡ entries payloads ++ gate ∷ behind
  pub fits : length file ≤ most_bytes
