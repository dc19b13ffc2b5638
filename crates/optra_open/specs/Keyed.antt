-- Decisions of a node in lists by a number.
use Rattle.std.specs.Prelude.{◌≡◌, ℕ, ◌+◌, ◌*◌, ◌%◌, ◌<◌, nat_eq, List, length, filter, Some, slice_get}
use Rattle.optra_walk.specs.declared.Leg.{Leg}
use Rattle.optra_node.specs.declared.Decision.{Decision}

-- for each number, a list of the decisions that have it, in the node's order
pub record AreKeyed (key : Decision → ℕ) (count : ℕ) (node : List Decision) (lists : List (List Decision)) : Type 0 where
  pub count_is : length lists ≡ count
  pub each : (k : ℕ) → k < count → slice_get lists k ≡ Some (filter (λ d. nat_eq (key d) k) node)

-- the bucket of a leg that is decided for a bid
abbrev pub bucket_of : ℕ → Leg → ℕ
bucket_of bid leg = (bid * 1009 + leg.track.0 * 97 + leg.depart) % 4096

-- the decisions in the bucket of a leg
abbrev pub bucket_in : List Decision → ℕ → Leg → List Decision
bucket_in node bid leg = filter (λ d. nat_eq (bucket_of d.bid d.leg) (bucket_of bid leg)) node

-- the yes decisions
abbrev pub yes_part : List Decision → List Decision
yes_part node = filter (λ d. d.yes) node
