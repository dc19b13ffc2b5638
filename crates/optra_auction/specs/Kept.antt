-- How the bids that stand are kept: before those that were withdrawn, in one map by name.
use Rattle.std.specs.Prelude.{ℕ, ◌+◌, ◌≤◌, List, take, map, String, string_bytes}
use Rattle.std.specs.declared.alloc.Global.{Global}
use Rattle.indexmap.specs.IndexMap.{IndexMap, index_map_len, spare}
use Rattle.optra_auction.specs.Machine.{Standing}
use Rattle.optra_auction.specs.declared.terms.Terms.{Terms}

-- terms with a name as a standing bid
abbrev pub named : List ℕ → Terms → Standing
named name terms = record { name = name; bidder = terms.bidder; spec = terms.spec; amount = terms.amount; won = terms.won; acted = terms.acted }

-- a name and its terms as a standing bid
abbrev pub standing_of : String Global × Terms → Standing
standing_of entry = named (string_bytes entry.0) entry.1

-- the first of the entries, as many as stand, are the standing bids
abbrev pub standing_in : List (String Global × Terms) → ℕ → List Standing
standing_in entries count = map standing_of (take count entries)

-- the bids that stand are among the entries, at most 500, and there is room for 1,000 entries in all
pub record HaveRoom {S : Type 0} (terms : IndexMap (String Global) Terms S) (count : ℕ) : Type 0 where
  pub within : count ≤ index_map_len terms
  pub few : count ≤ 500
  pub room : 1000 ≤ index_map_len terms + spare terms
