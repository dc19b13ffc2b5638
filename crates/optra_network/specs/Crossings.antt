-- The reaches of crossings, as they are counted.
use Rattle.std.specs.Prelude.{ℕ, min, List, length}
use Rattle.optra_network.specs.Net.{Net, IsBuilt, HasBothWays, reach_of, track_id}
use Rattle.optra_network.specs.Headways.{type_id}
use Rattle.optra_network.specs.Tables.{HoldsPairs}

-- the reach by number, cut at one more than the most
abbrev pub cut_reach : Net → ℕ → ℕ → ℕ
cut_reach net t k = min (reach_of net (track_id t) (type_id k)) 4001

-- the cut reaches by track and type, of crossings that are there in both directions, in a network that a builder keeps
pub record AreReaches (net : Net) (reaches : List ℕ) : Type 0 where
  pub built : IsBuilt net
  pub both_ways : HasBothWays net
  pub cut : HoldsPairs (cut_reach net) (length net.tracks) reaches
