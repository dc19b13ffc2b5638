-- What holds of the bid for which a table is filled.
use Rattle.std.specs.Prelude.{◌≤◌, length, All}
use Rattle.optra_network.specs.Net.{Net, IsProper, IsStation}
use Rattle.optra_bid.specs.Specs.{Path, IsWindow, IsStop}
use Rattle.optra_rests.specs.declared.states.Layout.{Layout}
use Rattle.optra_rests.specs.Places.{IsLayout, IsSmall}

-- a proper network, a path that keeps the bounds of a bid, and its layout
pub record IsSetting (net : Net) (path : Path) (layout : Layout) : Type 0 where
  pub proper : IsProper net
  pub laid : IsLayout net path layout
  pub small : IsSmall layout
  pub origin : IsStation net path.origin
  pub depart : IsWindow path.depart
  pub arrive : IsWindow path.arrive
  pub wait_max : path.wait_max ≤ 30
  pub few : length path.stops ≤ 8
  pub stops : All IsStop path.stops
