-- The columns of the stations that may be left in time.
use Rattle.std.proofs.Common.{◌<◌, ◌≤◌, ◌+◌, ◌*◌, ℕ, Bool, true, false, nat_lt, min, cond, length, ap, arith}
use Rattle.optra_network.specs.Net.{Net}
use Rattle.optra_network.specs.declared.StationId.{StationId}
use Rattle.optra_bid.specs.Specs.{Path}
use Rattle.optra_graph.specs.declared.states.Layout.{Layout}
use Rattle.optra_graph.specs.Columns.{deadline_in, stopping_in}
use Rattle.optra_graph.specs.Places.{deadline_of, station_at, HasColumn, HasColumns}
use Rattle.optra_graph.specs.Settings.{IsSetting}

-- with stops left it is too late no later
pub deadline_least : (layout : Layout) (done : ℕ) (station : StationId) → deadline_of layout done station ≤ deadline_in layout.columns.now station
deadline_least layout done station = by (nat_lt (done * 2 + 2) layout.slots)
  where
    by : (b : Bool) → cond b (min (deadline_in layout.columns.now station) (stopping_in layout.columns.now station)) (deadline_in layout.columns.now station) ≤ deadline_in layout.columns.now station
    by true = omega arith
    by false = omega arith

module _ (net : Net) (path : Path) (layout : Layout) (setting : IsSetting net path layout) where
  -- a station that may be left in time has a column
  pub column_there : (done : ℕ) (station : StationId) → station.0 < length net.stations → layout.first < deadline_of layout done station → HasColumn layout station
  column_there done station there timely =
      let least = deadline_least layout done station in
      let first = setting.laid.first in
      let c = setting.columns.listed in
      let s = setting.laid.stations in
      let count = c.count in
      let within = c.within station there (omega arith) in
      record { there = omega arith; within = omega arith; back = c.back station there (omega arith) }

  -- each column is that of its station
  pub columns_back : HasColumns layout
  columns_back column l =
      let c = setting.columns.listed in
      let s = setting.laid.stations in
      let count = c.count in
      let short : column < length layout.columns.now.stations.items = omega arith in
      let number = c.numbers column short in
      let there = c.stations column short in
      (record { there = omega arith; within = omega arith; back = ap (station_at layout) number }, number)
