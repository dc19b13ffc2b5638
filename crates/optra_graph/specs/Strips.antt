-- Strips of places: those of one minute, one count of stops done and one mode, side by side.
use Rattle.std.specs.Prelude.{◌≡◌, ℕ, ◌+◌, ◌-◌, ◌*◌, ◌<◌, ◌≤◌}
use Rattle.optra_graph.specs.declared.states.Layout.{Layout}
use Rattle.optra_graph.specs.declared.strip.Strip.{Strip}

-- the strip begins where the places of its minute and its slot do
pub record IsStrip (layout : Layout) (strip : Strip) : Type 0 where
  pub early : layout.first ≤ strip.minute
  pub late : strip.minute ≤ layout.first + layout.minutes
  pub slot : strip.slot < layout.slots
  pub start : strip.start ≡ ((strip.minute - layout.first) * layout.slots + strip.slot) * layout.stations

-- the place is one of the strip's
pub record IsWithin (layout : Layout) (strip : Strip) (place : ℕ) : Type 0 where
  pub from : strip.start ≤ place
  pub to : place < strip.start + layout.stations
