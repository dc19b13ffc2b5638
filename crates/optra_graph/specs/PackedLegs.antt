-- How the legs of a graph are kept in few bytes.
use Rattle.std.specs.Prelude.{ℕ, Bool, true, false, List, map}
use Rattle.optra_walk.specs.declared.Action.{Action}
use Rattle.optra_walk.specs.declared.Action.TheVariants.{Pass, Halt, Wait, Finish}
use Rattle.optra_walk.specs.declared.Leg.{Leg}
use Rattle.optra_graph.specs.declared.packed_leg.Modes.{Modes}
use Rattle.optra_graph.specs.declared.packed_leg.Modes.TheVariants.{ThroughPass, ThroughHalt, ThroughWait, ThroughFinish, StoodPass, StoodHalt, StoodWait, StoodFinish}
use Rattle.optra_graph.specs.declared.packed_leg.PackedLeg.{PackedLeg}

-- whether the train stood at the tail of the track
abbrev pub is_from_halt : Modes → Bool
is_from_halt ThroughPass = false
is_from_halt ThroughHalt = false
is_from_halt ThroughWait = false
is_from_halt ThroughFinish = false
is_from_halt StoodPass = true
is_from_halt StoodHalt = true
is_from_halt StoodWait = true
is_from_halt StoodFinish = true

-- what the train does at its head, where it stands for so long if it stands
abbrev pub action_of : Modes → ℕ → Action
action_of ThroughPass dwell = Pass
action_of ThroughHalt dwell = Halt dwell
action_of ThroughWait dwell = Wait dwell
action_of ThroughFinish dwell = Finish
action_of StoodPass dwell = Pass
action_of StoodHalt dwell = Halt dwell
action_of StoodWait dwell = Wait dwell
action_of StoodFinish dwell = Finish

-- the leg that a packed one stands for
abbrev pub leg_of_packed : PackedLeg → Leg
leg_of_packed leg = record { track = leg.track; depart = leg.depart; from_halt = is_from_halt leg.modes; action = action_of leg.modes leg.dwell }

abbrev pub legs_of : List PackedLeg → List Leg
legs_of legs = map leg_of_packed legs
