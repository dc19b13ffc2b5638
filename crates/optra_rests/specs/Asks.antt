-- What is kept of the legs that were asked of.
use Rattle.std.specs.Prelude.{◌≡◌, List, length, All, Option, IfSome}
use Rattle.optra_walk.specs.Families.{IsUsable}
use Rattle.optra_rests.specs.Weights.{Weights, TellsCost}
use Rattle.optra_rests.specs.declared.asks.Ask.{Ask}

-- the leg may be asked of, and that is what it costs
pub record IsAsked (w : Weights) (ask : Ask) : Type 0 where
  pub usable : IsUsable w.net w.kind ask.leg
  pub told : TellsCost w ask.leg ask.cost

-- for each track of the network a leg that was asked of, or none
pub record AreAsked (w : Weights) (asks : List (Option Ask)) : Type 0 where
  pub len : length asks ≡ length w.net.tracks
  pub each : All (λ ask. IfSome ask (IsAsked w)) asks
