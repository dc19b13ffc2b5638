-- What a leg by a way costs may be asked of.
use Rattle.std.proofs.Common.{◌≡◌, ◌∙◌, ℕ, ℤ, ◌≤◌, ◌<◌, length, List, get_or, set, replicate, Option, None, Some, sym, ap, subst, arith}
use Rattle.std.specs.Prelude.{IfSome}
use Rattle.std.proofs.lemmas.List.{length-set, length-replicate, get_or-replicate}
use Rattle.std.proofs.lemmas.List.Elements.{All-set}
use Rattle.std.proofs.lemmas.Option.{slice_get_within}
use Rattle.optra_network.specs.Net.{Net}
use Rattle.optra_network.specs.declared.TypeId.{TypeId}
use Rattle.optra_bid.specs.declared.bids.Bid.{Bid}
use Rattle.optra_walk.specs.declared.Action.{Action}
use Rattle.optra_walk.specs.declared.Leg.{Leg}
use Rattle.optra_walk.specs.Families.{IsUsable}
use Rattle.optra_walk.specs.Legs.{dwell_of}
use Rattle.optra_rests.specs.Asks.{IsAsked, AreAsked}
use Rattle.optra_rests.specs.Tables.{IsReadyFor}
use Rattle.optra_walk.specs.Moves.{leg_by}
use Rattle.optra_rests.specs.Ways.{IsWay}
use Rattle.optra_rests.specs.Weights.{Weights, TellsCost, AreAlike, AreWeightsFor}
use Rattle.optra_rests.specs.declared.asks.Ask.{Ask}
use Rattle.optra_rests.specs.declared.rest_table.RestTable.{RestTable}
use Rattle.optra_walk.specs.declared.state.State.{State}
use Rattle.optra_rests.specs.declared.ways.Way.{Way}
use Rattle.optra_rests.proofs.ReachLemmas.{track_there}

-- the leg that is kept of a track
pub last_asked : (w : Weights) (asks : List (Option Ask)) (place : ℕ) (last : Ask) → AreAsked w asks → get_or asks place None ≡ Some last → place < length asks → IsAsked w last
last_asked w asks place last are at within = subst (λ (o : Option Ask). IfSome o (IsAsked w)) at (are.each place None within)

-- at first no leg was asked of
pub asked_none : (w : Weights) (net : Net) (n : ℕ) (asks : List (Option Ask)) → w.net ≡ net → n ≡ length net.tracks → asks ≡ replicate n None → AreAsked w asks
asked_none w net n asks of count is = let none : Option Ask = None in record {
  len = ap length is ∙ length-replicate n None ∙ count ∙ sym (ap (λ (x : Net). length x.tracks) of);
  each = λ k d l.
      let within : k < n = omega (arith, ap length is, length-replicate n none, l) in
      subst (λ (o : Option Ask). IfSome o (IsAsked w)) (sym (ap (λ (xs : List (Option Ask)). get_or xs k d) is ∙ get_or-replicate n k None d within)) tt;
}

-- what is told of a leg is so of one that is alike
pub alike_told : (w : Weights) (first second : Leg) (cost : Option ℤ) → AreAlike w first second → TellsCost w first cost → TellsCost w second cost
alike_told w first second None alike told = sym alike.0 ∙ told
alike_told w first second (Some n) alike told = (sym alike.0 ∙ told.0, told.1 ∙ alike.1, told.2)

-- one more leg was asked of
pub asked_more : (w : Weights) (asks : List (Option Ask)) (place : ℕ) (ask : Ask) → AreAsked w asks → IsAsked w ask → AreAsked w (set asks place (Some ask))
asked_more w asks place ask are is = record {
  len = length-set asks place (Some ask) ∙ are.len;
  each = All-set (λ (o : Option Ask). IfSome o (IsAsked w)) asks place (Some ask) is are.each;
}

module _ (w : Weights) (net : Net) (bid : Bid) (table : RestTable) (s : State) (ready : IsReadyFor w net bid table s) (way : Way) (by : IsWay net bid.path s way) (for : AreWeightsFor w net bid.path) where
  pub leg_usable : (a : Action) → dwell_of a ≤ 240 → (leg : Leg) → leg ≡ leg_by s way.track a → IsUsable w.net w.kind leg
  leg_usable a few leg is =
      let late = ready.placed.late in
      let end = ready.setting.small.end in
      let here : IsUsable net bid.path.kind (leg_by s way.track a) = record { proper = ready.setting.proper; may_use = by.may_use; depart = omega arith; dwell = few } in
      subst (λ (l : Leg). IsUsable w.net w.kind l) (sym is)
      (subst (λ (k : TypeId). IsUsable w.net k (leg_by s way.track a)) (sym for.kind_is) (subst (λ (n : Net). IsUsable n bid.path.kind (leg_by s way.track a)) (sym for.net_is) here))

  pub track_asked : (a : Action) (leg : Leg) → leg ≡ leg_by s way.track a → (asks : List (Option Ask)) → AreAsked w asks → leg.track.0 < length asks
  track_asked a leg is asks are =
      let there = track_there net.tracks way.track.0 s.station by.tail in
      let within = slice_get_within net.tracks way.track.0 there.0 there.1 in
      let tracks : length w.net.tracks ≡ length net.tracks = ap (λ (n : Net). length n.tracks) for.net_is in
      let track : leg.track.0 ≡ way.track.0 = ap (λ (l : Leg). l.track.0) is in
      let len = are.len in
      omega (arith, within, tracks, track, len)
