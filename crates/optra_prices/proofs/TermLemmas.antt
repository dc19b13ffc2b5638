-- Arcs that are added one after the other, while rows get numbers and groups are added.
use Rattle.std.proofs.Common.{◌≡◌, ℕ, ◌+◌, ◌<◌, Bool, cond, unwrap_or, List, [], ◌∷◌, ◌++◌, map, length, Option, Some, None, IsSome, slice_get, refl, sym, ap, ◌∙◌, subst, arith, inl, inr}
use Rattle.std.specs.Prelude.{Contains, IfSome}
use Rattle.std.specs.Option.{option_map_or}
use Rattle.std.proofs.lemmas.Bool.{lt-ltb}
use Rattle.std.proofs.lemmas.List.Elements.{All-contains, All-push}
use Rattle.std.proofs.lemmas.Option.{none-some, same_Some, slice_get_within}
use Rattle.optra_network.specs.Net.{Net, IsProper, IsTrack, times_of, IsRunningRow}
use Rattle.optra_network.specs.declared.TypeId.{TypeId}
use Rattle.optra_network.specs.declared.Times.{Times}
use Rattle.optra_network.proofs.NetLemmas.{times_built}
use Rattle.optra_bid.specs.declared.bids.Bid.{Bid}
use Rattle.optra_walk.specs.declared.Leg.{Leg}
use Rattle.optra_walk.specs.Families.{Rows, IsUsable}
use Rattle.optra_walk.proofs.UsableLemmas.{walk_usable}
use Rattle.optra_graph.specs.Timed.{Timed, IsGraphOf, IsRoute, IsLegArc, leg_of, leg_at, start_of, walk_of}
use Rattle.optra_node.specs.Nodes.{IsFormedLeg, kind_at}
use Rattle.optra_node.proofs.LoadLemmas.{contains_cases, contains-map}
use Rattle.optra_walk.specs.Shares.{start_value, leg_value}
use Rattle.optra_prices.specs.Arcs.{IsArcValue}
use Rattle.optra_prices.specs.Tables.{Extends, AreTouches, group_at, AreGroups, KeepsGroups}
use Rattle.optra_prices.specs.Terms.{IsStartTerm, IsLegTerm, AreTerms, IsTerm}
use Rattle.optra_prices.specs.ArcTerms.{ArcTerm}
use Rattle.optra_prices.specs.declared.touch.Touch.{Touch}
use Rattle.optra_prices.proofs.ListLemmas.{all_at}
use Rattle.optra_prices.proofs.NumberLemmas.{push_cases, touches_kept}
use Rattle.optra_prices.proofs.ArcLemmas.{leg_there}

-- the leg of an arc is one of a walk
pub arc_usable : (net : Net) → IsProper net → (bid : Bid) (t : Timed) → IsGraphOf net bid.path t → (k : ℕ) (leg : Leg) → k < length t.dag.arcs → leg_of t k ≡ Some leg → IsUsable net bid.path.kind leg
arc_usable net proper bid t graph k leg l at = by (graph.trimmed k l).0 (graph.trimmed k l).1 (graph.trimmed k l).2
  where
    by : (arcs : List ℕ) → IsRoute t arcs → Contains arcs k → IsUsable net bid.path.kind leg
    by [] route (j, m, e) = absurd (omega arith)
    by (first ∷ arcs) route has =
        let begins = graph.begins (first ∷ arcs) route in
        let usable = walk_usable net proper bid (walk_of t (first ∷ arcs)) (graph.sound (first ∷ arcs) route) in
        elim (contains_cases first arcs k has) as (λ _. IsUsable net bid.path.kind leg) [
          | inl e ↦ absurd (none-some leg (sym begins.0.1 ∙ ap (leg_of t) e ∙ at))
          | inr c ↦
              let here : IsLegArc t k = All-contains (IsLegArc t) arcs k begins.1 c in
              let same : leg_at t k ≡ leg = same_Some (leg_at t k) leg (sym (leg_there t k here.0) ∙ at) in
              subst (IsUsable net bid.path.kind) same (All-contains (IsUsable net bid.path.kind) (map (leg_at t) arcs) (leg_at t k) usable (contains-map (leg_at t) arcs k c))
        ]

pub usable_formed : (net : Net) → IsProper net → (kind : TypeId) (leg : Leg) → IsUsable net kind leg → IsFormedLeg net leg
usable_formed net proper kind leg usable = record { track = by (times_of net leg.track kind) usable.may_use (times_built net leg.track kind proper.built); depart = usable.depart; dwell = usable.dwell }
  where
    by : (o : Option Times) → IsSome o → IfSome o (λ times. IsRunningRow (length net.tracks) (length net.types) ((leg.track.0, kind.0), times)) → IsTrack net leg.track
    by None some row = cc
    by (Some times) some row = row.0

module _ {R : Type 0} (net : Net) (rows : Rows R) (used : TypeId → Leg → List R) (bid : Bid) (t : Timed) where
  leg_kept : (numbered after : List R) (starts starts' : List ℕ) (touches touches' : List Touch) (leg : Leg) (arc : ArcTerm) → Extends numbered after → KeepsGroups starts touches starts' touches' → arc.group + 1 < length starts
      → IsLegTerm net rows used bid numbered starts touches leg arc → IsLegTerm net rows used bid after starts' touches' leg arc
  leg_kept numbered after starts starts' touches touches' leg arc extends keeps l is = record {
    value_is = is.value_is;
    group_is = subst (λ group. AreTouches after (rows.uses bid.path.kind leg) group (used bid.path.kind leg)) (sym (keeps.same arc.group l))
        (touches_kept numbered after (rows.uses bid.path.kind leg) extends (group_at starts touches arc.group) (used bid.path.kind leg) is.group_is);
  }

  -- arcs stay those of the graph while rows get numbers and groups are added
  pub terms_kept : (numbered after : List R) (starts starts' : List ℕ) (touches touches' : List Touch) (arcs : List ArcTerm) → Extends numbered after → KeepsGroups starts touches starts' touches'
      → AreTerms net rows used bid t numbered starts touches arcs → AreTerms net rows used bid t after starts' touches' arcs
  terms_kept numbered after starts starts' touches touches' arcs extends keeps are = record {
    starts_are = λ k minute arc at start.
        let l = all_at (λ (a : ArcTerm). a.group + 1 < length starts) arcs k arc are.within at in
        let is = are.starts_are k minute arc at start in
        record { value_is = is.value_is; group_is = keeps.same arc.group l ∙ is.group_is };
    legs_are = λ k leg arc at is.
        leg_kept numbered after starts starts' touches touches' leg arc extends keeps (all_at (λ (a : ArcTerm). a.group + 1 < length starts) arcs k arc are.within at) (are.legs_are k leg arc at is);
    within = λ k d l. let w = are.within k d l in let m = keeps.more in omega arith;
    values = are.values;
  }

  -- one more arc
  pub terms_push : (numbered : List R) (starts : List ℕ) (touches : List Touch) (arcs : List ArcTerm) (arc : ArcTerm) → AreTerms net rows used bid t numbered starts touches arcs
      → IsTerm net rows used bid t numbered starts touches (length arcs) arc → AreTerms net rows used bid t numbered starts touches (arcs ++ arc ∷ [])
  terms_push numbered starts touches arcs arc are is = record {
    starts_are = λ k minute a at start. elim (push_cases arcs arc k a at) as (λ _. IsStartTerm bid starts touches minute a) [
      | inl old ↦ are.starts_are k minute a old start
      | inr new ↦ subst (IsStartTerm bid starts touches minute) new.1 (is.start_is minute (sym (ap (start_of t) new.0) ∙ start))
    ];
    legs_are = λ k leg a at there. elim (push_cases arcs arc k a at) as (λ _. IsLegTerm net rows used bid numbered starts touches leg a) [
      | inl old ↦ are.legs_are k leg a old there
      | inr new ↦ subst (IsLegTerm net rows used bid numbered starts touches leg) new.1 (is.leg_is leg (sym (ap (leg_of t) new.0) ∙ there))
    ];
    within = All-push (λ (a : ArcTerm). a.group + 1 < length starts) arcs arc are.within is.within;
    values = All-push (λ (a : ArcTerm). IsArcValue a.value) arcs arc are.values is.value_in;
  }

pub groups_stay : (starts : List ℕ) (touches : List Touch) → KeepsGroups starts touches starts touches
groups_stay starts touches = record { more = omega arith; same = λ g l. refl }

-- a start arc has no leg
pub no_start : (t : Timed) (k m : ℕ) (leg : Leg) → leg_of t k ≡ Some leg → start_of t k ≡ Some m → ⊥
no_start t k m leg e start =
    let l = slice_get_within t.minutes k m start in
    let none : leg_of t k ≡ None = ap (λ (b : Bool). cond b None (Some (leg_at t k))) (lt-ltb k (length t.minutes) l) in
    none-some leg (sym none ∙ e)

module _ {R : Type 0} (net : Net) (rows : Rows R) (used : TypeId → Leg → List R) (bid : Bid) (t : Timed) (numbered : List R) (starts : List ℕ) (touches : List Touch) where
  pub start_is_term : (k minute : ℕ) (arc : ArcTerm) → AreGroups starts touches → leg_of t k ≡ None → minute ≡ unwrap_or (start_of t k) 0
      → arc.value ≡ start_value bid minute → IsArcValue arc.value → arc.group ≡ 0 → IsTerm net rows used bid t numbered starts touches k arc
  start_is_term k minute arc groups none at value range zero_group = record {
    start_is = λ m start.
        let same : minute ≡ m = at ∙ ap (λ (o : Option ℕ). unwrap_or o 0) start in
        record { value_is = value ∙ ap (start_value bid) same; group_is = ap (group_at starts touches) zero_group ∙ groups.none };
    leg_is = λ leg there. absurd (none-some leg (sym none ∙ there));
    within = let two = groups.two in omega arith;
    value_in = range;
  }

  pub leg_is_term : (k : ℕ) (leg : Leg) (arc : ArcTerm) (g : ℕ) → leg_of t k ≡ Some leg → arc.value ≡ leg_value net bid leg → IsArcValue arc.value → arc.group ≡ g → g + 1 < length starts
      → AreTouches numbered (rows.uses bid.path.kind leg) (group_at starts touches g) (used bid.path.kind leg) → IsTerm net rows used bid t numbered starts touches k arc
  leg_is_term k leg arc g at value range group l touched = record {
    start_is = λ m start. absurd (no_start t k m leg at start);
    leg_is = λ other there.
        let one : leg ≡ other = same_Some leg other (sym at ∙ there) in
        subst (λ x. IsLegTerm net rows used bid numbered starts touches x arc) one
        (record {
          value_is = value;
          group_is = subst (λ (x : ℕ). AreTouches numbered (rows.uses bid.path.kind leg) (group_at starts touches x) (used bid.path.kind leg)) (sym group) touched;
        });
    within = omega arith;
    value_in = range;
  }

pub kind_is : (bids : List Bid) (number : ℕ) (bid : Bid) → slice_get bids number ≡ Some bid → kind_at bids number ≡ bid.path.kind
kind_is bids number bid at = ap (λ (o : Option Bid). option_map_or (λ (b : Bid). b.path.kind) o (record { 0 = 0 })) at
