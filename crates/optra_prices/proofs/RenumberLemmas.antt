-- Groups whose touches name rows by number in place of places.
use Rattle.std.proofs.Common.{◌≡◌, ℕ, zero, suc, ◌+◌, ◌-◌, List, [], ◌∷◌, map, take, drop, refl, sym, ap, ◌∙◌, subst, arith}
use Rattle.std.specs.Prelude.{slice_index}
use Rattle.std.proofs.lemmas.List.{drop-map, length-map}
use Rattle.std.proofs.lemmas.List.Sums.{sum_by-cons}
use Rattle.optra_network.specs.Net.{Net}
use Rattle.optra_network.specs.declared.TypeId.{TypeId}
use Rattle.optra_bid.specs.declared.bids.Bid.{Bid}
use Rattle.optra_walk.specs.declared.Leg.{Leg}
use Rattle.optra_walk.specs.Families.{Rows}
use Rattle.optra_graph.specs.Timed.{Timed}
use Rattle.optra_prices.specs.NarrowTouches.{touch_of, touches_of}
use Rattle.optra_prices.specs.Rankings.{renumbered, AreNumbersOf, Renumbers}
use Rattle.optra_prices.specs.Tables.{AreTouches, group_at, uses_in_all, AreGroups}
use Rattle.optra_prices.specs.Terms.{AreTerms, AreArcs}
use Rattle.optra_prices.specs.Standings.{HoldArcs}
use Rattle.optra_prices.specs.ArcTerms.{ArcTerm}
use Rattle.optra_prices.specs.declared.numbering.BidTable.{BidTable}
use Rattle.optra_prices.specs.declared.numbering.Groups.{Groups}
use Rattle.optra_prices.specs.declared.touch.Touch.{Touch}

take_map : {X Y : Type 0} (f : X → Y) (n : ℕ) (xs : List X) → take n (map f xs) ≡ map f (take n xs)
take_map f zero xs = refl
take_map f (suc n) [] = refl
take_map f (suc n) (x ∷ xs) = ap (λ ys. f x ∷ ys) (take_map f n xs)

-- a group has the same touches by number
group_renumbered : (numbers starts : List ℕ) (touches : List Touch) (g : ℕ) → group_at starts (map (renumbered numbers) touches) g ≡ map (renumbered numbers) (group_at starts touches g)
group_renumbered numbers starts touches g =
    let a = slice_index starts g in
    let b = slice_index starts (g + 1) in
    ap (take (b - a)) (drop-map (renumbered numbers) a touches) ∙ take_map (renumbered numbers) (b - a) (drop a touches)

uses_renumbered : (numbers : List ℕ) (touches : List Touch) → uses_in_all (map (renumbered numbers) touches) ≡ uses_in_all touches
uses_renumbered numbers [] = refl
uses_renumbered numbers (touch ∷ touches) =
    let a = sum_by-cons (λ (t : Touch). t.uses) (renumbered numbers touch) (map (renumbered numbers) touches) in
    let b = sum_by-cons (λ (t : Touch). t.uses) touch touches in
    let i = uses_renumbered numbers touches in
    omega arith

-- narrow touches are renumbered by their rows
pub each_renumbered : (numbers narrow : List ℕ) (wide : List Touch) → touches_of (map (slice_index numbers) narrow) (map (renumbered numbers) wide) ≡ map (renumbered numbers) (touches_of narrow wide)
each_renumbered numbers [] wide = refl
each_renumbered numbers (row ∷ narrow) wide = ap (λ (ts : List Touch). touch_of (slice_index numbers row) ∷ ts) (each_renumbered numbers narrow wide)

pub groups_renumbered : (numbers starts : List ℕ) (touches : List Touch) → AreGroups starts touches → AreGroups starts (map (renumbered numbers) touches)
groups_renumbered numbers starts touches are =
    let long = length-map touches (renumbered numbers) in
    record {
      two = are.two;
      first = are.first;
      ordered = are.ordered;
      within = λ g l. let w = are.within g l in omega arith;
      last = are.last ∙ sym long;
      few = λ g l. let f = are.few g l in let e = ap uses_in_all (group_renumbered numbers starts touches g) ∙ uses_renumbered numbers (group_at starts touches g) in omega arith;
      none = group_renumbered numbers starts touches 0 ∙ ap (map (renumbered numbers)) are.none;
    }

module _ {R : Type 0} (named numbered : List R) (numbers : List ℕ) (are_numbers : AreNumbersOf named numbered numbers) where
  touches_renumbered : (uses : R → ℕ) (touches : List Touch) (used : List R) → AreTouches named uses touches used → AreTouches numbered uses (map (renumbered numbers) touches) used
  touches_renumbered uses [] [] are = are
  touches_renumbered uses [] (row ∷ used) are = absurd are
  touches_renumbered uses (touch ∷ touches) [] are = absurd are
  touches_renumbered uses (touch ∷ touches) (row ∷ used) are =
      (record { number = are_numbers touch.row row are.0.number; use_is = are.0.use_is }, touches_renumbered uses touches used are.1)

  module _ (net : Net) (rows : Rows R) (used : TypeId → Leg → List R) where
    terms_renumbered : (bid : Bid) (t : Timed) (starts : List ℕ) (touches : List Touch) (arcs : List ArcTerm) → AreTerms net rows used bid t named starts touches arcs → AreTerms net rows used bid t numbered starts (map (renumbered numbers) touches) arcs
    terms_renumbered bid t starts touches arcs are = record {
      starts_are = λ k minute arc at start.
          let is = are.starts_are k minute arc at start in
          record { value_is = is.value_is; group_is = group_renumbered numbers starts touches arc.group ∙ ap (map (renumbered numbers)) is.group_is };
      legs_are = λ k leg arc at there.
          let is = are.legs_are k leg arc at there in
          record {
            value_is = is.value_is;
            group_is = subst (λ (group : List Touch). AreTouches numbered (rows.uses bid.path.kind leg) group (used bid.path.kind leg)) (sym (group_renumbered numbers starts touches arc.group))
                (touches_renumbered (rows.uses bid.path.kind leg) (group_at starts touches arc.group) (used bid.path.kind leg) is.group_is);
          };
      within = are.within;
      values = are.values;
    }

-- tables serve when their rows get numbers
pub tables_renumbered : {R : Type 0} (net : Net) (rows : Rows R) (used : TypeId → Leg → List R) (bids : List Bid) (count : ℕ) (named numbered : List R) (before after : Groups) (tables : List BidTable) → after.starts.items ≡ before.starts.items
    → Renumbers named numbered before.touches after.touches → HoldArcs net rows used bids count named before tables → HoldArcs net rows used bids count numbered after tables
tables_renumbered net rows used bids count named numbered before after tables same renumbers hold = record {
  count_is = hold.count_is;
  each = λ number bid table bid_at table_at.
      let is = hold.each number bid table bid_at table_at in
      let touches = map (renumbered renumbers.numbers) before.touches in
      let starts = before.starts.items in
      record {
        arcs_are = subst (λ (vs : List ℕ). AreArcs net rows used bid table.graph.now numbered table.arcs vs after.touches) (sym same)
            (subst (λ (ts : List Touch). AreArcs net rows used bid table.graph.now numbered table.arcs starts ts) (sym renumbers.touches_are)
            (record {
              graph = is.arcs_are.graph;
              count = is.arcs_are.count;
              groups = groups_renumbered renumbers.numbers starts before.touches is.arcs_are.groups;
              terms = terms_renumbered named numbered renumbers.numbers renumbers.are net rows used bid table.graph.now starts before.touches table.arcs is.arcs_are.terms;
            }));
        covers = is.covers;
      };
}

-- so do groups
pub all_renumbered : {R : Type 0} (named numbered : List R) (before after : Groups) → after.starts.items ≡ before.starts.items → Renumbers named numbered before.touches after.touches
    → AreGroups before.starts.items before.touches → AreGroups after.starts.items after.touches
all_renumbered named numbered before after same renumbers are =
    subst (λ (starts : List ℕ). AreGroups starts after.touches) (sym same) (subst (AreGroups before.starts.items) (sym renumbers.touches_are) (groups_renumbered renumbers.numbers before.starts.items before.touches are))
