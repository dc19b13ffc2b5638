-- What stays of a search when arcs get dearer off its path.
use Rattle.std.proofs.Common.{◌≡◌, ℕ, ◌<◌, Bool, List, [], ◌∷◌, zero, suc, length, get_or, refl, ◌∙◌, sym, subst, arith, ℤ, ◌+ℤ◌, ◌≤ℤ◌, inl, inr}
use Rattle.std.specs.Prelude.{All}
use Rattle.std.proofs.lemmas.Int.{ints}
use Rattle.std.proofs.lemmas.List.Elements.{All-nil, All-cons, All-head, All-tail}
use Rattle.optra_dag.specs.Paths.{Graph, IsFirstBest, LeadsToEnd, to_of, weight_of}
use Rattle.optra_prices.specs.Arcs.{IsFound}
use Rattle.optra_prices.specs.Columns.{MarksTell, HasNotFallen, HasNotRisen}
use Rattle.optra_prices.specs.Holders.{HaveNotFallen, groups_of}
use Rattle.optra_prices.specs.Standings.{Stands, IsSound, groups_on}
use Rattle.optra_prices.specs.Tables.{allows_by, weight_by, no_arc}
use Rattle.optra_prices.specs.declared.columns.Mark.{Mark}
use Rattle.optra_prices.specs.ArcTerms.{ArcTerm}
use Rattle.optra_prices.specs.declared.numbering.BidTable.{BidTable}
use Rattle.optra_prices.specs.declared.numbering.Standing.{Standing}

le_both : (a b c d : ℤ) → a ≤ℤ b → c ≤ℤ d → (a +ℤ c) ≤ℤ (b +ℤ d)
le_both a b c d h l = omega (arith, ints)

le_then : (a b c : ℤ) → a ≤ℤ b → b ≤ℤ c → a ≤ℤ c
le_then a b c h l = omega (arith, ints)

both_ways : (a b c : ℤ) → a ≤ℤ b → b ≤ℤ c → a ≡ c → b ≡ c
both_ways a b c h l e = omega (arith, ints)

module _ (g : Graph) (allows : ℕ → Bool) (weight weight' : ℕ → ℤ) (falls : (k : ℕ) → k < length g.arcs → weight' k ≤ℤ weight k) where
  weighs_still : (p : List ℕ) → All (λ k. weight' k ≡ weight k) p → weight_of weight' p ≡ weight_of weight p
  weighs_still [] kept = refl
  weighs_still (k ∷ p) kept = let e = All-head (λ j. weight' j ≡ weight j) k p kept in let f = weighs_still p (All-tail (λ j. weight' j ≡ weight j) k p kept) in cc

  fell : (n : ℕ) (p : List ℕ) → LeadsToEnd g allows n p → weight_of weight' p ≤ℤ weight_of weight p
  fell n [] h = omega (arith, ints)
  fell n (k ∷ p) h = le_both _ _ _ _ (falls k h.0) (fell (to_of g k) p h.3)

  best_still : (sum : ℤ) (path : List ℕ) → All (λ k. weight' k ≡ weight k) path → IsFirstBest g allows weight sum path → IsFirstBest g allows weight' sum path
  best_still sum path kept h = record {
    path = h.path;
    sum = weighs_still path kept ∙ h.sum;
    greatest = λ q w. le_then _ _ _ (fell 0 q w.leads) (h.greatest q w);
    first = λ q w e. h.first q w (both_ways _ _ _ (fell 0 q w.leads) (h.greatest q w) e);
  }

  -- where no arc weighs more, and those of the path weigh what they did, the search finds what it found
  pub found_stays : (forced : Bool) (path : List ℕ) (term : ℤ) (stuck : Bool) → All (λ k. weight' k ≡ weight k) path → IsFound g allows weight forced path term stuck → IsFound g allows weight' forced path term stuck
  found_stays forced path term stuck kept (inl none) = inl none
  found_stays forced path term stuck kept (inr (inl nothing)) = inr (inl (record {
    free = nothing.free;
    most = λ other p. le_then _ _ _ (fell 0 other p.leads) (nothing.most other p);
    path_is = nothing.path_is;
    term_is = nothing.term_is;
    stuck_is = nothing.stuck_is;
  }))
  found_stays forced path term stuck kept (inr (inr found)) = inr (inr (record { best = best_still term path kept found.best; worth = found.worth; stuck_is = found.stuck_is }))

-- what holds of the groups of arcs holds of that of each arc
pub group_at_arc : (P : ℕ → Type 0) (arcs : List ArcTerm) (k : ℕ) → All P (groups_of arcs) → k < length arcs → P (get_or arcs k no_arc).group
group_at_arc P [] k all l = absurd (omega arith)
group_at_arc P (arc ∷ arcs) zero all l = All-head P arc.group (groups_of arcs) all
group_at_arc P (arc ∷ arcs) (suc k) all l = group_at_arc P arcs k (All-tail P arc.group (groups_of arcs) all) (omega arith)

module _ (table : BidTable) (old new : List ℤ) (marks : List Mark) (sound : IsSound table) (tell : MarksTell old new marks) (unfallen : HaveNotFallen marks table.arcs) where
  abbrev pub arc_at : ℕ → ArcTerm
  arc_at k = get_or table.arcs k no_arc

  arc_fell : (k : ℕ) → k < length table.graph.now.dag.arcs → weight_by table.arcs new k ≤ℤ weight_by table.arcs old k
  arc_fell k l =
      let count = sound.count in
      let up = (tell (arc_at k).group).unless_fell (group_at_arc (HasNotFallen marks) table.arcs k unfallen (omega arith)) in
      omega (arith, ints)

  arc_same : (k : ℕ) → k < length table.graph.now.dag.arcs → HasNotRisen marks (arc_at k).group → weight_by table.arcs new k ≡ weight_by table.arcs old k
  arc_same k l unrisen =
      let up = arc_fell k l in
      let down = (tell (arc_at k).group).unless_rose unrisen in
      omega (arith, ints)

  path_same : (n : ℕ) (path : List ℕ) → LeadsToEnd table.graph.now.dag (allows_by table.arcs) n path → All (λ k. HasNotRisen marks (arc_at k).group) path
      → All (λ k. weight_by table.arcs new k ≡ weight_by table.arcs old k) path
  path_same n [] h unrisen k d l = absurd (omega arith)
  path_same n (k ∷ path) h unrisen zero d l = arc_same k h.0 (All-head (λ j. HasNotRisen marks (arc_at j).group) k path unrisen)
  path_same n (k ∷ path) h unrisen (suc j) d l = path_same (to_of table.graph.now.dag k) path h.3 (All-tail (λ j. HasNotRisen marks (arc_at j).group) k path unrisen) j d (omega arith)

  kept_same : (path : List ℕ) (term : ℤ) (stuck : Bool) → All (λ k. HasNotRisen marks (arc_at k).group) path → IsFound table.graph.now.dag (allows_by table.arcs) (weight_by table.arcs old) table.forced path term stuck
      → All (λ k. weight_by table.arcs new k ≡ weight_by table.arcs old k) path
  kept_same path term stuck unrisen (inl none) = subst (All (λ k. weight_by table.arcs new k ≡ weight_by table.arcs old k)) (sym none.path_is) (λ k d l. absurd (omega arith))
  kept_same path term stuck unrisen (inr (inl nothing)) = subst (All (λ k. weight_by table.arcs new k ≡ weight_by table.arcs old k)) (sym nothing.path_is) (λ k d l. absurd (omega arith))
  kept_same path term stuck unrisen (inr (inr found)) = path_same 0 path found.best.path.leads unrisen

  -- where no group of the bid fell and none of its reply rose, what is known of it stands
  pub stands_still : (standing : Standing) → All (HasNotRisen marks) standing.groups.items → Stands table old standing → Stands table new standing
  stands_still standing unrisen stands = record {
    found = found_stays table.graph.now.dag (allows_by table.arcs) (weight_by table.arcs old) (weight_by table.arcs new) arc_fell table.forced standing.path.items standing.term standing.stuck
        (kept_same standing.path.items standing.term standing.stuck (on_path standing.path.items (subst (All (HasNotRisen marks)) stands.groups_are unrisen)) stands.found) stands.found;
    groups_are = stands.groups_are;
  }
    where
      on_path : (path : List ℕ) → All (HasNotRisen marks) (groups_on table.arcs path) → All (λ k. HasNotRisen marks (arc_at k).group) path
      on_path [] all = All-nil (λ k. HasNotRisen marks (arc_at k).group)
      on_path (k ∷ path) all = All-cons (λ j. HasNotRisen marks (arc_at j).group) k path (All-head (HasNotRisen marks) (arc_at k).group (groups_on table.arcs path) all) (on_path path (All-tail (HasNotRisen marks) (arc_at k).group (groups_on table.arcs path) all))
