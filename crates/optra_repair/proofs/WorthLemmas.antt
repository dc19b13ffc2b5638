-- What a search over the parts of arcs leaves.
use Rattle.std.proofs.Common.{◌≡◌, ℕ, Bool, true, false, List, [], ◌∷◌, Option, None, Some, refl, ap, ◌∙◌, arith, subst, sym}
use Rattle.std.specs.Prelude.{ℤ, pos, ◌≤ℤ◌, ◌<ℤ◌, IfSome, MatchBool}
use Rattle.std.proofs.lemmas.Option.{same_Some}
use Rattle.std.proofs.lemmas.Int.{ints}
use Rattle.optra_network.specs.Net.{Net}
use Rattle.optra_bid.specs.Specs.{Path}
use Rattle.optra_walk.specs.declared.Leg.{Leg}
use Rattle.optra_walk.specs.Walks.{IsWalk}
use Rattle.optra_dag.specs.Paths.{Graph, IsPath, IsFirstBest}
use Rattle.optra_graph.specs.Timed.{Timed, IsGraphOf, IsRoute, walk_of}
use Rattle.optra_prices.proofs.ArcLemmas.{leads_on}
use Rattle.optra_prices.specs.declared.parts.ArcPart.{ArcPart}
use Rattle.optra_prices.specs.Arcs.{path_reply}
use Rattle.optra_prices.specs.Parts.{IsTableGraph}
use Rattle.optra_prices.specs.declared.arc_tables.ArcTables.{ArcTables}
use Rattle.optra_prices.specs.declared.numbering.BidTable.{BidTable}
use Rattle.optra_repair.specs.Parts.{allows_at, weight_at, IsWorthWalk, IsWorthPath, walk_found}

-- a path of allowed arcs is a route
pub path_route : (t : Timed) (parts : List ArcPart) (arcs : List ℕ) → IsPath t.dag (allows_at parts) arcs → IsRoute t arcs
path_route t parts arcs path = record { some = path.some; leads = (leads_on t.dag (allows_at parts) 0 arcs path.leads).0 }

module _ (t : Timed) (dag : Graph) (parts : List ArcPart) (same : dag ≡ t.dag) where
  best_in : (sum : ℤ) (best : List ℕ) → IsFirstBest dag (allows_at parts) (weight_at parts) sum best → IsFirstBest t.dag (allows_at parts) (weight_at parts) sum best
  best_in sum best is = subst (λ (g : Graph). IsFirstBest g (allows_at parts) (weight_at parts) sum best) same is

  -- without a path no path is worth anything
  pub none_worth : ((path : List ℕ) → IsPath dag (allows_at parts) path → ⊥) → IsWorthWalk t parts None
  none_worth none path is = absurd (none path (subst (λ (g : Graph). IsPath g (allows_at parts) path) (sym same) is))

  -- where the first best path isn't worth anything, none is
  pub little_worth : (sum : ℤ) (best : List ℕ) → IsFirstBest dag (allows_at parts) (weight_at parts) sum best → sum ≤ℤ pos 0 → IsWorthWalk t parts None
  little_worth sum best is little path here = let m = (best_in sum best is).greatest path here in omega (arith, ints)

  -- else its walk is worth something
  pub some_worth : (sum : ℤ) (best : List ℕ) (legs : List Leg) → IsFirstBest dag (allows_at parts) (weight_at parts) sum best → pos 0 <ℤ sum → legs ≡ walk_of t best → IsWorthWalk t parts (Some legs)
  some_worth sum best legs is above e = (best, sum, best_in sum best is, above, e)

  -- whether it is worth something
  pub tell_worth : (sum : ℤ) (best : List ℕ) → IsFirstBest dag (allows_at parts) (weight_at parts) sum best → (b : Bool) → MatchBool b (pos 0 <ℤ sum) (sum ≤ℤ pos 0) → IsWorthPath t parts b best
  tell_worth sum best is true above = (sum, best_in sum best is, above)
  tell_worth sum best is false little = little_worth sum best is little

  -- its arcs lead from the start to an end
  pub best_path : (sum : ℤ) (best : List ℕ) → IsFirstBest dag (allows_at parts) (weight_at parts) sum best → IsPath t.dag (allows_at parts) best
  best_path sum best is = (best_in sum best is).path

-- it is a walk of the bid
pub worth_is_walk : (net : Net) (path : Path) (t : Timed) (parts : List ArcPart) (legs : List Leg) → IsGraphOf net path t → IsWorthWalk t parts (Some legs) → IsWalk net path legs
worth_is_walk net path t parts legs is_graph (arcs, total, best, above, e) = subst (IsWalk net path) (sym e) (is_graph.sound arcs (path_route t parts arcs best.path))

-- what is left is a walk of the bid, or nothing
pub worth_if_walk : (net : Net) (path : Path) (t : Timed) (parts : List ArcPart) (walk : Option (List Leg)) → IsGraphOf net path t → IsWorthWalk t parts walk → IfSome walk (IsWalk net path)
worth_if_walk net path t parts None is_graph is = tt
worth_if_walk net path t parts (Some legs) is_graph is = worth_is_walk net path t parts legs is_graph is

-- the walk of a path that was found
pub found_walk : (t : Timed) (parts : List ArcPart) (found : Bool) (path : List ℕ) → IsWorthPath t parts found path → IsWorthWalk t parts (walk_found t found path)
found_walk t parts true path is = (path, is.0, is.1, is.2, refl)
found_walk t parts false path is = is

-- it is a route
pub found_route : (t : Timed) (parts : List ArcPart) (found : Bool) (path : List ℕ) → found ≡ true → IsWorthPath t parts found path → IsRoute t path
found_route t parts true path e is = path_route t parts path is.1.path
found_route t parts false path e is = cc

-- a table has one graph
pub one_graph : {R : Type 0} (kept : ArcTables R) (number : ℕ) (t u : Timed) → IsTableGraph kept number t → IsTableGraph kept number u → t ≡ u
one_graph kept number t u a b = sym a.2 ∙ ap (λ (x : BidTable). x.graph.now) (same_Some a.0 b.0 (sym a.1 ∙ b.1)) ∙ b.2

-- the reply of a path with arcs is its walk
pub reply_some : (t : Timed) (path : List ℕ) → (path ≡ [] → ⊥) → path_reply t path ≡ Some (walk_of t path)
reply_some t [] some = absurd (some refl)
reply_some t (k ∷ arcs) some = refl

pub found_none : (t : Timed) (path : List ℕ) (found : Bool) → found ≡ false → walk_found t found path ≡ None
found_none t path false e = refl
found_none t path true e = cc

pub found_some : (t : Timed) (path : List ℕ) (found : Bool) → found ≡ true → walk_found t found path ≡ Some (walk_of t path)
found_some t path true e = refl
found_some t path false e = cc
