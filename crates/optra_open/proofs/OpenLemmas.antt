-- An open node, with one decision more and one less.
use Rattle.std.proofs.Common.{◌≡◌, ℕ, zero, suc, ◌+◌, ◌*◌, ◌<◌, ◌≤◌, Bool, true, false, cond, List, [], ◌∷◌, ◌++◌, length, get_or, Option, Some, None, slice_get, refl, sym, ap, ◌∙◌, subst, arith}
use Rattle.std.specs.Prelude.{All, IsSome}
use Rattle.std.specs.declared.cmp.Ordering.{Ordering}
use Rattle.std.specs.BTreeMap.{BTreeMap}
use Rattle.std.proofs.lemmas.Bool.{false≢true}
use Rattle.std.proofs.lemmas.List.{length-append}
use Rattle.std.proofs.lemmas.List.Elements.{All-head, All-tail}
use Rattle.std.proofs.lemmas.List.Sums.{sum_by-append, sum_by-cons}
use Rattle.optra_network.specs.Net.{IsProper, Net, MayUse, times_of}
use Rattle.std.specs.Option.{option_map_or}
use Rattle.optra_network.specs.declared.Times.{Times}
use Rattle.optra_network.specs.declared.TypeId.{TypeId}
use Rattle.optra_bid.specs.declared.bids.Bid.{Bid}
use Rattle.optra_walk.specs.declared.Leg.{Leg}
use Rattle.optra_walk.specs.Families.{Rows, IsUsable, ListsRows, total_of}
use Rattle.optra_node.specs.declared.Decision.{Decision}
use Rattle.optra_node.specs.Nodes.{IsNode, IsFormedLeg, IsFormedDecision, IsUndecided, DecideApart, uses_at, yes_uses, yes_load}
use Rattle.optra_open.specs.Beside.{AreLoads}
use Rattle.optra_node.proofs.NodeLemmas.{child_is_node}
use Rattle.optra_node.proofs.RowLemmas.{uses_few}
use Rattle.optra_open.specs.declared.decision_index.DecisionIndex.{DecisionIndex}
use Rattle.optra_open.specs.Opens.{IsIndexOf, IsOpen}

last_of : (node : List Decision) (d e : Decision) → get_or (node ++ d ∷ []) (length node) e ≡ d
last_of [] d e = refl
last_of (x ∷ node) d e = last_of node d e

earlier : (node : List Decision) (d e : Decision) (k : ℕ) → k < length node → get_or (node ++ d ∷ []) k e ≡ get_or node k e
earlier [] d e k l = absurd (omega arith)
earlier (x ∷ node) d e zero l = refl
earlier (x ∷ node) d e (suc k) l = earlier node d e k (omega arith)

-- a node without its last decision
pub record IsBehind (net : Net) (bids : ℕ) (node : List Decision) (d : Decision) : Type 0 where
  pub is_node : IsNode net bids node
  pub formed : IsFormedDecision net bids d
  pub undecided : IsUndecided node d.bid d.leg

pub behind : (net : Net) (bids : ℕ) (node : List Decision) (d : Decision) → IsNode net bids (node ++ d ∷ []) → IsBehind net bids node d
behind net bids node d is = record {
  is_node = record {
    formed = λ k e l. subst (IsFormedDecision net bids) (earlier node d e k l) (is.formed k e (omega (arith, length-append node (d ∷ []))));
    once = λ i j e l m.
        let li : i < length node = omega arith in
        subst (λ a. DecideApart a (get_or node j e)) (earlier node d e i li)
        (subst (DecideApart (get_or (node ++ d ∷ []) i e)) (earlier node d e j m) (is.once i j e l (omega (arith, length-append node (d ∷ [])))));
  };
  formed = subst (IsFormedDecision net bids) (last_of node d d) (is.formed (length node) d (omega (arith, length-append node (d ∷ []))));
  undecided = λ k e l.
      subst (λ b. DecideApart b d) (earlier node d e k l) (subst (DecideApart (get_or (node ++ d ∷ []) k e)) (last_of node d e) (is.once k (length node) e l (omega (arith, length-append node (d ∷ [])))));
}

module _ {R : Type 0} (rows : Rows R) (bids : List Bid) where
  -- the load with one decision more
  pub load_push : (node : List Decision) (d : Decision) (row : R) → yes_load rows bids (node ++ d ∷ []) row ≡ yes_load rows bids node row + yes_uses rows bids row d
  load_push node d row =
      let f = λ (e : Decision). cond e.yes (uses_at rows bids row e.bid e.leg) 0 in
      let a = sum_by-append f node (d ∷ []) in
      let one = sum_by-cons f d [] in
      omega arith

  -- each decision adds little, so the load is small
  pub load_few : (node : List Decision) (row : R) → All (λ d. yes_uses rows bids row d ≤ 8192) node → yes_load rows bids node row ≤ 8192 * length node
  load_few [] row h = omega arith
  load_few (d ∷ ds) row h =
      let P = λ (d : Decision). yes_uses rows bids row d ≤ 8192 in
      let f = λ (e : Decision). cond e.yes (uses_at rows bids row e.bid e.leg) 0 in
      let s = sum_by-cons f d ds in
      let here = All-head P d ds h in
      let rest = load_few ds row (All-tail P d ds h) in
      omega arith

-- a decision's leg uses little of each row, by the laws of a family
module _ {R : Type 0} (cmp : R → R → Ordering) (net : Net) (proper : IsProper net) (rows : Rows R) (used : TypeId → Leg → List R) (lists : (kind : TypeId) (leg : Leg) → IsUsable net kind leg → ListsRows cmp rows.is_row (rows.uses kind leg) (used kind leg)) (unusable : (kind : TypeId) (leg : Leg) (row : R) → (MayUse net leg.track kind → ⊥) → rows.uses kind leg row ≡ 0) (bids : List Bid) where
  leg_few : (kind : TypeId) (leg : Leg) (row : R) → IsFormedLeg net leg → rows.uses kind leg row ≤ 8192
  leg_few kind leg row formed = by (times_of net leg.track kind) refl
    where
      by : (o : Option Times) → times_of net leg.track kind ≡ o → rows.uses kind leg row ≤ 8192
      by None e = let none = unusable kind leg row (λ m. false≢true (subst IsSome e m)) in omega arith
      by (Some t) e =
          uses_few cmp rows.is_row (rows.uses kind leg) (used kind leg)
          (lists kind leg (record { proper = proper; may_use = subst IsSome (sym e) refl; depart = formed.depart; dwell = formed.dwell })) row

  pub decision_few : (row : R) (d : Decision) → IsFormedDecision net (length bids) d → yes_uses rows bids row d ≤ 8192
  decision_few row d formed = by d.yes (slice_get bids d.bid)
    where
      by : (y : Bool) (o : Option Bid) → cond y (option_map_or (λ b. rows.uses b.path.kind d.leg row) o 0) 0 ≤ 8192
      by true None = omega arith
      by true (Some b) = leg_few b.path.kind d.leg row formed.formed
      by false o = omega arith

  -- the totals of a node are small
  pub totals_few : (node : List Decision) → All (IsFormedDecision net (length bids)) node → (row : R) → yes_load rows bids node row ≤ 8192 * length node
  totals_few node formed row = load_few rows bids node row (λ k e l. decision_few row (get_or node k e) (formed k e l))

-- the root has nothing
pub open_root : {R : Type 0} (cmp : R → R → Ordering) (net : Net) (rows : Rows R) (bids : List Bid) (totals : BTreeMap R ℕ) (index : DecisionIndex) → ((row : R) → total_of cmp totals row ≡ 0)
    → IsIndexOf (length bids) [] index → IsOpen cmp net rows bids [] totals index
open_root cmp net rows bids totals index none indexed = record {
  is_node = record { formed = λ k e l. absurd (omega (arith, l)); once = λ i j e l m. absurd (omega (arith, l, m)) };
  loads = none;
  few = λ row. let z = none row in omega (arith, z);
  indexed = indexed;
}

module _ {R : Type 0} (cmp : R → R → Ordering) (net : Net) (rows : Rows R) (bids : List Bid) (d : Decision) where
  pub open_push : (node node' : List Decision) (totals totals' : BTreeMap R ℕ) (index index' : DecisionIndex) → node' ≡ node ++ d ∷ []
      → IsOpen cmp net rows bids node totals index → IsFormedDecision net (length bids) d → IsUndecided node d.bid d.leg
      → ((q : R) → total_of cmp totals' q ≡ total_of cmp totals q + yes_uses rows bids q d) → ((q : R) → yes_uses rows bids q d ≤ 8192)
      → IsIndexOf (length bids) (node ++ d ∷ []) index' → IsOpen cmp net rows bids node' totals' index'
  open_push node node' totals totals' index index' is before formed fresh added little indexed = record {
    is_node = child_is_node net (length bids) node node' d is fresh before.is_node formed;
    loads = λ row. added row ∙ ap (λ n. n + yes_uses rows bids row d) (before.loads row) ∙ sym (load_push rows bids node d row) ∙ ap (λ n. yes_load rows bids n row) (sym is);
    few = λ row. let a = added row in let b = before.few row in let u = little row in let l : length node' ≡ length node + 1 = ap length is ∙ length-append node (d ∷ []) in omega arith;
    indexed = subst (λ n. IsIndexOf (length bids) n index') (sym is) indexed;
  }

  pub open_pop : (node node' : List Decision) (totals totals' : BTreeMap R ℕ) (index index' : DecisionIndex) → node ≡ node' ++ d ∷ []
      → IsOpen cmp net rows bids node totals index → ((q : R) → yes_load rows bids node' q ≤ 8192 * length node')
      → ((q : R) → total_of cmp totals' q + yes_uses rows bids q d ≡ total_of cmp totals q)
      → IsIndexOf (length bids) node' index' → IsOpen cmp net rows bids node' totals' index'
  open_pop node node' totals totals' index index' is before small taken indexed = record {
    is_node = (behind net (length bids) node' d (subst (IsNode net (length bids)) is before.is_node)).is_node;
    loads = same;
    few = λ row. let s = same row in let w = small row in omega arith;
    indexed = indexed;
  }
    where
      same : AreLoads cmp rows bids node' totals'
      same row =
          let t = taken row in
          let w : total_of cmp totals row ≡ yes_load rows bids node' row + yes_uses rows bids row d = before.loads row ∙ ap (λ n. yes_load rows bids n row) is ∙ load_push rows bids node' d row in
          omega arith

  -- what is taken away is there
  pub enough : (node node' : List Decision) (totals : BTreeMap R ℕ) → node ≡ node' ++ d ∷ [] → AreLoads cmp rows bids node totals → (q : R) → yes_uses rows bids q d ≤ total_of cmp totals q
  enough node node' totals is loads q =
      let w : total_of cmp totals q ≡ yes_load rows bids node' q + yes_uses rows bids q d = loads q ∙ ap (λ n. yes_load rows bids n q) is ∙ load_push rows bids node' d q in omega arith
