-- Uses of rows by their numbers, added one after the other.
use Rattle.std.proofs.Common.{◌≡◌, ℕ, zero, suc, ◌+◌, ◌-◌, ◌≤◌, ◌<◌, Bool, cond, List, [], ◌∷◌, length, take, drop, set, get_or, ◌++◌, replicate, Vec, Global, Some, slice_get, refl, sym, ap, ◌∙◌, subst, arith, inl, inr}
use Rattle.std.specs.Prelude.{All, ℤ, slice_index, slice_index_or}
use Rattle.std.specs.List.{slice_range}
use Rattle.std.proofs.lemmas.Bool.{cases_lt, cases_eq}
use Rattle.std.proofs.lemmas.Bool.Decides.{eqb_tells}
use Rattle.std.proofs.lemmas.List.{length-set, get_or_past, get_or-set_same, get_or-set_other}
use Rattle.std.proofs.lemmas.List.Elements.{All-nil, All-cons}
use Rattle.std.proofs.lemmas.List.Sums.{sum_by-take-drop, sum_by_more, sum_by_push}
use Rattle.std.proofs.lemmas.Option.{none-some, same_Some, slice_get-get_or}
use Rattle.optra_dag.specs.Paths.{Graph, LeadsToEnd, to_of}
use Rattle.optra_prices.specs.Arcs.{IsFound}
use Rattle.optra_prices.specs.NarrowTouches.{touch_of}
use Rattle.optra_prices.specs.Tables.{allows_by, weight_by, no_arc}
use Rattle.optra_prices.specs.Standings.{Stands, IsSound}
use Rattle.optra_prices.specs.Uses.{touch_use, touch_uses, arc_touches, touches_at, path_uses, list_uses, spans_use, rows_use, all_uses, lists_of, lists_in, AreEmpty, AreUses, AreCounted, AddsUses, TakesUses, CountsList, HasGroups}
use Rattle.optra_prices.specs.ArcTerms.{ArcTerm}
use Rattle.optra_prices.specs.declared.numbering.BidTable.{BidTable}
use Rattle.optra_prices.specs.declared.numbering.Groups.{Groups}
use Rattle.optra_prices.specs.declared.numbering.Standing.{Standing}
use Rattle.optra_prices.specs.declared.touch.Touch.{Touch}
use Rattle.optra_prices.proofs.StandLemmas.{set_other, set_length}

-- one use that is set to more, or to less, is what its touch adds or takes
pub touch_adds : (touch : Touch) (old new : List ℕ) → new ≡ set old touch.row (get_or old touch.row 0 + touch.uses) → AddsUses (touch_use touch) old new
touch_adds touch old new is = record {
  count = ap length is ∙ length-set old touch.row _;
  each = λ n l. ap (λ (xs : List ℕ). get_or xs n 0) is ∙ elim (eqb_tells touch.row n) as (λ _. get_or (set old touch.row (get_or old touch.row 0 + touch.uses)) n 0 ≡ get_or old n 0 + touch_use touch n) [
    | inl (test, same) ↦
        let used = ap (λ (b : Bool). cond b touch.uses 0) test in
        subst (λ (m : ℕ). get_or (set old touch.row (get_or old touch.row 0 + touch.uses)) m 0 ≡ get_or old m 0 + touch_use touch n) same
        (get_or-set_same old touch.row _ 0 (omega arith) ∙ ap (λ (m : ℕ). get_or old touch.row 0 + m) (sym used))
    | inr (test, other) ↦
        let used = ap (λ (b : Bool). cond b touch.uses 0) test in
        let before = get_or-set_other old touch.row n (get_or old touch.row 0 + touch.uses) 0 (λ e. other (sym e)) in
        omega arith
  ];
}

pub touch_takes : (touch : Touch) (old new : List ℕ) → new ≡ set old touch.row (get_or old touch.row 0 - touch.uses) → TakesUses (touch_use touch) old new
touch_takes touch old new is = record {
  count = ap length is ∙ length-set old touch.row _;
  each = λ n l. ap (λ (xs : List ℕ). get_or xs n 0) is ∙ elim (eqb_tells touch.row n) as (λ _. get_or (set old touch.row (get_or old touch.row 0 - touch.uses)) n 0 ≡ get_or old n 0 - touch_use touch n) [
    | inl (test, same) ↦
        let used = ap (λ (b : Bool). cond b touch.uses 0) test in
        subst (λ (m : ℕ). get_or (set old touch.row (get_or old touch.row 0 - touch.uses)) m 0 ≡ get_or old m 0 - touch_use touch n) same
        (get_or-set_same old touch.row _ 0 (omega arith) ∙ ap (λ (m : ℕ). get_or old touch.row 0 - m) (sym used))
    | inr (test, other) ↦
        let used = ap (λ (b : Bool). cond b touch.uses 0) test in
        let before = get_or-set_other old touch.row n (get_or old touch.row 0 - touch.uses) 0 (λ e. other (sym e)) in
        omega arith
  ];
}

-- uses and more uses
pub adds_on : (old mid new : List ℕ) (extra more whole : ℕ → ℕ) → ((n : ℕ) → extra n + more n ≡ whole n) → AddsUses extra old mid → AddsUses more mid new → AddsUses whole old new
adds_on old mid new extra more whole same a b = record {
  count = b.count ∙ a.count;
  each = λ n l. let c = a.count in let x = a.each n l in let y = b.each n (omega arith) in let z = same n in omega arith;
}

pub takes_on : (old mid new : List ℕ) (extra more whole : ℕ → ℕ) → ((n : ℕ) → extra n + more n ≡ whole n) → TakesUses extra old mid → TakesUses more mid new → TakesUses whole old new
takes_on old mid new extra more whole same a b = record {
  count = b.count ∙ a.count;
  each = λ n l. let c = a.count in let x = a.each n l in let y = b.each n (omega arith) in let z = same n in omega arith;
}

-- each arc has a group; past the last one it is that without a touch
pub arc_grouped : (groups : Groups) (table : BidTable) (k : ℕ) → HasGroups groups table → (slice_index_or table.arcs k no_arc).group + 1 < length groups.starts.items
arc_grouped groups table k has = elim (cases_lt k (length table.arcs)) as (λ _. (slice_index_or table.arcs k no_arc).group + 1 < length groups.starts.items) [
  | inl within ↦ has.within k no_arc within
  | inr past ↦
      let none = ap (λ (arc : ArcTerm). arc.group) (get_or_past table.arcs k no_arc past) in
      let two = has.are.two in
      omega arith
]

-- one more arc
pub path_more : (groups : Groups) (table : BidTable) (path : List ℕ) (i d n : ℕ) → i < length path
    → path_uses groups table (take i path) n + touch_uses (arc_touches groups table (get_or path i d)) n ≡ path_uses groups table (take (i + 1) path) n
path_more groups table path i d n l = let m = sum_by_more (λ (k : ℕ). touch_uses (arc_touches groups table k) n) path i d l in omega arith

-- past the last group nothing is touched
pub none_past : (groups : Groups) (g : ℕ) → length groups.starts.items ≤ g + 1 → touches_at groups g ≡ []
none_past groups g past =
    let starts = groups.starts.items in
    let end : slice_index starts (g + 1) ≡ 0 = get_or_past starts (g + 1) 0 past in
    let none : slice_index starts (g + 1) - slice_index starts g ≡ 0 = omega arith in
    ap (λ (k : ℕ). take k (drop (slice_index starts g) groups.touches)) none

-- one more group
pub list_more : (groups : Groups) (list : List ℕ) (i d n : ℕ) → i < length list
    → list_uses groups (take i list) n + touch_uses (touches_at groups (get_or list i d)) n ≡ list_uses groups (take (i + 1) list) n
list_more groups list i d n l = let m = sum_by_more (λ (g : ℕ). touch_uses (touches_at groups g) n) list i d l in omega arith

-- groups by the first ones and the others
pub list_split : (groups : Groups) (list : List ℕ) (i n : ℕ) → list_uses groups (take i list) n + list_uses groups (drop i list) n ≡ list_uses groups list n
list_split groups list i n = sum_by-take-drop (λ (g : ℕ). touch_uses (touches_at groups g) n) list i

-- one more row that is used once
pub rows_more : (rows : List ℕ) (i d n : ℕ) → i < length rows → rows_use (take i rows) n + touch_use (touch_of (get_or rows i d)) n ≡ rows_use (take (i + 1) rows) n
rows_more rows i d n l = let m = sum_by_more (λ (row : ℕ). touch_use (touch_of row) n) rows i d l in omega arith

-- the part of one more group
pub span_more : (groups : Groups) (list : List ℕ) (spans : List (ℕ × ℕ)) (span : ℕ × ℕ) (i d n : ℕ) → i < length list
    → slice_range groups.touches span.0 span.1 ≡ touches_at groups (get_or list i d) → spans_use groups.touches spans n ≡ list_uses groups (take i list) n
    → spans_use groups.touches (spans ++ span ∷ []) n ≡ list_uses groups (take (i + 1) list) n
span_more groups list spans span i d n l is before =
    let m = list_more groups list i d n l in
    let both = sum_by_push (λ (s : ℕ × ℕ). touch_uses (slice_range groups.touches s.0 s.1) n) spans span in
    let here = ap (λ (ts : List Touch). touch_uses ts n) is in
    omega arith

-- the groups that two paths share stay counted
pub counted_on_start : (groups : Groups) (before list old new : List ℕ) (i : ℕ) → take i before ≡ take i list → CountsList groups (drop i before) (drop i list) old new → CountsList groups before list old new
counted_on_start groups before list old new i same counts = record {
  count = counts.count;
  each = λ n l few.
      let a = list_split groups before i n in
      let b = list_split groups list i n in
      let e = ap (λ (gs : List ℕ). list_uses groups gs n) same in
      let u = counts.each n l (omega arith) in
      omega arith;
}

-- another path of one bid
pub all_set : (groups : Groups) (lists : List (List ℕ)) (i : ℕ) (before list : List ℕ) (n : ℕ) → slice_get lists i ≡ Some before
    → all_uses groups (set lists i list) n + list_uses groups before n ≡ all_uses groups lists n + list_uses groups list n
all_set groups [] i before list n at = absurd (none-some before at)
all_set groups (x ∷ lists) zero before list n at =
    let same = ap (λ (gs : List ℕ). list_uses groups gs n) (same_Some x before at) in
    omega arith
all_set groups (x ∷ lists) (suc i) before list n at = let h = all_set groups lists i before list n at in omega arith

-- the path of a bid uses no more than all
pub all_has : (groups : Groups) (lists : List (List ℕ)) (i : ℕ) (list : List ℕ) (n : ℕ) → slice_get lists i ≡ Some list → list_uses groups list n ≤ all_uses groups lists n
all_has groups [] i list n at = absurd (none-some list at)
all_has groups (x ∷ lists) zero list n at =
    let same = ap (λ (gs : List ℕ). list_uses groups gs n) (same_Some x list at) in
    omega arith
all_has groups (x ∷ lists) (suc i) list n at = let h = all_has groups lists i list n at in omega arith

-- one more path is counted
pub uses_more : (groups : Groups) (lists : List (List ℕ)) (i : ℕ) (before list old new : List ℕ) → slice_get lists i ≡ Some before → AreUses groups lists old → CountsList groups before list old new → AreUses groups (set lists i list) new
uses_more groups lists i before list old new at are counts n l =
    let c = counts.count in
    let here = are n (omega arith) in
    let most = all_has groups lists i before n at in
    let each = counts.each n (omega arith) (omega arith) in
    let whole = all_set groups lists i before list n at in
    omega arith

-- paths without a group use nothing
pub uses_none : (groups : Groups) (lists : List (List ℕ)) (n : ℕ) → AreEmpty lists → all_uses groups lists n ≡ 0
uses_none groups [] n empty = refl
uses_none groups (list ∷ lists) n empty =
    let here : list_uses groups list n ≡ 0 = ap (λ (gs : List ℕ). list_uses groups gs n) (empty 0) in
    let rest = uses_none groups lists n (λ k. empty (suc k)) in
    omega arith

pub empty_all : (count : ℕ) → AreEmpty (replicate count [])
empty_all zero n = refl
empty_all (suc count) zero = refl
empty_all (suc count) (suc n) = empty_all count n

-- one more path has no arc
pub empty_set : (paths : List (List ℕ)) (k n : ℕ) → (n < k → slice_index_or paths n [] ≡ []) → n < k + 1 → k < length paths → slice_index_or (set paths k []) n [] ≡ []
empty_set paths k n before l within = elim (cases_eq n k) as (λ _. slice_index_or (set paths k []) n [] ≡ []) [
  | inl same ↦ ap (λ (i : ℕ). slice_index_or (set paths k []) i []) same ∙ get_or-set_same paths k [] [] within
  | inr apart ↦ get_or-set_other paths k n [] [] apart ∙ before (omega arith)
]

-- ---- paths that are counted bid by bid
-- one more path is that of the reply
pub same_more : (xs ys : List (List ℕ)) (k n : ℕ) (y : List ℕ) → (n < k → slice_get xs n ≡ slice_get ys n) → slice_get ys k ≡ Some y → k < length xs → n < k + 1 → slice_get (set xs k y) n ≡ slice_get ys n
same_more xs ys k n y before at l within = elim (cases_eq n k) as (λ _. slice_get (set xs k y) n ≡ slice_get ys n) [
  | inl same ↦
      let here = slice_get-get_or (set xs k y) k [] (let count = set_length xs k y in omega arith) ∙ ap Some (get_or-set_same xs k y [] l) in
      ap (slice_get (set xs k y)) same ∙ here ∙ sym at ∙ ap (slice_get ys) (sym same)
  | inr apart ↦ set_other xs k n y apart ∙ before (omega arith)
]

pub same_all : (xs ys : List (List ℕ)) → length xs ≡ length ys → ((n : ℕ) → n < length xs → slice_get xs n ≡ slice_get ys n) → xs ≡ ys
same_all [] [] count same = refl
same_all [] (y ∷ ys) count same = absurd (omega arith)
same_all (x ∷ xs) [] count same = absurd (omega arith)
same_all (x ∷ xs) (y ∷ ys) count same =
    let e : x ≡ y = same_Some x y (same 0 (omega arith)) in
    let t : xs ≡ ys = same_all xs ys (omega arith) (λ n l. same (suc n) (omega arith)) in
    λ i. e i ∷ t i

pub list_in : (counted : List (Vec ℕ Global)) (n : ℕ) (list : Vec ℕ Global) → slice_get counted n ≡ Some list → slice_get (lists_in counted) n ≡ Some list.items
list_in [] n list at = absurd (none-some list at)
list_in (x ∷ counted) zero list at = ap (λ (v : Vec ℕ Global). Some v.items) (same_Some x list at)
list_in (x ∷ counted) (suc n) list at = list_in counted n list at

pub list_of : (standings : List Standing) (n : ℕ) (standing : Standing) → slice_get standings n ≡ Some standing → slice_get (lists_of standings) n ≡ Some standing.groups.items
list_of [] n standing at = absurd (none-some standing at)
list_of (x ∷ standings) zero standing at = ap (λ (s : Standing). Some s.groups.items) (same_Some x standing at)
list_of (x ∷ standings) (suc n) standing at = list_of standings n standing at

-- what no path uses isn't used
pub none_counted : (groups : Groups) (count : ℕ) (lists : List (List ℕ)) (uses : List ℕ) → length lists ≡ count → AreEmpty lists → ((n : ℕ) → slice_index uses n ≡ 0) → AreCounted groups count lists uses
none_counted groups count lists uses count_is empty unused = record { count_is = count_is; uses_are = λ n l. unused n ∙ sym (uses_none groups lists n empty) }

leads_within : (g : Graph) (allows : ℕ → Bool) (n : ℕ) (path : List ℕ) → LeadsToEnd g allows n path → All (λ k. k < length g.arcs) path
leads_within g allows n [] h = All-nil (λ (k : ℕ). k < length g.arcs)
leads_within g allows n (k ∷ path) h = All-cons (λ (j : ℕ). j < length g.arcs) k path h.0 (leads_within g allows (to_of g k) path h.3)

-- the arcs of a reply's path have groups
pub path_within : (table : BidTable) (prices : List ℤ) (standing : Standing) → IsSound table → Stands table prices standing → All (λ k. k < length table.arcs) standing.path.items
path_within table prices standing sound stands = by stands.found
  where
    none : standing.path.items ≡ [] → All (λ k. k < length table.arcs) standing.path.items
    none e = subst (All (λ (k : ℕ). k < length table.arcs)) (sym e) (All-nil (λ (k : ℕ). k < length table.arcs))

    by : IsFound table.graph.now.dag (allows_by table.arcs) (weight_by table.arcs prices) table.forced standing.path.items standing.term standing.stuck → All (λ k. k < length table.arcs) standing.path.items
    by (inl nowhere) = none nowhere.path_is
    by (inr (inl nothing)) = none nothing.path_is
    by (inr (inr found)) =
        subst (λ (count : ℕ). All (λ (k : ℕ). k < count) standing.path.items) sound.count (leads_within table.graph.now.dag (allows_by table.arcs) 0 standing.path.items found.best.path.leads)
