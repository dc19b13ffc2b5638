-- Uses of rows by their numbers are what the replies use.
use Rattle.std.proofs.Common.{◌≡◌, ℕ, suc, ◌+◌, ◌<◌, Bool, true, false, cond, List, [], ◌∷◌, map, length, get_or, sum_by, Option, Some, None, slice_get, refl, sym, ap, ◌∙◌, arith, inl, inr}
use Rattle.std.specs.Prelude.{All, Contains, ℤ}
use Rattle.std.specs.declared.cmp.Ordering.{Ordering}
use Rattle.std.specs.Ordering.{is_eq, eq_by_cmp}
use Rattle.std.specs.Cmp.{IsTotalOrder}
use Rattle.std.proofs.lemmas.Bool.{cases_Bool, cases_lt}
use Rattle.std.proofs.lemmas.Bool.Decides.{eqb_tells}
use Rattle.std.proofs.lemmas.Cmp.{tied_itself}
use Rattle.std.proofs.lemmas.List.Elements.{All-head, All-tail}
use Rattle.std.proofs.lemmas.List.Sums.{sum_by-cons, sum_by-append}
use Rattle.std.proofs.lemmas.Option.{same_Some, slice_get-get_or}
use Rattle.optra_network.specs.Net.{IsProper}
use Rattle.optra_network.specs.declared.TypeId.{TypeId}
use Rattle.optra_bid.specs.declared.bids.Bid.{Bid}
use Rattle.optra_walk.specs.declared.Leg.{Leg}
use Rattle.optra_walk.specs.Families.{Rows, Entry, IsUsable, ListsRows, TellsApart, load_of, entries_of}
use Rattle.optra_graph.specs.Timed.{Timed, IsRoute, IsLegArc, leg_of, leg_at, start_of}
use Rattle.optra_node.proofs.LoadLemmas.{contains_cases}
use Rattle.optra_node.proofs.RowLemmas.{equal_is}
use Rattle.optra_node.proofs.SumLemmas.{sum_by-map}
use Rattle.optra_prices.specs.Arcs.{path_reply}
use Rattle.optra_prices.specs.Holdings.{entries_one, part_of}
use Rattle.optra_prices.specs.Tables.{AreTouches, no_arc}
use Rattle.optra_prices.specs.Terms.{Setting, AreBidArcs}
use Rattle.optra_prices.specs.Standings.{AreTables, AllStand, IsSound, replies_of}
use Rattle.optra_prices.specs.Uses.{touch_use, touch_uses, arc_touches, touches_at, path_uses, list_uses, all_uses, lists_of}
use Rattle.optra_prices.specs.declared.numbering.BidTable.{BidTable}
use Rattle.optra_prices.specs.declared.numbering.Groups.{Groups}
use Rattle.optra_prices.specs.declared.numbering.Standing.{Standing}
use Rattle.optra_prices.specs.declared.touch.Touch.{Touch}
use Rattle.optra_prices.proofs.ArcLemmas.{leg_there}
use Rattle.optra_prices.proofs.HoldLemmas.{part_all}
use Rattle.optra_prices.proofs.ListLemmas.{all_at}
use Rattle.optra_prices.proofs.TermLemmas.{arc_usable}
use Rattle.optra_prices.proofs.UseLemmas.{path_within}
use Rattle.optra_prices.proofs.ValueOfLemmas.{path_route}

-- touches of a row with a number are uses of the row
touch_part : {R : Type 0} (cmp : R → R → Ordering) (total : IsTotalOrder cmp) (apart : TellsApart cmp) (numbered : List R) (once : (i j : ℕ) (row : R) → slice_get numbered i ≡ Some row → slice_get numbered j ≡ Some row → i ≡ j)
    (uses : R → ℕ) (n : ℕ) (row : R) → slice_get numbered n ≡ Some row → (touches : List Touch) (used : List R) → AreTouches numbered uses touches used → touch_uses touches n ≡ part_of cmp uses used row
touch_part cmp total apart numbered once uses n row at [] [] are = refl
touch_part cmp total apart numbered once uses n row at [] (r ∷ used) are = absurd are
touch_part cmp total apart numbered once uses n row at (touch ∷ touches) [] are = absurd are
touch_part {R} cmp total apart numbered once uses n row at (touch ∷ touches) (r ∷ used) are =
    let a = sum_by-cons (λ (t : Touch). touch_use t n) touch touches in
    let b = sum_by-cons (λ (x : R). cond (eq_by_cmp cmp x row) (uses x) 0) r used in
    let i = touch_part cmp total apart numbered once uses n row at touches used are.1 in
    let h = here in
    omega arith
  where
    here : touch_use touch n ≡ cond (eq_by_cmp cmp r row) (uses r) 0
    here = elim (eqb_tells touch.row n) as (λ _. touch_use touch n ≡ cond (eq_by_cmp cmp r row) (uses r) 0) [
      | inl (test, same) ↦
          let same_row : r ≡ row = same_Some r row (sym are.0.number ∙ ap (slice_get numbered) same ∙ at) in
          let tie : eq_by_cmp cmp r row ≡ true = ap (λ (x : R). eq_by_cmp cmp x row) same_row ∙ ap is_eq (tied_itself total row) in
          ap (λ (b : Bool). cond b touch.uses 0) test ∙ are.0.use_is ∙ sym (ap (λ (b : Bool). cond b (uses r) 0) tie)
      | inr (test, other) ↦
          let differs : eq_by_cmp cmp r row ≡ false = elim (cases_Bool (eq_by_cmp cmp r row)) as (λ _. eq_by_cmp cmp r row ≡ false) [
            | inl tie ↦ absurd (other (once touch.row n row (are.0.number ∙ ap Some (apart r row (equal_is (cmp r row) tie))) at))
            | inr no_tie ↦ no_tie
          ] in
          ap (λ (b : Bool). cond b touch.uses 0) test ∙ sym (ap (λ (b : Bool). cond b (uses r) 0) differs)
    ]

-- a row that is used has a number
touch_number : {R : Type 0} (numbered : List R) (uses : R → ℕ) (row : R) (touches : List Touch) (used : List R) → AreTouches numbered uses touches used → Contains used row → (n : ℕ) × (slice_get numbered n ≡ Some row)
touch_number numbered uses row [] [] are has = absurd (omega (arith, has.1))
touch_number numbered uses row [] (r ∷ used) are has = absurd are
touch_number numbered uses row (touch ∷ touches) [] are has = absurd are
touch_number numbered uses row (touch ∷ touches) (r ∷ used) are has = elim (contains_cases r used row has) as (λ _. (n : ℕ) × (slice_get numbered n ≡ Some row)) [
  | inl same ↦ (touch.row, are.0.number ∙ ap Some same)
  | inr later ↦ touch_number numbered uses row touches used are.1 later
]

-- uses by arcs are the load of their legs
arcs_load : {R : Type 0} (rows : Rows R) (row : R) (kind : TypeId) (t : Timed) (spent : ℕ → ℕ) (arcs : List ℕ) → All (λ k. spent k ≡ rows.uses kind (leg_at t k) row) arcs
    → sum_by spent arcs ≡ load_of rows row (map (λ leg. (kind, leg)) (map (leg_at t) arcs))
arcs_load rows row kind t spent [] all = refl
arcs_load rows row kind t spent (k ∷ arcs) all =
    let a = sum_by-cons spent k arcs in
    let b = sum_by-cons (λ (e : Entry). rows.uses e.0 e.1 row) (kind, leg_at t k) (map (λ leg. (kind, leg)) (map (leg_at t) arcs)) in
    let h = All-head (λ (j : ℕ). spent j ≡ rows.uses kind (leg_at t j) row) k arcs all in
    let i = arcs_load rows row kind t spent arcs (All-tail (λ (j : ℕ). spent j ≡ rows.uses kind (leg_at t j) row) k arcs all) in
    omega arith

no_uses : (arcs : List ℕ) → sum_by (λ (k : ℕ). 0) arcs ≡ 0
no_uses [] = refl
no_uses (k ∷ arcs) = let a = sum_by-cons (λ (j : ℕ). 0) k arcs in let i = no_uses arcs in omega arith

all_both : {X : Type 0} (P Q S : X → Type 0) → ((x : X) → P x → Q x → S x) → (xs : List X) → All P xs → All Q xs → All S xs
all_both P Q S h xs p q k d l = h (get_or xs k d) (p k d l) (q k d l)

-- the first bid's legs and those of the others
first_load : {R : Type 0} (rows : Rows R) (row : R) (bid : Bid) (walk : Option (List Leg)) (bids : List Bid) (walks : List (Option (List Leg)))
    → load_of rows row (entries_of (bid ∷ bids) (walk ∷ walks)) ≡ load_of rows row (entries_one bid walk) + load_of rows row (entries_of bids walks)
first_load rows row bid None bids walks = omega arith
first_load rows row bid (Some legs) bids walks = sum_by-append (λ (e : Entry). rows.uses e.0 e.1 row) (map (λ leg. (bid.path.kind, leg)) legs) (entries_of bids walks)

-- how much the paths of the replies use of the row with number n
abbrev paths_use : Groups → List BidTable → List Standing → ℕ → ℕ
paths_use groups [] standings n = 0
paths_use groups (table ∷ tables) [] n = 0
paths_use groups (table ∷ tables) (standing ∷ standings) n = path_uses groups table standing.path.items n + paths_use groups tables standings n

-- as much as their groups
lists_use : (groups : Groups) (n : ℕ) (tables : List BidTable) (prices : List ℤ) (standings : List Standing) → AllStand tables prices standings → all_uses groups (lists_of standings) n ≡ paths_use groups tables standings n
lists_use groups n [] prices [] stand = refl
lists_use groups n [] prices (standing ∷ standings) stand = absurd (let c = stand.count_is in omega arith)
lists_use groups n (table ∷ tables) prices [] stand = refl
lists_use groups n (table ∷ tables) prices (standing ∷ standings) stand =
    let is = (stand.each 0 table standing refl refl).groups_are in
    let here : list_uses groups standing.groups.items n ≡ path_uses groups table standing.path.items n =
    ap (λ (gs : List ℕ). list_uses groups gs n) is ∙ sum_by-map (λ (g : ℕ). touch_uses (touches_at groups g) n) (λ (k : ℕ). (get_or table.arcs k no_arc).group) standing.path.items
    in
    let rest = lists_use groups n tables prices standings (record { count_is = let c = stand.count_is in omega arith; each = λ number t x t_at x_at. stand.each (suc number) t x t_at x_at }) in
    omega arith

module _ {R : Type 0} (cmp : R → R → Ordering) (total : IsTotalOrder cmp) (apart : TellsApart cmp) (s : Setting R) (proper : IsProper s.net)
    (lists : (kind : TypeId) (leg : Leg) → IsUsable s.net kind leg → ListsRows cmp s.rows.is_row (s.rows.uses kind leg) (s.used kind leg)) (numbered : List R) (groups : Groups) where
  module _ (number : ℕ) (bid : Bid) (table : BidTable) (are : AreBidArcs s number bid table.graph.now numbered table.arcs groups.starts.items groups.touches table.forced)
      (path : List ℕ) (within : All (λ k. k < length table.arcs) path) (route : (path ≡ [] → ⊥) → IsRoute table.graph.now path) where
    pub arc_there : (k : ℕ) → k < length table.arcs → slice_get table.arcs k ≡ Some (get_or table.arcs k no_arc)
    arc_there k l = slice_get-get_or table.arcs k no_arc l

    pub leg_touches : (k : ℕ) (leg : Leg) → k < length table.arcs → leg_of table.graph.now k ≡ Some leg → AreTouches numbered (s.rows.uses bid.path.kind leg) (arc_touches groups table k) (s.used bid.path.kind leg)
    leg_touches k leg l at = (are.terms.legs_are k leg (get_or table.arcs k no_arc) (arc_there k l) at).group_is

    pub usable : (k : ℕ) (leg : Leg) → k < length table.arcs → leg_of table.graph.now k ≡ Some leg → IsUsable s.net bid.path.kind leg
    usable k leg l at = arc_usable s.net proper bid table.graph.now are.graph k leg (let n = are.count in omega arith) at

    -- a path by what its arcs use of a row
    path_load : (row : R) (spent : ℕ → ℕ) → ((k minute : ℕ) → k < length table.arcs → start_of table.graph.now k ≡ Some minute → spent k ≡ 0)
        → ((k : ℕ) (leg : Leg) → k < length table.arcs → leg_of table.graph.now k ≡ Some leg → spent k ≡ s.rows.uses bid.path.kind leg row)
        → sum_by spent path ≡ load_of s.rows row (entries_one bid (path_reply table.graph.now path))
    path_load row spent first others = by path within route
      where
        by : (path : List ℕ) → All (λ k. k < length table.arcs) path → ((path ≡ [] → ⊥) → IsRoute table.graph.now path)
            → sum_by spent path ≡ load_of s.rows row (entries_one bid (path_reply table.graph.now path))
        by [] within route = refl
        by (k ∷ arcs) within route =
            let begins = are.graph.begins (k ∷ arcs) (route (λ e. cc)) in
            let a = sum_by-cons spent k arcs in
            let z = first k _ (All-head (λ (j : ℕ). j < length table.arcs) k arcs within) begins.0.0 in
            let rest = arcs_load s.rows row bid.path.kind table.graph.now spent arcs
            (all_both (λ (j : ℕ). j < length table.arcs) (IsLegArc table.graph.now) (λ (j : ℕ). spent j ≡ s.rows.uses bid.path.kind (leg_at table.graph.now j) row)
            (λ j l is. others j (leg_at table.graph.now j) l (leg_there table.graph.now j is.0)) arcs (All-tail (λ (j : ℕ). j < length table.arcs) k arcs within) begins.1) in
            omega arith

    pub numbered_load : (once : (i j : ℕ) (row : R) → slice_get numbered i ≡ Some row → slice_get numbered j ≡ Some row → i ≡ j) (n : ℕ) (row : R) → slice_get numbered n ≡ Some row
        → path_uses groups table path n ≡ load_of s.rows row (entries_one bid (path_reply table.graph.now path))
    numbered_load once n row at = path_load row (λ k. touch_uses (arc_touches groups table k) n)
        (λ k minute l start. ap (λ (touches : List Touch). touch_uses touches n) (are.terms.starts_are k minute (get_or table.arcs k no_arc) (arc_there k l) start).group_is)
        (λ k leg l is.
        let listed = lists bid.path.kind leg (usable k leg l is) in
        touch_part cmp total apart numbered once (s.rows.uses bid.path.kind leg) n row at (arc_touches groups table k) (s.used bid.path.kind leg) (leg_touches k leg l is)
        ∙ part_all cmp total apart s.rows.is_row (s.rows.uses bid.path.kind leg) (s.used bid.path.kind leg) listed.ascending listed.used row)

    pub unnumbered_load : (row : R) → ((n : ℕ) → slice_get numbered n ≡ Some row → ⊥) → load_of s.rows row (entries_one bid (path_reply table.graph.now path)) ≡ 0
    unnumbered_load row none = sym (path_load row (λ k. 0) (λ k minute l start. refl) (λ k leg l is.
        elim (cases_lt 0 (s.rows.uses bid.path.kind leg row)) as (λ _. 0 ≡ s.rows.uses bid.path.kind leg row) [
          | inl some ↦
              let listed = lists bid.path.kind leg (usable k leg l is) in
              let place = touch_number numbered (s.rows.uses bid.path.kind leg) row (arc_touches groups table k) (s.used bid.path.kind leg) (leg_touches k leg l is) ((listed.used row).0 some) in
              absurd (none place.0 place.1)
          | inr little ↦ omega arith
        ])) ∙ no_uses path

  -- the replies by what their paths use of a row
  by_bids : (row : R) (spent : BidTable → List ℕ → ℕ) (sum : List BidTable → List Standing → ℕ) → ((standings : List Standing) → sum [] standings ≡ 0)
      → ((table : BidTable) (tables : List BidTable) (standing : Standing) (standings : List Standing) → sum (table ∷ tables) (standing ∷ standings) ≡ spent table standing.path.items + sum tables standings)
      → (bids : List Bid) (tables : List BidTable) (standings : List Standing) → length tables ≡ length bids → length standings ≡ length tables
      → ((number : ℕ) (bid : Bid) (table : BidTable) (standing : Standing) → slice_get bids number ≡ Some bid → slice_get tables number ≡ Some table → slice_get standings number ≡ Some standing
      → spent table standing.path.items ≡ load_of s.rows row (entries_one bid (path_reply table.graph.now standing.path.items)))
      → sum tables standings ≡ load_of s.rows row (entries_of bids (replies_of tables standings))
  by_bids row spent sum none more [] [] standings m n each = none standings
  by_bids row spent sum none more [] (table ∷ tables) standings m n each = absurd (omega arith)
  by_bids row spent sum none more (bid ∷ bids) [] standings m n each = absurd (omega arith)
  by_bids row spent sum none more (bid ∷ bids) (table ∷ tables) [] m n each = absurd (omega arith)
  by_bids row spent sum none more (bid ∷ bids) (table ∷ tables) (standing ∷ standings) m n each =
      let a = more table tables standing standings in
      let b = first_load s.rows row bid (path_reply table.graph.now standing.path.items) bids (replies_of tables standings) in
      let h = each 0 bid table standing refl refl refl in
      let i = by_bids row spent sum none more bids tables standings (omega arith) (omega arith) (λ number b t x b_at t_at x_at. each (suc number) b t x b_at t_at x_at) in
      omega arith

  module _ (tables : List BidTable) (prices : List ℤ) (standings : List Standing) (are : AreTables s (length s.bids) numbered groups tables) (sound : All IsSound tables) (stand : AllStand tables prices standings) where
    -- the uses by number of a row are what the replies use of it
    pub uses_load : (once : (i j : ℕ) (row : R) → slice_get numbered i ≡ Some row → slice_get numbered j ≡ Some row → i ≡ j) (n : ℕ) (row : R) → slice_get numbered n ≡ Some row
        → all_uses groups (lists_of standings) n ≡ load_of s.rows row (entries_of s.bids (replies_of tables standings))
    uses_load once n row at = lists_use groups n tables prices standings stand ∙ by_bids row (λ table path. path_uses groups table path n) (λ ts ss. paths_use groups ts ss n) (λ ss. refl) (λ t ts x ss. refl) s.bids tables standings are.count_is stand.count_is
        (λ number bid table standing b_at t_at x_at. numbered_load number bid table (are.each number bid table b_at t_at).arcs_are standing.path.items (path_within table prices standing (all_at IsSound tables number table sound t_at) (stand.each number table standing t_at x_at)) (path_route table prices standing (stand.each number table standing t_at x_at)) once n row at)

    -- a row without a number is not used by the replies
    pub no_load : (row : R) → ((n : ℕ) → slice_get numbered n ≡ Some row → ⊥) → load_of s.rows row (entries_of s.bids (replies_of tables standings)) ≡ 0
    no_load row none = sym (by_bids row (λ table path. 0) (λ ts ss. 0) (λ ss. refl) (λ t ts x ss. omega arith) s.bids tables standings are.count_is stand.count_is
        (λ number bid table standing b_at t_at x_at. sym (unnumbered_load number bid table (are.each number bid table b_at t_at).arcs_are standing.path.items (path_within table prices standing (all_at IsSound tables number table sound t_at) (stand.each number table standing t_at x_at)) (path_route table prices standing (stand.each number table standing t_at x_at)) row none)))
