-- Bids that are added to those that have the groups of their arcs, and those to which the groups that fell lead.
use Rattle.std.proofs.Common.{◌≡◌, ℕ, zero, suc, ◌+◌, ◌≤◌, ◌<◌, Bool, true, false, List, [], ◌∷◌, ◌++◌, ◌-◌, length, take, replicate, set, get_or, Some, slice_get, refl, sym, ap, ◌∙◌, subst, arith, inl, inr}
use Rattle.std.specs.Prelude.{◌||◌, ◌⊎◌, All, Contains, slice_index}
use Rattle.std.proofs.lemmas.Bool.{cases_lt, cases_eq}
use Rattle.std.proofs.lemmas.List.{get_or-set_same, get_or-set_other, get_or_append_left, get_or_default, get_or_past, get_or_push, length-set, length_push, take_all}
use Rattle.std.proofs.lemmas.List.Elements.{All-weaker}
use Rattle.std.proofs.lemmas.Option.{same_Some, slice_get_within}
use Rattle.optra_prices.specs.Indexes.{AreSpans, IsIndex, IndexHas, Inverts, items_at}
use Rattle.optra_prices.specs.Columns.{mark_at}
use Rattle.optra_prices.specs.Holders.{groups_of, AreHolders, AreToldTo, StandsFrom, GoesOn, IsListing, HoldsGroup, HoldsArcs, is_told, KeepsTold, TellsHolders, TellsGroup, TellsFallen}
use Rattle.optra_prices.specs.Keepings.{AreBrought}
use Rattle.optra_prices.specs.Tables.{no_arc}
use Rattle.optra_prices.specs.declared.holders.Held.{Held}
use Rattle.optra_prices.specs.declared.index.Index.{Index}
use Rattle.optra_prices.specs.declared.columns.Mark.{Mark}
use Rattle.optra_prices.specs.declared.columns.Mark.TheVariants.{Still, Fell}
use Rattle.optra_prices.specs.ArcTerms.{ArcTerm}
use Rattle.optra_prices.specs.declared.numbering.BidTable.{BidTable}
use Rattle.optra_prices.proofs.ListLemmas.{some_at}

-- ---- the groups of arcs
-- what holds of the group of each arc holds of all groups
all_groups : (P : ℕ → Type 0) (arcs : List ArcTerm) → ((k : ℕ) → k < length arcs → P (get_or arcs k no_arc).group) → All P (groups_of arcs)
all_groups P [] each k d l = absurd (omega arith)
all_groups P (arc ∷ arcs) each zero d l = each 0 (omega arith)
all_groups P (arc ∷ arcs) each (suc k) d l = all_groups P arcs (λ j m. each (suc j) (omega arith)) k d (omega arith)

pub neither : (a b : Bool) → (a || b) ≡ false → (a ≡ false) × (b ≡ false)
neither false b e = (refl, e)
neither true b e = cc

pub one_of : (a b : Bool) → (a || b) ≡ true → (a ≡ true) ⊎ (b ≡ true)
one_of true b e = inl refl
one_of false b e = inr e

-- arcs that keep their groups
pub same_groups : (old new : List ArcTerm) → length new ≡ length old → ((k : ℕ) (before after : ArcTerm) → slice_get old k ≡ Some before → slice_get new k ≡ Some after → after.group ≡ before.group) → groups_of new ≡ groups_of old
same_groups [] [] count each = refl
same_groups [] (y ∷ new) count each = absurd (omega arith)
same_groups (x ∷ old) [] count each = absurd (omega arith)
same_groups (x ∷ old) (y ∷ new) count each =
    let rest = same_groups old new (omega arith) (λ k before after old_at new_at. each (suc k) before after old_at new_at) in
    ap (λ (g : ℕ). g ∷ groups_of new) (each 0 x y refl refl) ∙ ap (λ (gs : List ℕ). x.group ∷ gs) rest

-- ---- groups that are added to those of a bid
goes_same : (xs : List ℕ) → GoesOn xs xs
goes_same xs = record { more = omega arith; same = λ k l. refl }

goes_far : (old mid new : List ℕ) → GoesOn old mid → GoesOn mid new → GoesOn old new
goes_far old mid new a b =
    let far = a.more in
    let more = b.more in
    record { more = omega arith; same = λ k l. b.same k (omega arith) ∙ a.same k l }

stands_on : (old new : List ℕ) (from g : ℕ) → GoesOn old new → StandsFrom old from g → StandsFrom new from g
stands_on old new from g goes stands =
    let more = goes.more in
    (stands.0, stands.1, omega (arith, stands.2), goes.same stands.0 stands.2 ∙ stands.3)

-- the groups of the first arcs are the bid's
pub record HoldsBelow (n bid : ℕ) (arcs : List ArcTerm) (old new : Held) : Type 0 where
  pub listing : (from : ℕ) → IsListing from bid old → IsListing from bid new
  pub here : (from : ℕ) → IsListing from bid old → (k : ℕ) → k < n → StandsFrom new.groups.items from (get_or arcs k no_arc).group
  pub goes_on : GoesOn old.groups.items new.groups.items

pub holds_none : (bid : ℕ) (arcs : List ArcTerm) (held : Held) → HoldsBelow 0 bid arcs held held
holds_none bid arcs held = record { listing = λ from listing. listing; here = λ from listing k l. absurd (omega arith); goes_on = goes_same held.groups.items }

pub holds_more : (n bid : ℕ) (arcs : List ArcTerm) (old mid new : Held) → HoldsBelow n bid arcs old mid → HoldsGroup bid (get_or arcs n no_arc).group mid new → HoldsBelow (n + 1) bid arcs old new
holds_more n bid arcs old mid new below holds = record {
  listing = λ from listing. holds.listing from (below.listing from listing);
  here = λ from listing k l. elim (cases_eq k n) as (λ _. StandsFrom new.groups.items from (get_or arcs k no_arc).group) [
    | inl e ↦ subst (λ (j : ℕ). StandsFrom new.groups.items from (get_or arcs j no_arc).group) (sym e) (holds.here from (below.listing from listing))
    | inr apart ↦ stands_on mid.groups.items new.groups.items from (get_or arcs k no_arc).group holds.goes_on (below.here from listing k (omega arith))
  ];
  goes_on = goes_far old.groups.items mid.groups.items new.groups.items below.goes_on holds.goes_on;
}

pub holds_all : (n bid : ℕ) (arcs : List ArcTerm) (old new : Held) → length arcs ≤ n → HoldsBelow n bid arcs old new → HoldsArcs bid arcs old new
holds_all n bid arcs old new past below = record {
  listing = below.listing;
  here = λ from listing. all_groups (StandsFrom new.groups.items from) arcs (λ k l. below.here from listing k (omega arith));
  goes_on = below.goes_on;
}

-- ---- bids that are listed one after the other
-- the group is one of those of the bid with this number
abbrev IsOf : List ℕ → List ℕ → ℕ → ℕ → Type 0
IsOf starts groups number g = (k : ℕ) × (slice_index starts number ≤ k) × (k < slice_index starts (number + 1)) × (slice_index groups k ≡ g)

-- the groups of the arcs of the first bids stand one bid after the other
pub record AreListedBelow (n : ℕ) (tables : List BidTable) (starts : List ℕ) (held : Held) : Type 0 where
  pub count : length starts ≡ n + 1
  pub last_start : slice_index starts n ≡ length held.groups.items
  pub spans : AreSpans starts (length held.groups.items)
  pub most : (g : ℕ) → slice_index held.last.items g ≤ n
  pub each : (number : ℕ) (table : BidTable) → number < n → slice_get tables number ≡ Some table → All (IsOf starts held.groups.items number) (groups_of table.arcs)

pub listed_none : (tables : List BidTable) (starts : List ℕ) (held : Held) → starts ≡ 0 ∷ [] → held.groups.items ≡ [] → held.last.items ≡ [] → AreListedBelow 0 tables starts held
listed_none tables starts held is groups last = record {
  count = ap length is;
  last_start = ap (λ (xs : List ℕ). slice_index xs 0) is ∙ sym (ap length groups);
  spans = record {
    ordered = λ g l. let long = ap length is in absurd (omega arith);
    within = λ g l. let long = ap length is in let same : g ≡ 0 = omega arith in let at = ap (slice_index starts) same ∙ ap (λ (xs : List ℕ). slice_index xs 0) is in omega arith;
  };
  most = λ g. let at = ap (λ (xs : List ℕ). slice_index xs g) last in omega arith;
  each = λ number table l. absurd (omega arith);
}

pub listed_more : (n : ℕ) (tables : List BidTable) (starts next : List ℕ) (old new : Held) (table : BidTable) → AreListedBelow n tables starts old → slice_get tables n ≡ Some table → HoldsArcs (n + 1) table.arcs old new → next ≡ starts ++ length new.groups.items ∷ []
    → AreListedBelow (n + 1) tables next new
listed_more n tables starts next old new table below at holds pushed = record {
  count = ap length pushed ∙ length_push starts (length new.groups.items) ∙ ap (λ (k : ℕ). k + 1) below.count;
  last_start = last;
  spans = record { ordered = ordered; within = within };
  most = (holds.listing (length old.groups.items) listing).most;
  each = λ number x l x_at. elim (cases_eq number n) as (λ _. All (IsOf next new.groups.items number) (groups_of x.arcs)) [
    | inl e ↦
        let same : table ≡ x = same_Some table x (sym at ∙ ap (slice_get tables) (sym e) ∙ x_at) in
        subst (λ (y : BidTable). All (IsOf next new.groups.items number) (groups_of y.arcs)) same
        (subst (λ (k : ℕ). All (IsOf next new.groups.items k) (groups_of table.arcs)) (sym e) (All-weaker (StandsFrom new.groups.items (length old.groups.items)) (IsOf next new.groups.items n) (λ g stands. now g stands) (groups_of table.arcs)
        (holds.here (length old.groups.items) listing)))
    | inr apart ↦ All-weaker (IsOf starts old.groups.items number) (IsOf next new.groups.items number) (λ g is. before number g (omega arith) is) (groups_of x.arcs) (below.each number x (omega arith) x_at)
  ];
}
  where
    listing : IsListing (length old.groups.items) (n + 1) old
    listing = record {
      within = omega arith;
      known = λ g is. absurd (let m = below.most g in omega arith);
      most = λ g. let m = below.most g in omega arith;
    }

    kept : (g : ℕ) → g < n + 1 → slice_index next g ≡ slice_index starts g
    kept g l = ap (λ (xs : List ℕ). slice_index xs g) pushed ∙ get_or_append_left starts (length new.groups.items ∷ []) 0 g (let count = below.count in omega arith)

    last : slice_index next (n + 1) ≡ length new.groups.items
    last = ap (λ (xs : List ℕ). slice_index xs (n + 1)) pushed ∙ get_or_push starts (length new.groups.items) 0 (n + 1) below.count

    long : length next ≡ n + 1 + 1
    long = ap length pushed ∙ length_push starts (length new.groups.items) ∙ ap (λ (k : ℕ). k + 1) below.count

    ordered : (g : ℕ) → g + 1 < length next → slice_index next g ≤ slice_index next (g + 1)
    ordered g l = elim (cases_eq g n) as (λ _. slice_index next g ≤ slice_index next (g + 1)) [
      | inl e ↦
          let here = ap (slice_index next) e ∙ kept n (omega arith) ∙ below.last_start in
          let there = ap (λ (k : ℕ). slice_index next (k + 1)) e ∙ last in
          let more = holds.goes_on.more in
          omega arith
      | inr apart ↦
          let size = long in
          let count = below.count in
          let here = kept g (omega arith) in
          let there = kept (g + 1) (omega arith) in
          let up = below.spans.ordered g (omega arith) in
          omega arith
    ]

    within : (g : ℕ) → g < length next → slice_index next g ≤ length new.groups.items
    within g l = elim (cases_eq g (n + 1)) as (λ _. slice_index next g ≤ length new.groups.items) [
      | inl e ↦ let here = ap (slice_index next) e ∙ last in omega arith
      | inr apart ↦
          let size = long in
          let count = below.count in
          let here = kept g (omega arith) in
          let w = below.spans.within g (omega arith) in
          let more = holds.goes_on.more in
          omega arith
    ]

    now : (g : ℕ) → StandsFrom new.groups.items (length old.groups.items) g → IsOf next new.groups.items n g
    now g stands =
        let start = kept n (omega arith) ∙ below.last_start in
        let end = last in
        (stands.0, omega (arith, stands.1), omega (arith, stands.2), stands.3)

    before : (number g : ℕ) → number < n → IsOf starts old.groups.items number g → IsOf next new.groups.items number g
    before number g l is =
        let start = kept number (omega arith) in
        let end = kept (number + 1) (omega arith) in
        let count = below.count in
        let w = below.spans.within (number + 1) (omega arith) in
        (is.0, omega (arith, is.1), omega (arith, is.2), holds.goes_on.same is.0 (omega (arith, is.2)) ∙ is.3)

pub holders_all : (n : ℕ) (tables : List BidTable) (starts groups : List ℕ) (held : Held) (holders : Index) → length tables ≤ n → groups ≡ held.groups.items → AreListedBelow n tables starts held → IsIndex holders → Inverts starts groups holders → AreHolders tables holders
holders_all n tables starts groups held holders past is below index inverts = record {
  index = index;
  held = λ number table at.
      let w = slice_get_within tables number table at in
      let count = below.count in
      All-weaker (IsOf starts held.groups.items number) (λ g. IndexHas holders g number)
      (λ g has. subst (λ (h : ℕ). IndexHas holders h number) (ap (λ (gs : List ℕ). slice_index gs has.0) is ∙ has.3) (inverts number has.0 (omega arith) has.1 has.2)) (groups_of table.arcs) (below.each number table (omega arith) at);
}

-- the groups of arcs stay when tables are brought to a node, and so do the bids that have them
pub holders_brought : (changed : List Bool) (old new : List BidTable) (holders : Index) → AreBrought changed old new → AreHolders old holders → AreHolders new holders
holders_brought changed old new holders brought are = record {
  index = are.index;
  held = λ number table at.
      let l = slice_get_within new number table at in
      let count = brought.count_is in
      let marks = brought.changed_count in
      let before = some_at old number (omega arith) in
      let c = some_at changed number (omega arith) in
      let is = brought.each number c.0 before.0 table c.1 before.1 at in
      subst (All (λ (g : ℕ). IndexHas holders g number)) (sym is.groups) (are.held number before.0 before.1);
}

-- ---- bids that are told
-- a list that was emptied and filled anew
pub filled : (told : List Bool) (n m : ℕ) → told ≡ [] → m ≡ length told → take n told ++ replicate (n - m) false ≡ replicate n false
filled [] n m none is = ap (λ (xs : List Bool). xs ++ replicate (n - m) false) (take_all n [] (omega arith)) ∙ ap (λ (k : ℕ). replicate k false) (omega (arith, is))
filled (b ∷ told) n m none is = cc

told_same : (told : List Bool) (number : ℕ) → number < length told → is_told (set told number true) number ≡ true
told_same told number l = get_or-set_same told number true false l

-- a bid that was told is told still, when another one is
told_kept : (told : List Bool) (bid number : ℕ) → is_told told number ≡ true → is_told (set told bid true) number ≡ true
told_kept told bid number is = elim (cases_eq number bid) as (λ _. is_told (set told bid true) number ≡ true) [
  | inl e ↦ elim (cases_lt number (length told)) as (λ _. is_told (set told bid true) number ≡ true) [
    | inl l ↦ ap (is_told (set told bid true)) e ∙ told_same told bid (subst (λ (k : ℕ). k < length told) e l)
    | inr past ↦ absurd (clash (sym (get_or_past told number false past) ∙ is))
  ]
  | inr apart ↦ get_or-set_other told bid number true false apart ∙ is
]
  where
    clash : false ≡ true → ⊥
    clash q = cc

pub keeps_same : (told : List Bool) → KeepsTold told told
keeps_same told = record { count = refl; kept = λ number is. is }

pub keeps_on : (old mid new : List Bool) → KeepsTold old mid → KeepsTold mid new → KeepsTold old new
keeps_on old mid new a b = record { count = b.count ∙ a.count; kept = λ number is. b.kept number (a.kept number is) }

pub keeps_set : (told : List Bool) (bid : ℕ) → KeepsTold told (set told bid true)
keeps_set told bid = record { count = length-set told bid true; kept = told_kept told bid }

-- the first of these bids are told
pub record TellsFirst (n : ℕ) (bids : List ℕ) (old now : List Bool) : Type 0 where
  pub keeps : KeepsTold old now
  pub here : (k : ℕ) → k < n → slice_index bids k < length old → is_told now (slice_index bids k) ≡ true

pub first_none : (bids : List ℕ) (told : List Bool) → TellsFirst 0 bids told told
first_none bids told = record { keeps = keeps_same told; here = λ k l. absurd (omega arith) }

pub first_more : (n : ℕ) (bids : List ℕ) (old now : List Bool) → TellsFirst n bids old now → TellsFirst (n + 1) bids old (set now (slice_index bids n) true)
first_more n bids old now first = record {
  keeps = keeps_on old now (set now (slice_index bids n) true) first.keeps (keeps_set now (slice_index bids n));
  here = λ k l w. elim (cases_eq k n) as (λ _. is_told (set now (slice_index bids n) true) (slice_index bids k) ≡ true) [
    | inl e ↦
        let same = ap (slice_index bids) e in
        let count = first.keeps.count in
        ap (is_told (set now (slice_index bids n) true)) same ∙ told_same now (slice_index bids n) (omega arith)
    | inr apart ↦ told_kept now (slice_index bids n) (slice_index bids k) (first.here k (omega arith) w)
  ];
}

pub first_all : (n : ℕ) (bids : List ℕ) (holders : Index) (g : ℕ) (old now : List Bool) → length bids ≤ n → bids ≡ items_at holders g → TellsFirst n bids old now → TellsHolders holders g old now
first_all n bids holders g old now past is first = record {
  keeps = first.keeps;
  here = λ number l has. one number l (subst (λ (xs : List ℕ). Contains xs number) (sym is) has);
}
  where
    one : (number : ℕ) → number < length old → Contains bids number → is_told now number ≡ true
    one number l has =
        let same : slice_index bids has.0 ≡ number = get_or_default bids has.0 0 number has.1 ∙ has.2 in
        subst (λ (b : ℕ). is_told now b ≡ true) same (first.here has.0 (omega (arith, has.1)) (omega arith))

-- ---- groups that fell, one after the other
-- the bids that have one of the first groups that fell are told
pub record TellsBelow (n : ℕ) (marks : List Mark) (due : List ℕ) (holders : Index) (old now : List Bool) : Type 0 where
  pub keeps : KeepsTold old now
  pub here : (j : ℕ) → j < n → mark_at marks (get_or due j 0) ≡ Fell → (number : ℕ) → number < length old → IndexHas holders (get_or due j 0) number → is_told now number ≡ true

pub tells_none : (marks : List Mark) (due : List ℕ) (holders : Index) (told : List Bool) → TellsBelow 0 marks due holders told told
tells_none marks due holders told = record { keeps = keeps_same told; here = λ j l fell number m has. absurd (omega arith) }

pub tells_more : (n : ℕ) (marks : List Mark) (due : List ℕ) (holders : Index) (old mid new : List Bool) → TellsBelow n marks due holders old mid → TellsGroup marks holders (get_or due n 0) mid new → TellsBelow (n + 1) marks due holders old new
tells_more n marks due holders old mid new below tells = record {
  keeps = keeps_on old mid new below.keeps tells.keeps;
  here = λ j l fell number m has. elim (cases_eq j n) as (λ _. is_told new number ≡ true) [
    | inl e ↦
        let count = below.keeps.count in
        tells.here (subst (λ (k : ℕ). mark_at marks (get_or due k 0) ≡ Fell) e fell) number (omega arith) (subst (λ (k : ℕ). IndexHas holders (get_or due k 0) number) e has)
    | inr apart ↦ tells.keeps.kept number (below.here j (omega arith) fell number m has)
  ];
}

-- one more of the first bids is told
pub told_next : (told : List Bool) (first : ℕ) → is_told told first ≡ true → AreToldTo first told → AreToldTo (first + 1) told
told_next told first here before number l = elim (cases_eq number first) as (λ _. is_told told number ≡ true) [
  | inl e ↦ ap (is_told told) e ∙ here
  | inr apart ↦ before number (omega arith)
]

-- those that are told stay so
pub told_still : (count : ℕ) (old new : List Bool) → KeepsTold old new → AreToldTo count old → AreToldTo count new
told_still count old new keeps told number l = keeps.kept number (told number l)

-- where each bid is told, nothing is left to say
pub all_told : (marks : List Mark) (tables : List BidTable) (count : ℕ) (now : List Bool) → length now ≡ length tables → length tables ≤ count → AreToldTo count now → TellsFallen marks tables now
all_told marks tables count now long past told = record {
  count = long;
  each = λ number table at untold k d l fell.
      let w = slice_get_within tables number table at in
      not_both (sym untold ∙ told number (omega arith));
}
  where
    not_both : false ≡ true → ⊥
    not_both e = cc

-- of a bid that isn't told no group fell, where all that are marked are listed
pub tells_all : (n : ℕ) (marks : List Mark) (due : List ℕ) (tables : List BidTable) (holders : Index) (old now : List Bool) → length due ≤ n → length old ≡ length tables → ((g : ℕ) → (mark_at marks g ≡ Still → ⊥) → Contains due g)
    → AreHolders tables holders → TellsBelow n marks due holders old now → TellsFallen marks tables now
tells_all n marks due tables holders old now past count listed are below = record {
  count = below.keeps.count ∙ count;
  each = λ number table at untold k d l fell.
      let g = get_or (groups_of table.arcs) k d in
      let w = slice_get_within tables number table at in
      let on = listed g (λ still. clash (sym still ∙ fell)) in
      let told = below.here on.0 (omega (arith, on.1)) (at_due g on fell) number (omega arith) (has_due g number on (are.held number table at k d l)) in
      not_both (sym untold ∙ told);
}
  where
    clash : Still ≡ Fell → ⊥
    clash e = cc

    not_both : false ≡ true → ⊥
    not_both e = cc

    due_is : (g : ℕ) (on : Contains due g) → get_or due on.0 0 ≡ g
    due_is g on = sym (get_or_default due on.0 g 0 on.1) ∙ on.2

    at_due : (g : ℕ) (on : Contains due g) → mark_at marks g ≡ Fell → mark_at marks (get_or due on.0 0) ≡ Fell
    at_due g on fell = ap (mark_at marks) (due_is g on) ∙ fell

    has_due : (g number : ℕ) (on : Contains due g) → IndexHas holders g number → IndexHas holders (get_or due on.0 0) number
    has_due g number on has = subst (λ (h : ℕ). IndexHas holders h number) (sym (due_is g on)) has
