-- Which bids the way from one node to another may change.
use Rattle.std.proofs.Common.{◌≡◌, ◌≢◌, ℕ, ◌+◌, ◌-◌, ◌<◌, ◌≤◌, Bool, true, false, cond, List, length, take, drop, set, get_or, Some, slice_get, refl, sym, ap, ◌∙◌, subst, arith, inl, inr}
use Rattle.std.specs.Prelude.{Contains}
use Rattle.std.proofs.lemmas.Bool.{cases_eq}
use Rattle.std.proofs.lemmas.Bool.Decides.{eqb_tells}
use Rattle.std.proofs.lemmas.List.{get_or-set_same, get_or_default, take_all, length-map, length-drop}
use Rattle.std.proofs.lemmas.List.Elements.{All-more}
use Rattle.std.proofs.lemmas.Option.{same_Some, slice_get_within, slice_get-get_or}
use Rattle.optra_node.specs.declared.Decision.{Decision}
use Rattle.optra_node.specs.Nodes.{yes_load}
use Rattle.optra_prices.specs.Indexes.{IndexHas}
use Rattle.optra_prices.specs.Columns.{IsColumns, IsDue, MarksMore, MarksRow, mark_at}
use Rattle.optra_prices.specs.Holders.{groups_of, AreHolders, is_told, KeepsTold, TellsHolders}
use Rattle.optra_prices.specs.Claims.{AreClaims, claim_uses}
use Rattle.optra_prices.specs.Tables.{group_at}
use Rattle.optra_prices.specs.Standings.{AreTables}
use Rattle.optra_prices.specs.Tellings.{AreUsersDue, MarksUsed, TellsDue, TellsOwn, TellsMoved}
use Rattle.optra_prices.specs.Terms.{Setting}
use Rattle.optra_prices.specs.Users.{IsTouched}
use Rattle.optra_prices.specs.Uses.{touch_use}
use Rattle.optra_prices.specs.declared.arc_tables.ArcTables.{ArcTables}
use Rattle.optra_prices.specs.declared.claims.Claim.{Claim}
use Rattle.optra_prices.specs.declared.index.Index.{Index}
use Rattle.optra_prices.specs.declared.columns.Columns.{Columns}
use Rattle.optra_prices.specs.declared.columns.Mark.TheVariants.{Still, Due}
use Rattle.optra_prices.specs.ArcTerms.{ArcTerm}
use Rattle.optra_prices.specs.declared.numbering.BidTable.{BidTable}
use Rattle.optra_prices.specs.declared.numbering.Groups.{Groups}
use Rattle.optra_prices.specs.declared.touch.Touch.{Touch}
use Rattle.optra_prices.proofs.ClaimLemmas.{claims_load}
use Rattle.optra_prices.proofs.ColumnLemmas.{cases_still, marks_on, stays_due}
use Rattle.optra_prices.proofs.HolderLemmas.{keeps_same, keeps_on, keeps_set}
use Rattle.optra_prices.proofs.ListLemmas.{some_at, all_at, map_at}

-- ---- groups that are made due
pub marks_same : (c : Columns) → MarksMore c c
marks_same c = record { users = refl; prices = refl; running = refl; marks = λ g. inl refl }

-- groups that are due stay so
users_on : (n : ℕ) (old new : Columns) → MarksMore old new → AreUsersDue n old → AreUsersDue n new
users_on n old new more due g l has = stays_due old new g more (due g (subst (λ gs. g < length gs.items) more.prices l) (subst (λ us. IndexHas us n g) more.users has))

-- the groups of a touched row are due
pub touch_marks : (touch : Touch) (groups : Groups) (old new : Columns) → IsColumns groups old → MarksRow touch.row old new → MarksUsed (touch_use touch) old new
touch_marks touch groups old new columns marks = record {
  more = marks.more;
  due = λ n some g l has. elim (eqb_tells touch.row n) as (λ _. IsDue new g) [
    | inl (test, same) ↦
        let count = columns.mark_count in
        let prices = ap (λ gs. length gs.items) marks.more.prices in
        marks.users_due g (omega arith) (subst (λ us. IndexHas us touch.row g) marks.more.users (subst (λ (k : ℕ). IndexHas new.users k g) (sym same) has))
    | inr (test, other) ↦ let z = ap (λ (b : Bool). cond b touch.uses 0) test in absurd (omega (arith, some, z))
  ];
}

-- nothing is used
pub used_none : (uses : ℕ → ℕ) (c : Columns) → ((n : ℕ) → uses n ≡ 0) → MarksUsed uses c c
used_none uses c none = record { more = marks_same c; due = λ n some g l has. absurd (let z = none n in omega arith) }

-- more groups are made due
pub used_kept : (uses : ℕ → ℕ) (old mid new : Columns) → MarksUsed uses old mid → MarksMore mid new → MarksUsed uses old new
used_kept uses old mid new marks more = record {
  more = marks_on old mid new marks.more more;
  due = λ n some. users_on n mid new more (marks.due n some);
}

-- one use after the other
pub used_on : (first second whole : ℕ → ℕ) (old mid new : Columns) → MarksUsed first old mid → MarksUsed second mid new → ((n : ℕ) → whole n ≡ first n + second n) → MarksUsed whole old new
used_on first second whole old mid new a b sum = record {
  more = marks_on old mid new a.more b.more;
  due = λ n some. elim (cases_eq (first n) 0) as (λ _. AreUsersDue n new) [
    | inl none ↦ b.due n (let e = sum n in omega arith)
    | inr has ↦ users_on n mid new b.more (a.due n (omega arith))
  ];
}

-- ---- bids that are told
-- a bid that isn't told now was not told before
untold : (old new : List Bool) (number : ℕ) → KeepsTold old new → is_told new number ≡ false → is_told old number ≡ false
untold old new number keeps is = by (is_told old number) refl
  where
    by : (b : Bool) → is_told old number ≡ b → is_told old number ≡ false
    by false e = e
    by true e = let told = keeps.kept number e in absurd (clash (sym told ∙ is))
      where
        clash : true ≡ false → ⊥
        clash q = cc

-- the bids that have one of the first marked groups are told
pub record DueBelow (n : ℕ) (due : List ℕ) (holders : Index) (old now : List Bool) : Type 0 where
  pub keeps : KeepsTold old now
  pub here : (j : ℕ) → j < n → (number : ℕ) → number < length old → IndexHas holders (get_or due j 0) number → is_told now number ≡ true

pub due_none : (due : List ℕ) (holders : Index) (told : List Bool) → DueBelow 0 due holders told told
due_none due holders told = record { keeps = keeps_same told; here = λ j l. absurd (omega arith) }

pub due_more : (n : ℕ) (due : List ℕ) (holders : Index) (old mid new : List Bool) → DueBelow n due holders old mid → TellsHolders holders (get_or due n 0) mid new → DueBelow (n + 1) due holders old new
due_more n due holders old mid new below tells = record {
  keeps = keeps_on old mid new below.keeps tells.keeps;
  here = λ j l number m has. elim (cases_eq j n) as (λ _. is_told new number ≡ true) [
    | inl e ↦
        let count = below.keeps.count in
        tells.here number (omega arith) (subst (λ (k : ℕ). IndexHas holders (get_or due k 0) number) e has)
    | inr apart ↦ tells.keeps.kept number (below.here j (omega arith) number m has)
  ];
}

pub due_all : (n : ℕ) (c : Columns) (tables : List BidTable) (holders : Index) (old now : List Bool) → IsColumns c.groups c → AreHolders tables holders → length old ≡ length tables → length c.due.items ≤ n → DueBelow n c.due.items holders old now
    → TellsDue c.marks.items tables now
due_all n c tables holders old now columns are count past below number table at is k d l = elim (cases_still (mark_at c.marks.items g)) as (λ _. mark_at c.marks.items g ≡ Still) [
  | inl still ↦ still
  | inr marked ↦
      let on = columns.listed g marked in
      let w = slice_get_within tables number table at in
      let place = on.1 in
      let due_is : get_or c.due.items on.0 0 ≡ g = sym (get_or_default c.due.items on.0 g 0 on.1) ∙ on.2 in
      let told = below.here on.0 (omega arith) number (omega arith) (subst (λ (h : ℕ). IndexHas holders h number) (sym due_is) (are.held number table at k d l)) in
      absurd (clash (sym told ∙ is))
]
  where
    g : ℕ
    g = get_or (groups_of table.arcs) k d

    clash : true ≡ false → ⊥
    clash q = cc

-- the bids of the first decisions are told
pub record OwnBelow (n : ℕ) (decisions : List Decision) (old now : List Bool) : Type 0 where
  pub keeps : KeepsTold old now
  pub own : TellsOwn (take n decisions) now

pub own_none : (decisions : List Decision) (told : List Bool) → OwnBelow 0 decisions told told
own_none decisions told = record { keeps = keeps_same told; own = λ number l is k d m. absurd (omega arith) }

pub own_more : (n : ℕ) (decisions : List Decision) (d : Decision) (old now : List Bool) → n < length decisions → OwnBelow n decisions old now
    → OwnBelow (n + 1) decisions old (set now (get_or decisions n d).bid true)
own_more n decisions d old now l below = record {
  keeps = keeps_on old now new below.keeps keeps;
  own = λ number m is.
      All-more (λ (x : Decision). x.bid ≢ number) decisions n d l (below.own number (let count = keeps.count in omega arith) (untold now new number keeps is))
      (λ same. let here : is_told new bid ≡ true = get_or-set_same now bid true false (let count = keeps.count in omega arith) in absurd (clash (sym here ∙ ap (is_told new) same ∙ is)));
}
  where
    bid : ℕ
    bid = (get_or decisions n d).bid

    new : List Bool
    new = set now bid true

    keeps : KeepsTold now new
    keeps = keeps_set now bid

    clash : true ≡ false → ⊥
    clash q = cc

pub own_kept : (decisions : List Decision) (old new : List Bool) → KeepsTold old new → TellsOwn decisions old → TellsOwn decisions new
own_kept decisions old new keeps tells number l is = tells number (let count = keeps.count in omega arith) (untold old new number keeps is)

pub own_all : (n : ℕ) (decisions : List Decision) (old now : List Bool) → length decisions ≤ n → OwnBelow n decisions old now → TellsOwn decisions now
own_all n decisions old now past below = subst (λ (ds : List Decision). TellsOwn ds now) (take_all n decisions past) below.own

-- ---- the rest of a list
pub rest_is : {X : Type 0} (xs ys : List X) (k : ℕ) → xs ≡ ys → take (length xs - k) (drop k xs) ≡ drop k ys
rest_is xs ys k e = take_all (length xs - k) (drop k xs) (let l = length-drop k xs in omega arith) ∙ ap (drop k) e

-- ---- what the way to a node may change
module _ {R : Type 0} (s : Setting R) (c : ArcTables R) (marked : Columns) (told : List Bool) (columns : IsColumns c.columns.groups marked)
    (tables : AreTables s (length s.bids) c.numbering.rows.items c.columns.groups c.tables.items) (due : TellsDue marked.marks.items c.tables.items told) (keeps : KeepsTold told c.fallen.items) (count : length told ≡ length c.tables.items) where
  -- the groups of a bid's arcs are among the groups
  within : (number : ℕ) (table : BidTable) → slice_get c.tables.items number ≡ Some table → (g : ℕ) → Contains (groups_of table.arcs) g → g + 1 < length c.columns.groups.starts.items
  within number table at g (k, l, e) =
      let w = slice_get_within c.tables.items number table at in
      let n = tables.count_is in
      let bid = some_at s.bids number (omega arith) in
      let all = (tables.each number bid.0 table bid.1 at).arcs_are.terms.within in
      let shorter : length (groups_of table.arcs) ≡ length table.arcs = length-map table.arcs (λ (arc : ArcTerm). arc.group) in
      let arc = some_at table.arcs k (omega arith) in
      let same : arc.0.group ≡ g = same_Some arc.0.group g (sym (map_at (λ (x : ArcTerm). x.group) table.arcs k arc.0 arc.1) ∙ slice_get-get_or (groups_of table.arcs) k g l ∙ ap Some e) in
      subst (λ (h : ℕ). h + 1 < length c.columns.groups.starts.items) same (all_at (λ (x : ArcTerm). x.group + 1 < length c.columns.groups.starts.items) table.arcs k arc.0 all arc.1)

  pub moved : (decisions : List Decision) (claims : List Claim) (old : Columns) → AreClaims s.rows s.bids c.numbering.rows.items decisions claims → MarksUsed (claim_uses claims) old marked → TellsOwn decisions c.fallen.items → TellsMoved s.rows s.bids decisions c
  moved decisions claims old are marks own = record {
    count = keeps.count ∙ count;
    own = own;
    apart = λ number table at is n row row_at of. elim (cases_eq (yes_load s.rows s.bids decisions row) 0) as (λ _. yes_load s.rows s.bids decisions row ≡ 0) [
      | inl none ↦ none
      | inr some ↦
          let g = of.group in
          let low = within number table at g of.has in
          let found = columns.found g n (subst (λ (gs : Groups). g + 1 < length gs.starts.items) (sym columns.groups_are) low) (subst (λ (gs : Groups). IsTouched (group_at gs.starts.items gs.touches g) n) (sym columns.groups_are) of.touched) in
          let size = columns.count in
          let same = ap (λ (gs : Groups). length gs.starts.items) columns.groups_are in
          let used = claims_load s.rows s.bids c.numbering.rows.items n row row_at decisions claims are in
          let is_due : IsDue marked g = marks.due n (omega arith) g (omega arith) found in
          let still = due number table at (untold told c.fallen.items number keeps is) in
          let here : mark_at marked.marks.items g ≡ Still = subst (λ (h : ℕ). mark_at marked.marks.items h ≡ Still) of.has.2 (still of.has.0 g of.has.1) in
          absurd (clash (sym is_due ∙ here))
    ];
  }
    where
      clash : Due ≡ Still → ⊥
      clash e = cc
