-- Marks and prices of groups, one group after the other.
use Rattle.std.proofs.Common.{◌≡◌, ◌≢◌, ℕ, zero, suc, ◌+◌, ◌<◌, ◌≤◌, ◌⊎◌, List, [], ◌∷◌, length, map, set, take, get_or, refl, sym, ap, ◌∙◌, subst, arith, inl, inr}
use Rattle.std.specs.Prelude.{All, Contains, ℤ, pos, ◌*ℤ◌, ◌≤ℤ◌, slice_index, slice_index_or}
use Rattle.std.proofs.lemmas.Bool.{cases_eq, cases_lt}
use Rattle.std.specs.Int.{int_max}
use Rattle.std.proofs.lemmas.Int.{ints, clamps}
use Rattle.std.proofs.lemmas.List.{get_or-set_same, get_or-set_other, get_or_default, get_or_past, length-set, take_more}
use Rattle.std.proofs.lemmas.List.Elements.{All-contains, All-set, All-weaker, Contains-push_cases}
use Rattle.std.proofs.Math.IntN.{zero-*ℤ}
use Rattle.optra_prices.specs.Columns.{IsColumns, AreListed, IsDue, KeepsMarks, MarksGroups, MarksMore, MarksRow, MarkTells, IsPricedOrDue, PricesAllButDue, Reprices, mark_at, price_at}
use Rattle.optra_prices.specs.Tables.{AreGroups, IsGroupPrice, group_at, group_price}
use Rattle.optra_prices.specs.Indexes.{IsIndex}
use Rattle.optra_prices.specs.Shares.{AreShares}
use Rattle.optra_prices.specs.Users.{IsTouched, FindsUsers}
use Rattle.optra_prices.specs.declared.index.Index.{Index}
use Rattle.optra_prices.specs.declared.columns.Columns.{Columns}
use Rattle.optra_prices.specs.declared.columns.Mark.{Mark}
use Rattle.optra_prices.specs.declared.columns.Mark.TheVariants.{Still, Due, Rose, Fell}
use Rattle.optra_prices.specs.declared.numbering.Groups.{Groups}
use Rattle.optra_prices.specs.declared.touch.Touch.{Touch}
use Rattle.optra_node.proofs.LoadLemmas.{contains_head, contains_later}
use Rattle.optra_node.proofs.SumLemmas.{sum_of-cons}
use Rattle.optra_prices.proofs.ValueOfLemmas.{set_elsewhere}
use Rattle.optra_prices.specs.Levels.{IsLeft}
use Rattle.optra_prices.proofs.LevelLemmas.{all_left, left_next, none_left}

-- ---- marks
pub cases_still : (mark : Mark) → (mark ≡ Still) ⊎ (mark ≡ Still → ⊥)
cases_still Still = inl refl
cases_still Due = inr (λ e. cc)
cases_still Rose = inr (λ e. cc)
cases_still Fell = inr (λ e. cc)

pub mark_set : (marks : List Mark) (k j : ℕ) (mark : Mark) → k < length marks → j ≡ k → mark_at (set marks k mark) j ≡ mark
mark_set marks k j mark l e = ap (mark_at (set marks k mark)) e ∙ get_or-set_same marks k mark Still l

pub mark_apart : (marks : List Mark) (k j : ℕ) (mark : Mark) → j ≢ k → mark_at (set marks k mark) j ≡ mark_at marks j
mark_apart marks k j mark apart = get_or-set_other marks k j mark Still apart

-- one group is marked, and it is listed
pub listed_more : (marks : List Mark) (due more : List ℕ) (g : ℕ) (mark : Mark) → AreListed marks due → (mark_at marks g ≡ Still → Contains more g) → All (Contains more) due
    → AreListed (set marks g mark) more
listed_more marks due more g mark listed here kept h marked = elim (cases_eq h g) as (λ _. Contains more h) [
  | inl same ↦ subst (Contains more) (sym same) (elim (cases_still (mark_at marks g)) as (λ _. Contains more g) [
    | inl still ↦ here still
    | inr told ↦ All-contains (Contains more) due g kept (listed g told)
  ])
  | inr apart ↦ All-contains (Contains more) due h kept (listed h (λ still. marked (mark_apart marks g h mark apart ∙ still)))
]

-- ---- groups that are priced anew
-- the group has its price and its mark tells how it has moved, or it is due and left
abbrev pub IsTold : List ℤ → Columns → ℕ → Columns → ℕ → Type 0
IsTold prices old k now g =
    ((g + 1 < length old.groups.starts.items → price_at now.grouped.items g ≡ group_price prices (group_at old.groups.starts.items old.groups.touches g))
    × MarkTells (price_at old.grouped.items g) (price_at now.grouped.items g) (mark_at now.marks.items g))
    ⊎ ((IsDue now g) × (price_at now.grouped.items g ≡ price_at old.grouped.items g) × IsLeft old.due.items k g)

-- ---- a price of a row that moves
-- a group touches the row, or its price stays
touched_or : (prices : List ℤ) (row : ℕ) (x : ℤ) (touches : List Touch) → IsTouched touches row ⊎ (group_price (set prices row x) touches ≡ group_price prices touches)
touched_or prices row x [] = inr refl
touched_or prices row x (touch ∷ touches) = elim (cases_eq touch.row row) as (λ _. IsTouched (touch ∷ touches) row ⊎ (group_price (set prices row x) (touch ∷ touches) ≡ group_price prices (touch ∷ touches))) [
  | inl same ↦ inl (contains_head touch.row (map (λ (t : Touch). t.row) touches) row same)
  | inr apart ↦ elim (touched_or prices row x touches) as (λ _. IsTouched (touch ∷ touches) row ⊎ (group_price (set prices row x) (touch ∷ touches) ≡ group_price prices (touch ∷ touches))) [
    | inl later ↦ inl (contains_later touch.row (map (λ (t : Touch). t.row) touches) row later)
    | inr same ↦ inr (
        let a = sum_of-cons (λ (t : Touch). slice_index_or (set prices row x) t.row (pos 0) *ℤ pos t.uses) touch touches in
        let b = sum_of-cons (λ (t : Touch). slice_index_or prices t.row (pos 0) *ℤ pos t.uses) touch touches in
        let here = ap (λ (z : ℤ). z *ℤ pos touch.uses) (set_elsewhere prices row touch.row x apart) in
        omega (arith, ints))
  ]
]

-- the group is due, or has its price and no mark
abbrev HasPrice : List ℤ → Groups → Columns → ℕ → Type 0
HasPrice prices groups c g = IsDue c g ⊎ ((mark_at c.marks.items g ≡ Still) × (price_at c.grouped.items g ≡ group_price prices (group_at groups.starts.items groups.touches g)))

-- where the groups that touch the row are due, each of the others still has its price
pub moved_due : (prices : List ℤ) (row : ℕ) (x : ℤ) (old new : Columns) → IsColumns old.groups old → new.groups ≡ old.groups → MarksRow row old new → PricesAllButDue prices old
    → (g : ℕ) → g + 1 < length new.groups.starts.items → IsPricedOrDue (set prices row x) new g
moved_due prices row x old new is groups marks due = subst (λ (gs : Groups). (g : ℕ) → g + 1 < length gs.starts.items → HasPrice (set prices row x) gs new g) (sym groups) each
  where
    -- what was due stays due
    by : (g : ℕ) → group_price (set prices row x) (group_at old.groups.starts.items old.groups.touches g) ≡ group_price prices (group_at old.groups.starts.items old.groups.touches g)
        → (mark_at new.marks.items g ≡ mark_at old.marks.items g) ⊎ IsDue new g → HasPrice prices old.groups old g → HasPrice (set prices row x) old.groups new g
    by g same (inr marked) has = inl marked
    by g same (inl mark) (inl was) = inl (mark ∙ was)
    by g same (inl mark) (inr has) = inr (mark ∙ has.0, ap (λ v. price_at v.items g) marks.more.prices ∙ has.1 ∙ sym same)

    each : (g : ℕ) → g + 1 < length old.groups.starts.items → HasPrice (set prices row x) old.groups new g
    each g l = elim (touched_or prices row x (group_at old.groups.starts.items old.groups.touches g)) as (λ _. HasPrice (set prices row x) old.groups new g) [
      | inl touched ↦ inl (marks.users_due g (let a = is.count in let b = is.mark_count in omega arith) (is.found g row l touched))
      | inr same ↦ by g same (marks.more.marks g) (due.each g l)
    ]

-- ---- marks after marks
pub marks_on : (old mid new : Columns) → MarksMore old mid → MarksMore mid new → MarksMore old new
marks_on old mid new a b = record {
  users = b.users ∙ a.users;
  prices = b.prices ∙ a.prices;
  running = b.running ∙ a.running;
  marks = λ g. by g (a.marks g) (b.marks g);
}
  where
    by : (g : ℕ) → (mark_at mid.marks.items g ≡ mark_at old.marks.items g) ⊎ IsDue mid g → (mark_at new.marks.items g ≡ mark_at mid.marks.items g) ⊎ IsDue new g → (mark_at new.marks.items g ≡ mark_at old.marks.items g) ⊎ IsDue new g
    by g first (inr due) = inr due
    by g (inl was) (inl is) = inl (is ∙ was)
    by g (inr due) (inl is) = inr (is ∙ due)

pub stays_due : (old new : Columns) (g : ℕ) → MarksMore old new → IsDue old g → IsDue new g
stays_due old new g more due = elim (more.marks g) as (λ _. IsDue new g) [
  | inl same ↦ same ∙ due
  | inr is ↦ is
]

-- ---- groups that are made due, one after the other
pub keeps_set : (marks : List Mark) (g : ℕ) → g < length marks → KeepsMarks marks (set marks g Due)
keeps_set marks g l = record {
  count = length-set marks g Due;
  marks = λ h. elim (cases_eq h g) as (λ _. (mark_at (set marks g Due) h ≡ mark_at marks h) ⊎ (mark_at (set marks g Due) h ≡ Due)) [
    | inl same ↦ inr (mark_set marks g h Due l same)
    | inr apart ↦ inl (mark_apart marks g h Due apart)
  ];
}

-- as many marks, of which those of the first groups are due
pub record MarksBelow (n : ℕ) (groups : List ℕ) (old now : List Mark) : Type 0 where
  pub keeps : KeepsMarks old now
  pub here : (k : ℕ) → k < n → slice_index groups k < length old → mark_at now (slice_index groups k) ≡ Due

pub below_none : (groups : List ℕ) (marks : List Mark) → MarksBelow 0 groups marks marks
below_none groups marks = record { keeps = record { count = refl; marks = λ g. inl refl }; here = λ k l. absurd (omega arith) }

pub below_more : (n : ℕ) (groups : List ℕ) (old mid new : List Mark) → MarksBelow n groups old mid → KeepsMarks mid new → (slice_index groups n < length mid → mark_at new (slice_index groups n) ≡ Due) → MarksBelow (n + 1) groups old new
below_more n groups old mid new below keeps here = record {
  keeps = record {
    count = keeps.count ∙ below.keeps.count;
    marks = λ g. on g (below.keeps.marks g) (keeps.marks g);
  };
  here = λ k l w. elim (cases_eq k n) as (λ _. mark_at new (slice_index groups k) ≡ Due) [
    | inl e ↦
        let same = ap (slice_index groups) e in
        let count = below.keeps.count in
        ap (mark_at new) same ∙ here (omega arith)
    | inr apart ↦ stays (slice_index groups k) (below.here k (omega arith) w)
  ];
}
  where
    on : (g : ℕ) → (mark_at mid g ≡ mark_at old g) ⊎ (mark_at mid g ≡ Due) → (mark_at new g ≡ mark_at mid g) ⊎ (mark_at new g ≡ Due) → (mark_at new g ≡ mark_at old g) ⊎ (mark_at new g ≡ Due)
    on g first (inr due) = inr due
    on g (inl was) (inl is) = inl (is ∙ was)
    on g (inr due) (inl is) = inr (is ∙ due)

    stays : (g : ℕ) → mark_at mid g ≡ Due → mark_at new g ≡ Due
    stays g due = elim (keeps.marks g) as (λ _. mark_at new g ≡ Due) [
      | inl same ↦ same ∙ due
      | inr is ↦ is
    ]

pub below_all : (n : ℕ) (groups : List ℕ) (old now : List Mark) → length groups ≤ n → MarksBelow n groups old now → MarksGroups groups old now
below_all n groups old now past below = record {
  keeps = below.keeps;
  due = λ g l has.
      let same : slice_index groups has.0 ≡ g = get_or_default groups has.0 0 g has.1 ∙ has.2 in
      subst (λ (h : ℕ). mark_at now h ≡ Due) same (below.here has.0 (omega (arith, has.1)) (omega arith));
}

-- the groups of a row are due
pub marked_columns : (old new : Columns) (groups : List ℕ) → IsColumns old.groups old → new.groups ≡ old.groups → new.users ≡ old.users → new.grouped ≡ old.grouped → new.highest ≡ old.highest → new.amounts ≡ old.amounts → new.running ≡ old.running → AreListed new.marks.items new.due.items
    → MarksGroups groups old.marks.items new.marks.items → IsColumns old.groups new
marked_columns old new groups is same users grouped highest amounts running listed marks = record {
  groups_are = same;
  are = subst (λ (gs : Groups). AreGroups gs.starts.items gs.touches) (sym same) is.are;
  users_are = subst IsIndex (sym users) is.users_are;
  found = subst (FindsUsers new.groups) (sym users) (subst (λ (gs : Groups). FindsUsers gs old.users) (sym same) is.found);
  shares = subst (λ (gs : Groups). AreShares gs new.users new.amounts.items) (sym same) (subst (λ v. AreShares old.groups new.users v.items) (sym amounts) (subst (λ (us : Index). AreShares old.groups us old.amounts.items) (sym users) is.shares));
  running_count = ap (λ v. length v.items) running ∙ is.running_count ∙ ap (λ v. length v.items) (sym grouped);
  count = ap (λ v. length v.items + 1) grouped ∙ is.count ∙ ap (λ (gs : Groups). length gs.starts.items) (sym same);
  mark_count = marks.keeps.count ∙ is.mark_count ∙ ap (λ v. length v.items) (sym grouped);
  range = subst (λ v. All IsGroupPrice v.items) (sym grouped) is.range;
  high = subst IsGroupPrice (sym highest) is.high;
  most = subst (λ (z : ℤ). All (λ price. price ≤ℤ z) new.grouped.items) (sym highest) (subst (λ v. All (λ price. price ≤ℤ old.highest) v.items) (sym grouped) is.most);
  listed = listed;
}

-- ---- groups that are priced anew, one after the other
still_tells : (price : ℤ) (mark : Mark) → mark ≡ Still → MarkTells price price mark
still_tells price mark still = record { unless_fell = λ _. omega (arith, ints); unless_rose = λ _. omega (arith, ints); told = λ due. cc }

pub tells_by : (old price price' : ℤ) (mark mark' : Mark) → price' ≡ price → mark' ≡ mark → MarkTells old price mark → MarkTells old price' mark'
tells_by old price price' mark mark' e f tells = subst (λ (z : ℤ). MarkTells old z mark') (sym e) (subst (λ (m : Mark). MarkTells old price m) (sym f) tells)

pub told_first : (prices : List ℤ) (old : Columns) → IsColumns old.groups old → PricesAllButDue prices old → (g : ℕ) → IsTold prices old 0 old g
told_first prices old is due g = elim (cases_lt (g + 1) (length old.groups.starts.items)) as (λ _. IsTold prices old 0 old g) [
  | inl within ↦ by within (due.each g within)
  | inr past ↦
      let still : mark_at old.marks.items g ≡ Still = get_or_past old.marks.items g Still (let a = is.count in let b = is.mark_count in omega arith) in
      inl (λ l. absurd (omega arith), still_tells (price_at old.grouped.items g) (mark_at old.marks.items g) still)
]
  where
    by : g + 1 < length old.groups.starts.items → HasPrice prices old.groups old g → IsTold prices old 0 old g
    by within (inl waits) = inr (waits, refl, all_left old.due.items g (is.listed g (λ still. cc)))
    by within (inr has) = inl (λ l. has.1, still_tells (price_at old.grouped.items g) (mark_at old.marks.items g) has.0)

pub told_more : (prices : List ℤ) (old now new : Columns) (k g : ℕ) → now.groups ≡ old.groups → g ≡ get_or old.due.items k 0 → Reprices prices g now new → (h : ℕ) → IsTold prices old k now h → IsTold prices old (k + 1) new h
told_more prices old now new k g groups here repriced h (inl told) =
    let kept = repriced.kept h (λ both. told.1.told both.1) in
    inl (λ l. kept.0 ∙ told.0 l, tells_by (price_at old.grouped.items h) (price_at now.grouped.items h) (price_at new.grouped.items h) (mark_at now.marks.items h) (mark_at new.marks.items h) kept.0 kept.1 told.1)
told_more prices old now new k g groups here repriced h (inr (due, same, left)) = elim (cases_eq h g) as (λ _. IsTold prices old (k + 1) new h) [
  | inl is ↦
      let due_here : IsDue now g = subst (IsDue now) is due in
      let priced = repriced.priced due_here ∙ ap (λ (gs : Groups). group_price prices (group_at gs.starts.items gs.touches g)) groups in
      let marked = repriced.marked due_here in
      subst (IsTold prices old (k + 1) new) (sym is) (inl (λ l. priced, subst (λ (z : ℤ). MarkTells z (price_at new.grouped.items g) (mark_at new.marks.items g)) (sym (ap (price_at now.grouped.items) is) ∙ same ∙ ap (price_at old.grouped.items) is) marked))
  | inr apart ↦
      let kept = repriced.kept h (λ both. apart both.0) in
      inr (
        kept.1 ∙ due,
        kept.0 ∙ same,
        elim (left_next old.due.items k h left) as (λ _. IsLeft old.due.items (k + 1) h) [
          | inl now_here ↦ absurd (apart (sym now_here ∙ sym here))
          | inr later ↦ later
        ],
      )
]

pub not_due : (prices : List ℤ) (g : ℕ) (c : Columns) → (IsDue c g → ⊥) → Reprices prices g c c
not_due prices g c other_mark = record { due_is = refl; running_is = refl; priced = λ due. absurd (other_mark due); marked = λ due. absurd (other_mark due); kept = λ h other. (refl, refl) }

pub past_due : (c : Columns) (g : ℕ) → length c.marks.items ≤ g → IsDue c g → ⊥
past_due c g past due = let still : mark_at c.marks.items g ≡ Still = get_or_past c.marks.items g Still past in cc

-- a price that is no more than the greatest
pub most_set : (prices : List ℤ) (k : ℕ) (price highest : ℤ) → All (λ p. p ≤ℤ highest) prices → All (λ p. p ≤ℤ int_max highest price) (set prices k price)
most_set prices k price highest most =
    All-set (λ (p : ℤ). p ≤ℤ int_max highest price) prices k price (omega (arith, ints, clamps)) (All-weaker (λ (p : ℤ). p ≤ℤ highest) (λ (p : ℤ). p ≤ℤ int_max highest price) (λ p l. omega (arith, ints, clamps)) prices most)

pub high_max : (highest price : ℤ) → IsGroupPrice highest → IsGroupPrice price → IsGroupPrice (int_max highest price)
high_max highest price h p =
    let a = h.0 in
    let b = h.1 in
    let d = p.0 in
    let e = p.1 in
    (omega (arith, ints, clamps), omega (arith, ints, clamps))

-- when all that are listed are priced, each group has its price, and its mark tells how it has moved
pub told_all : (prices : List ℤ) (old now : Columns) (k g : ℕ) → length old.due.items ≤ k → IsTold prices old k now g
    → (g + 1 < length old.groups.starts.items → price_at now.grouped.items g ≡ group_price prices (group_at old.groups.starts.items old.groups.touches g)) × MarkTells (price_at old.grouped.items g) (price_at now.grouped.items g) (mark_at now.marks.items g)
told_all prices old now k g past (inl told) = told
told_all prices old now k g past (inr waits) = absurd (none_left old.due.items k g past waits.2)

-- ---- marks that are taken away
mark_still : (marks : List Mark) (k : ℕ) → mark_at (set marks k Still) k ≡ Still
mark_still [] k = refl
mark_still (m ∷ marks) zero = refl
mark_still (m ∷ marks) (suc k) = mark_still marks k

abbrev pub IsStillOrLeft : List Mark → List ℕ → List Mark → ℕ → Type 0
IsStillOrLeft old gone now g = (mark_at now g ≡ Still) ⊎ ((mark_at now g ≡ mark_at old g) × (Contains gone g → ⊥))

pub still_next : (old now : List Mark) (groups : List ℕ) (i d g : ℕ) → i < length groups → IsStillOrLeft old (take i groups) now g → IsStillOrLeft old (take (i + 1) groups) (set now (get_or groups i d) Still) g
still_next old now groups i d g l so_far = elim (cases_eq g (get_or groups i d)) as (λ _. IsStillOrLeft old (take (i + 1) groups) (set now (get_or groups i d) Still) g) [
  | inl same ↦ inl (ap (mark_at (set now (get_or groups i d) Still)) same ∙ mark_still now (get_or groups i d))
  | inr apart ↦ by apart so_far
]
  where
    by : (g ≡ get_or groups i d → ⊥) → IsStillOrLeft old (take i groups) now g → IsStillOrLeft old (take (i + 1) groups) (set now (get_or groups i d) Still) g
    by apart (inl still) = inl (mark_apart now (get_or groups i d) g Still apart ∙ still)
    by apart (inr (same, other)) = inr (
      mark_apart now (get_or groups i d) g Still apart ∙ same,
      λ has.
          elim (Contains-push_cases (take i groups) (get_or groups i d) g (subst (λ (xs : List ℕ). Contains xs g) (take_more groups i d l) has)) as (λ _. ⊥) [
            | inl before ↦ other before
            | inr here ↦ apart (sym here)
          ],
    )

-- where all that were marked are listed, no mark is left
pub all_still : (old now : List Mark) (due : List ℕ) (g : ℕ) → ((h : ℕ) → (mark_at old h ≡ Still → ⊥) → Contains due h) → IsStillOrLeft old due now g → mark_at now g ≡ Still
all_still old now due g listed (inl still) = still
all_still old now due g listed (inr (same, other)) = elim (cases_still (mark_at old g)) as (λ _. mark_at now g ≡ Still) [
  | inl still ↦ same ∙ still
  | inr told ↦ absurd (other (listed g told))
]

-- ---- zero prices
pub zero_group : (touches : List Touch) → group_price [] touches ≡ pos 0
zero_group [] = refl
zero_group (touch ∷ touches) =
    let cons = sum_of-cons (λ (t : Touch). slice_index_or [] t.row (pos 0) *ℤ pos t.uses) touch touches in
    let here = zero-*ℤ (pos touch.uses) in
    let rest = zero_group touches in
    omega (arith, ints)
