-- Prices of groups that move along with a price of a row.
use Rattle.std.proofs.Common.{◌≡◌, ℕ, zero, suc, ◌+◌, ◌-◌, ◌*◌, ◌≤◌, ◌<◌, Bool, cond, List, [], ◌∷◌, length, set, refl, sym, ap, ◌∙◌, subst, arith, inl, inr}
use Rattle.std.specs.Prelude.{All, ℤ, pos, ◌+ℤ◌, ◌-ℤ◌, ◌*ℤ◌, ◌≤ℤ◌, slice_index, slice_index_or}
use Rattle.std.proofs.lemmas.Bool.{cases_lt, cases_eq, eq-eqb, ne_eqb}
use Rattle.std.proofs.lemmas.Bool.Decides.{eqb_tells}
use Rattle.std.proofs.lemmas.Int.{ints}
use Rattle.std.proofs.lemmas.List.{get_or_past, length-set}
use Rattle.std.proofs.lemmas.List.Sums.{sum_by-cons, sum_by-le-sum_by}
use Rattle.std.proofs.Math.IntN.{*ℤ_comm, *ℤ-zero, suc_ℤ-*ℤ}
use Rattle.optra_bid.specs.Specs.{IsBetween}
use Rattle.optra_node.proofs.SumLemmas.{sum_of-cons}
use Rattle.optra_prices.specs.Columns.{IsColumns, AreRunning, AreStill, IsPriceMove, IsGroupMove, IsMovedPrice, MovesRunning, PricesAllButDue, price_at}
use Rattle.optra_prices.specs.Shares.{amount_at, share_to}
use Rattle.optra_prices.specs.Tables.{AreGroupPrices, IsRowPrice, IsGroupPrice, group_at, group_price, uses_in_all}
use Rattle.optra_prices.specs.Uses.{touch_use, touch_uses}
use Rattle.optra_prices.specs.declared.columns.Columns.{Columns}
use Rattle.optra_prices.specs.declared.numbering.Groups.{Groups}
use Rattle.optra_prices.specs.declared.touch.Touch.{Touch}
use Rattle.optra_prices.proofs.ListingLemmas.{row_price_or}
use Rattle.optra_prices.proofs.PriceSumLemmas.{product_within}
use Rattle.optra_prices.proofs.ShareLemmas.{sum_next}
use Rattle.optra_prices.proofs.ValueOfLemmas.{set_at, set_elsewhere}

-- ---- products
times_suc : (by : ℤ) (n : ℕ) → by *ℤ pos (suc n) ≡ by *ℤ pos n +ℤ by
times_suc by n = *ℤ_comm by (pos (suc n)) ∙ suc_ℤ-*ℤ (pos n) by ∙ ap (λ (z : ℤ). z +ℤ by) (*ℤ_comm (pos n) by)

times_add : (by : ℤ) (a b : ℕ) → by *ℤ pos (a + b) ≡ by *ℤ pos a +ℤ by *ℤ pos b
times_add by a zero =
    let same : a + 0 ≡ a = omega arith in
    let e = ap (λ (n : ℕ). by *ℤ pos n) same in
    let z = *ℤ-zero by in
    omega (arith, ints)
times_add by a (suc b) =
    let one : a + suc b ≡ suc (a + b) = omega arith in
    let e = ap (λ (n : ℕ). by *ℤ pos n) one in
    let s = times_suc by (a + b) in
    let t = times_suc by b in
    let rest = times_add by a b in
    omega (arith, ints)

times_minus : (x y : ℤ) (n : ℕ) → (x -ℤ y) *ℤ pos n ≡ x *ℤ pos n -ℤ y *ℤ pos n
times_minus x y zero =
    let a = *ℤ-zero (x -ℤ y) in
    let b = *ℤ-zero x in
    let c = *ℤ-zero y in
    omega (arith, ints)
times_minus x y (suc n) =
    let a = times_suc (x -ℤ y) n in
    let b = times_suc x n in
    let c = times_suc y n in
    let rest = times_minus x y n in
    omega (arith, ints)

times_range : (by : ℤ) (n : ℕ) → IsPriceMove by → ((by *ℤ pos n) ≤ℤ pos (2000000000000 * n)) × (pos 0 ≤ℤ ((by *ℤ pos n) +ℤ pos (2000000000000 * n)))
times_range by zero range = let z = *ℤ-zero by in (omega (arith, ints), omega (arith, ints))
times_range by (suc n) range =
    let s = times_suc by n in
    let rest = times_range by n range in
    let a = rest.0 in
    let b = rest.1 in
    let low = range.0 in
    let high = range.1 in
    (omega (arith, ints), omega (arith, ints))

-- ---- what a group uses, and its price
uses_most : (touches : List Touch) (row : ℕ) → touch_uses touches row ≤ uses_in_all touches
uses_most touches row = sum_by-le-sum_by (λ (t : Touch). touch_use t row) (λ (t : Touch). t.uses) touches each
  where
    each : (t : Touch) → touch_use t row ≤ t.uses
    each t = elim (eqb_tells t.row row) as (λ _. touch_use t row ≤ t.uses) [
      | inl (test, same) ↦ let e = ap (λ (b : Bool). cond b t.uses 0) test in omega arith
      | inr (test, other) ↦ let e = ap (λ (b : Bool). cond b t.uses 0) test in omega arith
    ]

price_range : (prices : List ℤ) (touches : List Touch) → All IsRowPrice prices → IsBetween (pos 0) (pos (2000000000000 * uses_in_all touches)) (group_price prices touches)
price_range prices [] range = (omega (arith, ints), omega (arith, ints))
price_range prices (touch ∷ touches) range =
    let a = sum_of-cons (λ (t : Touch). slice_index_or prices t.row (pos 0) *ℤ pos t.uses) touch touches in
    let s = sum_by-cons (λ (t : Touch). t.uses) touch touches in
    let here = product_within (slice_index_or prices touch.row (pos 0)) touch.uses (row_price_or prices touch.row range) in
    let rest = price_range prices touches range in
    let b = here.0 in
    let d = here.1 in
    let e = rest.0 in
    let f = rest.1 in
    (omega (arith, ints), omega (arith, ints))

pub group_range : (prices : List ℤ) (touches : List Touch) → All IsRowPrice prices → uses_in_all touches ≤ 8192 → IsGroupPrice (group_price prices touches)
group_range prices touches range few =
    let is = price_range prices touches range in
    let a = is.0 in
    let b = is.1 in
    (omega (arith, ints), omega (arith, ints))

-- the price moves by what the group uses of the row
pub group_moved : (prices : List ℤ) (row : ℕ) (x : ℤ) (touches : List Touch) → row < length prices → group_price (set prices row x) touches ≡ group_price prices touches +ℤ (x -ℤ slice_index_or prices row (pos 0)) *ℤ pos (touch_uses touches row)
group_moved prices row x [] within = let z = *ℤ-zero (x -ℤ slice_index_or prices row (pos 0)) in omega (arith, ints)
group_moved prices row x (touch ∷ touches) within = elim (eqb_tells touch.row row) as (λ _. group_price (set prices row x) (touch ∷ touches) ≡ group_price prices (touch ∷ touches) +ℤ by *ℤ pos (touch_uses (touch ∷ touches) row)) [
  | inl (test, same) ↦
      let u = ap (λ (b : Bool). by *ℤ pos (cond b touch.uses 0)) test in
      let here = ap (λ (z : ℤ). z *ℤ pos touch.uses) (set_at prices row touch.row x within same) in
      let was = ap (λ (i : ℕ). slice_index_or prices i (pos 0) *ℤ pos touch.uses) same in
      let minus = times_minus x (slice_index_or prices row (pos 0)) touch.uses in
      let n = new in
      let o = old in
      let a = all in
      let r = group_moved prices row x touches within in
      omega (arith, ints)
  | inr (test, other) ↦
      let u = ap (λ (b : Bool). by *ℤ pos (cond b touch.uses 0)) test in
      let z = *ℤ-zero by in
      let here = ap (λ (z : ℤ). z *ℤ pos touch.uses) (set_elsewhere prices row touch.row x other) in
      let n = new in
      let o = old in
      let a = all in
      let r = group_moved prices row x touches within in
      omega (arith, ints)
]
  where
    by : ℤ
    by = x -ℤ slice_index_or prices row (pos 0)

    new : group_price (set prices row x) (touch ∷ touches) ≡ slice_index_or (set prices row x) touch.row (pos 0) *ℤ pos touch.uses +ℤ group_price (set prices row x) touches
    new = sum_of-cons (λ (t : Touch). slice_index_or (set prices row x) t.row (pos 0) *ℤ pos t.uses) touch touches

    old : group_price prices (touch ∷ touches) ≡ slice_index_or prices touch.row (pos 0) *ℤ pos touch.uses +ℤ group_price prices touches
    old = sum_of-cons (λ (t : Touch). slice_index_or prices t.row (pos 0) *ℤ pos t.uses) touch touches

    all : by *ℤ pos (touch_uses (touch ∷ touches) row) ≡ by *ℤ pos (touch_use touch row) +ℤ by *ℤ pos (touch_uses touches row)
    all = ap (λ (n : ℕ). by *ℤ pos n) (sum_by-cons (λ (t : Touch). touch_use t row) touch touches) ∙ times_add by (touch_use touch row) (touch_uses touches row)

-- ---- prices of groups on the way
-- they have moved by what stands for them at the first places of the row
pub record AreMovedTo (old : Columns) (row : ℕ) (by : ℤ) (n : ℕ) (running : List ℤ) : Type 0 where
  pub count : length running ≡ length old.running.items
  pub each : (g : ℕ) → g + 1 < length old.groups.starts.items → price_at running g ≡ price_at old.running.items g +ℤ by *ℤ pos (share_to old.users old.amounts.items row g n)

pub moved_none : (old : Columns) (row : ℕ) (by : ℤ) → AreMovedTo old row by 0 old.running.items
moved_none old row by = record { count = refl; each = λ g l. let z = *ℤ-zero by in omega (arith, ints) }

pub moved_more : (old : Columns) (row : ℕ) (by : ℤ) (n h uses : ℕ) (now new : List ℤ) → IsColumns old.groups old → h ≡ slice_index old.users.items.items (slice_index old.users.starts.items row + n) → uses ≡ slice_index old.amounts.items (slice_index old.users.starts.items row + n)
    → new ≡ set now h (price_at now h +ℤ by *ℤ pos uses) → AreMovedTo old row by n now → AreMovedTo old row by (n + 1) new
moved_more old row by n h uses now new is item amount put moved = record {
  count = ap length put ∙ length-set now h _ ∙ moved.count;
  each = λ g l. elim (cases_eq g h) as (λ _. price_at new g ≡ price_at old.running.items g +ℤ by *ℤ pos (share_to old.users old.amounts.items row g (n + 1))) [
    | inl same ↦
        let count = moved.count in
        let a = is.count in
        let b = is.running_count in
        let here = ap (λ (xs : List ℤ). price_at xs g) put ∙ set_at now h g (price_at now h +ℤ by *ℤ pos uses) (omega arith) same in
        let there = ap (price_at now) same in
        let before = moved.each g l in
        let test = eq-eqb (slice_index old.users.items.items (slice_index old.users.starts.items row + n)) g (sym item ∙ sym same) in
        let at : amount_at old.users old.amounts.items g (slice_index old.users.starts.items row + n) ≡ uses = ap (λ (b : Bool). cond b (slice_index old.amounts.items (slice_index old.users.starts.items row + n)) 0) test ∙ sym amount in
        let u = ap (λ (m : ℕ). by *ℤ pos m) at in
        let more = next g in
        omega (arith, ints)
    | inr apart ↦
        let here = ap (λ (xs : List ℤ). price_at xs g) put ∙ set_elsewhere now h g (price_at now h +ℤ by *ℤ pos uses) apart in
        let before = moved.each g l in
        let test = ne_eqb (slice_index old.users.items.items (slice_index old.users.starts.items row + n)) g (λ e. apart (sym (item ∙ e))) in
        let at : amount_at old.users old.amounts.items g (slice_index old.users.starts.items row + n) ≡ 0 = ap (λ (b : Bool). cond b (slice_index old.amounts.items (slice_index old.users.starts.items row + n)) 0) test in
        let u = ap (λ (m : ℕ). by *ℤ pos m) at in
        let z = *ℤ-zero by in
        let more = next g in
        omega (arith, ints)
  ];
}
  where
    next : (g : ℕ) → by *ℤ pos (share_to old.users old.amounts.items row g (n + 1)) ≡ by *ℤ pos (share_to old.users old.amounts.items row g n) +ℤ by *ℤ pos (amount_at old.users old.amounts.items g (slice_index old.users.starts.items row + n))
    next g =
        let one : n + 1 ≡ suc n = omega arith in
        ap (λ (m : ℕ). by *ℤ pos (share_to old.users old.amounts.items row g m)) one ∙ times_add by (share_to old.users old.amounts.items row g n) (amount_at old.users old.amounts.items g (slice_index old.users.starts.items row + n))

pub moved_all : (old new : Columns) (row : ℕ) (by : ℤ) (n : ℕ) → IsColumns old.groups old → n ≡ slice_index old.users.starts.items (row + 1) - slice_index old.users.starts.items row → AreMovedTo old row by n new.running.items → MovesRunning row by old new
moved_all old new row by n is end moved = record {
  count = moved.count;
  each = λ g l. moved.each g l ∙ ap (λ (m : ℕ). price_at old.running.items g +ℤ by *ℤ pos m) (ap (share_to old.users old.amounts.items row g) end ∙ is.shares row g l);
}

-- what is yet to be added is little
pub few_next : (old : Columns) (row n h uses : ℕ) (now : List ℤ) → IsColumns old.groups old → n < slice_index old.users.starts.items (row + 1) - slice_index old.users.starts.items row → length now ≡ length old.running.items
    → h ≡ slice_index old.users.items.items (slice_index old.users.starts.items row + n) → uses ≡ slice_index old.amounts.items (slice_index old.users.starts.items row + n) → h < length now → uses ≤ 8192
few_next old row n h uses now is l count item amount within =
    let a = is.count in
    let b = is.running_count in
    let g : h + 1 < length old.groups.starts.items = omega arith in
    let share = is.shares row h g in
    let most = uses_most (group_at old.groups.starts.items old.groups.touches h) row in
    let few = is.are.few h g in
    let test = eq-eqb (slice_index old.users.items.items (slice_index old.users.starts.items row + n)) h (sym item) in
    let at : amount_at old.users old.amounts.items h (slice_index old.users.starts.items row + n) ≡ uses = ap (λ (t : Bool). cond t (slice_index old.amounts.items (slice_index old.users.starts.items row + n)) 0) test ∙ sym amount in
    let next = sum_next (λ i. amount_at old.users old.amounts.items h (slice_index old.users.starts.items row + i)) n _ l in
    omega arith

-- a price on the way
pub range_next : (prices : List ℤ) (old : Columns) (row : ℕ) (by : ℤ) (n h : ℕ) (now : List ℤ) → IsColumns old.groups old → All IsRowPrice prices → AreRunning prices old → IsPriceMove by → n < slice_index old.users.starts.items (row + 1) - slice_index old.users.starts.items row
    → AreMovedTo old row by n now → IsMovedPrice (price_at now h)
range_next prices old row by n h now is range running move l moved = elim (cases_lt h (length now)) as (λ _. IsMovedPrice (price_at now h)) [
  | inr past ↦ let none = get_or_past now h (pos 0) past in (omega (arith, ints), omega (arith, ints))
  | inl within ↦
      let count = moved.count in
      let a = is.count in
      let b = is.running_count in
      let g : h + 1 < length old.groups.starts.items = omega arith in
      let few = is.are.few h g in
      let was = running h g in
      let price = group_range prices (group_at old.groups.starts.items old.groups.touches h) range few in
      let share = is.shares row h g in
      let most = uses_most (group_at old.groups.starts.items old.groups.touches h) row in
      let next = sum_next (λ i. amount_at old.users old.amounts.items h (slice_index old.users.starts.items row + i)) n _ l in
      let part : share_to old.users old.amounts.items row h n ≤ 8192 = omega arith in
      let times = times_range by (share_to old.users old.amounts.items row h n) move in
      let here = moved.each h g in
      let p = price.0 in
      let q = price.1 in
      let t = times.0 in
      let u = times.1 in
      (omega (arith, ints), omega (arith, ints))
]

-- ---- prices of groups at the prices of rows
-- where the price of the row has moved by as much as they have, they are known
pub running_moved : (prices : List ℤ) (row : ℕ) (x by : ℤ) (old new : Columns) → row < length prices → by ≡ x -ℤ slice_index_or prices row (pos 0) → new.groups ≡ old.groups → MovesRunning row by old new → AreRunning prices old → AreRunning (set prices row x) new
running_moved prices row x by old new within is same moves running = subst (λ groups. AreGroupPrices (set prices row x) groups.starts.items groups.touches new.running.items) (sym same) (λ g l.
    let group = group_at old.groups.starts.items old.groups.touches g in
    moves.each g l ∙ ap (λ (z : ℤ). z +ℤ by *ℤ pos (touch_uses group row)) (running g l) ∙ ap (λ (z : ℤ). group_price prices group +ℤ z *ℤ pos (touch_uses group row)) is ∙ sym (group_moved prices row x group within))

-- with no group marked, none is due
pub none_due : (prices : List ℤ) (c : Columns) → AreStill c → AreRunning prices c → AreGroupPrices prices c.groups.starts.items c.groups.touches c.grouped.items → PricesAllButDue prices c
none_due prices c still running grouped = record { each = λ g l. inr (still g, grouped g l); running = running }

-- they stay known where they and the groups stay
pub mid_running : (prices : List ℤ) (old new : Columns) → new.groups ≡ old.groups → new.running ≡ old.running → AreRunning prices old → AreRunning prices new
mid_running prices old new groups running are = subst (λ gs. AreGroupPrices prices gs.starts.items gs.touches new.running.items) (sym groups) (subst (λ v. AreGroupPrices prices old.groups.starts.items old.groups.touches v.items) (sym running) are)

pub moved_columns : (groups : Groups) (old new : Columns) → IsColumns groups old → new ≡ record old { running = new.running } → length new.running.items ≡ length old.running.items → IsColumns groups new
moved_columns groups old new is rest count = subst (IsColumns groups) (sym rest) (record {
  groups_are = is.groups_are;
  are = is.are;
  users_are = is.users_are;
  found = is.found;
  shares = is.shares;
  running_count = count ∙ is.running_count;
  count = is.count;
  mark_count = is.mark_count;
  range = is.range;
  high = is.high;
  most = is.most;
  listed = is.listed;
})

-- a price of a row that moves, times what is used of the row
pub move_range : (by : ℤ) (uses : ℕ) → IsPriceMove by → uses ≤ 8192 → IsGroupMove (by *ℤ pos uses)
move_range by uses range few =
    let times = times_range by uses range in
    let a = times.0 in
    let b = times.1 in
    (omega (arith, ints), omega (arith, ints))
