-- How much groups use of rows, by amounts beside the index of the groups that touch each row.
use Rattle.std.proofs.Common.{◌≡◌, ℕ, zero, suc, ◌+◌, ◌-◌, ◌≤◌, ◌<◌, Bool, true, false, cond, List, length, take, drop, get_or, refl, sym, ap, ◌∙◌, subst, arith, inl, inr}
use Rattle.std.specs.Prelude.{nat_eq, sum_by, slice_index}
use Rattle.std.proofs.lemmas.Bool.{cases_lt, eq-eqb, ne_eqb}
use Rattle.std.proofs.lemmas.Bool.Decides.{eqb_tells}
use Rattle.std.proofs.lemmas.List.{get_or_past, get_or-map, get_or-drop, length-map, length-drop, take_all}
use Rattle.std.proofs.lemmas.List.Sums.{sum_by_more}
use Rattle.optra_prices.specs.NarrowTouches.{no_touch}
use Rattle.optra_prices.specs.Indexes.{AreCursors, IsPlaced, count_of, count_below, put_place}
use Rattle.optra_prices.specs.Shares.{sum_to, amount_at, share_to, share_of, AreShares, ArePutUses}
use Rattle.optra_prices.specs.Tables.{AreGroups, group_at}
use Rattle.optra_prices.specs.Users.{rows_touched}
use Rattle.optra_prices.specs.Uses.{touch_use, touch_uses}
use Rattle.optra_prices.specs.declared.index.Index.{Index}
use Rattle.optra_prices.specs.declared.numbering.Groups.{Groups}
use Rattle.optra_prices.specs.declared.touch.Touch.{Touch}
use Rattle.optra_prices.proofs.IndexLemmas.{below_none, below_next, of_more, of_other}

-- ---- sums of the values at the first places
sum_none : (f : ℕ → ℕ) (n : ℕ) → ((j : ℕ) → j < n → f j ≡ 0) → sum_to f n ≡ 0
sum_none f zero none = refl
sum_none f (suc n) none =
    let rest = sum_none f n (λ j l. none j (omega arith)) in
    let here = none n (omega arith) in
    omega arith

-- where all before a part add nothing
sum_part : (f : ℕ → ℕ) (h : Touch → ℕ) (touches : List Touch) (d : Touch) (a m : ℕ) → a + m ≤ length touches → ((j : ℕ) → j < a → f j ≡ 0) → ((j : ℕ) → a ≤ j → j < a + m → f j ≡ h (get_or touches j d))
    → sum_to f (a + m) ≡ sum_by h (take m (drop a touches))
sum_part f h touches d a zero l none some =
    let same : a + 0 ≡ a = omega arith in
    ap (sum_to f) same ∙ sum_none f a none
sum_part f h touches d a (suc m) l none some =
    let rest = sum_part f h touches d a m (omega arith) none (λ j low high. some j low (omega arith)) in
    let one : a + suc m ≡ suc (a + m) = omega arith in
    let two : suc m ≡ m + 1 = omega arith in
    let here = some (a + m) (omega arith) (omega arith) in
    let more = sum_by_more h (drop a touches) m d (omega (arith, length-drop a touches)) in
    let at = ap h (get_or-drop a touches m d) in
    let e = ap (sum_to f) one in
    let t = ap (λ (k : ℕ). sum_by h (take k (drop a touches))) two in
    omega arith

-- and all past it
sum_past : (f : ℕ → ℕ) (b m : ℕ) → ((j : ℕ) → b ≤ j → j < b + m → f j ≡ 0) → sum_to f (b + m) ≡ sum_to f b
sum_past f b zero none = let same : b + 0 ≡ b = omega arith in ap (sum_to f) same
sum_past f b (suc m) none =
    let rest = sum_past f b m (λ j low high. none j low (omega arith)) in
    let one : b + suc m ≡ suc (b + m) = omega arith in
    let here = none (b + m) (omega arith) (omega arith) in
    let e = ap (sum_to f) one in
    omega arith

-- ---- the places of a row
-- what stands at a row's places is what stands where its keys are put
sum_picked : (f : ℕ → ℕ) (keys : List ℕ) (row n : ℕ) → n ≤ length keys → sum_to (λ i. f (count_below row keys + i)) (count_of row (take n keys)) ≡ sum_to (λ j. cond (nat_eq (slice_index keys j) row) (f (put_place keys j)) 0) n
sum_picked f keys row zero l = refl
sum_picked f keys row (suc n) l = elim (eqb_tells (slice_index keys n) row) as (λ _. sum_to (λ i. f (count_below row keys + i)) (count_of row (take (suc n) keys)) ≡ sum_to (λ j. cond (nat_eq (slice_index keys j) row) (f (put_place keys j)) 0) (suc n)) [
  | inl (test, same) ↦
      let more : count_of row (take (suc n) keys) ≡ suc (count_of row (take n keys)) = ap (λ (k : ℕ). count_of row (take k keys)) one ∙ of_more keys row n (omega arith) same ∙ (omega arith) in
      let up = ap (sum_to (λ i. f (count_below row keys + i))) more in
      let here : f (put_place keys n) ≡ f (count_below row keys + count_of row (take n keys)) = ap (λ (k : ℕ). f (count_below k keys + count_of k (take n keys))) same in
      let picked = ap (λ (b : Bool). cond b (f (put_place keys n)) 0) test in
      let before = sum_picked f keys row n (omega arith) in
      omega arith
  | inr (test, other) ↦
      let more : count_of row (take (suc n) keys) ≡ count_of row (take n keys) = ap (λ (k : ℕ). count_of row (take k keys)) one ∙ of_other keys row n (omega arith) other in
      let up = ap (sum_to (λ i. f (count_below row keys + i))) more in
      let picked = ap (λ (b : Bool). cond b (f (put_place keys n)) 0) test in
      let before = sum_picked f keys row n (omega arith) in
      omega arith
]
  where
    one : suc n ≡ n + 1
    one = omega arith

-- the start of a row is where its first item is put
start_at : (keys starts : List ℕ) (n row : ℕ) → length keys ≤ n → AreCursors keys n starts → row < length starts → slice_index starts row ≡ count_below row keys
start_at keys starts n zero all cursors l = cursors.first ∙ sym (below_none keys)
start_at keys starts n (suc row) all cursors l =
    let one : suc row ≡ row + 1 = omega arith in
    ap (slice_index starts) one ∙ cursors.each row (omega arith) ∙ ap (λ (ks : List ℕ). count_below row keys + count_of row ks) (take_all n keys all) ∙ sym (below_next keys row (suc row) one)

cond_none : (b : Bool) → cond b zero zero ≡ zero
cond_none true = refl
cond_none false = refl

module _ (groups : Groups) (users : Index) (amounts : List ℕ) (are : AreGroups groups.starts.items groups.touches) (placed : IsPlaced groups.starts.items (rows_touched groups.touches) users) (put : ArePutUses groups.touches amounts)
    (row g : ℕ) (within : g + 1 < length groups.starts.items) where
  abbrev starts : List ℕ
  starts = groups.starts.items

  abbrev touches : List Touch
  touches = groups.touches

  abbrev keys : List ℕ
  keys = rows_touched touches

  abbrev picked : ℕ → ℕ
  picked j = cond (nat_eq (slice_index keys j) row) (amount_at users amounts g (put_place keys j)) 0

  abbrev a : ℕ
  a = slice_index starts g

  abbrev b : ℕ
  b = slice_index starts (g + 1)

  long : length keys ≡ length touches
  long = length-map touches (λ (t : Touch). t.row)

  -- a touch of the group counts, as it uses of the row
  picked_here : (j : ℕ) → a ≤ j → j < b → picked j ≡ touch_use (get_or touches j no_touch) row
  picked_here j low high =
      let most = are.within (g + 1) within in
      let l : j < length touches = omega arith in
      let test = eq-eqb (slice_index users.items.items (put_place keys j)) g (placed.here g j within low high) in
      let amount : amount_at users amounts g (put_place keys j) ≡ (get_or touches j no_touch).uses =
      ap (λ (t : Bool). cond t (slice_index amounts (put_place keys j)) 0) test ∙ put j l ∙ get_or-map (λ (t : Touch). t.uses) touches j no_touch 0 l
      in
      let key : slice_index keys j ≡ (get_or touches j no_touch).row = get_or-map (λ (t : Touch). t.row) touches j no_touch 0 l in
      ap (λ (n : ℕ). cond (nat_eq (slice_index keys j) row) n 0) amount ∙ ap (λ (k : ℕ). cond (nat_eq k row) (get_or touches j no_touch).uses 0) key

  -- one of another group doesn't
  picked_other : (j : ℕ) → j < length touches → (slice_index users.items.items (put_place keys j) ≡ g → ⊥) → picked j ≡ 0
  picked_other j l other =
      let test = ne_eqb (slice_index users.items.items (put_place keys j)) g other in
      ap (λ (n : ℕ). cond (nat_eq (slice_index keys j) row) n 0) (ap (λ (t : Bool). cond t (slice_index amounts (put_place keys j)) 0) test) ∙ cond_none (nat_eq (slice_index keys j) row)

  owned : (j : ℕ) → j < length touches → slice_index users.items.items (put_place keys j) ≡ g → (a ≤ j) × (j < b)
  owned j l same =
      let last = are.last in
      subst (λ (h : ℕ). (slice_index starts h ≤ j) × (j < slice_index starts (h + 1))) same (placed.owns j (omega arith))

  picked_all : sum_to picked (length touches) ≡ touch_uses (group_at starts touches g) row
  picked_all =
      let most = are.within (g + 1) within in
      let up = are.ordered g within in
      let m : a + (b - a) ≡ b = omega arith in
      let n : b + (length touches - b) ≡ length touches = omega arith in
      let part = sum_part picked (λ (t : Touch). touch_use t row) touches no_touch a (b - a) (omega arith) (λ j l. picked_other j (omega arith) (λ same. let o = (owned j (omega arith) same).0 in omega arith))
      (λ j low high. picked_here j low (omega arith)) in
      let past = sum_past picked b (length touches - b) (λ j low high. picked_other j (omega arith) (λ same. let o = (owned j (omega arith) same).1 in omega arith)) in
      sym (ap (sum_to picked) n) ∙ past ∙ sym (ap (sum_to picked) m) ∙ part

  pub share_is : share_of users amounts row g ≡ touch_uses (group_at starts touches g) row
  share_is = elim (cases_lt (row + 1) (length users.starts.items)) as (λ _. share_of users amounts row g ≡ touch_uses (group_at starts touches g) row) [
    | inl inside ↦
        let last = are.last in
        let count = long in
        let n = slice_index starts (length starts - 1) in
        let start = start_at keys users.starts.items n row (omega arith) placed.cursors (omega arith) in
        let end = placed.cursors.each row inside in
        let size : slice_index users.starts.items (row + 1) - slice_index users.starts.items row ≡ count_of row (take n keys) = omega arith in
        ap (λ (s : ℕ). sum_to (λ i. amount_at users amounts g (s + i)) (slice_index users.starts.items (row + 1) - slice_index users.starts.items row)) start
        ∙ ap (sum_to (λ i. amount_at users amounts g (count_below row keys + i))) size ∙ sum_picked (amount_at users amounts g) keys row n (omega arith)
        ∙ ap (sum_to picked) last ∙ picked_all
    | inr outside ↦
        let none = get_or_past users.starts.items (row + 1) 0 outside in
        let size : slice_index users.starts.items (row + 1) - slice_index users.starts.items row ≡ 0 = omega arith in
        let empty : share_of users amounts row g ≡ 0 = ap (share_to users amounts row g) size in
        empty ∙ sym (sum_none picked (length touches) (λ j l. no_key j l outside)) ∙ picked_all
  ]
    where
      no_key : (j : ℕ) → j < length touches → length users.starts.items ≤ row + 1 → picked j ≡ 0
      no_key j l outside =
          let count = long in
          let w = placed.cursors.within j 0 (omega arith) in
          let test = ne_eqb (slice_index keys j) row (λ e. omega arith) in
          ap (λ (t : Bool). cond t (amount_at users amounts g (put_place keys j)) 0) test

pub shares_are : (groups : Groups) (users : Index) (amounts : List ℕ) → AreGroups groups.starts.items groups.touches → IsPlaced groups.starts.items (rows_touched groups.touches) users → ArePutUses groups.touches amounts → AreShares groups users amounts
shares_are groups users amounts are placed put row g within = share_is groups users amounts are placed put row g within

-- ---- sums on the way
sum_up : (f : ℕ → ℕ) (n m : ℕ) → sum_to f n ≤ sum_to f (n + m)
sum_up f n zero = let same = ap (sum_to f) (same_as n) in omega arith
  where
    same_as : (k : ℕ) → k + 0 ≡ k
    same_as k = omega arith
sum_up f n (suc m) =
    let rest = sum_up f n m in
    let one : n + suc m ≡ suc (n + m) = omega arith in
    let e = ap (sum_to f) one in
    omega arith

-- the sum so far and the next value are no more than the whole sum
pub sum_next : (f : ℕ → ℕ) (n m : ℕ) → n < m → sum_to f n + f n ≤ sum_to f m
sum_next f n m l =
    let up = sum_up f (suc n) (m - suc n) in
    let same : suc n + (m - suc n) ≡ m = omega arith in
    let e = ap (sum_to f) same in
    omega arith
