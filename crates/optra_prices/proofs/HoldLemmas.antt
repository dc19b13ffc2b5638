-- What a map holds of rows while uses are added, and the prices that it gives.
use Rattle.std.proofs.Common.{◌≡◌, ℕ, zero, suc, ◌+◌, ◌-◌, ◌*◌, ◌<◌, ◌≤◌, Bool, true, false, cond, List, [], ◌∷◌, map, length, take, get_or, Option, Some, None, slice_get, refl, sym, ap, ◌∙◌, subst, arith, inl, inr}
use Rattle.std.specs.Prelude.{◌↔◌, All, Contains, MatchOption, ℤ, pos, negsuc, neg_ℤ, ◌+ℤ◌, ◌-ℤ◌, ◌*ℤ◌, ◌≤ℤ◌}
use Rattle.std.specs.List.Sorted.{IsStrictlySortedBy}
use Rattle.std.specs.Int.{is_positive}
use Rattle.std.specs.BTreeMap.{BTreeMap, get, is_at}
use Rattle.std.specs.Map.{keys_of, lookup}
use Rattle.std.specs.declared.cmp.Ordering.{Ordering}
use Rattle.std.specs.declared.cmp.Ordering.TheVariants.{Less, Equal}
use Rattle.std.specs.Ordering.{is_eq, eq_by_cmp}
use Rattle.std.specs.Cmp.{IsTotalOrder}
use Rattle.std.proofs.lemmas.Int.{ints, clamps}
use Rattle.std.proofs.lemmas.Cmp.{tied_itself, eq_by_cmp_equiv}
use Rattle.std.proofs.lemmas.Bool.{cases_lt}
use Rattle.std.proofs.lemmas.List.Sums.{sum_by-cons, sum_by_push, sum_by-append, sum_by_more}
use Rattle.std.proofs.lemmas.List.Elements.{All-nil, All-cons}
use Rattle.std.proofs.lemmas.Map.{NonePasses}
use Rattle.std.proofs.lemmas.Map.Entries.{none_past_head}
use Rattle.std.proofs.lemmas.Map.Keys.{sorted_tail, IsDistinct-from_sorted}
use Rattle.std.proofs.lemmas.Nat.{mul-le}
use Rattle.std.proofs.lemmas.Option.{none-some, same_Some}
use Rattle.optra_bid.specs.declared.bids.Bid.{Bid}
use Rattle.optra_walk.specs.declared.Leg.{Leg}
use Rattle.optra_walk.specs.Families.{Rows, Entry, TellsApart, Ascends, load_of, entries_of}
use Rattle.optra_node.specs.Duals.{PriceList, price_of}
use Rattle.optra_network.specs.declared.TypeId.{TypeId}
use Rattle.optra_node.proofs.SumLemmas.{sum_by-map}
use Rattle.optra_node.proofs.RowLemmas.{equal_is}
use Rattle.optra_node.proofs.LoadLemmas.{contains_cases}
use Rattle.std.proofs.Math.IntN.{*ℤ-zero, pos-*ℤ-pos, pos-*ℤ-negsuc}
use Rattle.std.proofs.Math.Nat.{mul-zero}
use Rattle.optra_prices.specs.Steps.{price_within, next_price}
use Rattle.optra_prices.specs.Holdings.{Holds, Adds, entries_one, stepped, held_use, more_used, Bumps, part_of}
use Rattle.optra_prices.specs.declared.holding.Held.{Held}
use Rattle.optra_prices.proofs.NumberLemmas.{take_push}
use Rattle.optra_node.specs.Certificates.{AreAscending}
use Rattle.optra_prices.proofs.PriceListLemmas.{price_of-cons, price_none}
use Rattle.optra_prices.proofs.ValueOfLemmas.{price_push, before_none}

module _ {R : Type 0} (cmp : R → R → Ordering) (total : IsTotalOrder cmp) (apart : TellsApart cmp) (is_row : R → Bool) where
  -- the same uses
  pub holds_same : (price : R → ℤ) (used used' : R → ℕ) (m : BTreeMap R Held) → ((row : R) → used row ≡ used' row) → Holds cmp is_row price used m → Holds cmp is_row price used' m
  holds_same price used used' m same h row = by (get cmp m row) (h row)
    where
      by : (o : Option Held) → MatchOption o ((price row ≡ pos 0) × (used row ≡ 0)) (λ held. (is_row row ≡ true) × (held.price ≡ price row) × (held.used ≡ held_use (used row)))
          → MatchOption o ((price row ≡ pos 0) × (used' row ≡ 0)) (λ held. (is_row row ≡ true) × (held.price ≡ price row) × (held.used ≡ held_use (used' row)))
      by None (p, u) = (p, sym (same row) ∙ u)
      by (Some held) (r, p, u) = (r, p, u ∙ ap held_use (same row))

  -- uses of one row
  pub adds_one : (old new : BTreeMap R Held) (row : R) (uses : ℕ) → is_row row ≡ true → Bumps cmp row uses old new
      → Adds cmp is_row (λ q. cond (eq_by_cmp cmp row q) uses 0) old new
  adds_one old new row uses is updates price used h q =
      subst (λ o. MatchOption o ((price q ≡ pos 0) × (used q + cond (eq_by_cmp cmp row q) uses 0 ≡ 0)) (λ held. (is_row q ≡ true) × (held.price ≡ price q) × (held.used ≡ held_use (used q + cond (eq_by_cmp cmp row q) uses 0)))) (sym (updates q)) (by (is_at (cmp row) q) refl)
    where
      at_row : (o : Option Held) → MatchOption o ((price row ≡ pos 0) × (used row ≡ 0)) (λ held. (is_row row ≡ true) × (held.price ≡ price row) × (held.used ≡ held_use (used row))) → row ≡ q
          → (is_row q ≡ true) × ((more_used o uses).price ≡ price q) × ((more_used o uses).used ≡ held_use (used q + uses))
      at_row None (p, u) e = (ap is_row (sym e) ∙ is, sym p ∙ ap price e, let v = ap used e in omega arith)
      at_row (Some held) (r, p, u) e = (ap is_row (sym e) ∙ is, p ∙ ap price e, let v = ap used e in omega arith)

      other : (o : Option Held) → MatchOption o ((price q ≡ pos 0) × (used q ≡ 0)) (λ held. (is_row q ≡ true) × (held.price ≡ price q) × (held.used ≡ held_use (used q)))
          → MatchOption o ((price q ≡ pos 0) × (used q + 0 ≡ 0)) (λ held. (is_row q ≡ true) × (held.price ≡ price q) × (held.used ≡ held_use (used q + 0)))
      other None (p, u) = (p, omega arith)
      other (Some held) (r, p, u) = (r, p, omega arith)

      by : (b : Bool) → is_at (cmp row) q ≡ b → MatchOption (cond b (Some (more_used (get cmp old row) uses)) (get cmp old q)) ((price q ≡ pos 0) × (used q + cond b uses 0 ≡ 0)) (λ held. (is_row q ≡ true) × (held.price ≡ price q) × (held.used ≡ held_use (used q + cond b uses 0)))
      by true e = at_row (get cmp old row) (h row) (apart row q (equal_is (cmp row q) e))
      by false e = other (get cmp old q) (h q)

  pub adds_none : (m : BTreeMap R Held) → Adds cmp is_row (λ q. 0) m m
  adds_none m price used h = holds_same price used (λ q. used q + 0) m (λ q. omega arith) h

  pub adds_both : (a b c : BTreeMap R Held) (extra more whole : R → ℕ) → ((q : R) → extra q + more q ≡ whole q) → Adds cmp is_row extra a b → Adds cmp is_row more b c → Adds cmp is_row whole a c
  adds_both a b c extra more whole same x y price used h =
      holds_same price (λ q. used q + extra q + more q) (λ q. used q + whole q) c (λ q. let e = same q in omega arith) (y price (λ q. used q + extra q) (x price used h))

  pub adds_same : (a b : BTreeMap R Held) (extra whole : R → ℕ) → ((q : R) → extra q ≡ whole q) → Adds cmp is_row extra a b → Adds cmp is_row whole a b
  adds_same a b extra whole same x price used h = holds_same price (λ q. used q + extra q) (λ q. used q + whole q) b (λ q. let e = same q in omega arith) (x price used h)

  pub part_push : (uses : R → ℕ) (rows : List R) (k : ℕ) (row q : R) → slice_get rows k ≡ Some row → part_of cmp uses (take k rows) q + cond (eq_by_cmp cmp row q) (uses row) 0 ≡ part_of cmp uses (take (k + 1) rows) q
  part_push uses rows k row q at =
      let one : k + 1 ≡ suc k = omega arith in
      let e = ap (λ (j : ℕ). part_of cmp uses (take j rows) q) one ∙ ap (λ (xs : List R). part_of cmp uses xs q) (take_push rows k row at) in
      let p = sum_by_push (λ (r : R). cond (eq_by_cmp cmp r q) (uses r) 0) (take k rows) row in
      omega arith

  part_none : (uses : R → ℕ) (rows : List R) (q : R) → (Contains rows q → ⊥) → part_of cmp uses rows q ≡ 0
  part_none uses [] q none = refl
  part_none uses (row ∷ rows) q none = by (eq_by_cmp cmp row q) refl (part_none uses rows q (λ c. none (suc c.0, omega (arith, c.1), c.2)))
    where
      by : (b : Bool) → eq_by_cmp cmp row q ≡ b → part_of cmp uses rows q ≡ 0 → part_of cmp uses (row ∷ rows) q ≡ 0
      by true e i = absurd (none (0, omega arith, apart row q (equal_is (cmp row q) e)))
      by false e i =
          let c = sum_by-cons (λ (r : R). cond (eq_by_cmp cmp r q) (uses r) 0) row rows in
          let z = ap (λ (b : Bool). cond b (uses row) 0) e in
          omega arith

  part_there : (uses : R → ℕ) (rows : List R) (q : R) → Ascends cmp rows → Contains rows q → part_of cmp uses rows q ≡ uses q
  part_there uses [] q up c = absurd (omega (arith, c.1))
  part_there uses (row ∷ rows) q up c = by (eq_by_cmp cmp row q) refl (part_there uses rows q up.1)
    where
      clash : Less ≡ Equal → ⊥
      clash e = cc

      no_tie : row ≡ q → Contains rows q → ⊥
      no_tie e (k, l, at) = clash (sym (up.0 k q l) ∙ ap (cmp row) (at ∙ sym e) ∙ tied_itself total row)

      by : (b : Bool) → eq_by_cmp cmp row q ≡ b → (Contains rows q → part_of cmp uses rows q ≡ uses q) → part_of cmp uses (row ∷ rows) q ≡ uses q
      by true e i =
          let same : row ≡ q = apart row q (equal_is (cmp row q) e) in
          let s = sum_by-cons (λ (r : R). cond (eq_by_cmp cmp r q) (uses r) 0) row rows in
          let z = ap (λ (b : Bool). cond b (uses row) 0) e in
          let n = part_none uses rows q (no_tie same) in
          let u = ap uses same in
          omega arith
      by false e i =
          let s = sum_by-cons (λ (r : R). cond (eq_by_cmp cmp r q) (uses r) 0) row rows in
          let z = ap (λ (b : Bool). cond b (uses row) 0) e in
          let rest : Contains rows q = elim (contains_cases row rows q c) as (λ _. Contains rows q) [
            | inl same ↦ absurd (differ (sym e ∙ ap is_eq (ap (cmp row) (sym same) ∙ tied_itself total row)))
            | inr later ↦ later
          ] in
          let n = i rest in
          omega arith
        where
          differ : false ≡ true → ⊥
          differ e = cc

  -- all rows that are used give all uses
  pub part_all : (uses : R → ℕ) (rows : List R) → Ascends cmp rows → ((row : R) → (0 < uses row) ↔ Contains rows row) → (q : R) → part_of cmp uses rows q ≡ uses q
  part_all uses rows up used q = elim (cases_lt 0 (uses q)) as (λ _. part_of cmp uses rows q ≡ uses q) [
    | inl l ↦ part_there uses rows q up ((used q).0 l)
    | inr z ↦ let n = part_none uses rows q (λ c. let l = (used q).1 c in absurd (omega arith)) in omega arith
  ]

  -- ---- the prices that are made
  abbrev pub next_of : {V : Type 0} → (R × V → ℤ) → R → Option V → ℤ
  next_of next row None = pos 0
  next_of next row (Some held) = next (row, held)

  key_none : {V : Type 0} (next : R × V → ℤ) (es : List (R × V)) (row : R) → NonePasses (is_at (cmp row)) es → All (λ e. eq_by_cmp cmp row e.0 ≡ false) (stepped next es)
  key_none next [] row none = All-nil (λ (x : R × ℤ). eq_by_cmp cmp row x.0 ≡ false)
  key_none next (e ∷ es) row none = by (is_positive (next e)) (key_none next es row none.1)
    where
      by : (b : Bool) → All (λ x. eq_by_cmp cmp row x.0 ≡ false) (stepped next es) → All (λ x. eq_by_cmp cmp row x.0 ≡ false) (cond b ((e.0, next e) ∷ stepped next es) (stepped next es))
      by true i = All-cons (λ (x : R × ℤ). eq_by_cmp cmp row x.0 ≡ false) (e.0, next e) (stepped next es) none.0 i
      by false i = i

  zero_next : (z : ℤ) → is_positive z ≡ false → pos 0 ≤ℤ z → z ≡ pos 0
  zero_next z e l = grind (arith, ints)

  -- the price of a row in the list that is made
  pub stepped_price : {V : Type 0} (next : R × V → ℤ) → ((e : R × V) → pos 0 ≤ℤ next e) → (es : List (R × V)) → IsStrictlySortedBy cmp (keys_of es) → (row : R)
      → price_of (eq_by_cmp cmp) (stepped next es) row ≡ next_of next row (lookup (is_at (cmp row)) es)
  stepped_price next low [] up row = refl
  stepped_price next low (e ∷ es) up row = by (is_eq (cmp row e.0)) refl (is_positive (next e)) refl (stepped_price next low es (sorted_tail cmp e.0 (keys_of es) up) row)
    where
      by : (b : Bool) → is_eq (cmp row e.0) ≡ b → (p : Bool) → is_positive (next e) ≡ p → price_of (eq_by_cmp cmp) (stepped next es) row ≡ next_of next row (lookup (is_at (cmp row)) es)
          → price_of (eq_by_cmp cmp) (cond p ((e.0, next e) ∷ stepped next es) (stepped next es)) row ≡ next_of next row (cond b (Some e.1) (lookup (is_at (cmp row)) es))
      by true tie p q i =
          let same : row ≡ e.0 = apart row e.0 (equal_is (cmp row e.0) tie) in
          let none = none_past_head (eq_by_cmp_equiv total) row e es (IsDistinct-from_sorted cmp (keys_of (e ∷ es)) up) tie in
          let rest = price_none cmp (stepped next es) row (key_none next es row none) in
          let here = ap (λ (r : R). next (r, e.1)) same in
          made p q rest here
        where
          made : (p : Bool) → is_positive (next e) ≡ p → price_of (eq_by_cmp cmp) (stepped next es) row ≡ pos 0 → next (row, e.1) ≡ next (e.0, e.1)
              → price_of (eq_by_cmp cmp) (cond p ((e.0, next e) ∷ stepped next es) (stepped next es)) row ≡ next (row, e.1)
          made true q rest here =
              let c = price_of-cons cmp (e.0, next e) (stepped next es) row in
              let t = ap (λ (b : Bool). cond b (next e) (pos 0)) tie in
              omega (arith, ints)
          made false q rest here = let z = zero_next (next e) q (low e) in omega (arith, ints)
      by false tie true q i =
          let c = price_of-cons cmp (e.0, next e) (stepped next es) row in
          let t = ap (λ (b : Bool). cond b (next e) (pos 0)) tie in
          omega (arith, ints)
      by false tie false q i = i

-- a length times uses above a capacity, or below it
pub rising : (n used room : ℕ) → room ≤ used → pos n *ℤ (pos used -ℤ pos room) ≡ pos (n * (used - room))
rising n used room l =
    let e : pos used -ℤ pos room ≡ pos (used - room) = omega (arith, ints) in
    ap (λ (z : ℤ). pos n *ℤ z) e ∙ pos-*ℤ-pos n (used - room)

pub falling : (n used room : ℕ) → used ≤ room → pos n *ℤ (pos used -ℤ pos room) ≡ neg_ℤ (pos (n * (room - used)))
falling n used room l = by (room - used) refl ∙ refl
  where
    by : (d : ℕ) → room - used ≡ d → pos n *ℤ (pos used -ℤ pos room) ≡ neg_ℤ (pos (n * (room - used)))
    by zero e =
        let none : pos used -ℤ pos room ≡ pos 0 = omega (arith, ints) in
        ap (λ (z : ℤ). pos n *ℤ z) none ∙ *ℤ-zero (pos n) ∙ sym (ap (λ (k : ℕ). neg_ℤ (pos k)) (ap (λ (k : ℕ). n * k) e ∙ mul-zero n))
    by (suc d) e =
        let some : pos used -ℤ pos room ≡ negsuc d = omega (arith, ints) in
        ap (λ (z : ℤ). pos n *ℤ z) some ∙ pos-*ℤ-negsuc n d ∙ ap (λ (k : ℕ). neg_ℤ (pos (n * k))) (sym e)

-- a number that is at least 2^64 - 1 gives the price that 2^64 - 1 gives
high_within : (z : ℤ) → pos 2000000000000 ≤ℤ z → price_within z ≡ pos 2000000000000
high_within z l = omega (arith, ints, clamps)

next_highest : (n used room : ℕ) (price : ℤ) → 1 ≤ n → 18446744073709551615 ≤ used → room ≤ 65535 → pos 0 ≤ℤ price → next_price (pos n) price used room ≡ pos 2000000000000
next_highest n used room price one many small low =
    let e = rising n used room (omega arith) in
    let m = mul-le 1 (used - room) n (used - room) one (omega arith) in
    high_within (price +ℤ pos n *ℤ (pos used -ℤ pos room)) (omega (arith, ints))

pub next_held_use : (by price : ℤ) (used room : ℕ) → pos 1 ≤ℤ by → pos 0 ≤ℤ price → room ≤ 65535 → next_price by price (held_use used) room ≡ next_price by price used room
next_held_use (negsuc n) price used room one low small = absurd (omega (arith, ints))
next_held_use (pos n) price used room one low small = elim (cases_lt 18446744073709551615 used) as (λ _. next_price (pos n) price (held_use used) room ≡ next_price (pos n) price used room) [
  | inl many ↦
      let least : 1 ≤ n = omega (arith, ints) in
      ap (λ (u : ℕ). next_price (pos n) price u room) (let e : held_use used ≡ 18446744073709551615 = omega arith in e)
      ∙ next_highest n 18446744073709551615 room price least (omega arith) small low ∙ sym (next_highest n used room price least (omega arith) small low)
  | inr few ↦ ap (λ (u : ℕ). next_price (pos n) price u room) (let e : held_use used ≡ used = omega arith in e)
]

low_within : (z : ℤ) → z ≤ℤ pos 0 → price_within z ≡ pos 0
low_within z l = omega (arith, ints, clamps)

-- a row with no price and no more uses than capacity keeps price 0, and prices stay within their bounds
pub next_idle : (by : ℤ) (used room : ℕ) → pos 1 ≤ℤ by → used ≤ room → next_price by (pos 0) used room ≡ pos 0
next_idle (negsuc n) used room l few = absurd (omega (arith, ints))
next_idle (pos n) used room l few = low_within (pos 0 +ℤ pos n *ℤ (pos used -ℤ pos room)) (let m = falling n used room few in omega (arith, ints))

pub next_none : (by : ℤ) (room : ℕ) → pos 1 ≤ℤ by → next_price by (pos 0) 0 room ≡ pos 0
next_none by room l = next_idle by 0 room l (omega arith)

pub next_low : (z : ℤ) → pos 0 ≤ℤ price_within z
next_low z = omega (arith, ints, clamps)

pub next_high : (z : ℤ) → price_within z ≤ℤ pos 2000000000000
next_high z = omega (arith, ints, clamps)

-- one more leg
pub legs_push : {R : Type 0} (rows : Rows R) (kind : TypeId) (legs : List Leg) (n : ℕ) (d : Leg) (row : R) → n < length legs
    → load_of rows row (map (λ leg. (kind, leg)) (take n legs)) + rows.uses kind (get_or legs n d) row ≡ load_of rows row (map (λ leg. (kind, leg)) (take (n + 1) legs))
legs_push rows kind legs n d row l =
    let spent = λ (e : Entry). rows.uses e.0 e.1 row in
    let a = sum_by-map spent (λ (leg : Leg). (kind, leg)) (take n legs) in
    let b = sum_by-map spent (λ (leg : Leg). (kind, leg)) (take (n + 1) legs) in
    let m = sum_by_more (λ (leg : Leg). rows.uses kind leg row) legs n d l in
    omega arith

-- one more reply
pub replies_more : {R : Type 0} (rows : Rows R) (bids : List Bid) (walks : List (Option (List Leg))) (n : ℕ) (bid : Bid) (walk : Option (List Leg)) (row : R) → slice_get bids n ≡ Some bid → slice_get walks n ≡ Some walk
    → load_of rows row (entries_of (take n bids) (take n walks)) + load_of rows row (entries_one bid walk) ≡ load_of rows row (entries_of (take (n + 1) bids) (take (n + 1) walks))
replies_more {R} rows bids walks n bid walk row b w =
    let one : n + 1 ≡ suc n = omega arith in
    go bids walks n b w ∙ ap (λ (k : ℕ). load_of rows row (entries_of (take k bids) (take k walks))) (sym one)
  where
    one_of : (bid : Bid) (walk : Option (List Leg)) (bids : List Bid) (walks : List (Option (List Leg))) → load_of rows row (entries_of (bid ∷ bids) (walk ∷ walks)) ≡ load_of rows row (entries_one bid walk) + load_of rows row (entries_of bids walks)
    one_of bid None bids walks = omega arith
    one_of bid (Some legs) bids walks = sum_by-append (λ (e : Entry). rows.uses e.0 e.1 row) (map (λ leg. (bid.path.kind, leg)) legs) (entries_of bids walks)

    go : (bids : List Bid) (walks : List (Option (List Leg))) (n : ℕ) → slice_get bids n ≡ Some bid → slice_get walks n ≡ Some walk
        → load_of rows row (entries_of (take n bids) (take n walks)) + load_of rows row (entries_one bid walk) ≡ load_of rows row (entries_of (take (suc n) bids) (take (suc n) walks))
    go [] walks n b w = absurd (none-some bid b)
    go (x ∷ bids) [] n b w = absurd (none-some walk w)
    go (x ∷ bids) (y ∷ walks) zero b w =
        let same_bid : x ≡ bid = same_Some x bid b in
        let same_walk : y ≡ walk = same_Some y walk w in
        let o = one_of x y [] [] in
        let s = ap (λ (z : Bid). load_of rows row (entries_one z y)) same_bid ∙ ap (λ (z : Option (List Leg)). load_of rows row (entries_one bid z)) same_walk in
        omega arith
    go (x ∷ bids) (y ∷ walks) (suc n) b w =
        let i = go bids walks n b w in
        let o = one_of x y (take n bids) (take n walks) in
        let p = one_of x y (take (suc n) bids) (take (suc n) walks) in
        omega arith

module _ {R : Type 0} (cmp : R → R → Ordering) (total : IsTotalOrder cmp) (apart : TellsApart cmp) (is_row : R → Bool) where
  -- one more price
  pub holds_price : (entries : PriceList R) (i : ℕ) (e : R × ℤ) (old new : BTreeMap R Held) (held : Held) → AreAscending cmp entries → slice_get entries i ≡ Some e → is_row e.0 ≡ true → held.price ≡ e.1 → held.used ≡ 0
      → ((q : R) → get cmp new q ≡ cond (is_at (cmp e.0) q) (Some held) (get cmp old q)) → Holds cmp is_row (price_of (eq_by_cmp cmp) (take i entries)) (λ row. 0) old
      → Holds cmp is_row (price_of (eq_by_cmp cmp) (take (i + 1) entries)) (λ row. 0) new
  holds_price entries i e old new held up at is price used updates h q =
      subst (λ o. MatchOption o ((price_of (eq_by_cmp cmp) (take (i + 1) entries) q ≡ pos 0) × (◌≡◌ {A = ℕ} 0 0)) (λ held. (is_row q ≡ true) × (held.price ≡ price_of (eq_by_cmp cmp) (take (i + 1) entries) q) × (◌≡◌ {A = ℕ} held.used (held_use 0)))) (sym (updates q)) (by (is_at (cmp e.0) q) refl)
    where
      whole : price_of (eq_by_cmp cmp) (take (i + 1) entries) q ≡ price_of (eq_by_cmp cmp) (take i entries) q +ℤ cond (eq_by_cmp cmp q e.0) e.1 (pos 0)
      whole =
          let one : i + 1 ≡ suc i = omega arith in
          ap (λ (j : ℕ). price_of (eq_by_cmp cmp) (take j entries) q) one ∙ ap (λ (xs : PriceList R). price_of (eq_by_cmp cmp) xs q) (take_push entries i e at) ∙ price_push cmp total (take i entries) e q

      turned : eq_by_cmp cmp q e.0 ≡ eq_by_cmp cmp e.0 q
      turned = (eq_by_cmp_equiv total).symm q e.0

      other : (o : Option Held) → price_of (eq_by_cmp cmp) (take (i + 1) entries) q ≡ price_of (eq_by_cmp cmp) (take i entries) q
          → MatchOption o ((price_of (eq_by_cmp cmp) (take i entries) q ≡ pos 0) × (◌≡◌ {A = ℕ} 0 0)) (λ held. (is_row q ≡ true) × (held.price ≡ price_of (eq_by_cmp cmp) (take i entries) q) × (◌≡◌ {A = ℕ} held.used (held_use 0)))
          → MatchOption o ((price_of (eq_by_cmp cmp) (take (i + 1) entries) q ≡ pos 0) × (◌≡◌ {A = ℕ} 0 0)) (λ held. (is_row q ≡ true) × (held.price ≡ price_of (eq_by_cmp cmp) (take (i + 1) entries) q) × (◌≡◌ {A = ℕ} held.used (held_use 0)))
      other None s (p, u) = (s ∙ p, u)
      other (Some held) s (r, p, u) = (r, p ∙ sym s, u)

      by : (b : Bool) → is_at (cmp e.0) q ≡ b → MatchOption (cond b (Some held) (get cmp old q)) ((price_of (eq_by_cmp cmp) (take (i + 1) entries) q ≡ pos 0) × (◌≡◌ {A = ℕ} 0 0)) (λ held. (is_row q ≡ true) × (held.price ≡ price_of (eq_by_cmp cmp) (take (i + 1) entries) q) × (◌≡◌ {A = ℕ} held.used (held_use 0)))
      by true tie =
          let same : e.0 ≡ q = apart e.0 q (equal_is (cmp e.0 q) tie) in
          let back : cmp q e.0 ≡ Equal = equal_is (cmp q e.0) (turned ∙ tie) in
          let none = before_none cmp total entries i e up at q back in
          let cost = ap (λ (b : Bool). cond b e.1 (pos 0)) (turned ∙ tie) in
          let w = whole in
          (ap is_row (sym same) ∙ is, omega (arith, ints), used)
      by false tie =
          let cost = ap (λ (b : Bool). cond b e.1 (pos 0)) (turned ∙ tie) in
          let w = whole in
          other (get cmp old q) (omega (arith, ints)) (h q)
