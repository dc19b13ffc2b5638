-- The list of prices after a step.
use Rattle.std.proofs.Common.{◌≡◌, ℕ, zero, suc, ◌+◌, ◌-◌, ◌*◌, ◌≤◌, min, Bool, true, false, cond, List, [], ◌∷◌, ◌++◌, length, get_or, Option, Some, None, slice_get, refl, sym, ap, ◌∙◌, subst, arith}
use Rattle.std.specs.Prelude.{All, MatchOption, ℤ, unsigned_abs, pos, negsuc, ◌+ℤ◌, ◌-ℤ◌, ◌*ℤ◌, ◌≤ℤ◌}
use Rattle.std.specs.List.{AllByRecursion, AllPairs}
use Rattle.std.specs.List.Sorted.{IsStrictlySortedBy}
use Rattle.std.specs.Int.{w64, is_positive, int_max, int_div_euclid, saturate_signed}
use Rattle.std.specs.BTreeMap.{BTreeMap, get, IsOrdered}
use Rattle.std.specs.Map.{keys_of}
use Rattle.std.specs.declared.cmp.Ordering.{Ordering}
use Rattle.std.specs.declared.cmp.Ordering.TheVariants.{Less}
use Rattle.std.specs.Ordering.{eq_by_cmp}
use Rattle.std.specs.Cmp.{IsTotalOrder}
use Rattle.std.proofs.lemmas.Int.{ints, clamps}
use Rattle.std.proofs.lemmas.List.{append_assoc}
use Rattle.std.proofs.lemmas.Map.Entries.{btree_map_get_place}
use Rattle.std.proofs.lemmas.Map.Keys.{sorted_head, sorted_tail}
use Rattle.std.proofs.lemmas.Option.{slice_get-get_or}
use Rattle.std.proofs.lemmas.List.Elements.{All-cons}
use Rattle.std.proofs.Math.Nat.{div-le_self}
use Rattle.optra_bid.specs.Specs.{IsBetween}
use Rattle.optra_bid.specs.declared.bids.Bid.{Bid}
use Rattle.optra_walk.specs.declared.Leg.{Leg}
use Rattle.optra_walk.specs.Families.{Rows, TellsApart, load_of, entries_of}
use Rattle.optra_node.specs.Duals.{PriceList, IsPrice, ArePrices, price_of}
use Rattle.optra_node.specs.Certificates.{AreAscending}
use Rattle.optra_node.proofs.LoadLemmas.{all_head, all_tail}
use Rattle.optra_prices.specs.Steps.{IsStep, step_length, price_within, next_price, reply_load}
use Rattle.optra_prices.specs.Holdings.{Holds, held_use, stepped, next_held}
use Rattle.optra_prices.specs.declared.holding.Held.{Held}
use Rattle.optra_prices.proofs.PriceListLemmas.{price_of-cons}
use Rattle.optra_prices.proofs.HoldLemmas.{next_of, stepped_price, next_none, next_low, next_high, next_held_use, rising, falling}

-- a length is at most the greatest base in thousandths of a cent
pub length_within : (most : ℤ) (parts : ℕ) → IsBetween (pos 0) (pos 1000000000) most → IsBetween (pos 1) (pos 1000000000000) (int_max (pos 1) (int_div_euclid (most *ℤ pos 1000) (pos parts)))
length_within (pos m) parts h =
    let top : m ≤ 1000000000 = let u = h.1 in omega (arith, ints) in
    let small = div-le_self (m * 1000) parts in
    (omega (arith, ints, clamps), omega (arith, ints, clamps))
length_within (negsuc m) parts h = absurd (let low = h.0 in omega (arith, ints))

-- a number that is saturated in 64 bits gives the price that the number gives
pub saturated_price : (z : ℤ) → price_within (saturate_signed w64 z) ≡ price_within z
saturated_price (pos n) = omega (arith, ints, clamps)
saturated_price (negsuc n) = omega (arith, ints, clamps)

capped_up : (price : ℤ) (way : ℕ) → negsuc 9223372036854775807 ≤ℤ price → price_within (price +ℤ pos (min way 18446744073709551615)) ≡ price_within (price +ℤ pos way)
capped_up price way low = omega (arith, ints, clamps)

capped_down : (price : ℤ) (way : ℕ) → price ≤ℤ pos 9223372036854775807 → price_within (price -ℤ pos (min way 18446744073709551615)) ≡ price_within (price -ℤ pos way)
capped_down price way high = omega (arith, ints, clamps)

-- a price that rises or falls by a way that is capped in 64 bits is the next price
pub risen : (by price : ℤ) (used room : ℕ) → pos 1 ≤ℤ by → negsuc 9223372036854775807 ≤ℤ price → room ≤ used
    → price_within (saturate_signed w64 (price +ℤ pos (min (unsigned_abs by * (used - room)) 18446744073709551615))) ≡ next_price by price used room
risen (negsuc n) price used room one low more = absurd (omega (arith, ints))
risen (pos n) price used room one low more =
    saturated_price (price +ℤ pos (min (n * (used - room)) 18446744073709551615)) ∙ capped_up price (n * (used - room)) low ∙ ap (λ (z : ℤ). price_within (price +ℤ z)) (sym (rising n used room more))

pub fallen : (by price : ℤ) (used room : ℕ) → pos 1 ≤ℤ by → price ≤ℤ pos 9223372036854775807 → used ≤ room
    → price_within (saturate_signed w64 (price -ℤ pos (min (unsigned_abs by * (room - used)) 18446744073709551615))) ≡ next_price by price used room
fallen (negsuc n) price used room one high few = absurd (omega (arith, ints))
fallen (pos n) price used room one high few =
    saturated_price (price -ℤ pos (min (n * (room - used)) 18446744073709551615)) ∙ capped_down price (n * (room - used)) high ∙ ap (λ (z : ℤ). price_within (price +ℤ z)) (sym (falling n used room few))

-- one more entry of the map
pub stepped_turn : {R V : Type 0} (next : R × V → ℤ) (out after whole : PriceList R) (e : R × V) (rest : List (R × V)) (price : ℤ) → out ++ stepped next (e ∷ rest) ≡ whole → price ≡ next e
    → after ≡ out ++ cond (is_positive price) ((e.0, price) ∷ []) [] → after ++ stepped next rest ≡ whole
stepped_turn {R} next out after whole e rest price before is added = ap (λ (xs : PriceList R). xs ++ stepped next rest) added ∙ by (is_positive price) refl
  where
    by : (b : Bool) → is_positive price ≡ b → out ++ cond b ((e.0, price) ∷ []) [] ++ stepped next rest ≡ whole
    by true p =
        append_assoc out ((e.0, price) ∷ []) (stepped next rest) ∙ ap (λ (z : ℤ). out ++ (e.0, z) ∷ stepped next rest) is
        ∙ ap (λ (b : Bool). out ++ cond b ((e.0, next e) ∷ stepped next rest) (stepped next rest)) (sym p ∙ ap is_positive is) ∙ before
    by false p =
        append_assoc out [] (stepped next rest)
        ∙ ap (λ (b : Bool). out ++ cond b ((e.0, next e) ∷ stepped next rest) (stepped next rest)) (sym p ∙ ap is_positive is) ∙ before

-- what is true of the rows of a map is true of the prices that are made
stepped_keys : {R V : Type 0} (next : R × V → ℤ) (P : R → Type 0) (es : List (R × V)) → AllByRecursion P (keys_of es) → All (λ (x : R × ℤ). P x.0) (stepped next es)
stepped_keys next P [] all = λ k d l. absurd (omega arith)
stepped_keys {R} next P (e ∷ es) all = by (is_positive (next e)) (stepped_keys next P es all.1)
  where
    by : (b : Bool) → All (λ (x : R × ℤ). P x.0) (stepped next es) → All (λ (x : R × ℤ). P x.0) (cond b ((e.0, next e) ∷ stepped next es) (stepped next es))
    by true i = All-cons (λ (x : R × ℤ). P x.0) (e.0, next e) (stepped next es) all.0 i
    by false i = i

pairs_cons : {X : Type 0} (P : X → X → Type 0) (x : X) (xs : List X) → All (P x) xs → AllPairs P xs → AllPairs P (x ∷ xs)
pairs_cons P x xs first rest zero zero d l m = absurd (omega arith)
pairs_cons P x xs first rest zero (suc j) d l m = first j d (omega arith)
pairs_cons P x xs first rest (suc i) zero d l m = absurd (omega arith)
pairs_cons P x xs first rest (suc i) (suc j) d l m = rest i j d (omega arith) (omega arith)

pub stepped_ascends : {R V : Type 0} (cmp : R → R → Ordering) (next : R × V → ℤ) (es : List (R × V)) → IsStrictlySortedBy cmp (keys_of es) → AreAscending cmp (stepped next es)
stepped_ascends cmp next [] up = λ i j d l m. absurd (omega arith)
stepped_ascends {R} cmp next (e ∷ es) up = by (is_positive (next e)) (stepped_ascends cmp next es (sorted_tail cmp e.0 (keys_of es) up))
  where
    by : (b : Bool) → AreAscending cmp (stepped next es) → AreAscending cmp (cond b ((e.0, next e) ∷ stepped next es) (stepped next es))
    by true i = pairs_cons (λ (a b : R × ℤ). cmp a.0 b.0 ≡ Less) (e.0, next e) (stepped next es) (stepped_keys next (λ (r : R). cmp e.0 r ≡ Less) es (sorted_head cmp e.0 (keys_of es) up)) i
    by false i = i

positive_least : (z : ℤ) → is_positive z ≡ true → pos 1 ≤ℤ z
positive_least z e = grind (arith, ints)

pub stepped_prices : {R V : Type 0} (rows : Rows R) (next : R × V → ℤ) → ((e : R × V) → next e ≤ℤ pos 2000000000000) → (es : List (R × V)) → All (λ (e : R × V). rows.is_row e.0 ≡ true) es → ArePrices rows (stepped next es)
stepped_prices rows next high [] all = λ k d l. absurd (omega arith)
stepped_prices {R} {V} rows next high (e ∷ es) all = by (is_positive (next e)) refl (stepped_prices rows next high es (all_tail (λ (e : R × V). rows.is_row e.0 ≡ true) e es all))
  where
    by : (b : Bool) → is_positive (next e) ≡ b → ArePrices rows (stepped next es) → ArePrices rows (cond b ((e.0, next e) ∷ stepped next es) (stepped next es))
    by true p i = All-cons (IsPrice rows) (e.0, next e) (stepped next es) (record { is_row = all_head (λ (e : R × V). rows.is_row e.0 ≡ true) e es all; least = positive_least (next e) p; most = high e }) i
    by false p i = i

-- what is held of the entries of a map
pub entry_held : {R : Type 0} (cmp : R → R → Ordering) (total : IsTotalOrder cmp) (is_row : R → Bool) (price : R → ℤ) (used : R → ℕ) (m : BTreeMap R Held) → IsOrdered cmp m → Holds cmp is_row price used m
    → All (λ (e : R × Held). (is_row e.0 ≡ true) × (e.1.price ≡ price e.0)) m.entries
entry_held {R} cmp total is_row price used m ordered holds k d l =
    let e = get_or m.entries k d in
    let at : slice_get m.entries k ≡ Some e = slice_get-get_or m.entries k d l in
    let found : get cmp m e.0 ≡ Some e.1 = btree_map_get_place total m k e.0 e.1 ordered at in
    let h = subst (λ o. MatchOption o ((price e.0 ≡ pos 0) × (used e.0 ≡ 0)) (λ held. (is_row e.0 ≡ true) × (held.price ≡ price e.0) × (held.used ≡ held_use (used e.0)))) found (holds e.0) in
    (h.0, h.1)

-- what a list of prices charges for a row is not below 0
price_least : {R : Type 0} (cmp : R → R → Ordering) (rows : Rows R) (prices : PriceList R) (row : R) → ArePrices rows prices → pos 0 ≤ℤ price_of (eq_by_cmp cmp) prices row
price_least cmp rows [] row are = omega (arith, ints)
price_least cmp rows (e ∷ prices) row are =
    let rest = price_least cmp rows prices row (all_tail (IsPrice rows) e prices are) in
    let here = charged (eq_by_cmp cmp row e.0) (all_head (IsPrice rows) e prices are).least in
    let whole = price_of-cons cmp e prices row in
    omega (arith, ints)
  where
    charged : (b : Bool) → pos 1 ≤ℤ e.1 → pos 0 ≤ℤ cond b e.1 (pos 0)
    charged true least = omega (arith, ints)
    charged false least = omega (arith, ints)

module _ {R : Type 0} (cmp : R → R → Ordering) (total : IsTotalOrder cmp) (apart : TellsApart cmp) (rows : Rows R) (bids : List Bid) (replies : List (Option (List Leg))) (k : ℕ) (old : PriceList R) (are : ArePrices rows old)
    (capacities : (row : R) → rows.is_row row ≡ true → rows.capacity row ≤ 65535) where
  -- the list that is made is the step
  pub made_step : (length : ℤ) (m : BTreeMap R Held) → length ≡ step_length bids k → pos 1 ≤ℤ length → IsOrdered cmp m
      → Holds cmp rows.is_row (price_of (eq_by_cmp cmp) old) (λ row. 0 + load_of rows row (entries_of bids replies)) m
      → IsStep cmp rows bids replies k old (stepped (next_held rows length) m.entries)
  made_step length m is low ordered holds = record {
    proper = record {
      ascending = stepped_ascends cmp (next_held rows length) m.entries ordered;
      each = stepped_prices rows (next_held rows length) (λ e. next_high (e.1.price +ℤ length *ℤ (pos e.1.used -ℤ pos (rows.capacity e.0)))) m.entries
          (λ j d l. (entry_held cmp total rows.is_row (price_of (eq_by_cmp cmp) old) (λ row. 0 + load_of rows row (entries_of bids replies)) m ordered holds j d l).0);
    };
    each = λ row is_row.
        stepped_price cmp total apart rows.is_row (next_held rows length) (λ e. next_low (e.1.price +ℤ length *ℤ (pos e.1.used -ℤ pos (rows.capacity e.0)))) m.entries ordered row
        ∙ by row (get cmp m row) (holds row)
        ∙ ap (λ (z : ℤ). next_price z (price_of (eq_by_cmp cmp) old row) (reply_load rows bids replies row) (rows.capacity row)) is;
  }
    where
      by : (row : R) (o : Option Held)
          → MatchOption o ((price_of (eq_by_cmp cmp) old row ≡ pos 0) × (0 + load_of rows row (entries_of bids replies) ≡ 0)) (λ held. (rows.is_row row ≡ true) × (held.price ≡ price_of (eq_by_cmp cmp) old row) × (held.used ≡ held_use (0 + load_of rows row (entries_of bids replies))))
          → next_of cmp total apart rows.is_row (next_held rows length) row o ≡ next_price length (price_of (eq_by_cmp cmp) old row) (reply_load rows bids replies row) (rows.capacity row)
      by row None (p, u) =
          let zero_load : reply_load rows bids replies row ≡ 0 = omega arith in
          sym (ap (λ (z : ℤ). next_price length z (reply_load rows bids replies row) (rows.capacity row)) p ∙ ap (λ (n : ℕ). next_price length (pos 0) n (rows.capacity row)) zero_load ∙ next_none length (rows.capacity row) low)
      by row (Some held) (r, p, u) =
          let load : held.used ≡ held_use (reply_load rows bids replies row) = u ∙ ap held_use (omega arith) in
          ap (λ (z : ℤ). next_price length z held.used (rows.capacity row)) p ∙ ap (λ (n : ℕ). next_price length (price_of (eq_by_cmp cmp) old row) n (rows.capacity row)) load
          ∙ next_held_use length (price_of (eq_by_cmp cmp) old row) (reply_load rows bids replies row) (rows.capacity row) low (price_least cmp rows old row are) (capacities row r)
