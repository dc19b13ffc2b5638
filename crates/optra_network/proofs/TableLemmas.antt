-- Tables by track and type: how they are filled from rows, and what a look-up in them gives.
use Rattle.std.proofs.Common.{◌≡◌, ◌≢◌, ℕ, zero, suc, ◌+◌, ◌*◌, ◌/◌, ◌%◌, ◌<◌, ◌≤◌, Bool, true, false, cond, nat_lt, ◌&&◌, ◌⊎◌, ⊎_elim, inl, inr, Some, None, Option, unwrap_or, List, [], ◌∷◌, ◌++◌, map, length, get_or, set, take, slice_get, sym, ap, ◌∙◌, arith, add-one, length-set}
use Rattle.std.proofs.lemmas.Bool.{cases_lt, cases_eq, lt-ltb, le-ltb, false_from_ne_true}
use Rattle.std.proofs.lemmas.List.{get_or-set_same, get_or-set_other}
use Rattle.std.proofs.lemmas.List.FromFn.{length-map-range_with_len, get_or-map-range_with_len, map-range_with_len_more}
use Rattle.std.proofs.lemmas.Option.{slice_get-get_or, slice_get_past, slice_get_within, get_or_from_slice_get}
use Rattle.std.specs.List.{range_with_len}
use Rattle.std.specs.Map.{lookup}
use Rattle.optra_network.specs.Net.{same_pair, same_triple}
use Rattle.optra_network.specs.Tables.{no_times, found_times, found_headway, HoldsPairs, HoldsTriples, at_pair, at_triple}
use Rattle.optra_network.specs.declared.Times.{Times}
use Rattle.optra_network.proofs.NetLemmas.{pair_same, pair_self, triple_same, triple_self}

-- ---- rows, one after the other

module _ {K X : Type 0} (test : K → Bool) where
  -- a row with another key changes no look-up
  pub lookup-other : (rows : List (K × X)) (i : ℕ) (d : K × X) → i < length rows → test (get_or rows i d).0 ≡ false
      → lookup test (take (i + 1) rows) ≡ lookup test (take i rows)
  lookup-other [] i d l f = absurd (omega arith)
  lookup-other (e ∷ rows) zero d l f = ap (λ b. cond b (Some e.1) None) f
  lookup-other (e ∷ rows) (suc i) d l f =
      rw add-one (ap (λ (o : Option X). cond (test e.0) (Some e.1) o) (ap (λ n. lookup test (take n rows)) (sym (add-one i)) ∙ lookup-other rows i d (omega arith) f))

  -- a row with the key gives what the look-up in all rows gives
  pub lookup-own : (rows : List (K × X)) (i : ℕ) (d : K × X) → i < length rows → test (get_or rows i d).0 ≡ true → lookup test (take (i + 1) rows) ≡ lookup test rows
  lookup-own [] i d l t = absurd (omega arith)
  lookup-own (e ∷ rows) zero d l t = ap (λ b. cond b (Some e.1) None) t ∙ sym (ap (λ b. cond b (Some e.1) (lookup test rows)) t)
  lookup-own (e ∷ rows) (suc i) d l t =
      rw add-one (ap (λ (o : Option X). cond (test e.0) (Some e.1) o) (ap (λ n. lookup test (take n rows)) (sym (add-one i)) ∙ lookup-own rows i d (omega arith) t))

-- ---- a table, written and read

module _ {X : Type 0} where
  pub read_written : (table : List X) (i : ℕ) (v : X) → i < length table → slice_get (set table i v) i ≡ Some v
  read_written table i v l =
      let within : i < length (set table i v) = omega (arith, length-set table i v) in
      slice_get-get_or (set table i v) i v within ∙ ap Some (get_or-set_same table i v v l)

  pub read_other : (table : List X) (i j : ℕ) (v w : X) → j ≢ i → slice_get table j ≡ Some w → j < length table → slice_get (set table i v) j ≡ Some w
  read_other table i j v w ne e l =
      let within : j < length (set table i v) = omega (arith, length-set table i v) in
      slice_get-get_or (set table i v) j w within ∙ ap Some (get_or-set_other table i j v w ne ∙ get_or_from_slice_get table j w w e)

  -- a table that gets a value at a track and a type holds what gives this value there and differs nowhere else
  pub HoldsPairs-set : (f g : ℕ → ℕ → X) (tracks : ℕ) (table : List X) (t k : ℕ) (v : X) → HoldsPairs f tracks table → t < tracks → k < 16 → g t k ≡ v
      → ((a b : ℕ) → (a ≡ t → b ≡ k → ⊥) → g a b ≡ f a b) → HoldsPairs g tracks (set table (t * 16 + k) v)
  HoldsPairs-set f g tracks table t k v h lt lk own others = record {
    len = length-set table (t * 16 + k) v ∙ h.len;
    each = λ a b la lb.
        let place : t * 16 + k < length table = let l = h.len in omega arith in
        let other : a * 16 + b < length table = let l = h.len in omega arith in
        ⊎_elim
        (λ same.
        let sa : a ≡ t = omega arith in
        let sb : b ≡ k = omega arith in
        ap (slice_get (set table (t * 16 + k) v)) same ∙ read_written table (t * 16 + k) v place ∙ ap Some (sym own ∙ ap (λ n. g n k) (sym sa) ∙ ap (g a) (sym sb)))
        (λ ne.
        read_other table (t * 16 + k) (a * 16 + b) v (g a b) ne (h.each a b la lb ∙ ap Some (sym (others a b (λ p q. ne (λ i. p i * 16 + q i))))) other)
        (cases_eq (a * 16 + b) (t * 16 + k));
  }

  pub HoldsTriples-set : (f g : ℕ → ℕ → ℕ → X) (tracks : ℕ) (table : List X) (t x y : ℕ) (v : X) → HoldsTriples f tracks table → t < tracks → x < 16 → y < 16 → g t x y ≡ v
      → ((a b c : ℕ) → (a ≡ t → b ≡ x → c ≡ y → ⊥) → g a b c ≡ f a b c) → HoldsTriples g tracks (set table ((t * 16 + x) * 16 + y) v)
  HoldsTriples-set f g tracks table t x y v h lt lx ly own others = record {
    len = length-set table ((t * 16 + x) * 16 + y) v ∙ h.len;
    each = λ a b c la lb lc.
        let place : (t * 16 + x) * 16 + y < length table = let l = h.len in omega arith in
        let other : (a * 16 + b) * 16 + c < length table = let l = h.len in omega arith in
        ⊎_elim
        (λ same.
        let sa : a ≡ t = omega arith in
        let sb : b ≡ x = omega arith in
        let sc : c ≡ y = omega arith in
        ap (slice_get (set table ((t * 16 + x) * 16 + y) v)) same ∙ read_written table ((t * 16 + x) * 16 + y) v place
        ∙ ap Some (sym own ∙ ap (λ n. g n x y) (sym sa) ∙ ap (λ n. g a n y) (sym sb) ∙ ap (g a b) (sym sc)))
        (λ ne.
        read_other table ((t * 16 + x) * 16 + y) ((a * 16 + b) * 16 + c) v (g a b c) ne
        (h.each a b c la lb lc ∙ ap Some (sym (others a b c (λ p q r. ne (λ i. (p i * 16 + q i) * 16 + r i))))) other)
        (cases_eq ((a * 16 + b) * 16 + c) ((t * 16 + x) * 16 + y));
  }

  -- the same table holds what differs nowhere
  pub HoldsPairs-same : (f g : ℕ → ℕ → X) (tracks : ℕ) (table : List X) → HoldsPairs f tracks table → ((a b : ℕ) → g a b ≡ f a b) → HoldsPairs g tracks table
  HoldsPairs-same f g tracks table h same = record { len = h.len; each = λ a b la lb. h.each a b la lb ∙ ap Some (sym (same a b)) }

  pub HoldsTriples-same : (f g : ℕ → ℕ → ℕ → X) (tracks : ℕ) (table : List X) → HoldsTriples f tracks table → ((a b c : ℕ) → g a b c ≡ f a b c) → HoldsTriples g tracks table
  HoldsTriples-same f g tracks table h same = record { len = h.len; each = λ a b c la lb lc. h.each a b c la lb lc ∙ ap Some (sym (same a b c)) }

  -- what is at a track and a type, where none is what stands past the table
  pub at_pair_is : (f : ℕ → ℕ → X) (tracks : ℕ) (none : X) (table : List X) → HoldsPairs f tracks table → ((a b : ℕ) → (tracks ≤ a) ⊎ (16 ≤ b) → f a b ≡ none)
      → (t k : ℕ) → at_pair none table t k ≡ f t k
  at_pair_is f tracks none table h past t k =
      ⊎_elim
      (λ lk.
      ap (λ b. cond b (unwrap_or (slice_get table (t * 16 + k)) none) none) (lt-ltb k 16 lk)
      ∙ ⊎_elim (λ lt. ap (λ o. unwrap_or o none) (h.each t k lt lk))
      (λ ge. ap (λ o. unwrap_or o none) (slice_get_past table (t * 16 + k) (let l = h.len in omega arith)) ∙ sym (past t k (inl ge)))
      (cases_lt t tracks))
      (λ ge. ap (λ b. cond b (unwrap_or (slice_get table (t * 16 + k)) none) none) (le-ltb k 16 ge) ∙ sym (past t k (inr ge)))
      (cases_lt k 16)

  pub at_triple_is : (f : ℕ → ℕ → ℕ → X) (tracks : ℕ) (none : X) (table : List X) → HoldsTriples f tracks table
      → ((a b c : ℕ) → (tracks ≤ a) ⊎ ((16 ≤ b) ⊎ (16 ≤ c)) → f a b c ≡ none) → (t x y : ℕ) → at_triple none table t x y ≡ f t x y
  at_triple_is f tracks none table h past t x y =
      ⊎_elim
      (λ lx. ⊎_elim
      (λ ly.
      (λ i. cond (lt-ltb x 16 lx i && lt-ltb y 16 ly i) (unwrap_or (slice_get table ((t * 16 + x) * 16 + y)) none) none)
      ∙ ⊎_elim (λ lt. ap (λ o. unwrap_or o none) (h.each t x y lt lx ly))
      (λ ge. ap (λ o. unwrap_or o none) (slice_get_past table ((t * 16 + x) * 16 + y) (let l = h.len in omega arith)) ∙ sym (past t x y (inl ge)))
      (cases_lt t tracks))
      (λ ge. (λ i. cond (lt-ltb x 16 lx i && le-ltb y 16 ge i) (unwrap_or (slice_get table ((t * 16 + x) * 16 + y)) none) none) ∙ sym (past t x y (inr (inr ge))))
      (cases_lt y 16))
      (λ ge. ap (λ b. cond (b && nat_lt y 16) (unwrap_or (slice_get table ((t * 16 + x) * 16 + y)) none) none) (le-ltb x 16 ge) ∙ sym (past t x y (inr (inl ge))))
      (cases_lt x 16)

  -- a table that is made place by place
  pub table_more : (f : ℕ → X) (n : ℕ) (xs new : List X) (v : X) → xs ≡ map f (range_with_len 0 n) → v ≡ f n → new ≡ xs ++ v ∷ [] → new ≡ map f (range_with_len 0 (n + 1))
  table_more f n xs new v e ev made = made ∙ (λ i. e i ++ ev i ∷ []) ∙ sym (map-range_with_len_more f 0 n n (omega arith))

pub quotient : (q r : ℕ) → r < 16 → (q * 16 + r) / 16 ≡ q
quotient q r h = omega arith

pub remainder : (q r : ℕ) → r < 16 → (q * 16 + r) % 16 ≡ r
remainder q r h = omega arith

-- a table of all places holds what it was made from
pub HoldsPairs-from_places : {X : Type 0} (f : ℕ → ℕ → X) (tracks : ℕ) (table : List X) → table ≡ map (λ n. f (n / 16) (n % 16)) (range_with_len 0 (tracks * 16)) → HoldsPairs f tracks table
HoldsPairs-from_places f tracks table is =
    let len : length table ≡ tracks * 16 = ap length is ∙ length-map-range_with_len (λ n. f (n / 16) (n % 16)) 0 (tracks * 16) in
    record {
      len = len;
      each = λ t k lt lk.
          let within : t * 16 + k < tracks * 16 = omega arith in
          slice_get-get_or table (t * 16 + k) (f 0 0) (omega arith)
          ∙ ap Some (ap (λ l. get_or l (t * 16 + k) (f 0 0)) is ∙ get_or-map-range_with_len (λ n. f (n / 16) (n % 16)) 0 (tracks * 16) (t * 16 + k) (t * 16 + k) (f 0 0) within (omega arith)
          ∙ (λ i. f (quotient t k lk i) (remainder t k lk i)));
    }

-- ---- one more row

false_pair : (a b t k : ℕ) → (a ≡ t → b ≡ k → ⊥) → same_pair (a, b) (t, k) ≡ false
false_pair a b t k ne = false_from_ne_true _ (λ e. let same = pair_same (a, b) (t, k) e in ne (ap (λ (key : ℕ × ℕ). key.0) same) (ap (λ (key : ℕ × ℕ). key.1) same))

pub running_row : (rows : List ((ℕ × ℕ) × Times)) (i t k tracks : ℕ) (v : Times) (table : List Times) → HoldsPairs (found_times (take i rows)) tracks table
    → slice_get rows i ≡ Some ((t, k), v) → lookup (same_pair (t, k)) rows ≡ Some v → t < tracks → k < 16 → HoldsPairs (found_times (take (i + 1) rows)) tracks (set table (t * 16 + k) v)
running_row rows i t k tracks v table h at found lt lk =
    let within = slice_get_within rows i ((t, k), v) at in
    let row : get_or rows i ((t, k), v) ≡ ((t, k), v) = get_or_from_slice_get rows i ((t, k), v) ((t, k), v) at in
    HoldsPairs-set (found_times (take i rows)) (found_times (take (i + 1) rows)) tracks table t k v h lt lk
    (ap (λ o. unwrap_or o no_times) (lookup-own (same_pair (t, k)) rows i ((t, k), v) within (ap (λ (r : (ℕ × ℕ) × Times). same_pair (t, k) r.0) row ∙ pair_self (t, k)) ∙ found))
    (λ a b ne.
    ap (λ o. unwrap_or o no_times) (lookup-other (same_pair (a, b)) rows i ((t, k), v) within (ap (λ (r : (ℕ × ℕ) × Times). same_pair (a, b) r.0) row ∙ false_pair a b t k ne)))

false_triple : (a b c t x y : ℕ) → (a ≡ t → b ≡ x → c ≡ y → ⊥) → same_triple (a, b, c) (t, x, y) ≡ false
false_triple a b c t x y ne =
    false_from_ne_true _ (λ e.
    let same = triple_same (a, b, c) (t, x, y) e in
    ne (ap (λ (key : ℕ × ℕ × ℕ). key.0) same) (ap (λ (key : ℕ × ℕ × ℕ). key.1) same) (ap (λ (key : ℕ × ℕ × ℕ). key.2) same))

pub headway_row : (rows : List ((ℕ × ℕ × ℕ) × ℕ)) (i t x y tracks v : ℕ) (table : List ℕ) → HoldsTriples (found_headway (take i rows)) tracks table
    → slice_get rows i ≡ Some ((t, x, y), v) → lookup (same_triple (t, x, y)) rows ≡ Some v → t < tracks → x < 16 → y < 16
    → HoldsTriples (found_headway (take (i + 1) rows)) tracks (set table ((t * 16 + x) * 16 + y) v)
headway_row rows i t x y tracks v table h at found lt lx ly =
    let within = slice_get_within rows i ((t, x, y), v) at in
    let row : get_or rows i ((t, x, y), v) ≡ ((t, x, y), v) = get_or_from_slice_get rows i ((t, x, y), v) ((t, x, y), v) at in
    HoldsTriples-set (found_headway (take i rows)) (found_headway (take (i + 1) rows)) tracks table t x y v h lt lx ly
    (ap (λ o. unwrap_or o 0) (lookup-own (same_triple (t, x, y)) rows i ((t, x, y), v) within (ap (λ (r : (ℕ × ℕ × ℕ) × ℕ). same_triple (t, x, y) r.0) row ∙ triple_self (t, x, y)) ∙ found))
    (λ a b c ne.
    ap (λ o. unwrap_or o 0) (lookup-other (same_triple (a, b, c)) rows i ((t, x, y), v) within (ap (λ (r : (ℕ × ℕ × ℕ) × ℕ). same_triple (a, b, c) r.0) row ∙ false_triple a b c t x y ne)))
