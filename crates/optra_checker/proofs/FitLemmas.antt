-- Totals within capacities, leg by leg and bid by bid.
use Rattle.std.proofs.Common.{◌≡◌, ℕ, zero, suc, ◌+◌, ◌<◌, ◌≤◌, ◌↔◌, Bool, true, List, [], ◌∷◌, ◌++◌, map, length, get_or, take, drop, sum_by, Option, None, Some, slice_get, refl, sym, ap, ◌∙◌, subst, arith, inl, inr, add-one}
use Rattle.std.specs.Prelude.{All, IsTrue}
use Rattle.std.specs.declared.cmp.Ordering.{Ordering}
use Rattle.std.proofs.lemmas.Option.{slice_get-get_or, slice_get_within, get_or_from_slice_get}
use Rattle.std.proofs.lemmas.Bool.{cases_lt}
use Rattle.std.proofs.lemmas.List.{append-nil, take_more}
use Rattle.std.proofs.lemmas.List.Elements.{All-head, All-tail}
use Rattle.std.proofs.lemmas.List.Sums.{get_or-le-sum_by, sum_by_more_le, sum_by-append, sum_by-cons, sum_by_push}
use Rattle.optra_network.specs.Net.{Net}
use Rattle.optra_network.specs.declared.TypeId.{TypeId}
use Rattle.optra_bid.specs.declared.bids.Bid.{Bid}
use Rattle.optra_walk.specs.declared.Leg.{Leg}
use Rattle.optra_walk.specs.Families.{Rows, Entry, HasRoom, IsUsable, ListsRows, entries_of, load_of, FitRows}
use Rattle.optra_node.proofs.SumLemmas.{sum_by-map}
use Rattle.optra_checker.specs.Fits.{AreWithin}

-- a leg uses little of each row
pub uses_small : {R : Type 0} (cmp : R → R → Ordering) (is_row : R → Bool) (uses : R → ℕ) (used : List R) → ListsRows cmp is_row uses used → (q : R) → uses q ≤ 8192
uses_small cmp is_row uses used lists q = elim (cases_lt 0 (uses q)) as (λ _. uses q ≤ 8192) [
  | inl pos ↦
      let c = (lists.used q).0 pos in
      let part = get_or-le-sum_by uses used c.0 q c.1 in
      let here = ap uses c.2 in
      let total = lists.total in
      omega (arith, part, here, total)
  | inr none ↦ omega (arith, none)
]

module _ {R : Type 0} (rows : Rows R) where
  -- what is below totals within the capacities is within them
  pub within_below : (small big : R → ℕ) → ((q : R) → small q ≤ big q) → AreWithin rows big → AreWithin rows small
  within_below small big below within q pos =
      let l = below q in
      let w = within q (omega arith) in
      let m = w.1 in
      (w.0, omega arith)

  pub within_same : (a b : R → ℕ) → ((q : R) → a q ≡ b q) → AreWithin rows b → AreWithin rows a
  within_same a b same = within_below a b (λ q. let e = same q in omega arith)

  -- with one leg more, where the rows that it uses are within their capacities
  pub leg_within : (before after uses : R → ℕ) → ((q : R) → 0 < uses q → rows.is_row q ≡ true) → AreWithin rows before → ((q : R) → after q ≡ before q + uses q)
      → ((q : R) → 0 < uses q → after q ≤ rows.capacity q) ↔ AreWithin rows after
  leg_within before after uses are_rows within added = (to, from)
    where
      to : ((q : R) → 0 < uses q → after q ≤ rows.capacity q) → AreWithin rows after
      to fits q pos = elim (cases_lt 0 (uses q)) as (λ _. (rows.is_row q ≡ true) × (after q ≤ rows.capacity q)) [
        | inl used ↦ (are_rows q used, fits q used)
        | inr none ↦
            let a = added q in
            let w = within q (omega arith) in
            let m = w.1 in
            (w.0, omega arith)
      ]

      from : AreWithin rows after → (q : R) → 0 < uses q → after q ≤ rows.capacity q
      from w q used = let a = added q in (w q (omega arith)).1

  -- a leg has room exactly where with it the totals are within the capacities
  pub room_within : (kind : TypeId) (leg : Leg) (before after : R → ℕ) → ((q : R) → 0 < rows.uses kind leg q → rows.is_row q ≡ true) → AreWithin rows before
      → ((q : R) → after q ≡ before q + rows.uses kind leg q) → HasRoom rows before kind leg ↔ AreWithin rows after
  room_within kind leg before after are_rows within added =
      let both = leg_within before after (rows.uses kind leg) are_rows within added in (
        (λ room. both.0 (λ q used. let a = added q in let r = room q used in omega (arith, a, r))),
        (λ w q used. let a = added q in let m = both.1 w q used in omega (arith, a, m)),
      )

  -- totals within the capacities are small
  pub within_small : ((q : R) → rows.is_row q ≡ true → rows.capacity q ≤ 65535) → (total : R → ℕ) → AreWithin rows total → (q : R) → total q ≤ 65535
  within_small caps total within q = elim (cases_lt 0 (total q)) as (λ _. total q ≤ 65535) [
    | inl pos ↦
        let w = within q pos in
        let most = w.1 in
        let cap = caps q w.0 in
        omega (arith, most, cap)
    | inr none ↦ omega (arith, none)
  ]

  pub load_map : (kind : TypeId) (q : R) (legs : List Leg) → load_of rows q (map (λ leg. (kind, leg)) legs) ≡ sum_by (λ leg. rows.uses kind leg q) legs
  load_map kind q legs = sum_by-map (λ (e : Entry). rows.uses e.0 e.1 q) (λ (leg : Leg). (kind, leg)) legs

  -- what legs so far and the next one use is at most what all use
  pub legs_below : (kind : TypeId) (q : R) (legs : List Leg) (i : ℕ) (d : Leg) → i < length legs
      → load_of rows q (map (λ leg. (kind, leg)) (take i legs)) + rows.uses kind (get_or legs i d) q ≤ load_of rows q (map (λ leg. (kind, leg)) legs)
  legs_below kind q legs i d l =
      let f = λ (leg : Leg). rows.uses kind leg q in
      let some = load_map kind q (take i legs) in
      let all = load_map kind q legs in
      let le = sum_by_more_le f legs i d l in
      omega arith

  -- with the next leg
  pub legs_more : (kind : TypeId) (q : R) (legs : List Leg) (i : ℕ) (d : Leg) → i < length legs
      → load_of rows q (map (λ leg. (kind, leg)) (take (i + 1) legs)) ≡ load_of rows q (map (λ leg. (kind, leg)) (take i legs)) + rows.uses kind (get_or legs i d) q
  legs_more kind q legs i d l =
      let f = λ (leg : Leg). rows.uses kind leg q in
      let step = ap (sum_by f) (take_more legs i d l) ∙ sum_by_push f (take i legs) (get_or legs i d) in
      load_map kind q (take (i + 1) legs) ∙ step ∙ ap (λ n. n + f (get_or legs i d)) (sym (load_map kind q (take i legs)))

  entries-cons : (bid : Bid) (bids : List Bid) (walk : Option (List Leg)) (walks : List (Option (List Leg))) → entries_of (bid ∷ bids) (walk ∷ walks) ≡ entries_of (bid ∷ []) (walk ∷ []) ++ entries_of bids walks
  entries-cons bid bids None walks = refl
  entries-cons bid bids (Some legs) walks = ap (λ es. es ++ entries_of bids walks) (sym (append-nil (map (λ leg. (bid.path.kind, leg)) legs)))

  entries_at : (bids : List Bid) (walks : List (Option (List Leg))) (i : ℕ) (bid : Bid) (walk : Option (List Leg)) → i < length bids → i < length walks
      → entries_of (drop i bids) (drop i walks) ≡ entries_of (get_or bids i bid ∷ []) (get_or walks i walk ∷ []) ++ entries_of (drop (i + 1) bids) (drop (i + 1) walks)
  entries_at [] walks i bid walk h k = absurd (omega arith)
  entries_at (b ∷ bids) [] i bid walk h k = absurd (omega arith)
  entries_at (b ∷ bids) (w ∷ walks) zero bid walk h k = entries-cons b bids w walks
  entries_at (b ∷ bids) (w ∷ walks) (suc i) bid walk h k = rw (entries_at bids walks i bid walk (omega arith) (omega arith), add-one i, add-one (suc i)) refl

  -- from a place on, its bid's legs come first
  pub load_at : (q : R) (bids : List Bid) (walks : List (Option (List Leg))) (i : ℕ) (bid : Bid) (walk : Option (List Leg)) → i < length bids → i < length walks → bid ≡ get_or bids i bid → walk ≡ get_or walks i walk
      → load_of rows q (entries_of (drop i bids) (drop i walks)) ≡ load_of rows q (entries_of (bid ∷ []) (walk ∷ [])) + load_of rows q (entries_of (drop (i + 1) bids) (drop (i + 1) walks))
  load_at q bids walks i bid walk h k b w =
      let f = λ (e : Entry). rows.uses e.0 e.1 q in
      ap (sum_by f) (entries_at bids walks i bid walk h k) ∙ sum_by-append f (entries_of (get_or bids i bid ∷ []) (get_or walks i walk ∷ [])) (entries_of (drop (i + 1) bids) (drop (i + 1) walks))
      ∙ (λ j. sum_by f (entries_of (sym b j ∷ []) (sym w j ∷ [])) + load_of rows q (entries_of (drop (i + 1) bids) (drop (i + 1) walks)))

  -- past the last bid there is no leg
  pub load_past : (q : R) (bids : List Bid) (walks : List (Option (List Leg))) (i : ℕ) → length bids ≤ i → load_of rows q (entries_of (drop i bids) (drop i walks)) ≡ 0
  load_past q [] walks i h = nothing i
    where
      nothing : (i : ℕ) → load_of rows q (entries_of (drop {A = Bid} i []) (drop i walks)) ≡ 0
      nothing zero = refl
      nothing (suc i) = refl
  load_past q (b ∷ bids) walks zero h = absurd (omega arith)
  load_past q (b ∷ bids) [] (suc i) h = none (drop i bids)
    where
      none : (bids : List Bid) → load_of rows q (entries_of bids []) ≡ 0
      none [] = refl
      none (b ∷ bids) = refl
  load_past q (b ∷ bids) (w ∷ walks) (suc i) h = load_past q bids walks i (omega arith)

  -- totals of legs are within the capacities exactly where the legs fit
  module _ (net : Net) (are_rows : (kind : TypeId) (leg : Leg) → IsUsable net kind leg → (row : R) → 0 < rows.uses kind leg row → rows.is_row row ≡ true) where
    loaded_is_row : (entries : List Entry) (q : R) → All (λ e. IsUsable net e.0 e.1) entries → 0 < load_of rows q entries → rows.is_row q ≡ true
    loaded_is_row [] q usable pos = absurd (omega arith)
    loaded_is_row (e ∷ es) q usable pos =
        let P = λ (e : Entry). IsUsable net e.0 e.1 in
        let s = sum_by-cons (λ (e : Entry). rows.uses e.0 e.1 q) e es in
        elim (cases_lt 0 (rows.uses e.0 e.1 q)) as (λ _. rows.is_row q ≡ true) [
          | inl used ↦ are_rows e.0 e.1 (All-head P e es usable) q used
          | inr none ↦ loaded_is_row es q (All-tail P e es usable) (omega arith)
        ]

    pub within_fits : (entries : List Entry) → All (λ e. IsUsable net e.0 e.1) entries → AreWithin rows (λ q. load_of rows q entries) ↔ FitRows rows entries
    within_fits entries usable = (
      (λ within row is. elim (cases_lt 0 (load_of rows row entries)) as (λ _. load_of rows row entries ≤ rows.capacity row) [
        | inl pos ↦ (within row pos).1
        | inr none ↦ omega arith
      ]),
      (λ fit q pos. let is = loaded_is_row entries q usable pos in (is, fit q is)),
    )
