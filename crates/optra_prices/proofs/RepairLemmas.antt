-- The repaired choice is one, and it is a choice that fits the rows.
use Rattle.std.proofs.Common.{◌≡◌, ℕ, zero, suc, ◌+◌, ◌≤◌, ◌<◌, true, false, List, [], ◌∷◌, map, length, Option, None, Some, slice_get, slice_set, refl, sym, ap, ◌∙◌, subst, arith, inl, inr}
use Rattle.std.specs.Prelude.{Contains, ◌⊎◌, IfSome}
use Rattle.std.specs.Prelude.{ℤ, ◌≤ℤ◌}
use Rattle.std.specs.List.{AllPairs, AllZip}
use Rattle.std.specs.declared.cmp.Ordering.{Ordering}
use Rattle.std.specs.declared.cmp.Ordering.TheVariants.{Less, Equal, Greater}
use Rattle.std.specs.Ordering.{is_gt, ordering_reverse}
use Rattle.std.specs.Cmp.{IsTotalOrder}
use Rattle.std.proofs.lemmas.Int.{ints}
use Rattle.std.proofs.lemmas.List.Sums.{sum_by-append}
use Rattle.std.proofs.lemmas.List.Elements.{All-contains}
use Rattle.optra_network.specs.Net.{Net}
use Rattle.optra_network.specs.declared.TypeId.{TypeId}
use Rattle.optra_bid.specs.Specs.{Path}
use Rattle.optra_bid.specs.declared.bids.Bid.{Bid}
use Rattle.optra_walk.specs.declared.Leg.{Leg}
use Rattle.optra_walk.specs.Walks.{IsWalk}
use Rattle.optra_walk.specs.Values.{value_of}
use Rattle.optra_walk.specs.Choices.{IsChoice}
use Rattle.optra_walk.specs.Families.{Rows, Entry, FitRows, load_of, entries_of}
use Rattle.optra_walk.specs.Orders.{walk_cmp}
use Rattle.optra_walk.proofs.OrderLemmas.{walk_cmp_total, tied_walks}
use Rattle.optra_node.specs.declared.Decision.{Decision}
use Rattle.optra_node.proofs.LoadLemmas.{contains_cases, contains_head, contains_later, pairs_head, pairs_tail}
use Rattle.optra_prices.specs.Replies.{Valuation}
use Rattle.optra_prices.specs.Repairs.{IsTakenBefore, IsTakingOrder, IsFirstWorthiest, IsGiven, GivesInTurn, empty_choice, IsRepair}

-- lists in order by one relation, with the same elements, are one list
pub same_order : {X : Type 0} (Before : X → X → Type 0) → ((x y : X) → Before x y → Before y x → ⊥) → (xs ys : List X) → AllPairs Before xs → AllPairs Before ys
    → ((x : X) → Contains xs x → Contains ys x) → ((x : X) → Contains ys x → Contains xs x) → xs ≡ ys
same_order Before apart [] [] p q f g = refl
same_order Before apart [] (y ∷ ys) p q f g = absurd (omega (arith, (g y (contains_head y ys y refl)).1))
same_order Before apart (x ∷ xs) [] p q f g = absurd (omega (arith, (f x (contains_head x xs x refl)).1))
same_order {X} Before apart (x ∷ xs) (y ∷ ys) p q f g =
    let e : x ≡ y = first (contains_cases y ys x (f x (contains_head x xs x refl))) (contains_cases x xs y (g y (contains_head y ys y refl))) in
    let t : xs ≡ ys = same_order Before apart xs ys (pairs_tail Before x xs p) (pairs_tail Before y ys q) (forth e) (back e) in
    λ i. e i ∷ t i
  where
    first : (y ≡ x) ⊎ Contains ys x → (x ≡ y) ⊎ Contains xs y → x ≡ y
    first (inl e) c = sym e
    first (inr b) (inl e) = e
    first (inr b) (inr c) = absurd (apart x y (All-contains (Before x) xs y (pairs_head Before x xs p) c) (All-contains (Before y) ys x (pairs_head Before y ys q) b))

    forth : x ≡ y → (z : X) → Contains xs z → Contains ys z
    forth e z c = elim (contains_cases y ys z (f z (contains_later x xs z c))) as (λ _. Contains ys z) [
      | inl same ↦
          let b : Before x z = All-contains (Before x) xs z (pairs_head Before x xs p) c in
          let w : Before x x = subst (Before x) (sym (e ∙ same)) b in
          absurd (apart x x w w)
      | inr c' ↦ c'
    ]

    back : x ≡ y → (z : X) → Contains ys z → Contains xs z
    back e z c = elim (contains_cases x xs z (g z (contains_later y ys z c))) as (λ _. Contains xs z) [
      | inl same ↦
          let b : Before y z = All-contains (Before y) ys z (pairs_head Before y ys q) c in
          let w : Before y y = subst (Before y) (sym (sym e ∙ same)) b in
          absurd (apart y y w w)
      | inr c' ↦ c'
    ]

pub taken_apart : (v : Valuation) (a b : ℕ) → IsTakenBefore v a b → IsTakenBefore v b a → ⊥
taken_apart v a b (inl p) (inl q) = omega (arith, ints)
taken_apart v a b (inl p) (inr (e, l)) = omega (arith, ints)
taken_apart v a b (inr (e, l)) (inl q) = omega (arith, ints)
taken_apart v a b (inr (e, l)) (inr (e', l')) = omega arith

-- the bids are taken in one order
order_unique : (v : Valuation) (n : ℕ) (a b : List ℕ) → IsTakingOrder v n a → IsTakingOrder v n b → a ≡ b
order_unique v n a b p q =
    same_order (IsTakenBefore v) (taken_apart v) a b p.ordered q.ordered
    (λ x c. q.whole x (All-contains (λ (m : ℕ). m < n) a x p.within c)) (λ x c. p.whole x (All-contains (λ (m : ℕ). m < n) b x q.within c))

-- neither is above the other
pub tied : {X : Type 0} {cmp : X → X → Ordering} → IsTotalOrder cmp → (a b : X) → is_gt (cmp a b) ≡ false → is_gt (cmp b a) ≡ false → cmp a b ≡ Equal
tied {X} {cmp} total a b p q = by (cmp a b) (cmp b a) (total.antisymm a b) p q
  where
    by : (x y : Ordering) → x ≡ ordering_reverse y → is_gt x ≡ false → is_gt y ≡ false → x ≡ Equal
    by Less Less e p q = cc
    by Less Equal e p q = cc
    by Less Greater e p q = cc
    by Equal y e p q = refl
    by Greater y e p q = cc

-- two walks of a bid, neither after the other, are one
pub same_walk : (net : Net) (path : Path) (a b : List Leg) → IsWalk net path a → IsWalk net path b → is_gt (walk_cmp a b) ≡ false → is_gt (walk_cmp b a) ≡ false → a ≡ b
same_walk net path a b walk other p q = tied_walks net path a b walk other (tied walk_cmp_total a b p q)

pub between : (m n : ℤ) → m ≤ℤ n → n ≤ℤ m → m ≡ n
between m n a b = omega (arith, ints)

pub some_is : {X : Type 0} {o : Option X} {x y : X} → o ≡ Some x → o ≡ Some y → x ≡ y
some_is p q = inside (sym p ∙ q)
  where
    inside : {X : Type 0} {x y : X} → Some x ≡ Some y → x ≡ y
    inside e = cc

module _ {R : Type 0} (net : Net) (rows : Rows R) (bids : List Bid) (node : List Decision) where
  pub worthiest_unique : (placed : List Entry) (number : ℕ) (bid : Bid) (a b : List Leg)
      → IsFirstWorthiest net rows bids node placed number bid a → IsFirstWorthiest net rows bids node placed number bid b → a ≡ b
  worthiest_unique placed number bid a b p q =
      let e = between (value_of net bid.path bid.money a) (value_of net bid.path bid.money b) (q.greatest a p.placeable) (p.greatest b q.placeable) in
      same_walk net bid.path a b p.placeable.allowed.walk q.placeable.allowed.walk (p.first b q.placeable (sym e)) (q.first a p.placeable e)

  given_unique : (placed : List Entry) (number : ℕ) (bid : Bid) (a b : Option (List Leg)) → IsGiven net rows bids node placed number bid a → IsGiven net rows bids node placed number bid b → a ≡ b
  given_unique placed number bid None None p q = refl
  given_unique placed number bid None (Some b) p q = absurd (p b q.0 q.1)
  given_unique placed number bid (Some a) None p q = absurd (q a p.0 p.1)
  given_unique placed number bid (Some a) (Some b) p q = ap Some (worthiest_unique placed number bid a b p.0 q.0)

  gives_unique : (order : List ℕ) (before a b : List (Option (List Leg))) → GivesInTurn net rows bids node order before a → GivesInTurn net rows bids node order before b → a ≡ b
  gives_unique [] before a b p q = p ∙ sym q
  gives_unique (number ∷ order) before a b (bid, given, at, is, then) (bid', given', at', is', then') =
      let e : bid' ≡ bid = some_is at' at in
      let is'' : IsGiven net rows bids node (entries_of bids before) number bid given' = subst (λ (c : Bid). IsGiven net rows bids node (entries_of bids before) number c given') e is' in
      let g : given' ≡ given = given_unique (entries_of bids before) number bid given' given is'' is in
      gives_unique order (slice_set before number given) a b then (subst (λ (o : Option (List Leg)). GivesInTurn net rows bids node order (slice_set before number o) b) g then')

  -- the repaired choice is one
  pub repair_unique : (v : Valuation) (a b : List (Option (List Leg))) → IsRepair net rows bids node v a → IsRepair net rows bids node v b → a ≡ b
  repair_unique v a b p q =
      let e = order_unique v (length bids) q.order p.order q.is_order p.is_order in
      gives_unique p.order (empty_choice bids) a b p.gives (subst (λ (order : List ℕ). GivesInTurn net rows bids node order (empty_choice bids) b) e q.gives)

-- an entry that fits its place may be put there
pub zip_set : {A B : Type 0} (P : A → B → Type 0) (xs : List A) (ys : List B) (k : ℕ) (x : A) (y : B) → AllZip P xs ys → slice_get xs k ≡ Some x → P x y → AllZip P xs (slice_set ys k y)
zip_set P [] [] k x y h at p = cc
zip_set P [] (w ∷ ys) k x y h at p = absurd h
zip_set P (z ∷ xs) [] k x y h at p = absurd h
zip_set P (z ∷ xs) (w ∷ ys) zero x y h at p = let e : x ≡ z = cc in (subst (λ v. P v y) e p, h.1)
zip_set P (z ∷ xs) (w ∷ ys) (suc k) x y h at p = (h.0, zip_set P xs ys k x y h.1 at p)

pub empty_is_choice : (net : Net) (bids : List Bid) → IsChoice net bids (empty_choice bids)
empty_is_choice net [] = tt
empty_is_choice net (bid ∷ bids) = (tt, empty_is_choice net bids)

pub empty_has_none : (bids : List Bid) → entries_of bids (empty_choice bids) ≡ []
empty_has_none [] = refl
empty_has_none (bid ∷ bids) = empty_has_none bids

nothing_fits : {R : Type 0} (rows : Rows R) → FitRows rows []
nothing_fits rows row e = omega arith

pub empty_fits : {R : Type 0} (rows : Rows R) (bids : List Bid) → FitRows rows (entries_of bids (empty_choice bids))
empty_fits rows bids = subst (FitRows rows) (sym (empty_has_none bids)) (nothing_fits rows)

-- how much of a row a walk uses
abbrev pub walk_load : {R : Type 0} → Rows R → R → TypeId → Option (List Leg) → ℕ
walk_load rows row kind None = 0
walk_load rows row kind (Some legs) = load_of rows row (map (λ leg. (kind, leg)) legs)

module _ {R : Type 0} (rows : Rows R) (row : R) where
  pub load-cons : (bid : Bid) (bids : List Bid) (walk : Option (List Leg)) (walks : List (Option (List Leg)))
      → load_of rows row (entries_of (bid ∷ bids) (walk ∷ walks)) ≡ walk_load rows row bid.path.kind walk + load_of rows row (entries_of bids walks)
  load-cons bid bids None walks = omega arith
  load-cons bid bids (Some legs) walks = sum_by-append (λ (e : Entry). rows.uses e.0 e.1 row) (map (λ leg. (bid.path.kind, leg)) legs) (entries_of bids walks)

  load-set : (bids : List Bid) (walks : List (Option (List Leg))) (number : ℕ) (bid : Bid) (walk : Option (List Leg)) → slice_get bids number ≡ Some bid
      → load_of rows row (entries_of bids (slice_set walks number walk)) ≤ load_of rows row (entries_of bids walks) + walk_load rows row bid.path.kind walk
  load-set [] walks number bid walk at = cc
  load-set (b ∷ bids) [] number bid walk at = omega arith
  load-set (b ∷ bids) (w ∷ walks) zero bid walk at =
      let e : b ≡ bid = cc in
      let s = ap (λ (c : Bid). walk_load rows row c.path.kind walk) e in
      let old = load-cons b bids w walks in
      let new = load-cons b bids walk walks in
      omega arith
  load-set (b ∷ bids) (w ∷ walks) (suc number) bid walk at =
      let i = load-set bids walks number bid walk at in
      let old = load-cons b bids w walks in
      let new = load-cons b bids w (slice_set walks number walk) in
      omega arith

-- a choice that fits the rows
pub record FitChoice {R : Type 0} (net : Net) (rows : Rows R) (bids : List Bid) (choice : List (Option (List Leg))) : Type 0 where
  pub is_choice : IsChoice net bids choice
  pub fits : FitRows rows (entries_of bids choice)

module _ {R : Type 0} (net : Net) (rows : Rows R) (bids : List Bid) (node : List Decision) where
  pub fits_given : (before : List (Option (List Leg))) (number : ℕ) (bid : Bid) (given : Option (List Leg)) → slice_get bids number ≡ Some bid
      → IsGiven net rows bids node (entries_of bids before) number bid given → FitChoice net rows bids before → FitChoice net rows bids (slice_set before number given)
  fits_given before number bid given at is fit = record {
    is_choice = zip_set (λ (b : Bid) (o : Option (List Leg)). IfSome o (IsWalk net b.path)) bids before number bid given fit.is_choice at (walk given is);
    fits = λ row e. let l = load-set rows row bids before number bid given at in let r = room given is row e in omega arith;
  }
    where
      walk : (given : Option (List Leg)) → IsGiven net rows bids node (entries_of bids before) number bid given → IfSome given (IsWalk net bid.path)
      walk None is = tt
      walk (Some legs) is = is.0.placeable.allowed.walk

      room : (given : Option (List Leg)) → IsGiven net rows bids node (entries_of bids before) number bid given → (row : R) → rows.is_row row ≡ true
          → load_of rows row (entries_of bids before) + walk_load rows row bid.path.kind given ≤ rows.capacity row
      room None is row e = let f = fit.fits row e in omega arith
      room (Some legs) is row e =
          let f = is.1.fits row e in
          let a = sum_by-append (λ (e : Entry). rows.uses e.0 e.1 row) (entries_of bids before) (map (λ leg. (bid.path.kind, leg)) legs) in
          omega arith

  fits_in_turn : (order : List ℕ) (before after : List (Option (List Leg))) → GivesInTurn net rows bids node order before after → FitChoice net rows bids before → FitChoice net rows bids after
  fits_in_turn [] before after e fit = subst (FitChoice net rows bids) (sym e) fit
  fits_in_turn (number ∷ order) before after (bid, given, at, is, then) fit =
      fits_in_turn order (slice_set before number given) after then (fits_given before number bid given at is fit)

  -- the repaired choice is a choice that fits the rows
  pub repair_fits : (v : Valuation) (choice : List (Option (List Leg))) → IsRepair net rows bids node v choice → FitChoice net rows bids choice
  repair_fits v choice repair =
      fits_in_turn repair.order (empty_choice bids) choice repair.gives (record { is_choice = empty_is_choice net bids; fits = empty_fits rows bids })
