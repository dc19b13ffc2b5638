-- A node where no allowed walk has a leg that is not fixed closes: its dual value is at most what repair earns.
use Rattle.std.proofs.Common.{◌≡◌, ℕ, zero, suc, ◌+◌, ◌≤◌, ◌<◌, Bool, true, false, List, [], ◌∷◌, map, length, get_or, Option, None, Some, slice_get, slice_set, unwrap_or, refl, sym, ap, ◌∙◌, subst, arith, inl, inr}
use Rattle.std.specs.Prelude.{All, Contains, ◌⊎◌, ◌||◌, IsSomeAnd}
use Rattle.std.specs.Prelude.{ℤ, pos, ◌+ℤ◌, ◌*ℤ◌, ◌≤ℤ◌}
use Rattle.std.specs.List.{AllPairs}
use Rattle.std.specs.Ordering.{is_gt}
use Rattle.std.proofs.lemmas.Cmp.{tied_itself}
use Rattle.std.proofs.lemmas.Bool.Decides.{nat_tests}
use Rattle.std.proofs.lemmas.Int.{ints}
use Rattle.std.proofs.Math.IntN.{negsuc}
use Rattle.std.proofs.lemmas.List.{length-set}
use Rattle.std.proofs.lemmas.List.Sums.{sum_by-append, sum_by-cons}
use Rattle.std.proofs.lemmas.List.Elements.{All-contains, Contains-get_or}
use Rattle.optra_network.specs.Net.{Net, IsProper}
use Rattle.optra_network.specs.declared.TypeId.{TypeId}
use Rattle.optra_bid.specs.declared.bids.Bid.{Bid}
use Rattle.optra_walk.specs.declared.Leg.{Leg}
use Rattle.optra_walk.specs.Walks.{IsStart, first_leg}
use Rattle.optra_walk.specs.Values.{value_of}
use Rattle.optra_walk.specs.Choices.{revenue_of}
use Rattle.optra_walk.specs.Families.{Rows, Entry, FitRows, load_of, entries_of}
use Rattle.optra_walk.specs.Orders.{walk_cmp}
use Rattle.optra_walk.proofs.OrderLemmas.{walk_cmp_total}
use Rattle.optra_walk.proofs.WalkLemmas.{departures_rise}
use Rattle.optra_node.specs.declared.Decision.{Decision}
use Rattle.optra_node.specs.Nodes.{is_yes_for, has_yes, Follows, uses_at, yes_load, IsAllowed}
use Rattle.optra_node.specs.Duals.{sum_of, walk_price, IsOffer, IsTerm, IsDead, IsDual}
use Rattle.optra_node.specs.Trees.{decide}
use Rattle.optra_node.proofs.SumLemmas.{sum_of-cons}
use Rattle.optra_node.proofs.LoadLemmas.{all_head, all_tail, pairs_head, pairs_tail, contains_cases, contains_head, tagged, tagged_load}
use Rattle.optra_node.proofs.ChildLemmas.{some_at, within_at}
use Rattle.optra_prices.specs.Deads.{FitsYes}
use Rattle.optra_prices.specs.Replies.{Valuation}
use Rattle.optra_prices.specs.Repairs.{IsTakenBefore, FitBeside, IsFirstWorthiest, IsGiven, GivesInTurn, empty_choice, IsRepair}
use Rattle.optra_prices.proofs.RepairLemmas.{same_order, some_is, taken_apart, walk_load, load-cons}
use Rattle.optra_search.specs.Splits.{is_fixed, IsFree, IsSettled}
use Rattle.optra_search.proofs.FirstLemmas.{compare}
use Rattle.optra_search.proofs.FixedLemmas.{fixed_has, differ_in_order, within_decided, tagged_legs, tagged_differ, at_set, at_set_other}

-- where the bid had no walk, a walk adds its own load
load-set_free : {R : Type 0} (rows : Rows R) (row : R) (bids : List Bid) (walks : List (Option (List Leg))) (number : ℕ) (bid : Bid) (walk : Option (List Leg)) → slice_get bids number ≡ Some bid → slice_get walks number ≡ Some None
    → load_of rows row (entries_of bids (slice_set walks number walk)) ≡ load_of rows row (entries_of bids walks) + walk_load rows row bid.path.kind walk
load-set_free rows row [] walks number bid walk at none = cc
load-set_free rows row (b ∷ bids) [] number bid walk at none = cc
load-set_free rows row (b ∷ bids) (w ∷ walks) zero bid walk at none =
    let e : b ≡ bid = cc in
    let n : w ≡ None = cc in
    let s = ap (λ (c : Bid). walk_load rows row c.path.kind walk) e in
    let z = ap (walk_load rows row b.path.kind) n in
    let old = load-cons rows row b bids w walks in
    let new = load-cons rows row b bids walk walks in
    omega arith
load-set_free rows row (b ∷ bids) (w ∷ walks) (suc number) bid walk at none =
    let i = load-set_free rows row bids walks number bid walk at none in
    let old = load-cons rows row b bids w walks in
    let new = load-cons rows row b bids w (slice_set walks number walk) in
    omega arith

-- a leg uses no more than all legs together
leg_within : {R : Type 0} (rows : Rows R) (row : R) (kind : TypeId) (legs : List Leg) (leg : Leg) → Contains legs leg → rows.uses kind leg row ≤ load_of rows row (map (λ leg. (kind, leg)) legs)
leg_within rows row kind [] leg c = absurd (omega (arith, c.1))
leg_within rows row kind (l ∷ legs) leg c = by (leg_within rows row kind legs leg) (contains_cases l legs leg c)
  where
    by : (Contains legs leg → rows.uses kind leg row ≤ load_of rows row (map (λ leg. (kind, leg)) legs)) → (l ≡ leg) ⊎ Contains legs leg → rows.uses kind leg row ≤ load_of rows row (map (λ leg. (kind, leg)) (l ∷ legs))
    by before (inl e) =
        let s = sum_by-cons (λ (e : Entry). rows.uses e.0 e.1 row) (kind, l) (map (λ leg. (kind, leg)) legs) in
        let u = ap (λ (x : Leg). rows.uses kind x row) e in
        omega arith
    by before (inr h) =
        let s = sum_by-cons (λ (e : Entry). rows.uses e.0 e.1 row) (kind, l) (map (λ leg. (kind, leg)) legs) in
        let i = before h in
        omega arith

-- what an entry of a choice earns
abbrev pub earned : Net → Bid → Option (List Leg) → ℤ
earned net bid None = pos 0
earned net bid (Some legs) = value_of net bid.path bid.money legs

-- the entry of a bid in a choice
abbrev pub entry_at : List (Option (List Leg)) → ℕ → Option (List Leg)
entry_at choice number = unwrap_or (slice_get choice number) None

-- terms within what the entries earn add up
terms_within : (net : Net) (bids : List Bid) (choice : List (Option (List Leg))) (terms : List ℤ) → length choice ≡ length bids → length terms ≡ length bids
    → ((number : ℕ) (bid : Bid) (term : ℤ) → slice_get bids number ≡ Some bid → slice_get terms number ≡ Some term → term ≤ℤ (pos 1000 *ℤ earned net bid (entry_at choice number)))
    → sum_of (λ t. t) terms ≤ℤ (pos 1000 *ℤ revenue_of net bids choice)
terms_within net [] choice [] l m each = omega (arith, ints)
terms_within net [] choice (t ∷ terms) l m each = absurd (omega arith)
terms_within net (bid ∷ bids) [] terms l m each = absurd (omega arith)
terms_within net (bid ∷ bids) (entry ∷ choice) [] l m each = absurd (omega arith)
terms_within net (bid ∷ bids) (None ∷ choice) (t ∷ terms) l m each =
    let first = each zero bid t refl refl in
    let i = terms_within net bids choice terms (omega arith) (omega arith) (λ n. each (suc n)) in
    let s = sum_of-cons (λ (t : ℤ). t) t terms in
    omega (arith, ints)
terms_within net (bid ∷ bids) (Some legs ∷ choice) (t ∷ terms) l m each =
    let first = each zero bid t refl refl in
    let i = terms_within net bids choice terms (omega arith) (omega arith) (λ n. each (suc n)) in
    let s = sum_of-cons (λ (t : ℤ). t) t terms in
    omega (arith, ints)

-- without a yes leg, no decision is a yes for the bid
no_yes : (number : ℕ) (node : List Decision) → has_yes node number ≡ false → (d : Decision) → Contains node d → d.yes ≡ true → d.bid ≡ number → ⊥
no_yes number [] e d c y b = omega (arith, c.1)
no_yes number (n ∷ node) e d c y b = by (no_yes number node) (contains_cases n node d c)
  where
    left : (a b : Bool) → (a || b) ≡ false → (a ≡ false) × (b ≡ false)
    left true b e = cc
    left false b e = (refl, e)

    yes_for : d.yes ≡ true → d.bid ≡ number → is_yes_for number d ≡ true
    yes_for y b = grind (arith, nat_tests)

    clash : {b : Bool} → b ≡ false → b ≡ true → ⊥
    clash p q = no (sym p ∙ q)
      where
        no : false ≡ true → ⊥
        no e = cc

    by : (has_yes node number ≡ false → (d : Decision) → Contains node d → d.yes ≡ true → d.bid ≡ number → ⊥) → (n ≡ d) ⊎ Contains node d → ⊥
    by before (inl s) = clash (ap (is_yes_for number) (sym s) ∙ (left (is_yes_for number n) (has_yes node number) e).0) (yes_for y b)
    by before (inr h) = before (left (is_yes_for number n) (has_yes node number) e).1 d h y b

no_price : {R : Type 0} (rows : Rows R) (kind : TypeId) (legs : List Leg) → walk_price rows [] kind legs ≡ pos 0
no_price rows kind [] = refl
no_price rows kind (leg ∷ legs) = no_price rows kind legs

module _ {R : Type 0} (net : Net) (proper : IsProper net) (rows : Rows R) (bids : List Bid) (node : List Decision)
    (settled : (number : ℕ) (bid : Bid) → slice_get bids number ≡ Some bid → IsSettled net rows bids node number bid) where
  -- each leg of an allowed walk is decided yes
  leg_decided : (number : ℕ) (bid : Bid) (legs : List Leg) → slice_get bids number ≡ Some bid → IsAllowed net rows bids node number bid legs → (leg : Leg) → Contains legs leg → Contains node (decide number leg)
  leg_decided number bid legs at allowed leg c =
      fixed_has number leg node (is_true (is_fixed node number leg) (All-contains (λ (leg : Leg). IsFree node number leg → ⊥) legs leg (settled number bid at legs allowed) c))
    where
      is_true : (b : Bool) → (b ≡ false → ⊥) → b ≡ true
      is_true true h = refl
      is_true false h = absurd (h refl)

  -- so a bid has one allowed walk
  one_walk : (number : ℕ) (bid : Bid) (a b : List Leg) → slice_get bids number ≡ Some bid → IsAllowed net rows bids node number bid a → IsAllowed net rows bids node number bid b → a ≡ b
  one_walk number bid a b at p q =
      same_order (λ (x y : Leg). x.depart < y.depart) (λ x y l l'. omega arith) a b (departures_rise net bid.path a proper p.walk) (departures_rise net bid.path b proper q.walk)
      (has a b p q) (has b a q p)
    where
      has : (a b : List Leg) → IsAllowed net rows bids node number bid a → IsAllowed net rows bids node number bid b → (leg : Leg) → Contains a leg → Contains b leg
      has a b p q leg c =
          let d : Follows b (decide number leg) = All-contains (λ (d : Decision). d.bid ≡ number → Follows b d) node (decide number leg) q.decided (leg_decided number bid a at p leg c) refl in
          d.yes refl

  -- a bid without a yes leg has no allowed walk
  no_yes_none : (number : ℕ) (bid : Bid) (legs : List Leg) → slice_get bids number ≡ Some bid → IsAllowed net rows bids node number bid legs → has_yes node number ≡ false → ⊥
  no_yes_none number bid legs at allowed e =
      let first = some_leg legs allowed.walk.start in
      no_yes number node e (decide number first.0) (leg_decided number bid legs at allowed first.0 first.1) refl refl
    where
      some_leg : (legs : List Leg) → IsSomeAnd (first_leg legs) (IsStart net bid.path) → (leg : Leg) × Contains legs leg
      some_leg [] h = absurd h
      some_leg (leg ∷ legs) h = (leg, contains_head leg legs leg refl)

  -- a choice whose walks are allowed
  record IsOfAllowed (choice : List (Option (List Leg))) : Type 0 where
    pub count : length choice ≡ length bids
    pub each : (number : ℕ) (bid : Bid) (legs : List Leg) → slice_get bids number ≡ Some bid → slice_get choice number ≡ Some (Some legs) → IsAllowed net rows bids node number bid legs

  bid_at : (choice : List (Option (List Leg))) → length choice ≡ length bids → (number : ℕ) (entry : Option (List Leg)) → slice_get choice number ≡ Some entry → (bid : Bid) × (slice_get bids number ≡ Some bid)
  bid_at choice l number entry at = let w = within_at choice number entry at in some_at bids number (length bids) refl (omega arith)

  -- it uses no more of a row than the yes legs
  of_allowed_within : (row : R) (choice : List (Option (List Leg))) → IsOfAllowed choice → load_of rows row (entries_of bids choice) ≤ yes_load rows bids node row
  of_allowed_within row choice of =
      let t = tagged_load rows row bids choice in
      let w = within_decided (λ e. uses_at rows bids row e.0 e.1) (tagged choice) node
      (tagged_differ choice (λ number legs at.
      let b = bid_at choice of.count number (Some legs) at in
      differ_in_order (λ (x y : Leg). x.depart < y.depart) (λ x l. omega arith) legs (departures_rise net b.0.path legs proper (of.each number b.0 legs b.1 at).walk)))
      (λ number leg c.
      let l = tagged_legs choice number leg c in
      let b = bid_at choice of.count number (Some l.0) l.1 in
      leg_decided number b.0 l.0 b.1 (of.each number b.0 l.0 b.1 l.1) leg l.2) in
      omega arith

  module _ (fits_yes : FitsYes rows bids node) where
    of_allowed_fits : (choice : List (Option (List Leg))) → IsOfAllowed choice → FitRows rows (entries_of bids choice)
    of_allowed_fits choice of row is_row =
        let w = of_allowed_within row choice of in
        elim (compare (rows.capacity row) (yes_load rows bids node row)) as (λ _. load_of rows row (entries_of bids choice) ≤ rows.capacity row) [
          | inl above ↦ absurd (fits_yes row (record { is_row = is_row; above = above }))
          | inr (inl e) ↦ omega arith
          | inr (inr below) ↦ omega arith
        ]

    -- the bid gets its allowed walk unless that is worth nothing
    abbrev EarnsMost : List (Option (List Leg)) → ℕ → Type 0
    EarnsMost choice number = (bid : Bid) (legs : List Leg) → slice_get bids number ≡ Some bid → IsAllowed net rows bids node number bid legs → value_of net bid.path bid.money legs ≤ℤ earned net bid (entry_at choice number)

    module _ (before : List (Option (List Leg))) (of : IsOfAllowed before) (number : ℕ) (bid : Bid) (at : slice_get bids number ≡ Some bid) (none : slice_get before number ≡ Some None) where
      -- an allowed walk may be added
      of_allowed_set : (given : Option (List Leg)) → ((legs : List Leg) → given ≡ Some legs → IsAllowed net rows bids node number bid legs) → IsOfAllowed (slice_set before number given)
      of_allowed_set given allowed = record {
        count = length-set before number given ∙ of.count;
        each = λ n b legs at_b at_legs. by n b legs at_b at_legs (compare number n);
      }
        where
          other : (n : ℕ) (b : Bid) (legs : List Leg) → slice_get bids n ≡ Some b → slice_get (slice_set before number given) n ≡ Some (Some legs) → (number ≡ n → ⊥) → IsAllowed net rows bids node n b legs
          other n b legs at_b at_legs apart = of.each n b legs at_b (sym (at_set_other before number n given apart) ∙ at_legs)

          by : (n : ℕ) (b : Bid) (legs : List Leg) → slice_get bids n ≡ Some b → slice_get (slice_set before number given) n ≡ Some (Some legs) → (number < n) ⊎ ((number ≡ n) ⊎ (n < number)) → IsAllowed net rows bids node n b legs
          by n b legs at_b at_legs (inl l) = other n b legs at_b at_legs (λ e. omega arith)
          by n b legs at_b at_legs (inr (inr l)) = other n b legs at_b at_legs (λ e. omega arith)
          by n b legs at_b at_legs (inr (inl e)) =
              let at_n : slice_get bids n ≡ Some bid = subst (λ (m : ℕ). slice_get bids m ≡ Some bid) e at in
              let same : bid ≡ b = some_is at_n at_b in
              let there : slice_get (slice_set before number given) n ≡ Some given = subst (λ (m : ℕ). slice_get (slice_set before number given) m ≡ Some given) e (at_set before number given (within_at before number None none)) in
              let g : given ≡ Some legs = some_is there at_legs in
              subst (λ (m : ℕ). IsAllowed net rows bids node m b legs) e (subst (λ (c : Bid). IsAllowed net rows bids node number c legs) same (allowed legs g))

      -- and then it fits beside what is placed, as a whole
      fits_whole : (legs : List Leg) → IsAllowed net rows bids node number bid legs → FitBeside rows (entries_of bids before) bid.path.kind legs
      fits_whole legs allowed row is_row =
          let of' = of_allowed_set (Some legs) (λ ls e. subst (IsAllowed net rows bids node number bid) (inside e) allowed) in
          let f = of_allowed_fits (slice_set before number (Some legs)) of' row is_row in
          let s = load-set_free rows row bids before number bid (Some legs) at none in
          let a = sum_by-append (λ (e : Entry). rows.uses e.0 e.1 row) (entries_of bids before) (map (λ leg. (bid.path.kind, leg)) legs) in
          omega arith
        where
          inside : {x y : List Leg} → Some x ≡ Some y → x ≡ y
          inside e = cc

      -- and each of its legs does
      fits_each : (legs : List Leg) → IsAllowed net rows bids node number bid legs → All (λ leg. FitBeside rows (entries_of bids before) bid.path.kind (leg ∷ [])) legs
      fits_each legs allowed k d l row is_row =
          let w = fits_whole legs allowed row is_row in
          let u = leg_within rows row bid.path.kind legs (get_or legs k d) (Contains-get_or legs k d l) in
          let a = sum_by-append (λ (e : Entry). rows.uses e.0 e.1 row) (entries_of bids before) (map (λ leg. (bid.path.kind, leg)) legs) in
          let b = sum_by-append (λ (e : Entry). rows.uses e.0 e.1 row) (entries_of bids before) ((bid.path.kind, get_or legs k d) ∷ []) in
          omega arith

      -- so it is the worthiest
      is_worthiest : (legs : List Leg) → IsAllowed net rows bids node number bid legs → IsFirstWorthiest net rows bids node (entries_of bids before) number bid legs
      is_worthiest legs allowed = record {
        placeable = record { allowed = allowed; each_fits = fits_each legs allowed };
        greatest = λ other p. let e = ap (value_of net bid.path bid.money) (one_walk number bid other legs at p.allowed allowed) in omega (arith, ints);
        first = λ other p e. subst (λ (w : List Leg). is_gt (walk_cmp legs w) ≡ false) (one_walk number bid legs other at allowed p.allowed) (ap is_gt (tied_itself walk_cmp_total legs));
      }

      given_allowed : (given : Option (List Leg)) → IsGiven net rows bids node (entries_of bids before) number bid given → (legs : List Leg) → given ≡ Some legs → IsAllowed net rows bids node number bid legs
      given_allowed None is legs e = cc
      given_allowed (Some given) is legs e = let same : given ≡ legs = cc in subst (IsAllowed net rows bids node number bid) same is.0.placeable.allowed

      given_most : (given : Option (List Leg)) → IsGiven net rows bids node (entries_of bids before) number bid given → (legs : List Leg) → IsAllowed net rows bids node number bid legs → value_of net bid.path bid.money legs ≤ℤ earned net bid given
      given_most (Some given) is legs allowed = let e = ap (value_of net bid.path bid.money) (one_walk number bid legs given at allowed is.0.placeable.allowed) in omega (arith, ints)
      given_most None is legs allowed = by (value_of net bid.path bid.money legs) refl
        where
          by : (v : ℤ) → value_of net bid.path bid.money legs ≡ v → value_of net bid.path bid.money legs ≤ℤ pos 0
          by (pos zero) e = omega (arith, ints)
          by (negsuc n) e = omega (arith, ints)
          by (pos (suc n)) e = absurd (is legs (is_worthiest legs allowed) (record { earns = omega (arith, ints); fits = fits_whole legs allowed }))

      -- what the bid is given keeps the choice one of allowed walks, and earns the most for the bid
      given_of_allowed : (given : Option (List Leg)) → IsGiven net rows bids node (entries_of bids before) number bid given → IsOfAllowed (slice_set before number given)
      given_of_allowed given is = of_allowed_set given (given_allowed given is)

      given_earns : (given : Option (List Leg)) → IsGiven net rows bids node (entries_of bids before) number bid given → EarnsMost (slice_set before number given) number
      given_earns given is b legs at_b allowed =
          let same : b ≡ bid = some_is at_b at in
          let there : entry_at (slice_set before number given) number ≡ given = ap (λ (o : Option (Option (List Leg))). unwrap_or o None) (at_set before number given (within_at before number None none)) in
          let m = given_most given is legs (subst (λ (c : Bid). IsAllowed net rows bids node number c legs) same allowed) in
          subst (λ (o : Option (List Leg)). value_of net b.path b.money legs ≤ℤ earned net b o) (sym there)
          (subst (λ (c : Bid). value_of net c.path c.money legs ≤ℤ earned net c given) (sym same) m)

    -- what the bids are given in turn earns the most for each of them
    most_in_turn : (v : Valuation) (order : List ℕ) (before after : List (Option (List Leg))) → AllPairs (IsTakenBefore v) order → IsOfAllowed before
        → All (λ n. slice_get before n ≡ Some None) order → ((n : ℕ) → n < length bids → Contains order n ⊎ EarnsMost before n)
        → GivesInTurn net rows bids node order before after → IsOfAllowed after × ((n : ℕ) → n < length bids → EarnsMost after n)
    most_in_turn v [] before after sorted of none left gives =
        subst (λ (c : List (Option (List Leg))). IsOfAllowed c × ((n : ℕ) → n < length bids → EarnsMost c n)) (sym gives)
        (of, λ n l. elim (left n l) as (λ _. EarnsMost before n) [ inl c ↦ absurd (omega (arith, c.1)) | inr m ↦ m ])
    most_in_turn v (number ∷ order) before after sorted of none left (bid, given, at, is, then) =
        most_in_turn v order (slice_set before number given) after (pairs_tail (IsTakenBefore v) number order sorted)
        (given_of_allowed before of number bid at (all_head (λ n. slice_get before n ≡ Some None) number order none) given is)
        (λ k d l. at_set_other before number (get_or order k d) given (apart k d l) ∙ all_tail (λ n. slice_get before n ≡ Some None) number order none k d l)
        (λ n l. still n (left n l) (compare number n)) then
      where
        apart : (k d : ℕ) → k < length order → number ≡ get_or order k d → ⊥
        apart k d l e =
            let b : IsTakenBefore v number (get_or order k d) = pairs_head (IsTakenBefore v) number order sorted k d l in
            let c : IsTakenBefore v number number = subst (IsTakenBefore v number) (sym e) b in
            taken_apart v number number c c

        other : (n : ℕ) → (number ≡ n → ⊥) → Contains (number ∷ order) n ⊎ EarnsMost before n → Contains order n ⊎ EarnsMost (slice_set before number given) n
        other n differs (inl c) = elim (contains_cases number order n c) as (λ _. Contains order n ⊎ EarnsMost (slice_set before number given) n) [ inl e ↦ absurd (differs e) | inr h ↦ inl h ]
        other n differs (inr m) = inr (λ b legs at_b allowed.
            subst (λ (o : Option (Option (List Leg))). value_of net b.path b.money legs ≤ℤ earned net b (unwrap_or o None)) (sym (at_set_other before number n given differs)) (m b legs at_b allowed))

        still : (n : ℕ) → Contains (number ∷ order) n ⊎ EarnsMost before n → (number < n) ⊎ ((number ≡ n) ⊎ (n < number)) → Contains order n ⊎ EarnsMost (slice_set before number given) n
        still n h (inl l) = other n (λ e. omega arith) h
        still n h (inr (inr l)) = other n (λ e. omega arith) h
        still n h (inr (inl e)) =
            inr (subst (EarnsMost (slice_set before number given)) e (given_earns before of number bid at (all_head (λ n. slice_get before n ≡ Some None) number order none) given is))

    empty_of_allowed : (bids' : List Bid) → (length (empty_choice bids') ≡ length bids') × ((n : ℕ) (legs : List Leg) → slice_get (empty_choice bids') n ≡ Some (Some legs) → ⊥) × ((n : ℕ) → n < length bids' → slice_get (empty_choice bids') n ≡ Some None)
    empty_of_allowed [] = (refl, (λ n legs e. cc), λ n l. absurd (omega arith))
    empty_of_allowed (bid ∷ bids') = let t = empty_of_allowed bids' in (ap suc t.0, none t.1, there t.2)
      where
        none : ((n : ℕ) (legs : List Leg) → slice_get (empty_choice bids') n ≡ Some (Some legs) → ⊥) → (n : ℕ) (legs : List Leg) → slice_get (None ∷ empty_choice bids') n ≡ Some (Some legs) → ⊥
        none h zero legs e = cc
        none h (suc n) legs e = h n legs e

        there : ((n : ℕ) → n < length bids' → slice_get (empty_choice bids') n ≡ Some None) → (n : ℕ) → n < suc (length bids') → slice_get (None ∷ empty_choice bids') n ≡ Some None
        there h zero l = refl
        there h (suc n) l = h n (omega arith)

    -- the repaired choice earns the most for each bid
    repair_most : (v : Valuation) (choice : List (Option (List Leg))) → IsRepair net rows bids node v choice → IsOfAllowed choice × ((n : ℕ) → n < length bids → EarnsMost choice n)
    repair_most v choice is =
        let e = empty_of_allowed bids in
        most_in_turn v is.order (empty_choice bids) choice is.is_order.ordered
        (record { count = e.0; each = λ n b legs at_b at_legs. absurd (e.1 n legs at_legs) })
        (λ k d l. e.2 (get_or is.order k d) (is.is_order.within k d l))
        (λ n l. inl (is.is_order.whole n l)) is.gives

    -- so it earns the dual value at zero prices
    pub zero_earned : (IsDead net rows bids node → ⊥) → (terms : List ℤ) (value : ℤ) → IsDual {R = R} net rows bids node [] terms value → (v : Valuation) (choice : List (Option (List Leg))) → IsRepair net rows bids node v choice
        → value ≤ℤ (pos 1000 *ℤ revenue_of net bids choice)
    zero_earned lives terms value dual v choice is = by dual.total
      where
        most : IsOfAllowed choice × ((n : ℕ) → n < length bids → EarnsMost choice n)
        most = repair_most v choice is

        entry_positive : (number : ℕ) (bid : Bid) → slice_get bids number ≡ Some bid → has_yes node number ≡ false → (entry : Option (List Leg)) → slice_get choice number ≡ Some entry → pos 0 ≤ℤ earned net bid entry
        entry_positive number bid at e None q = omega (arith, ints)
        entry_positive number bid at e (Some legs) q = absurd (no_yes_none number bid legs at (most.0.each number bid legs at q) e)

        each : (number : ℕ) (bid : Bid) (term : ℤ) → slice_get bids number ≡ Some bid → slice_get terms number ≡ Some term → IsTerm net rows bids node [] number bid term → term ≤ℤ (pos 1000 *ℤ earned net bid (entry_at choice number))
        each number bid term at at_term (inr stuck) = absurd (lives (number, bid, at, stuck.0))
        each number bid term at at_term (inl greatest) = offer greatest.reached
          where
            offer : IsOffer {R = R} net rows bids node [] number bid term → term ≤ℤ (pos 1000 *ℤ earned net bid (entry_at choice number))
            offer (inl (e, z)) =
                let n = within_at bids number bid at in
                let c = most.0.count in
                let o = some_at choice number (length choice) refl (omega arith) in
                let p = entry_positive number bid at e o.0 o.1 in
                let s = ap (λ (w : Option (Option (List Leg))). earned net bid (unwrap_or w None)) o.1 in
                omega (arith, ints)
            offer (inr (legs, allowed, z)) =
                let n = within_at bids number bid at in
                let m = most.1 number n bid legs at allowed in
                let p = no_price rows bid.path.kind legs in
                omega (arith, ints)

        by : ((IsDead net rows bids node → ⊥) × (value ≡ pos 0 +ℤ sum_of (λ t. t) terms)) ⊎ (IsDead net rows bids node × (value ≡ pos 0)) → value ≤ℤ (pos 1000 *ℤ revenue_of net bids choice)
        by (inr (dead, e)) = absurd (lives dead)
        by (inl (l, e)) =
            let t = terms_within net bids choice terms most.0.count dual.count (λ n b t at at_t. each n b t at at_t (dual.each n b t at at_t)) in
            omega (arith, ints)
