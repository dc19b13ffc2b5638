-- Parts of a choice: they are choices, they use no more, and their worth is added up bid by bid.
use Rattle.std.proofs.Common.{◌≡◌, ℕ, zero, suc, ◌+◌, ◌*◌, ◌≤◌, ◌<◌, Bool, true, false, cond, List, [], ◌∷◌, map, length, drop, filter, get_or, Option, Some, None, is_some, refl, sym, ap, subst, arith, add-one}
use Rattle.std.specs.Prelude.{ℤ, pos, ◌+ℤ◌, ◌≤ℤ◌, All, IfSome, count_by, fold}
use Rattle.std.proofs.lemmas.Int.{ints}
use Rattle.std.proofs.lemmas.List.{drop_all}
use Rattle.std.proofs.lemmas.List.Sums.{sum_by-cons, sum_by-append}
use Rattle.std.proofs.lemmas.List.Elements.{All-filter}
use Rattle.optra_network.specs.Net.{Net}
use Rattle.optra_bid.specs.Specs.{IsPathOn}
use Rattle.optra_bid.specs.Instances.{IsInstance}
use Rattle.optra_bid.specs.declared.bids.Bid.{Bid}
use Rattle.optra_walk.specs.declared.Leg.{Leg}
use Rattle.optra_walk.specs.Walks.{IsWalk}
use Rattle.optra_walk.specs.Choices.{IsChoice, revenue_of}
use Rattle.optra_walk.specs.Families.{Rows, Entry, FitRows, load_of, entries_of}
use Rattle.optra_payment.specs.Parts.{beside, worth_of}
use Rattle.optra_payment.specs.Planners.{base_sum}

-- a choice has an entry for each bid
pub choice_long : (net : Net) (bids : List Bid) (walks : List (Option (List Leg))) → IsChoice net bids walks → length bids ≡ length walks
choice_long net [] [] h = refl
choice_long net [] (w ∷ walks) h = absurd h
choice_long net (b ∷ bids) [] h = absurd h
choice_long net (b ∷ bids) (w ∷ walks) h = ap suc (choice_long net bids walks h.1)

-- each entry that is there is a walk of its bid
pub choice_at : (net : Net) (bids : List Bid) (walks : List (Option (List Leg))) (i : ℕ) (bid : Bid) (walk : Option (List Leg)) → IsChoice net bids walks → i < length bids
    → bid ≡ get_or bids i bid → walk ≡ get_or walks i walk → IfSome walk (IsWalk net bid.path)
choice_at net [] walks i bid walk h k b w = absurd (omega arith)
choice_at net (x ∷ bids) [] i bid walk h k b w = absurd h
choice_at net (x ∷ bids) (y ∷ walks) zero bid walk h k b w = rw (b, w) h.0
choice_at net (x ∷ bids) (y ∷ walks) (suc i) bid walk h k b w = choice_at net bids walks i bid walk h.1 (omega arith) b w

entries-none : (bids : List Bid) → entries_of bids [] ≡ []
entries-none [] = refl
entries-none (bid ∷ bids) = refl

revenue-cons : (net : Net) (bid : Bid) (bids : List Bid) (walk : Option (List Leg)) (walks : List (Option (List Leg)))
    → revenue_of net (bid ∷ bids) (walk ∷ walks) ≡ revenue_of net (bid ∷ []) (walk ∷ []) +ℤ revenue_of net bids walks
revenue-cons net bid bids None walks = omega (arith, ints)
revenue-cons net bid bids (Some legs) walks = omega (arith, ints)

module _ (test : Bid → Bool) where
  -- a part of a choice is a choice of those bids
  pub part_choice : (net : Net) (bids : List Bid) (walks : List (Option (List Leg))) → IsChoice net bids walks → IsChoice net (filter test bids) (beside test bids walks)
  part_choice net [] [] h = h
  part_choice net [] (w ∷ walks) h = absurd h
  part_choice net (b ∷ bids) [] h = absurd h
  part_choice net (b ∷ bids) (w ∷ walks) h = by (test b) (part_choice net bids walks h.1)
    where
      by : (t : Bool) → IsChoice net (filter test bids) (beside test bids walks)
          → IsChoice net (cond t (b ∷ filter test bids) (filter test bids)) (cond t (w ∷ beside test bids walks) (beside test bids walks))
      by true rest = (h.0, rest)
      by false rest = rest

  -- it uses no more of any row
  part_load : {R : Type 0} (rows : Rows R) (row : R) (bids : List Bid) (walks : List (Option (List Leg)))
      → load_of rows row (entries_of (filter test bids) (beside test bids walks)) ≤ load_of rows row (entries_of bids walks)
  part_load rows row [] walks = omega arith
  part_load rows row (b ∷ bids) [] = subst (λ (l : List Entry). load_of rows row l ≤ 0) (sym (entries-none (filter test (b ∷ bids)))) (omega arith)
  part_load rows row (b ∷ bids) (None ∷ walks) = by (test b) (part_load rows row bids walks)
    where
      by : (t : Bool) → load_of rows row (entries_of (filter test bids) (beside test bids walks)) ≤ load_of rows row (entries_of bids walks)
          → load_of rows row (entries_of (cond t (b ∷ filter test bids) (filter test bids)) (cond t (None ∷ beside test bids walks) (beside test bids walks))) ≤ load_of rows row (entries_of bids walks)
      by true rest = rest
      by false rest = rest
  part_load rows row (b ∷ bids) (Some legs ∷ walks) = by (test b) (part_load rows row bids walks)
    where
      by : (t : Bool) → load_of rows row (entries_of (filter test bids) (beside test bids walks)) ≤ load_of rows row (entries_of bids walks)
          → load_of rows row (entries_of (cond t (b ∷ filter test bids) (filter test bids)) (cond t (Some legs ∷ beside test bids walks) (beside test bids walks)))
          ≤ load_of rows row (entries_of (b ∷ bids) (Some legs ∷ walks))
      by true rest =
          let amount : Entry → ℕ = λ e. rows.uses e.0 e.1 row in
          let part = sum_by-append amount (map (λ leg. (b.path.kind, leg)) legs) (entries_of (filter test bids) (beside test bids walks)) in
          let whole = sum_by-append amount (map (λ leg. (b.path.kind, leg)) legs) (entries_of bids walks) in
          omega arith
      by false rest =
          let amount : Entry → ℕ = λ e. rows.uses e.0 e.1 row in
          let whole = sum_by-append amount (map (λ leg. (b.path.kind, leg)) legs) (entries_of bids walks) in
          omega arith

  -- so it fits where the whole does
  pub part_fits : {R : Type 0} (rows : Rows R) (bids : List Bid) (walks : List (Option (List Leg))) → FitRows rows (entries_of bids walks) → FitRows rows (entries_of (filter test bids) (beside test bids walks))
  part_fits rows bids walks fits row is = let whole = fits row is in let part = part_load rows row bids walks in omega arith

  pub part_fewer : (bids : List Bid) → length (filter test bids) ≤ length bids
  part_fewer [] = omega arith
  part_fewer (b ∷ bids) = by (test b) (part_fewer bids)
    where
      by : (t : Bool) → length (filter test bids) ≤ length bids → length (cond t (b ∷ filter test bids) (filter test bids)) ≤ suc (length bids)
      by true rest = omega arith
      by false rest = omega arith

  -- the bids of a part are an instance
  pub part_instance : (net : Net) (bids : List Bid) → length bids ≤ 1000 → All (λ bid. IsPathOn net bid.path) bids → IsInstance net (filter test bids)
  part_instance net bids few paths = record {
    few = let less = part_fewer bids in omega arith;
    paths = All-filter test (λ (bid : Bid). IsPathOn net bid.path) bids paths;
  }

  worth-cons : (net : Net) (b : Bid) (bids : List Bid) (w : Option (List Leg)) (walks : List (Option (List Leg)))
      → worth_of net test (b ∷ bids) (w ∷ walks) ≡ cond (test b) (revenue_of net (b ∷ []) (w ∷ [])) (pos 0) +ℤ worth_of net test bids walks
  worth-cons net b bids w walks = by (test b)
    where
      by : (t : Bool) → revenue_of net (cond t (b ∷ filter test bids) (filter test bids)) (cond t (w ∷ beside test bids walks) (beside test bids walks))
          ≡ cond t (revenue_of net (b ∷ []) (w ∷ [])) (pos 0) +ℤ worth_of net test bids walks
      by true = revenue-cons net b (filter test bids) w (beside test bids walks)
      by false = omega (arith, ints)

  -- from a place on, its bid is worth something first
  pub worth_at : (net : Net) (bids : List Bid) (walks : List (Option (List Leg))) (i : ℕ) (bid : Bid) (walk : Option (List Leg)) → i < length bids → i < length walks
      → worth_of net test (drop i bids) (drop i walks)
      ≡ cond (test (get_or bids i bid)) (revenue_of net (get_or bids i bid ∷ []) (get_or walks i walk ∷ [])) (pos 0) +ℤ worth_of net test (drop (i + 1) bids) (drop (i + 1) walks)
  worth_at net [] walks i bid walk h k = absurd (omega arith)
  worth_at net (b ∷ bids) [] i bid walk h k = absurd (omega arith)
  worth_at net (b ∷ bids) (w ∷ walks) zero bid walk h k = worth-cons net b bids w walks
  worth_at net (b ∷ bids) (w ∷ walks) (suc i) bid walk h k = rw (worth_at net bids walks i bid walk (omega arith) (omega arith), add-one i, add-one (suc i)) refl

  -- past the last bid there is nothing
  pub worth_past : (net : Net) (bids : List Bid) (walks : List (Option (List Leg))) (i : ℕ) → length bids ≤ i → worth_of net test (drop i bids) (drop i walks) ≡ pos 0
  worth_past net bids walks i h = ap (λ (l : List Bid). worth_of net test l (drop i walks)) (drop_all i bids h)

  count-cons : (b : Bid) (bids : List Bid) (w : Option (List Leg)) (walks : List (Option (List Leg)))
      → count_by is_some (beside test (b ∷ bids) (w ∷ walks)) ≡ cond (test b) (cond (is_some w) 1 0) 0 + count_by is_some (beside test bids walks)
  count-cons b bids w walks = by (test b)
    where
      by : (t : Bool) → count_by is_some (cond t (w ∷ beside test bids walks) (beside test bids walks)) ≡ cond t (cond (is_some w) 1 0) 0 + count_by is_some (beside test bids walks)
      by true = sum_by-cons (λ (x : Option (List Leg)). cond (is_some x) 1 0) w (beside test bids walks)
      by false = omega arith

  -- how many walks, from a place on
  pub count_at : (bids : List Bid) (walks : List (Option (List Leg))) (i : ℕ) (bid : Bid) (walk : Option (List Leg)) → i < length bids → i < length walks
      → count_by is_some (beside test (drop i bids) (drop i walks))
      ≡ cond (test (get_or bids i bid)) (cond (is_some (get_or walks i walk)) 1 0) 0 + count_by is_some (beside test (drop (i + 1) bids) (drop (i + 1) walks))
  count_at [] walks i bid walk h k = absurd (omega arith)
  count_at (b ∷ bids) [] i bid walk h k = absurd (omega arith)
  count_at (b ∷ bids) (w ∷ walks) zero bid walk h k = count-cons b bids w walks
  count_at (b ∷ bids) (w ∷ walks) (suc i) bid walk h k = rw (count_at bids walks i bid walk (omega arith) (omega arith), add-one i, add-one (suc i)) refl

  pub count_past : (bids : List Bid) (walks : List (Option (List Leg))) (i : ℕ) → length bids ≤ i → count_by is_some (beside test (drop i bids) (drop i walks)) ≡ 0
  count_past bids walks i h = ap (λ (l : List Bid). count_by is_some (beside test l (drop i walks))) (drop_all i bids h)

-- the bases of few bids
base_within : (bids : List Bid) (before : ℤ) → fold (λ sum bid. sum +ℤ bid.money.base) before bids ≤ℤ (before +ℤ pos (1000000000 * length bids))
base_within [] before = omega (arith, ints)
base_within (b ∷ bids) before = let here = b.bounds.amounts.base.1 in let rest = base_within bids (before +ℤ b.money.base) in omega (arith, ints)

pub bases_few : (bids : List Bid) → length bids ≤ 1000 → base_sum bids ≤ℤ pos 1000000000000
bases_few bids few = let all = base_within bids (pos 0) in omega (arith, ints)
