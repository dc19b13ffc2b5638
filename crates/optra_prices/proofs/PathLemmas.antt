-- A price path from its first candidate, by one more candidate at a time, to its end.
use Rattle.std.proofs.Common.{◌≡◌, ℕ, zero, suc, ◌+◌, ◌-◌, ◌≤◌, ◌<◌, List, [], ◌∷◌, ◌++◌, length, replicate, Option, None, Some, slice_get, length-append, refl, sym, ap, ◌∙◌, subst, arith, inl, inr}
use Rattle.std.specs.Prelude.{◌⊎◌, All, IfSome, IfOk, OnOk, Result, Ok, Err, ℤ, pos, ◌≤ℤ◌, ◌<ℤ◌}
use Rattle.std.specs.declared.cmp.Ordering.{Ordering}
use Rattle.std.proofs.lemmas.Int.{ints}
use Rattle.std.proofs.lemmas.Bool.{cases_order}
use Rattle.std.proofs.lemmas.List.Elements.{All-append}
use Rattle.std.proofs.lemmas.Option.{slice_get_within, MatchOption-at_some, same_Some}
use Rattle.optra_network.specs.Net.{Net}
use Rattle.optra_bid.specs.declared.bids.Bid.{Bid}
use Rattle.optra_walk.specs.Families.{Rows}
use Rattle.optra_node.specs.declared.Decision.{Decision}
use Rattle.optra_node.specs.Duals.{PriceList, whole_cents}
use Rattle.optra_prices.specs.Replies.{IsValuation}
use Rattle.optra_prices.specs.Steps.{IsStep}
use Rattle.optra_prices.specs.Levels.{IsMove, HoldsPrices}
use Rattle.optra_prices.specs.Standings.{valuation_of}
use Rattle.optra_prices.specs.Terms.{Setting}
use Rattle.optra_prices.specs.Paths.{IsLow, IsPathSoFar, IsFirstLeast, IsPathResult, IsNextPrices}
use Rattle.optra_prices.specs.Courses.{listed, prices_by, listed_by, prices_at, valuation_at, zero_valuation, candidate_at, zero_candidate, AreSetUp, IsCourse, IsPriced, KeepsRows}
use Rattle.optra_prices.specs.Following.{KeepsLess, IsKept, IsFollowing, IsFollowed}
use Rattle.optra_prices.specs.declared.Priced.{Priced}
use Rattle.optra_prices.specs.declared.arc_tables.ArcTables.{ArcTables}
use Rattle.optra_prices.specs.declared.following.Best.{Best}
use Rattle.optra_prices.proofs.LevelLemmas.{copied}
use Rattle.optra_prices.proofs.ListingLemmas.{listed_none}
use Rattle.optra_prices.proofs.ValueOfLemmas.{zeros_at}
use Rattle.optra_prices.proofs.ListLemmas.{all_at}
use Rattle.optra_prices.proofs.NumberLemmas.{push_at, push_kept, push_cases}
use Rattle.optra_prices.proofs.OneLemmas.{valuation_unique}

-- what is true of a value that is there
if_some : {X : Type 0} (P : X → Type 0) (o : Option X) → ((x : X) → o ≡ Some x → P x) → IfSome o P
if_some P None h = tt
if_some P (Some x) h = h x refl

-- a list of one element
one_at : {X : Type 0} (x y : X) (n : ℕ) → slice_get (x ∷ []) n ≡ Some y → (n ≡ 0) × (x ≡ y)
one_at x y zero at = (refl, same_Some x y at)
one_at x y (suc n) at = cc

-- what follows from two facts of a result that is there
pub ok_by : {X E : Type 0} (P Q S : X → Type 0) (r : Result X E) → ((x : X) → P x → Q x → S x) → IfOk r P → IfOk r Q → IfOk r S
ok_by P Q S (Ok x) f p q = f x p q
ok_by P Q S (Err e) f p q = tt

-- what holds anyway holds where there is a result
pub ok_anyway : {X E P : Type 0} (r : Result X E) → P → OnOk r P
ok_anyway (Ok x) p = p
ok_anyway (Err e) p = tt

-- the prices after a place above zero
pub next_by_step : {R : Type 0} (cmp : R → R → Ordering) (rows : Rows R) (bids : List Bid) (start : PriceList R) (last : Priced R) (place : ℕ) (prices : PriceList R) → 0 < place
    → IsStep cmp rows bids last.dual.replies (place - 1) last.prices prices → IsNextPrices cmp rows bids start last place prices
next_by_step cmp rows bids start last zero prices l h = absurd (omega arith)
next_by_step cmp rows bids start last (suc k) prices l h =
    let e : suc k - 1 ≡ k = omega arith in
    subst (λ j. IsStep cmp rows bids last.dual.replies j last.prices prices) e h

module _ {R : Type 0} (path : List (Priced R)) (best next : Priced R) (h : IsFirstLeast path best) where
  -- the best candidate so far is no worse than the next one
  pub least_stays : best.dual.value ≤ℤ next.dual.value → IsFirstLeast (path ++ next ∷ []) best
  least_stays l = record {
    place = h.place;
    is = push_kept path next h.place best h.is;
    least = λ i c at. least i c (push_cases path next i c at);
    first = λ i c b at. first i c b (push_cases path next i c at);
  }
    where
      least : (i : ℕ) (c : Priced R) → ((slice_get path i ≡ Some c) ⊎ ((i ≡ length path) × (next ≡ c))) → best.dual.value ≤ℤ c.dual.value
      least i c (inl at) = h.least i c at
      least i c (inr (e, is)) = subst (λ (x : Priced R). best.dual.value ≤ℤ x.dual.value) is l

      first : (i : ℕ) (c : Priced R) → i < h.place → ((slice_get path i ≡ Some c) ⊎ ((i ≡ length path) × (next ≡ c))) → best.dual.value <ℤ c.dual.value
      first i c b (inl at) = h.first i c b at
      first i c b (inr (e, is)) = let w = slice_get_within path h.place best h.is in absurd (omega arith)

  -- the next candidate is better than those before it
  pub least_moves : next.dual.value <ℤ best.dual.value → IsFirstLeast (path ++ next ∷ []) next
  least_moves l = record {
    place = length path;
    is = push_at path next;
    least = λ i c at. least i c (push_cases path next i c at);
    first = λ i c b at. first i c b (push_cases path next i c at);
  }
    where
      least : (i : ℕ) (c : Priced R) → ((slice_get path i ≡ Some c) ⊎ ((i ≡ length path) × (next ≡ c))) → next.dual.value ≤ℤ c.dual.value
      least i c (inl at) = let a = h.least i c at in omega (arith, ints)
      least i c (inr (e, is)) = let same : next.dual.value ≡ c.dual.value = ap (λ (x : Priced R). x.dual.value) is in omega (arith, ints)

      first : (i : ℕ) (c : Priced R) → i < length path → ((slice_get path i ≡ Some c) ⊎ ((i ≡ length path) × (next ≡ c))) → next.dual.value <ℤ c.dual.value
      first i c b (inl at) = let a = h.least i c at in omega (arith, ints)
      first i c b (inr (e, is)) = absurd (omega arith)

module _ {R : Type 0} (cmp : R → R → Ordering) (net : Net) (rows : Rows R) (bids : List Bid) (node : List Decision) (start : PriceList R) (steps : ℕ) (incumbent : ℤ) where
  -- the path of the zero prices alone
  pub path_first : (first : Priced R) → IsValuation net rows bids node first.prices first.dual → first.prices ≡ [] → IsPathSoFar cmp net rows bids node start steps incumbent (first ∷ [])
  path_first first valued zero_prices = record {
    some = omega arith;
    few = omega arith;
    each = each;
    zero_prices = zero_prices;
    start_prices = tt;
    next_prices = λ k before after at at'. absurd (past k after (one_at first after (k + 2) at'));
    goes_on = λ i c l at low. omega arith;
  }
    where
      past : (k : ℕ) (after : Priced R) → ((k + 2 ≡ 0) × (first ≡ after)) → ⊥
      past k after (e, is) = omega arith

      each : All (λ (c : Priced R). IsValuation net rows bids node c.prices c.dual) (first ∷ [])
      each zero d l = valued
      each (suc k) d l = absurd (omega arith)

  module _ (path : List (Priced R)) (last next : Priced R) (place : ℕ) (h : IsPathSoFar cmp net rows bids node start steps incumbent path) (count : place + 1 ≡ length path) (at_last : slice_get path place ≡ Some last) (is_next : IsNextPrices cmp rows bids start last place next.prices) where
    next_at : (j : ℕ) → place ≡ j → IsNextPrices cmp rows bids start last j next.prices
    next_at j e = subst (λ n. IsNextPrices cmp rows bids start last n next.prices) e is_next

    -- the candidate at the last place is the last one
    last_is : (n : ℕ) (c : Priced R) → n + 1 ≡ length path → slice_get path n ≡ Some c → last ≡ c
    last_is n c e at =
        let same : place ≡ n = omega arith in
        same_Some last c (sym at_last ∙ ap (slice_get path) same ∙ at)

    started : (y : Priced R) → ((slice_get path 1 ≡ Some y) ⊎ ((1 ≡ length path) × (next ≡ y))) → y.prices ≡ start
    started y (inl at) = MatchOption-at_some _ (λ (c : Priced R). c.prices ≡ start) y at h.start_prices
    started y (inr (e, is)) =
        let same : place ≡ zero = omega arith in
        subst (λ (c : Priced R). c.prices ≡ start) is (next_at zero same)

    zeroed : (y : Priced R) → ((slice_get path 0 ≡ Some y) ⊎ ((0 ≡ length path) × (next ≡ y))) → y.prices ≡ []
    zeroed y (inl at) = MatchOption-at_some _ (λ (c : Priced R). c.prices ≡ []) y at h.zero_prices
    zeroed y (inr (e, is)) = absurd (omega arith)

    stepped : (k : ℕ) (before after : Priced R) → ((slice_get path (k + 1) ≡ Some before) ⊎ ((k + 1 ≡ length path) × (next ≡ before))) → ((slice_get path (k + 2) ≡ Some after) ⊎ ((k + 2 ≡ length path) × (next ≡ after)))
        → IsStep cmp rows bids before.dual.replies k before.prices after.prices
    stepped k before after (inl at) (inl at') = h.next_prices k before after at at'
    stepped k before after (inr (e, is)) (inl at') = let w = slice_get_within path (k + 2) after at' in absurd (omega arith)
    stepped k before after (inr (e, is)) (inr (e', is')) = absurd (omega arith)
    stepped k before after (inl at) (inr (e, is)) =
        let same : place ≡ suc k = omega arith in
        let from = last_is (k + 1) before (omega arith) at in
        let step : IsStep cmp rows bids last.dual.replies k last.prices next.prices = next_at (suc k) same in
        subst (λ (c : Priced R). IsStep cmp rows bids before.dual.replies k before.prices c.prices) is (subst (λ (c : Priced R). IsStep cmp rows bids c.dual.replies k c.prices next.prices) from step)

    -- the path with one more candidate
    pub path_more : place ≤ steps → (IsLow incumbent last → ⊥) → IsValuation net rows bids node next.prices next.dual → IsPathSoFar cmp net rows bids node start steps incumbent (path ++ next ∷ [])
    path_more few high valued =
        let more : length (path ++ next ∷ []) ≡ length path + 1 = length-append path (next ∷ []) in
        record {
          some = omega arith;
          few = omega arith;
          each = All-append (λ (c : Priced R). IsValuation net rows bids node c.prices c.dual) path (next ∷ []) h.each each;
          zero_prices = if_some (λ (c : Priced R). c.prices ≡ []) (slice_get (path ++ next ∷ []) 0) (λ y at. zeroed y (push_cases path next 0 y at));
          start_prices = if_some (λ (c : Priced R). c.prices ≡ start) (slice_get (path ++ next ∷ []) 1) (λ y at. started y (push_cases path next 1 y at));
          next_prices = λ k before after at at'. stepped k before after (push_cases path next (k + 1) before at) (push_cases path next (k + 2) after at');
          goes_on = λ i c l at low. goes i c (omega arith) low (push_cases path next i c at);
        }
      where
        each : All (λ (c : Priced R). IsValuation net rows bids node c.prices c.dual) (next ∷ [])
        each zero d l = valued
        each (suc k) d l = absurd (omega arith)

        within : (i : ℕ) (c : Priced R) → i < length path → IsLow incumbent c → slice_get path i ≡ Some c → ((i + 1 ≡ length path) ⊎ ((i + 1 < length path) ⊎ (length path < i + 1))) → ⊥
        within i c l low at (inl e) = high (subst (IsLow incumbent) (sym (last_is i c e at)) low)
        within i c l low at (inr (inl b)) = h.goes_on i c b at low
        within i c l low at (inr (inr b)) = omega arith

        goes : (i : ℕ) (c : Priced R) → i < length path → IsLow incumbent c → ((slice_get path i ≡ Some c) ⊎ ((i ≡ length path) × (next ≡ c))) → ⊥
        goes i c l low (inl at) = within i c l low at (cases_order (i + 1) (length path))
        goes i c l low (inr (e, is)) = omega arith

-- the prices that were copied are those of the rows
copied_prices : {R : Type 0} (cmp : R → R → Ordering) (s : Setting R) (c : ArcTables R) (moves : List (ℕ × ℤ)) → AreSetUp cmp s c → HoldsPrices c.levels moves → prices_at c ≡ listed_by c moves
copied_prices cmp s c moves is copies =
    ap (λ (n : List ℤ). listed c.numbering.order.items n) (sym (copied c.levels moves copies)) ∙ ap (λ (n : ℕ). listed c.numbering.order.items (prices_by n moves)) is.price_count

copied_moves : {R : Type 0} (cmp : R → R → Ordering) (s : Setting R) (c : ArcTables R) (moves : List (ℕ × ℤ)) → AreSetUp cmp s c → HoldsPrices c.levels moves → All (IsMove (length c.numbering.rows.items)) moves
copied_moves cmp s c moves is copies = subst (λ (n : ℕ). All (IsMove n) moves) is.price_count copies.are

-- without a price nothing is listed
listed_nothing : {R : Type 0} (c : ArcTables R) → listed_by c [] ≡ []
listed_nothing c = listed_none c.numbering.order.items (replicate (length c.numbering.rows.items) (pos 0)) (zeros_at (length c.numbering.rows.items))

module _ {R : Type 0} (cmp : R → R → Ordering) (s : Setting R) (start : PriceList R) (steps : ℕ) (incumbent : ℤ) where
  -- the zero prices alone are the path so far, and the best of it
  module _ (c : ArcTables R) (best : Best) (valued : IsValuation s.net s.rows s.bids s.node [] (zero_valuation c)) (none : best.prices.items ≡ []) (value : best.value ≡ (zero_valuation c).value) where
    pub zero_path : IsPathSoFar cmp s.net s.rows s.bids s.node start steps incumbent (zero_candidate c ∷ [])
    zero_path = path_first cmp s.net s.rows s.bids s.node start steps incumbent (zero_candidate c) valued refl

    zero_kept : IsKept c best (zero_candidate c ∷ [])
    zero_kept = record {
      moves = subst (All (IsMove (length c.numbering.rows.items))) (sym none) (λ k d l. absurd (omega arith));
      candidate = zero_candidate c;
      prices = sym (ap (listed_by c) none ∙ listed_nothing c);
      value_is = sym value;
      least = record {
        place = 0;
        is = refl;
        least = λ i d at. least d (one_at (zero_candidate c) d i at).1;
        first = λ i d l at. absurd (omega arith);
      };
    }
      where
        least : (d : Priced R) → zero_candidate c ≡ d → (zero_valuation c).value ≤ℤ d.dual.value
        least d is = let same : (zero_valuation c).value ≡ d.dual.value = ap (λ (x : Priced R). x.dual.value) is in omega (arith, ints)

    -- where they are low, the path ends there
    pub zero_followed : IsCourse cmp s c → whole_cents best.value ≤ℤ incumbent → IsFollowed cmp s start steps incumbent c best
    zero_followed course low = record {
      course = course;
      path = zero_candidate c ∷ [];
      is_path = record { so_far = zero_path; ends = inr (0, zero_candidate c, refl, refl, subst (λ v. whole_cents v ≤ℤ incumbent) value low) };
      kept = zero_kept;
    }

  -- what is kept stays where rows, tables and what is known at zero prices do
  module _ (c c' : ArcTables R) (keeps : KeepsRows c c') where
    listed_same : (moves : List (ℕ × ℤ)) → listed_by c' moves ≡ listed_by c moves
    listed_same moves =
        ap (λ numbering. listed numbering.order.items (prices_by (length numbering.rows.items) moves)) keeps.numbering

    zero_same : zero_candidate c' ≡ zero_candidate c
    zero_same = ap (λ tables. record { prices = []; dual = valuation_of (pos 0) tables.items c'.zero.items }) keeps.tables ∙ ap (λ zero. record { prices = []; dual = valuation_of (pos 0) c.tables.items zero.items }) keeps.zero

    moves_same : (moves : List (ℕ × ℤ)) → All (IsMove (length c.numbering.rows.items)) moves → All (IsMove (length c'.numbering.rows.items)) moves
    moves_same moves = subst (λ numbering. All (IsMove (length numbering.rows.items)) moves) (sym keeps.numbering)

    -- one more candidate is kept where it is less than those before it
    pub kept_more : (best best' : Best) (path : List (Priced R)) → IsKept c best path → IsPriced cmp s c' → KeepsLess c' best best' → IsKept c' best' (path ++ candidate_at s.rows c' ∷ [])
    kept_more best best' path kept priced less = by less
      where
        by : KeepsLess c' best best' → IsKept c' best' (path ++ candidate_at s.rows c' ∷ [])
        by (inl (l, copies, value)) =
            let a = kept.value_is in
            let b = priced.value_is in
            record {
              moves = copied_moves cmp s c' best'.prices.items priced.course.is copies;
              candidate = candidate_at s.rows c';
              prices = copied_prices cmp s c' best'.prices.items priced.course.is copies;
              value_is = sym (value ∙ priced.value_is);
              least = least_moves path kept.candidate (candidate_at s.rows c') kept.least (omega (arith, ints));
            }
        by (inr (l, prices, value)) =
            let a = kept.value_is in
            let b = priced.value_is in
            record {
              moves = subst (All (IsMove (length c'.numbering.rows.items))) (sym prices) (moves_same best.prices.items kept.moves);
              candidate = kept.candidate;
              prices = kept.prices ∙ sym (listed_same best.prices.items) ∙ ap (listed_by c') (sym prices);
              value_is = kept.value_is ∙ sym value;
              least = least_stays path kept.candidate (candidate_at s.rows c') kept.least (omega (arith, ints));
            }

  -- the start prices follow the zero prices
  pub following_start : (c c' : ArcTables R) (best best' : Best) → IsValuation s.net s.rows s.bids s.node [] (zero_valuation c) → best.prices.items ≡ [] → best.value ≡ (zero_valuation c).value → KeepsRows c c' → IsPriced cmp s c' → KeepsLess c' best best'
      → prices_at c' ≡ start → (whole_cents best.value ≤ℤ incumbent → ⊥) → IsFollowing cmp s start steps incumbent c' best' (zero_candidate c' ∷ candidate_at s.rows c' ∷ [])
  following_start c c' best best' valued none value keeps priced less at_start high =
      subst (λ (zero : Priced R). IsFollowing cmp s start steps incumbent c' best' (zero ∷ candidate_at s.rows c' ∷ [])) (sym (zero_same c c' keeps)) (record {
        priced = priced;
        so_far = path_more cmp s.net s.rows s.bids s.node start steps incumbent (zero_candidate c ∷ []) (zero_candidate c) (candidate_at s.rows c') 0 (zero_path c best valued none value) refl refl at_start (omega arith)
            (λ low. high (subst (λ v. whole_cents v ≤ℤ incumbent) (sym value) low)) priced.valuation;
        last = last;
        kept = kept_more c c' keeps best best' (zero_candidate c ∷ []) (zero_kept c best valued none value) priced less;
      })
    where
      last : (n : ℕ) → n + 1 ≡ 2 → slice_get (zero_candidate c ∷ candidate_at s.rows c' ∷ []) n ≡ Some (candidate_at s.rows c')
      last zero e = absurd (omega arith)
      last (suc zero) e = refl
      last (suc (suc n)) e = absurd (omega arith)

  -- one more candidate, after one that is not low
  pub following_more : (c c' : ArcTables R) (best best' : Best) (path : List (Priced R)) (k : ℕ) → IsFollowing cmp s start steps incumbent c best path → IsPriced cmp s c' → KeepsRows c c' → KeepsLess c' best best' → k + 2 ≡ length path → k < steps
      → (IsLow incumbent (candidate_at s.rows c) → ⊥) → IsStep cmp s.rows s.bids (valuation_at s.rows c).replies k (prices_at c) (prices_at c') → IsFollowing cmp s start steps incumbent c' best' (path ++ candidate_at s.rows c' ∷ [])
  following_more c c' best best' path k h priced keeps less count few high step = record {
    priced = priced;
    so_far = path_more cmp s.net s.rows s.bids s.node start steps incumbent path (candidate_at s.rows c) (candidate_at s.rows c') (suc k) h.so_far (omega arith) (h.last (suc k) (omega arith)) step (omega arith) high priced.valuation;
    last = λ n e.
        let more : length (path ++ candidate_at s.rows c' ∷ []) ≡ length path + 1 = length-append path (candidate_at s.rows c' ∷ []) in
        let same : length path ≡ n = omega arith in
        subst (λ j. slice_get (path ++ candidate_at s.rows c' ∷ []) j ≡ Some (candidate_at s.rows c')) same (push_at path (candidate_at s.rows c'));
    kept = kept_more c c' keeps best best' path h.kept priced less;
  }

  module _ (c : ArcTables R) (best : Best) (path : List (Priced R)) (h : IsFollowing cmp s start steps incumbent c best path) where
    -- the last candidate is low where the test says so
    pub low_if : whole_cents c.value ≤ℤ incumbent → IsLow incumbent (candidate_at s.rows c)
    low_if = subst (λ v. whole_cents v ≤ℤ incumbent) h.priced.value_is

    -- and not where it doesn't
    pub high_if : (whole_cents c.value ≤ℤ incumbent → ⊥) → IsLow incumbent (candidate_at s.rows c) → ⊥
    high_if high low = high (subst (λ v. whole_cents v ≤ℤ incumbent) (sym h.priced.value_is) low)

    -- the path ends at a candidate that is low
    pub followed_low : (place : ℕ) → place + 1 ≡ length path → IsLow incumbent (candidate_at s.rows c) → IsFollowed cmp s start steps incumbent c best
    followed_low place count low = record {
      course = h.priced.course;
      path = path;
      is_path = record { so_far = h.so_far; ends = inr (place, candidate_at s.rows c, count, h.last place count, low) };
      kept = h.kept;
    }

    -- the path ends after the last step
    pub followed_all : length path ≡ steps + 2 → IsFollowed cmp s start steps incumbent c best
    followed_all all = record { course = h.priced.course; path = path; is_path = record { so_far = h.so_far; ends = inl all }; kept = h.kept }

  -- back at the best prices, the prices are the result
  pub result_is : (c c' : ArcTables R) (best : Best) (result : Priced R) → IsFollowed cmp s start steps incumbent c best → IsPriced cmp s c' → prices_at c' ≡ listed_by c best.prices.items
      → result.prices ≡ prices_at c' → result.dual ≡ valuation_at s.rows c' → IsPathResult cmp s.net s.rows s.bids s.node start steps incumbent result
  result_is c c' best result h priced back prices dual =
      let kept = h.kept in
      let p : kept.candidate.prices ≡ prices_at c' = kept.prices ∙ sym back in
      let valued = all_at (λ (x : Priced R). IsValuation s.net s.rows s.bids s.node x.prices x.dual) h.path kept.least.place kept.candidate h.is_path.so_far.each kept.least.is in
      let d : kept.candidate.dual ≡ valuation_at s.rows c' = valuation_unique s.net s.rows s.bids s.node (prices_at c') kept.candidate.dual (valuation_at s.rows c')
      (subst (λ ps. IsValuation s.net s.rows s.bids s.node ps kept.candidate.dual) p valued) priced.valuation
      in
      let pe : kept.candidate.prices ≡ result.prices = p ∙ sym prices in
      let de : kept.candidate.dual ≡ result.dual = d ∙ sym dual in
      let same : kept.candidate ≡ result = λ i. record { prices = pe i; dual = de i } in
      record { path = h.path; is_path = h.is_path; is_result = subst (IsFirstLeast h.path) same kept.least }
