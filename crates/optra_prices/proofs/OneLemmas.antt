-- A node has one valuation at prices, and a price path has one result.
use Rattle.std.proofs.Common.{◌≡◌, ℕ, zero, suc, ◌+◌, ◌<◌, true, false, List, length, Option, Some, None, slice_get, refl, sym, ap, ◌∙◌, subst, arith, inl, inr}
use Rattle.std.specs.Prelude.{◌⊎◌, ℤ}
use Rattle.std.specs.declared.cmp.Ordering.{Ordering}
use Rattle.std.specs.declared.cmp.Ordering.TheVariants.{Less, Equal, Greater}
use Rattle.std.specs.Ordering.{is_gt, ordering_reverse, eq_by_cmp}
use Rattle.std.specs.Cmp.{IsTotalOrder}
use Rattle.std.proofs.lemmas.Int.{ints}
use Rattle.std.proofs.lemmas.Bool.{cases_order}
use Rattle.std.proofs.lemmas.Option.{slice_get_within, MatchOption-at_some, same_Some}
use Rattle.optra_network.specs.Net.{Net}
use Rattle.optra_bid.specs.declared.bids.Bid.{Bid}
use Rattle.optra_walk.specs.declared.Leg.{Leg}
use Rattle.optra_walk.specs.Families.{Rows, TellsApart}
use Rattle.optra_walk.proofs.OrderLemmas.{walk_cmp_total, tied_walks}
use Rattle.optra_node.specs.declared.Decision.{Decision}
use Rattle.optra_node.specs.Duals.{PriceList, reduced_value, price_of}
use Rattle.optra_node.proofs.UniqueLemmas.{dual_unique, terms_unique}
use Rattle.optra_prices.specs.Replies.{IsReply, AreReplies, Valuation, IsValuation}
use Rattle.optra_prices.specs.Steps.{IsStep, next_price, step_length, reply_load}
use Rattle.optra_prices.specs.Paths.{IsLow, IsPricePath, IsFirstLeast, IsPathResult}
use Rattle.optra_prices.specs.declared.Priced.{Priced}
use Rattle.optra_prices.proofs.ListLemmas.{same_list, some_at, all_at}
use Rattle.optra_prices.proofs.PriceListLemmas.{one_price_list}

-- where neither of two comes after the other, they are tied
tied_both : {K : Type 0} {C : K → K → Ordering} → IsTotalOrder C → (a b : K) → is_gt (C a b) ≡ false → is_gt (C b a) ≡ false → C a b ≡ Equal
tied_both {K} {C} total a b h k = by (C b a) refl (total.antisymm a b)
  where
    by : (o : Ordering) → C b a ≡ o → C a b ≡ ordering_reverse (C b a) → C a b ≡ Equal
    by Less e r =
        let g = r ∙ ap ordering_reverse e in
        absurd (clash (sym (ap is_gt g) ∙ h))
      where
        clash : true ≡ false → ⊥
        clash e = cc
    by Equal e r = r ∙ ap ordering_reverse e
    by Greater e r = absurd (clash (sym (ap is_gt e) ∙ k))
      where
        clash : true ≡ false → ⊥
        clash e = cc

module _ {R : Type 0} (net : Net) (rows : Rows R) (bids : List Bid) (node : List Decision) (prices : PriceList R) where
  not_none : (number : ℕ) (bid : Bid) (legs : List Leg) → IsReply net rows bids node prices number bid None → IsReply net rows bids node prices number bid (Some legs) → ⊥
  not_none number bid legs (inl none) some = none legs some.0.allowed
  not_none number bid legs (inr gains) (best, inl forced) = clash (sym forced ∙ gains.free)
    where
      clash : true ≡ false → ⊥
      clash e = cc
  not_none number bid legs (inr gains) (best, inr above) =
      let most = gains.most legs best.allowed in
      omega (arith, ints)

  pub reply_unique : (number : ℕ) (bid : Bid) (a b : Option (List Leg)) → IsReply net rows bids node prices number bid a → IsReply net rows bids node prices number bid b → a ≡ b
  reply_unique number bid None None h k = refl
  reply_unique number bid None (Some legs) h k = absurd (not_none number bid legs h k)
  reply_unique number bid (Some legs) None h k = absurd (not_none number bid legs k h)
  reply_unique number bid (Some legs) (Some others) h k =
      let a = h.0 in
      let b = k.0 in
      let up = b.greatest legs a.allowed in
      let down = a.greatest others b.allowed in
      let same : reduced_value net rows prices bid others ≡ reduced_value net rows prices bid legs = omega (arith, ints) in
      let tied = tied_both walk_cmp_total legs others (a.first others b.allowed same) (b.first legs a.allowed (sym same)) in
      ap Some (tied_walks net bid.path legs others a.allowed.walk b.allowed.walk tied)

  pub replies_unique : (a b : List (Option (List Leg))) → AreReplies net rows bids node prices a → AreReplies net rows bids node prices b → a ≡ b
  replies_unique a b h k =
      same_list a b (h.count ∙ sym k.count) (λ n x y at_x at_y.
      let l = slice_get_within a n x at_x in
      let m = h.count in
      let bid = some_at bids n (omega arith) in
      reply_unique n bid.0 x y (h.each n bid.0 x bid.1 at_x) (k.each n bid.0 y bid.1 at_y))

  pub valuation_unique : (a b : Valuation) → IsValuation net rows bids node prices a → IsValuation net rows bids node prices b → a ≡ b
  valuation_unique a b h k =
      let v : a.value ≡ b.value = dual_unique net rows bids node prices a.terms b.terms a.value b.value h.dual k.dual in
      let t : a.terms ≡ b.terms = terms_unique net rows bids node prices a.terms b.terms a.value b.value h.dual k.dual in
      let r : a.replies ≡ b.replies = replies_unique a.replies b.replies h.replies k.replies in
      λ i. record { value = v i; replies = r i; terms = t i }

module _ {R : Type 0} (cmp : R → R → Ordering) (total : IsTotalOrder cmp) (apart : TellsApart cmp) (net : Net) (rows : Rows R) (bids : List Bid) (node : List Decision) (start : PriceList R) (steps : ℕ) (incumbent : ℤ) where
  -- two candidates at the same prices are one
  same_candidate : (x y : Priced R) → IsValuation net rows bids node x.prices x.dual → IsValuation net rows bids node y.prices y.dual → x.prices ≡ y.prices → x ≡ y
  same_candidate x y h k e =
      let d : x.dual ≡ y.dual = valuation_unique net rows bids node y.prices x.dual y.dual (subst (λ p. IsValuation net rows bids node p x.dual) e h) k in
      λ i. record { prices = e i; dual = d i }

  -- one step from the same prices by the same replies
  same_step : (k : ℕ) (x y x' y' : Priced R) → x ≡ y → IsStep cmp rows bids x.dual.replies k x.prices x'.prices → IsStep cmp rows bids y.dual.replies k y.prices y'.prices → x'.prices ≡ y'.prices
  same_step k x y x' y' e a b =
      let next = λ (c : Priced R) (row : R). next_price (step_length bids k) (price_of (eq_by_cmp cmp) c.prices row) (reply_load rows bids c.dual.replies row) (rows.capacity row) in
      one_price_list cmp total apart rows x'.prices y'.prices a.proper.ascending a.proper.each b.proper.ascending b.proper.each
      (λ row is. a.each row is ∙ ap (λ c. next c row) e ∙ sym (b.each row is))

  module _ (p q : List (Priced R)) (h : IsPricePath cmp net rows bids node start steps incumbent p) (k : IsPricePath cmp net rows bids node start steps incumbent q) where
    valued : (i : ℕ) (x y : Priced R) → slice_get p i ≡ Some x → slice_get q i ≡ Some y → x.prices ≡ y.prices → x ≡ y
    valued i x y at at' =
        same_candidate x y (all_at (λ c. IsValuation net rows bids node c.prices c.dual) p i x h.so_far.each at) (all_at (λ c. IsValuation net rows bids node c.prices c.dual) q i y k.so_far.each at')

    agree : (i : ℕ) (x y : Priced R) → slice_get p i ≡ Some x → slice_get q i ≡ Some y → x ≡ y
    agree zero x y at at' =
        valued zero x y at at' (MatchOption-at_some _ (λ (c : Priced R). c.prices ≡ _) x at h.so_far.zero_prices ∙ sym (MatchOption-at_some _ (λ (c : Priced R). c.prices ≡ _) y at' k.so_far.zero_prices))
    agree (suc zero) x y at at' =
        valued (suc zero) x y at at' (MatchOption-at_some _ (λ (c : Priced R). c.prices ≡ _) x at h.so_far.start_prices ∙ sym (MatchOption-at_some _ (λ (c : Priced R). c.prices ≡ _) y at' k.so_far.start_prices))
    agree (suc (suc n)) x y at at' =
        let l = slice_get_within p (suc (suc n)) x at in
        let m = slice_get_within q (suc (suc n)) y at' in
        let b = some_at p (suc n) (omega arith) in
        let b' = some_at q (suc n) (omega arith) in
        let one : suc n ≡ n + 1 = omega arith in
        let two : suc (suc n) ≡ n + 2 = omega arith in
        let here = λ (path : List (Priced R)) (c : Priced R) (e : slice_get path (suc n) ≡ Some c). subst (λ j. slice_get path j ≡ Some c) one e in
        let there = λ (path : List (Priced R)) (c : Priced R) (e : slice_get path (suc (suc n)) ≡ Some c). subst (λ j. slice_get path j ≡ Some c) two e in
        valued (suc (suc n)) x y at at'
        (same_step n b.0 b'.0 x y (agree (suc n) b.0 b'.0 b.1 b'.1)
        (h.so_far.next_prices n b.0 x (here p b.0 b.1) (there p x at))
        (k.so_far.next_prices n b'.0 y (here q b'.0 b'.1) (there q y at')))

  -- a path is no shorter than another
  no_shorter : (p q : List (Priced R)) → IsPricePath cmp net rows bids node start steps incumbent p → IsPricePath cmp net rows bids node start steps incumbent q → length p < length q → ⊥
  no_shorter p q h k l = by h.ends
    where
      by : ((length p ≡ steps + 2) ⊎ ((last : ℕ) × (candidate : Priced R) × (last + 1 ≡ length p) × (slice_get p last ≡ Some candidate) × IsLow incumbent candidate)) → ⊥
      by (inl e) = let f = k.so_far.few in omega arith
      by (inr (last, c, e, at, low)) =
          let y = some_at q last (omega arith) in
          let same = agree p q h k last c y.0 at y.1 in
          k.so_far.goes_on last y.0 (omega arith) y.1 (subst (IsLow incumbent) same low)

  path_unique : (p q : List (Priced R)) → IsPricePath cmp net rows bids node start steps incumbent p → IsPricePath cmp net rows bids node start steps incumbent q → p ≡ q
  path_unique p q h k = same_list p q (by (cases_order (length p) (length q))) (agree p q h k)
    where
      by : ((length p ≡ length q) ⊎ ((length p < length q) ⊎ (length q < length p))) → length p ≡ length q
      by (inl e) = e
      by (inr (inl l)) = absurd (no_shorter p q h k l)
      by (inr (inr l)) = absurd (no_shorter q p k h l)

  least_unique : (path : List (Priced R)) (a b : Priced R) → IsFirstLeast path a → IsFirstLeast path b → a ≡ b
  least_unique path a b h k = by (cases_order h.place k.place)
    where
      by : ((h.place ≡ k.place) ⊎ ((h.place < k.place) ⊎ (k.place < h.place))) → a ≡ b
      by (inl e) = same_Some a b (sym h.is ∙ ap (slice_get path) e ∙ k.is)
      by (inr (inl l)) =
          let x = k.first h.place a l h.is in
          let y = h.least k.place b k.is in
          absurd (omega (arith, ints))
      by (inr (inr l)) =
          let x = h.first k.place b l k.is in
          let y = k.least h.place a h.is in
          absurd (omega (arith, ints))

  pub one_result : (a b : Priced R) → IsPathResult cmp net rows bids node start steps incumbent a → IsPathResult cmp net rows bids node start steps incumbent b → a ≡ b
  one_result a b h k =
      least_unique k.path a b (subst (λ path. IsFirstLeast path a) (path_unique h.path k.path h.is_path k.is_path) h.is_result) k.is_result
