-- Ranks in order give the order in which the bids are taken.
use Rattle.std.proofs.Common.{◌≡◌, ◌≢◌, ℕ, ◌+◌, ◌≤◌, ◌<◌, true, false, List, [], ◌∷◌, ◌++◌, length, get_or, refl, sym, ap, ◌∙◌, subst, arith, inl, inr}
use Rattle.std.specs.Prelude.{◌⊎◌, All, Contains, ℤ, pos, ◌<ℤ◌, nat_eq}
use Rattle.std.specs.List.{AllPairs}
use Rattle.std.specs.List.Sorted.{IsPermutation, IsSorted}
use Rattle.std.specs.declared.cmp.Ordering.{Ordering}
use Rattle.std.specs.declared.cmp.Ordering.TheVariants.{Less, Equal, Greater}
use Rattle.std.specs.Ordering.{ordering_then, int_cmp, nat_cmp, is_lt, MatchOrdering}
use Rattle.std.specs.Cmp.{IsTotalOrder, nat_eq_equiv}
use Rattle.std.proofs.lemmas.Cmp.{then_total, on_total, back_total, int_cmp_total, nat_cmp_total, ranked, int_ranked}
use Rattle.std.proofs.lemmas.List.{get_or-map, length-append, length-map}
use Rattle.std.proofs.lemmas.List.Elements.{All-push, All-map, All-get_or}
use Rattle.std.proofs.lemmas.List.Sorted.{All-permutation, Contains-permutation, IsPermutation-map, sorted_far, ranks_by}
use Rattle.std.proofs.lemmas.Map.Keys.{IsDistinct-IsPermutation}
use Rattle.std.proofs.lemmas.Map.Made.{AllPairs-from_IsDistinct, IsDistinct-from_AllPairs}
use Rattle.std.proofs.lemmas.Bool.Decides.{Decides-eqb}
use Rattle.std.proofs.Math.ListN.{get_or-append}
use Rattle.std.proofs.Math.Seq.{get_or-append_seam}
use Rattle.std.proofs.lemmas.Bool.{cases_lt}
use Rattle.optra_prices.specs.Replies.{Valuation}
use Rattle.optra_prices.specs.Repairs.{contribution_of, IsTakenBefore, IsTakingOrder}
use Rattle.optra_prices.proofs.RepairLemmas.{taken_apart}
use Rattle.optra_repair.specs.Takings.{Rank, positions_of, AreRanks}

-- the order of ranks: the greater contribution first, then the lower position
abbrev pub rank_cmp : Rank → Rank → Ordering
rank_cmp x y = ordering_then (int_cmp y.0.0 x.0.0) (nat_cmp x.1 y.1)

rank_total : IsTotalOrder rank_cmp
rank_total = then_total (on_total (λ (r : Rank). r.0.0) (back_total int_cmp_total)) (on_total (λ (r : Rank). r.1) nat_cmp_total)

no_rank : Rank
no_rank = (record { 0 = pos 0 }, 0)

-- one more rank
pub one_rank : (v : Valuation) (n : ℕ) (ranks : List Rank) (c : ℤ) → AreRanks v n ranks → c ≡ contribution_of v n → AreRanks v (n + 1) (ranks ++ (record { 0 = c }, n) ∷ [])
one_rank v n ranks c are is = record {
  count = let l = length-append ranks ((record { 0 = c }, n) ∷ []) in let k = are.count in omega arith;
  positions = λ k d l. by k d (cases_lt k n) l;
  contribute = All-push (λ (rank : Rank). rank.0.0 ≡ contribution_of v rank.1) ranks (record { 0 = c }, n) are.contribute is;
}
  where
    by : (k : ℕ) (d : Rank) → (k < n) ⊎ (n ≤ k) → k < n + 1 → (get_or (ranks ++ (record { 0 = c }, n) ∷ []) k d).1 ≡ k
    by k d (inl b) l =
        let c' = are.count in
        ap (λ (r : Rank). r.1) (get_or-append ranks ((record { 0 = c }, n) ∷ []) d k (omega arith)) ∙ are.positions k d b
    by k d (inr ge) l =
        let c' = are.count in
        let at : k ≡ length ranks = omega arith in
        let last = ap (λ (j : ℕ). get_or (ranks ++ (record { 0 = c }, n) ∷ []) j d) at ∙ get_or-append_seam ranks (record { 0 = c }, n) [] d in
        let same : n ≡ k = omega arith in
        ap (λ (r : Rank). r.1) last ∙ same

-- of two ranks in order, the bid of the first is taken before that of the second
taken : (v : Valuation) (a b : Rank) → a.0.0 ≡ contribution_of v a.1 → b.0.0 ≡ contribution_of v b.1 → is_lt (rank_cmp b a) ≡ false → a.1 ≢ b.1 → IsTakenBefore v a.1 b.1
taken v a b ca cb up apart = by (int_cmp a.0.0 b.0.0) (int_ranked a.0.0 b.0.0 (int_cmp a.0.0 b.0.0) refl) up
  where
    clash : true ≡ false → ⊥
    clash e = cc

    tied : a.0.0 ≡ b.0.0 → (o : Ordering) → MatchOrdering o (b.1 < a.1) (b.1 ≡ a.1) (a.1 < b.1) → is_lt o ≡ false → IsTakenBefore v a.1 b.1
    tied e Less m up = absurd (clash up)
    tied e Equal m up = absurd (apart (sym m))
    tied e Greater m up = inr (sym ca ∙ e ∙ cb, m)

    by : (o : Ordering) → MatchOrdering o (a.0.0 <ℤ b.0.0) (a.0.0 ≡ b.0.0) (b.0.0 <ℤ a.0.0) → is_lt (ordering_then o (nat_cmp b.1 a.1)) ≡ false → IsTakenBefore v a.1 b.1
    by Less m up = absurd (clash up)
    by Equal m up = tied m (nat_cmp b.1 a.1) (ranked b.1 a.1 (nat_cmp b.1 a.1) refl) up
    by Greater m up = inl (subst (λ z. z <ℤ contribution_of v a.1) cb (subst (λ z. b.0.0 <ℤ z) ca m))

-- the ranks in order have the positions in the order in which the bids are taken
pub taken_in_order : (v : Valuation) (n : ℕ) (ranks sorted : List Rank) → AreRanks v n ranks → IsPermutation ranks sorted → IsSorted rank_cmp sorted → IsTakingOrder v n (positions_of sorted)
taken_in_order v n ranks sorted are moved up = record {
  within = All-map (λ (k : ℕ). k < n) (λ (r : Rank). r.1) sorted (All-permutation (λ (r : Rank). r.1 < n) ranks sorted moved (λ k d l. let c = are.count in let p = are.positions k d (omega arith) in omega arith));
  whole = λ number l. Contains-permutation (positions_of ranks) (positions_of sorted) number (IsPermutation-map (λ (r : Rank). r.1) ranks sorted moved) (there number l);
  ordered = ordered;
}
  where
    place : (k d : ℕ) → k < n → get_or (positions_of ranks) k d ≡ k
    place k d l = let c = are.count in let w : k < length ranks = omega arith in get_or-map (λ (r : Rank). r.1) ranks k no_rank d w ∙ are.positions k no_rank l

    there : (number : ℕ) → number < n → Contains (positions_of ranks) number
    there number l = (number, let c = are.count in let m = length-map ranks (λ (r : Rank). r.1) in omega arith, place number number l)

    pairs : AllPairs (λ (x y : ℕ). x ≢ y) (positions_of ranks)
    pairs i j d l m e =
        let c = are.count in
        let q = length-map ranks (λ (r : Rank). r.1) in
        let a = place i d (omega arith) in
        let b = place j d (omega arith) in
        absurd (omega (arith, e))

    apart : AllPairs (λ (x y : ℕ). x ≢ y) (positions_of sorted)
    apart =
        AllPairs-from_IsDistinct Decides-eqb (positions_of sorted)
        (IsDistinct-IsPermutation nat_eq flips (positions_of ranks) (positions_of sorted) (IsPermutation-map (λ (r : Rank). r.1) ranks sorted moved) (IsDistinct-from_AllPairs Decides-eqb (positions_of ranks) pairs))
      where
        flips : (x y : ℕ) → nat_eq x y ≡ nat_eq y x
        flips x y = nat_eq_equiv.symm x y

    contribute : All (λ (rank : Rank). rank.0.0 ≡ contribution_of v rank.1) sorted
    contribute = All-permutation (λ (rank : Rank). rank.0.0 ≡ contribution_of v rank.1) ranks sorted moved are.contribute

    ordered : AllPairs (IsTakenBefore v) (positions_of sorted)
    ordered i j d l m =
        let q = length-map sorted (λ (r : Rank). r.1) in
        let li : i < length sorted = omega arith in
        let lj : j < length sorted = omega arith in
        let a = get_or sorted i no_rank in
        let b = get_or sorted j no_rank in
        let ia = get_or-map (λ (r : Rank). r.1) sorted i no_rank d li in
        let ib = get_or-map (λ (r : Rank). r.1) sorted j no_rank d lj in
        let far = sorted_far (λ (x y : Rank). is_lt (rank_cmp x y)) (ranks_by rank_total (λ (r : Rank). r)) sorted up i j no_rank (omega arith) lj in
        let differ : a.1 ≢ b.1 = λ e. apart i j d l m (ia ∙ e ∙ sym ib) in
        let is = taken v a b (All-get_or (λ (rank : Rank). rank.0.0 ≡ contribution_of v rank.1) sorted i no_rank li contribute) (All-get_or (λ (rank : Rank). rank.0.0 ≡ contribution_of v rank.1) sorted j no_rank lj contribute) far differ in
        subst (λ (x : ℕ). IsTakenBefore v x (get_or (positions_of sorted) j d)) (sym ia) (subst (λ (y : ℕ). IsTakenBefore v a.1 y) (sym ib) is)

-- no bid is taken twice
pub taken_once : (v : Valuation) (n : ℕ) (order : List ℕ) → IsTakingOrder v n order → AllPairs (λ (a b : ℕ). a ≢ b) order
taken_once v n order is i j d l m e =
    let before = is.ordered i j d l m in
    let itself : IsTakenBefore v (get_or order i d) (get_or order i d) = subst (λ (x : ℕ). IsTakenBefore v (get_or order i d) x) (sym e) before in
    taken_apart v (get_or order i d) (get_or order i d) itself itself
