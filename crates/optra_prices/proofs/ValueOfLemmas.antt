-- Sums of terms, replies one after the other, and prices by number.
use Rattle.std.proofs.Common.{◌≡◌, ◌≢◌, ℕ, zero, suc, ◌+◌, ◌*◌, ◌<◌, Bool, false, cond, List, [], ◌∷◌, ◌++◌, length, take, set, get_or, replicate, Option, Some, slice_get, refl, sym, ap, ◌∙◌, subst, arith, inl, inr}
use Rattle.std.specs.Prelude.{All, ℤ, pos, neg_ℤ, ◌+ℤ◌, ◌≤ℤ◌, slice_index_or}
use Rattle.std.specs.declared.cmp.Ordering.{Ordering}
use Rattle.std.specs.declared.cmp.Ordering.TheVariants.{Less, Equal, Greater}
use Rattle.std.specs.Ordering.{is_eq, eq_by_cmp, ordering_reverse}
use Rattle.std.specs.Cmp.{IsTotalOrder}
use Rattle.std.proofs.lemmas.Int.{ints}
use Rattle.std.proofs.lemmas.Bool.{cases_eq, cases_Bool}
use Rattle.std.proofs.lemmas.Cmp.{tied_itself}
use Rattle.std.proofs.lemmas.Option.{none-some, same_Some, slice_get_within, get_or_from_slice_get}
use Rattle.std.proofs.lemmas.List.Sums.{fold_more}
use Rattle.std.proofs.lemmas.List.{length-take, get_or-take}
use Rattle.optra_walk.specs.declared.Leg.{Leg}
use Rattle.optra_graph.specs.Timed.{IsRoute}
use Rattle.optra_node.specs.Duals.{PriceList, price_of, sum_of}
use Rattle.optra_node.specs.Certificates.{AreAscending}
use Rattle.optra_node.proofs.RowLemmas.{equal_is}
use Rattle.optra_node.proofs.SumLemmas.{sum_of-cons, sum_of-append}
use Rattle.optra_prices.specs.Arcs.{IsFound, path_reply}
use Rattle.optra_prices.specs.Tables.{allows_by, weight_by}
use Rattle.optra_prices.specs.Standings.{Stands, Agrees, SetsPrice, IsTermSize, replies_of}
use Rattle.optra_prices.specs.declared.numbering.BidTable.{BidTable}
use Rattle.optra_prices.specs.declared.numbering.Standing.{Standing}
use Rattle.optra_prices.proofs.NumberLemmas.{take_push}
use Rattle.optra_prices.proofs.PriceListLemmas.{price_none}
use Rattle.optra_prices.proofs.ArcLemmas.{leads_on}

-- the sum of terms so far, and its bounds
pub record IsTermSum (capacity : ℤ) (standings : List Standing) (n : ℕ) (total : ℤ) : Type 0 where
  pub is : total ≡ capacity +ℤ sum_of (λ standing. standing.term) (take n standings)
  pub low : neg_ℤ (pos (4951760157141521099596496896 * n)) ≤ℤ total
  pub high : total ≤ℤ pos (2417851639229258349412352000000000000 + 4951760157141521099596496896 * n)

pub term_sum_more : (capacity : ℤ) (standings : List Standing) (n : ℕ) (total : ℤ) (standing : Standing) → IsTermSum capacity standings n total → n < length standings → standing ≡ get_or standings n standing → IsTermSize standing.term
    → IsTermSum capacity standings (n + 1) (total +ℤ standing.term)
term_sum_more capacity standings n total standing so_far l at small =
    let more = fold_more (λ (z : ℤ) (x : Standing). z +ℤ x.term) (pos 0) standings n standing l in
    let here = ap (λ (x : Standing). x.term) at in
    let is = so_far.is in
    let low = so_far.low in
    let high = so_far.high in
    let a = small.0 in
    let b = small.1 in
    record { is = omega (arith, ints); low = omega (arith, ints); high = omega (arith, ints) }

-- one more reply
pub replies_push : (tables : List BidTable) (standings : List Standing) (n : ℕ) (table : BidTable) (standing : Standing) → slice_get tables n ≡ Some table → slice_get standings n ≡ Some standing
    → replies_of (take (suc n) tables) (take (suc n) standings) ≡ replies_of (take n tables) (take n standings) ++ path_reply table.graph.now standing.path.items ∷ []
replies_push [] standings n table standing t s = absurd (none-some table t)
replies_push (x ∷ tables) [] n table standing t s = absurd (none-some standing s)
replies_push (x ∷ tables) (y ∷ standings) zero table standing t s =
    let same_table : x ≡ table = same_Some x table t in
    let same_standing : y ≡ standing = same_Some y standing s in
    ap (λ (z : BidTable). path_reply z.graph.now y.path.items ∷ []) same_table ∙ ap (λ (z : Standing). path_reply table.graph.now z.path.items ∷ []) same_standing
replies_push (x ∷ tables) (y ∷ standings) (suc n) table standing t s = ap (λ (zs : List (Option (List Leg))). path_reply x.graph.now y.path.items ∷ zs) (replies_push tables standings n table standing t s)

-- the path of a reply is one from the start to an end
pub path_route : (table : BidTable) (prices : List ℤ) (standing : Standing) → Stands table prices standing → (standing.path.items ≡ [] → ⊥) → IsRoute table.graph.now standing.path.items
path_route table prices standing stands some = by stands.found
  where
    by : IsFound table.graph.now.dag (allows_by table.arcs) (weight_by table.arcs prices) table.forced standing.path.items standing.term standing.stuck → IsRoute table.graph.now standing.path.items
    by (inl none) = absurd (some none.path_is)
    by (inr (inl nothing)) = absurd (some nothing.path_is)
    by (inr (inr found)) = record { some = found.best.path.some; leads = (leads_on table.graph.now.dag (allows_by table.arcs) 0 standing.path.items found.best.path.leads).0 }

-- a place of a list after one was set
pub set_at : (xs : List ℤ) (k j : ℕ) (x : ℤ) → k < length xs → j ≡ k → slice_index_or (set xs k x) j (pos 0) ≡ x
set_at [] k j x l e = absurd (omega arith)
set_at (z ∷ xs) zero zero x l e = refl
set_at (z ∷ xs) zero (suc j) x l e = absurd (omega arith)
set_at (z ∷ xs) (suc k) zero x l e = absurd (omega arith)
set_at (z ∷ xs) (suc k) (suc j) x l e = set_at xs k j x (omega arith) (omega arith)

pub set_elsewhere : (xs : List ℤ) (k j : ℕ) (x : ℤ) → j ≢ k → slice_index_or (set xs k x) j (pos 0) ≡ slice_index_or xs j (pos 0)
set_elsewhere [] k j x apart = refl
set_elsewhere (z ∷ xs) zero zero x apart = absurd (apart refl)
set_elsewhere (z ∷ xs) zero (suc j) x apart = refl
set_elsewhere (z ∷ xs) (suc k) zero x apart = refl
set_elsewhere (z ∷ xs) (suc k) (suc j) x apart = set_elsewhere xs k j x (λ e. apart (ap suc e))

pub zeros_at : (n k : ℕ) → slice_index_or (replicate n (pos 0)) k (pos 0) ≡ pos 0
zeros_at zero k = refl
zeros_at (suc n) zero = refl
zeros_at (suc n) (suc k) = zeros_at n k

module _ {R : Type 0} (cmp : R → R → Ordering) (total : IsTotalOrder cmp) where
  -- a price list with one more entry, at a row
  pub price_push : (xs : PriceList R) (e : R × ℤ) (row : R) → price_of (eq_by_cmp cmp) (xs ++ e ∷ []) row ≡ price_of (eq_by_cmp cmp) xs row +ℤ cond (eq_by_cmp cmp row e.0) e.1 (pos 0)
  price_push xs e row =
      let a = sum_of-append (λ (x : R × ℤ). cond (eq_by_cmp cmp row x.0) x.1 (pos 0)) xs (e ∷ []) in
      let b = sum_of-cons (λ (x : R × ℤ). cond (eq_by_cmp cmp row x.0) x.1 (pos 0)) e [] in
      omega (arith, ints)

  -- an entry of ascending prices is above all before it
  pub before_none : (xs : PriceList R) (n : ℕ) (e : R × ℤ) → AreAscending cmp xs → slice_get xs n ≡ Some e → (row : R) → cmp row e.0 ≡ Equal → price_of (eq_by_cmp cmp) (take n xs) row ≡ pos 0
  before_none xs n e up at row tie = price_none cmp (take n xs) row all
    where
      below : (k : ℕ) (d : R × ℤ) → k < n → k < length xs → cmp (get_or xs k d).0 e.0 ≡ Less
      below k d l m =
          let is : get_or xs n d ≡ e = get_or_from_slice_get xs n e d at in
          subst (λ (x : R × ℤ). cmp (get_or xs k d).0 x.0 ≡ Less) is (up k n d l (slice_get_within xs n e at))

      all : All (λ (x : R × ℤ). eq_by_cmp cmp row x.0 ≡ false) (take n xs)
      all k d l =
          let short = length-take n xs in
          let inside : k < n = omega arith in
          let there : k < length xs = omega arith in
          let same : get_or (take n xs) k d ≡ get_or xs k d = get_or-take n xs k d inside in
          let less = below k d inside there in
          let back : cmp row (get_or xs k d).0 ≡ Greater = total.congr row e.0 (get_or xs k d).0 tie ∙ total.antisymm e.0 (get_or xs k d).0 ∙ ap ordering_reverse less in
          ap (λ (x : R × ℤ). eq_by_cmp cmp row x.0) same ∙ ap is_eq back

  pub agrees_first : (numbered : List R) (n : ℕ) (entries : PriceList R) → Agrees cmp numbered (replicate n (pos 0)) (take 0 entries)
  agrees_first numbered n entries k row at = sym (zeros_at n k)

  -- one more entry
  pub agrees_more : (numbered : List R) (prices after : List ℤ) (entries : PriceList R) (n : ℕ) (e : R × ℤ)
      → ((i j : ℕ) (row : R) → slice_get numbered i ≡ Some row → slice_get numbered j ≡ Some row → i ≡ j)
      → ((a b : R) → cmp a b ≡ Equal → a ≡ b) → length prices ≡ length numbered
      → Agrees cmp numbered prices (take n entries) → AreAscending cmp entries → slice_get entries n ≡ Some e → SetsPrice cmp numbered e prices after → Agrees cmp numbered after (take (n + 1) entries)
  agrees_more numbered prices after entries n e once apart count agrees up at sets k row row_at =
      let one : n + 1 ≡ suc n = omega arith in
      let taken : take (n + 1) entries ≡ take n entries ++ e ∷ [] = ap (λ (j : ℕ). take j entries) one ∙ take_push entries n e at in
      let whole = ap (λ (xs : PriceList R). price_of (eq_by_cmp cmp) xs row) taken ∙ price_push (take n entries) e row in
      whole ∙ by sets
    where
      by : SetsPrice cmp numbered e prices after → price_of (eq_by_cmp cmp) (take n entries) row +ℤ cond (eq_by_cmp cmp row e.0) e.1 (pos 0) ≡ slice_index_or after k (pos 0)
      by (inl (m, m_at, is)) = elim (cases_eq k m) as (λ _. price_of (eq_by_cmp cmp) (take n entries) row +ℤ cond (eq_by_cmp cmp row e.0) e.1 (pos 0) ≡ slice_index_or after k (pos 0)) [
        | inl same ↦
            let row_is : row ≡ e.0 = same_Some row e.0 (sym row_at ∙ ap (slice_get numbered) same ∙ m_at) in
            let tie : cmp row e.0 ≡ Equal = ap (λ (r : R). cmp r e.0) row_is ∙ tied_itself total e.0 in
            let none = before_none entries n e up at row tie in
            let cost = ap (λ (b : Bool). cond b e.1 (pos 0)) (ap is_eq tie) in
            let l = slice_get_within numbered m e.0 m_at in
            let set_is = ap (λ (xs : List ℤ). slice_index_or xs k (pos 0)) is ∙ set_at prices m k e.1 (omega arith) same in
            omega (arith, ints)
        | inr other ↦
            let differs : eq_by_cmp cmp row e.0 ≡ false = elim (cases_Bool (eq_by_cmp cmp row e.0)) as (λ _. eq_by_cmp cmp row e.0 ≡ false) [
              | inl yes_it ↦ absurd (other (once k m e.0 (row_at ∙ ap Some (apart row e.0 (equal_is (cmp row e.0) yes_it))) m_at))
              | inr no_it ↦ no_it
            ] in
            let cost = ap (λ (b : Bool). cond b e.1 (pos 0)) differs in
            let before = agrees k row row_at in
            let kept = ap (λ (xs : List ℤ). slice_index_or xs k (pos 0)) is ∙ set_elsewhere prices m k e.1 other in
            omega (arith, ints)
      ]
      by (inr (none_at, is)) =
          let differs : eq_by_cmp cmp row e.0 ≡ false = elim (cases_Bool (eq_by_cmp cmp row e.0)) as (λ _. eq_by_cmp cmp row e.0 ≡ false) [
            | inl yes_it ↦ absurd (none_at k row row_at (equal_is (cmp row e.0) yes_it))
            | inr no_it ↦ no_it
          ] in
          let cost = ap (λ (b : Bool). cond b e.1 (pos 0)) differs in
          let before = agrees k row row_at in
          let kept = ap (λ (xs : List ℤ). slice_index_or xs k (pos 0)) is in
          omega (arith, ints)

-- what a set leaves
pub set_count : (xs : List ℤ) (k : ℕ) (x : ℤ) → length (set xs k x) ≡ length xs
set_count [] k x = refl
set_count (z ∷ xs) zero x = refl
set_count (z ∷ xs) (suc k) x = ap suc (set_count xs k x)

pub sets_count : {R : Type 0} (cmp : R → R → Ordering) (numbered : List R) (e : R × ℤ) (prices after : List ℤ) → SetsPrice cmp numbered e prices after → length after ≡ length prices
sets_count cmp numbered e prices after (inl (m, at, is)) = ap length is ∙ set_count prices m e.1
sets_count cmp numbered e prices after (inr (none, is)) = ap length is
