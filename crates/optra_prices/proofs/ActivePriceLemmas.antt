-- The prices of active rows, sorted, are the list of all prices.
use Rattle.std.proofs.Common.{◌≡◌, ℕ, zero, suc, ◌+◌, Bool, true, false, cond, List, [], ◌∷◌, ◌++◌, length, get_or, Option, Some, None, slice_get, refl, sym, ap, ◌∙◌, subst, arith, inl, inr}
use Rattle.std.specs.Prelude.{ℤ, pos, slice_index_or}
use Rattle.std.specs.Int.{is_positive}
use Rattle.std.specs.List.{AllByRecursion, IsDistinct}
use Rattle.std.specs.List.Sorted.{IsPermutation, IsStrictlySortedBy, IsSortedByKey}
use Rattle.std.specs.Map.{keys_of}
use Rattle.std.specs.Option.{option_map_or}
use Rattle.std.specs.declared.cmp.Ordering.{Ordering}
use Rattle.std.specs.declared.cmp.Ordering.TheVariants.{Less, Equal, Greater}
use Rattle.std.specs.Ordering.{is_lt, is_eq, ordering_reverse}
use Rattle.std.specs.Cmp.{IsTotalOrder}
use Rattle.std.proofs.lemmas.Bool.{cases_Bool}
use Rattle.std.proofs.lemmas.List.Sorted.{Contains-permutation, IsPermutation-sym}
use Rattle.std.proofs.lemmas.Map.Keys.{IsDistinct-IsPermutation}
use Rattle.std.proofs.lemmas.Option.{none-some, same_Some, slice_get_within, get_or_from_slice_get}
use Rattle.optra_walk.specs.Families.{TellsApart}
use Rattle.optra_node.specs.Duals.{PriceList}
use Rattle.optra_node.proofs.LeastLemmas.{at_contains}
use Rattle.optra_node.proofs.RowLemmas.{equal_is}
use Rattle.optra_prices.specs.Courses.{listed}
use Rattle.optra_prices.specs.Levels.{IsLevels, StandOnce}
use Rattle.optra_prices.specs.Listings.{rows_at}
use Rattle.optra_prices.specs.Tables.{AreUp, IsNumbering, number_in}
use Rattle.optra_prices.specs.declared.levels.Levels.{Levels}
use Rattle.optra_prices.proofs.ListLemmas.{all_at}
use Rattle.optra_prices.proofs.PlaceLemmas.{contains_at}
use Rattle.optra_prices.proofs.RankLemmas.{up_number, numbering_rows}

-- what is true of each element is true of all
all_by : {X : Type 0} (P : X → Type 0) (xs : List X) → ((k : ℕ) (x : X) → slice_get xs k ≡ Some x → P x) → AllByRecursion P xs
all_by P [] h = tt
all_by P (x ∷ xs) h = (h 0 x refl, all_by P xs (λ k y at. h (suc k) y at))

-- ---- lists of prices
module _ {R : Type 0} (prices : List ℤ) where
  -- an entry is that of a row with a price above zero
  pub record IsListed (order : List (R × ℕ)) (e : R × ℤ) : Type 0 where
    pub number : ℕ
    pub place : ℕ
    pub stands : slice_get order place ≡ Some (e.0, number)
    pub price_is : e.1 ≡ slice_index_or prices number (pos 0)
    pub high : is_positive (slice_index_or prices number (pos 0)) ≡ true

  listed_from : (order : List (R × ℕ)) (k : ℕ) (e : R × ℤ) → slice_get (listed order prices) k ≡ Some e → IsListed order e
  listed_from [] k e at = absurd (none-some e at)
  listed_from (x ∷ order) k e at = elim (cases_Bool (is_positive p)) as (λ _. IsListed (x ∷ order) e) [
    | inl high ↦ first k high (sym (ap (λ (b : Bool). slice_get (cond b ((x.0, p) ∷ listed order prices) (listed order prices)) k) high) ∙ at) (λ j there. listed_from order j e there)
    | inr low ↦ later (listed_from order k e (sym (ap (λ (b : Bool). slice_get (cond b ((x.0, p) ∷ listed order prices) (listed order prices)) k) low) ∙ at))
  ]
    where
      p : ℤ
      p = slice_index_or prices x.1 (pos 0)

      later : IsListed order e → IsListed (x ∷ order) e
      later is = record { number = is.number; place = suc is.place; stands = is.stands; price_is = is.price_is; high = is.high }

      first : (j : ℕ) → is_positive p ≡ true → slice_get ((x.0, p) ∷ listed order prices) j ≡ Some e → ((i : ℕ) → slice_get (listed order prices) i ≡ Some e → IsListed order e) → IsListed (x ∷ order) e
      first zero high here rest =
          let same = same_Some (x.0, p) e here in
          record { number = x.1; place = 0; stands = ap (λ (y : R × ℤ). Some (y.0, x.1)) same; price_is = sym (ap (λ (y : R × ℤ). y.1) same); high = high }
      first (suc j) high here rest = later (rest j here)

  -- a row with a price above zero is listed
  listed_has : (order : List (R × ℕ)) (k : ℕ) (row : R) (n : ℕ) → slice_get order k ≡ Some (row, n) → is_positive (slice_index_or prices n (pos 0)) ≡ true → (j : ℕ) × (slice_get (listed order prices) j ≡ Some (row, slice_index_or prices n (pos 0)))
  listed_has [] k row n at high = absurd (none-some (row, n) at)
  listed_has (x ∷ order) zero row n at high =
      let same = same_Some x (row, n) at in
      let here : is_positive (slice_index_or prices x.1 (pos 0)) ≡ true = ap (λ (y : R × ℕ). is_positive (slice_index_or prices y.1 (pos 0))) same ∙ high in
      (0, ap (λ (b : Bool). slice_get (cond b ((x.0, slice_index_or prices x.1 (pos 0)) ∷ listed order prices) (listed order prices)) 0) here ∙ ap (λ (y : R × ℕ). Some (y.0, slice_index_or prices y.1 (pos 0))) same)
  listed_has (x ∷ order) (suc k) row n at high =
      let rest = listed_has order k row n at high in
      elim (cases_Bool (is_positive (slice_index_or prices x.1 (pos 0)))) as (λ _. (j : ℕ) × (slice_get (listed (x ∷ order) prices) j ≡ Some (row, slice_index_or prices n (pos 0)))) [
        | inl more ↦ (suc rest.0, ap (λ (b : Bool). slice_get (cond b ((x.0, slice_index_or prices x.1 (pos 0)) ∷ listed order prices) (listed order prices)) (suc rest.0)) more ∙ rest.1)
        | inr none ↦ (rest.0, ap (λ (b : Bool). slice_get (cond b ((x.0, slice_index_or prices x.1 (pos 0)) ∷ listed order prices) (listed order prices)) rest.0) none ∙ rest.1)
      ]

  all_listed : (P : R → Type 0) (order : List (R × ℕ)) → AllByRecursion P (keys_of order) → AllByRecursion P (keys_of (listed order prices))
  all_listed P [] a = tt
  all_listed P (x ∷ order) a = by (is_positive (slice_index_or prices x.1 (pos 0))) (all_listed P order a.1)
    where
      by : (b : Bool) → AllByRecursion P (keys_of (listed order prices)) → AllByRecursion P (keys_of (cond b ((x.0, slice_index_or prices x.1 (pos 0)) ∷ listed order prices) (listed order prices)))
      by true h = (a.0, h)
      by false h = h

  listed_up : (cmp : R → R → Ordering) (order : List (R × ℕ)) → AreUp cmp order → IsStrictlySortedBy cmp (keys_of (listed order prices))
  unfolding IsStrictlySortedBy
  listed_up cmp [] up = tt
  listed_up cmp (x ∷ order) up = by (is_positive (slice_index_or prices x.1 (pos 0))) (listed_up cmp order up.1)
    where
      by : (b : Bool) → IsStrictlySortedBy cmp (keys_of (listed order prices)) → IsStrictlySortedBy cmp (keys_of (cond b ((x.0, slice_index_or prices x.1 (pos 0)) ∷ listed order prices) (listed order prices)))
      by true h = (all_listed (λ y. cmp x.0 y ≡ Less) order up.0, h)
      by false h = h

  -- one row more
  pub listed_push : (order : List (R × ℕ)) (e : R × ℕ) → listed (order ++ e ∷ []) prices
      ≡ listed order prices ++ cond (is_positive (slice_index_or prices e.1 (pos 0))) ((e.0, slice_index_or prices e.1 (pos 0)) ∷ []) []
  listed_push [] e = refl
  listed_push (x ∷ order) e = by (is_positive (slice_index_or prices x.1 (pos 0))) (listed_push order e)
    where
      last : PriceList R
      last = cond (is_positive (slice_index_or prices e.1 (pos 0))) ((e.0, slice_index_or prices e.1 (pos 0)) ∷ []) []

      by : (b : Bool) → listed (order ++ e ∷ []) prices ≡ listed order prices ++ last
          → cond b ((x.0, slice_index_or prices x.1 (pos 0)) ∷ listed (order ++ e ∷ []) prices) (listed (order ++ e ∷ []) prices) ≡ cond b ((x.0, slice_index_or prices x.1 (pos 0)) ∷ listed order prices) (listed order prices) ++ last
      by true h = ap (λ (es : PriceList R). (x.0, slice_index_or prices x.1 (pos 0)) ∷ es) h
      by false h = h

-- ---- rows by their numbers
module _ {R : Type 0} (numbered : List R) where
  pub rows_at_push : (ns : List ℕ) (n : ℕ) (row : R) → slice_get numbered n ≡ Some row → rows_at numbered (ns ++ n ∷ []) ≡ rows_at numbered ns ++ (row, n) ∷ []
  rows_at_push [] n row at = ap (λ (o : Option R). option_map_or (λ (r : R). (r, n) ∷ []) o []) at
  rows_at_push (m ∷ ns) n row at = by (slice_get numbered m) (rows_at_push ns n row at)
    where
      by : (o : Option R) → rows_at numbered (ns ++ n ∷ []) ≡ rows_at numbered ns ++ (row, n) ∷ []
          → option_map_or (λ (r : R). (r, m) ∷ rows_at numbered (ns ++ n ∷ [])) o (rows_at numbered (ns ++ n ∷ [])) ≡ option_map_or (λ (r : R). (r, m) ∷ rows_at numbered ns) o (rows_at numbered ns) ++ (row, n) ∷ []
      by None h = h
      by (Some r) h = ap (λ (es : List (R × ℕ)). (r, m) ∷ es) h

  -- a row stands with its number, which is one of those
  rows_at_from : (ns : List ℕ) (k : ℕ) (e : R × ℕ) → slice_get (rows_at numbered ns) k ≡ Some e → (slice_get numbered e.1 ≡ Some e.0) × ((j : ℕ) × (slice_get ns j ≡ Some e.1))
  rows_at_from [] k e at = absurd (none-some e at)
  rows_at_from (m ∷ ns) k e at = by (slice_get numbered m) refl (λ j there. rows_at_from ns j e there)
    where
      Stands : Type 0
      Stands = (slice_get numbered e.1 ≡ Some e.0) × ((j : ℕ) × (slice_get (m ∷ ns) j ≡ Some e.1))

      later : (slice_get numbered e.1 ≡ Some e.0) × ((j : ℕ) × (slice_get ns j ≡ Some e.1)) → Stands
      later p = (p.0, (suc p.1.0, p.1.1))

      first : (row : R) (j : ℕ) → slice_get numbered m ≡ Some row → slice_get ((row, m) ∷ rows_at numbered ns) j ≡ Some e
          → ((i : ℕ) → slice_get (rows_at numbered ns) i ≡ Some e → (slice_get numbered e.1 ≡ Some e.0) × ((j : ℕ) × (slice_get ns j ≡ Some e.1))) → Stands
      first row zero is here rest =
          let same = same_Some (row, m) e here in
          (ap (λ (y : R × ℕ). slice_get numbered y.1) (sym same) ∙ is ∙ ap (λ (y : R × ℕ). Some y.0) same, (0, ap (λ (y : R × ℕ). Some y.1) same))
      first row (suc j) is here rest = later (rest j here)

      by : (o : Option R) → slice_get numbered m ≡ o → ((i : ℕ) → slice_get (rows_at numbered ns) i ≡ Some e → (slice_get numbered e.1 ≡ Some e.0) × ((j : ℕ) × (slice_get ns j ≡ Some e.1))) → Stands
      by None is rest = later (rest k (sym (ap (λ (o : Option R). slice_get (option_map_or (λ (r : R). (r, m) ∷ rows_at numbered ns) o (rows_at numbered ns)) k) is) ∙ at))
      by (Some row) is rest = first row k is (sym (ap (λ (o : Option R). slice_get (option_map_or (λ (r : R). (r, m) ∷ rows_at numbered ns) o (rows_at numbered ns)) k) is) ∙ at) rest

  rows_at_has : (ns : List ℕ) (j n : ℕ) (row : R) → slice_get ns j ≡ Some n → slice_get numbered n ≡ Some row → (k : ℕ) × (slice_get (rows_at numbered ns) k ≡ Some (row, n))
  rows_at_has [] j n row there at = absurd (none-some n there)
  rows_at_has (m ∷ ns) zero n row there at =
      let same : m ≡ n = same_Some m n there in
      (0, ap (λ (o : Option R). slice_get (option_map_or (λ (r : R). (r, m) ∷ rows_at numbered ns) o (rows_at numbered ns)) 0) (ap (slice_get numbered) same ∙ at) ∙ ap (λ (i : ℕ). Some (row, i)) same)
  rows_at_has (m ∷ ns) (suc j) n row there at = by (slice_get numbered m) (rows_at_has ns j n row there at)
    where
      by : (o : Option R) → (k : ℕ) × (slice_get (rows_at numbered ns) k ≡ Some (row, n)) → (k : ℕ) × (slice_get (option_map_or (λ (r : R). (r, m) ∷ rows_at numbered ns) o (rows_at numbered ns)) k ≡ Some (row, n))
      by None rest = rest
      by (Some r) rest = (suc rest.0, rest.1)

-- ---- lists that ascend
module _ {R : Type 0} (cmp : R → R → Ordering) (total : IsTotalOrder cmp) where
  turned : (a b : R) (o : Ordering) → cmp a b ≡ o → cmp b a ≡ ordering_reverse o
  turned a b o e = total.antisymm b a ∙ ap ordering_reverse e

  not_both : (a b : R) → cmp a b ≡ Less → cmp b a ≡ Less → ⊥
  not_both a b l m = let e : Less ≡ Greater = sym m ∙ turned a b Less l in cc

  past_at : {V : Type 0} (row : R) (es : List (R × V)) (j : ℕ) (e : R × V) → AllByRecursion (λ y. cmp row y ≡ Less) (keys_of es) → slice_get es j ≡ Some e → cmp row e.0 ≡ Less
  past_at row [] j e a at = absurd (none-some e at)
  past_at row (x ∷ es) zero e a at = subst (λ (y : R × _). cmp row y.0 ≡ Less) (same_Some x e at) a.0
  past_at row (x ∷ es) (suc j) e a at = past_at row es j e a.1 at

  -- two lists that ascend and have the same entries are one
  one_list : {V : Type 0} (a b : List (R × V)) → IsStrictlySortedBy cmp (keys_of a) → IsStrictlySortedBy cmp (keys_of b)
      → ((k : ℕ) (e : R × V) → slice_get a k ≡ Some e → (j : ℕ) × (slice_get b j ≡ Some e)) → ((k : ℕ) (e : R × V) → slice_get b k ≡ Some e → (j : ℕ) × (slice_get a j ≡ Some e)) → a ≡ b
  unfolding IsStrictlySortedBy
  one_list [] [] up up' to back = refl
  one_list [] (e ∷ b) up up' to back = absurd (none-some e (back 0 e refl).1)
  one_list (d ∷ a) [] up up' to back = absurd (none-some d (to 0 d refl).1)
  one_list {V} (d ∷ a) (e ∷ b) up up' to back = join (one_list a b up.1 up'.1 (λ k x at. rest_to k x at (to (suc k) x at)) (λ k x at. rest_back k x at (back (suc k) x at)))
    where
      same : d ≡ e
      same = by (to 0 d refl).0 (back 0 e refl).0 (to 0 d refl).1 (back 0 e refl).1
        where
          by : (i j : ℕ) → slice_get (e ∷ b) i ≡ Some d → slice_get (d ∷ a) j ≡ Some e → d ≡ e
          by zero j p q = sym (same_Some e d p)
          by (suc i) zero p q = same_Some d e q
          by (suc i) (suc j) p q = absurd (not_both e.0 d.0 (past_at e.0 b i d up'.0 p) (past_at d.0 a j e up.0 q))

      rest_to : (k : ℕ) (x : R × V) → slice_get a k ≡ Some x → (j : ℕ) × (slice_get (e ∷ b) j ≡ Some x) → (j : ℕ) × (slice_get b j ≡ Some x)
      rest_to k x at (zero, p) = absurd (let l = past_at d.0 a k x up.0 at in let l' : cmp d.0 d.0 ≡ Less = subst (λ (y : R × V). cmp d.0 y.0 ≡ Less) (sym (same ∙ same_Some e x p)) l in not_both d.0 d.0 l' l')
      rest_to k x at (suc j, p) = (j, p)

      rest_back : (k : ℕ) (x : R × V) → slice_get b k ≡ Some x → (j : ℕ) × (slice_get (d ∷ a) j ≡ Some x) → (j : ℕ) × (slice_get a j ≡ Some x)
      rest_back k x at (zero, p) = absurd (let l = past_at e.0 b k x up'.0 at in let l' : cmp e.0 e.0 ≡ Less = subst (λ (y : R × V). cmp e.0 y.0 ≡ Less) (sym (sym same ∙ same_Some d x p)) l in not_both e.0 e.0 l' l')
      rest_back k x at (suc j, p) = (j, p)

      join : a ≡ b → d ∷ a ≡ e ∷ b
      join t = λ i. same i ∷ t i

  abbrev tie_of : {V : Type 0} → R × V → R × V → Bool
  tie_of a b = is_eq (cmp a.0 b.0)

  eq_reverse : (o : Ordering) → is_eq (ordering_reverse o) ≡ is_eq o
  eq_reverse Less = refl
  eq_reverse Equal = refl
  eq_reverse Greater = refl

  greater : (o : Ordering) → is_lt o ≡ false → is_eq o ≡ false → o ≡ Greater
  greater Less l e = cc
  greater Equal l e = cc
  greater Greater l e = refl

  past_all : {V : Type 0} (row first : R) (es : List (R × V)) → cmp row first ≡ Less → AllByRecursion (λ y. cmp first y ≡ Less) (keys_of es) → AllByRecursion (λ y. cmp row y ≡ Less) (keys_of es)
  past_all row first [] l a = tt
  past_all row first (e ∷ es) l a = (total.trans row first e.0 l a.0, past_all row first es l a.1)

  -- a sorted list without ties ascends
  up_sorted : {V : Type 0} (es : List (R × V)) → IsSortedByKey (λ e. e.0) cmp es → IsDistinct tie_of es → IsStrictlySortedBy cmp (keys_of es)
  unfolding IsStrictlySortedBy IsDistinct
  up_sorted [] sorted apart = tt
  up_sorted (e ∷ []) sorted apart = (tt, tt)
  up_sorted {V} (e ∷ x ∷ es) sorted apart =
      let rest = up_sorted (x ∷ es) (λ k d m l.
      let one : suc k + 1 ≡ suc (k + 1) = omega arith in
      subst (λ (j : ℕ). is_lt (cmp (get_or (e ∷ x ∷ es) j d).0 (get_or (x ∷ es) k d).0) ≡ false) one (sorted (suc k) d (omega arith) (omega arith))) apart.1 in
      let low : is_lt (cmp x.0 e.0) ≡ false = sorted 0 e (omega arith) (omega arith) in
      let other : is_eq (cmp x.0 e.0) ≡ false = flip e x ∙ apart.0.0 in
      let less : cmp e.0 x.0 ≡ Less = turned x.0 e.0 Greater (greater (cmp x.0 e.0) low other) in
      ((less, past_all e.0 x.0 es less rest.0), rest)
    where
      flip : (a b : R × V) → is_eq (cmp b.0 a.0) ≡ is_eq (cmp a.0 b.0)
      flip a b = ap is_eq (total.antisymm b.0 a.0) ∙ eq_reverse (cmp a.0 b.0)

  tie_flips : {V : Type 0} (a b : R × V) → tie_of a b ≡ tie_of b a
  tie_flips a b = ap is_eq (total.antisymm a.0 b.0) ∙ eq_reverse (cmp b.0 a.0)

module _ {R : Type 0} (cmp : R → R → Ordering) (total : IsTotalOrder cmp) (apart : TellsApart cmp) (order : List (R × ℕ)) (numbered : List R) (is : IsNumbering cmp order numbered) where
  -- no row is listed twice
  apart_listed : (prices : List ℤ) (ns : List ℕ) → StandOnce ns → IsDistinct (tie_of cmp total) (listed (rows_at numbered ns) prices)
  unfolding IsDistinct
  apart_listed prices [] once = tt
  apart_listed prices (n ∷ ns) once = by (slice_get numbered n) refl (apart_listed prices ns (λ i j l m e. once (suc i) (suc j) (omega arith) (omega arith) e))
    where
      rest : PriceList R
      rest = listed (rows_at numbered ns) prices

      other : (row : R) (p : ℤ) → slice_get numbered n ≡ Some row → (k : ℕ) (e : R × ℤ) → slice_get rest k ≡ Some e → tie_of cmp total (row, p) e ≡ false
      other row p at k e there =
          let one = listed_from prices (rows_at numbered ns) k e there in
          let stands = rows_at_from numbered ns one.place (e.0, one.number) one.stands in
          elim (cases_Bool (is_eq (cmp row e.0))) as (λ _. is_eq (cmp row e.0) ≡ false) [
            | inl tie ↦
                let same : row ≡ e.0 = apart row e.0 (equal_is (cmp row e.0) tie) in
                let number : n ≡ one.number = same_Some n one.number (sym (is.known n row at) ∙ ap (number_in cmp order) same ∙ is.known one.number e.0 stands.0) in
                let j = stands.1.0 in
                let l = slice_get_within ns j one.number stands.1.1 in
                absurd (once 0 (suc j) (omega arith) (omega arith) (number ∙ sym (get_or_from_slice_get ns j one.number 0 stands.1.1)))
            | inr off ↦ off
          ]

      put : (row : R) (b : Bool) → slice_get numbered n ≡ Some row → IsDistinct (tie_of cmp total) rest → IsDistinct (tie_of cmp total) (cond b ((row, slice_index_or prices n (pos 0)) ∷ rest) rest)
      put row true at h = (all_by (λ e. tie_of cmp total (row, slice_index_or prices n (pos 0)) e ≡ false) rest (other row (slice_index_or prices n (pos 0)) at), h)
      put row false at h = h

      by : (o : Option R) → slice_get numbered n ≡ o → IsDistinct (tie_of cmp total) rest → IsDistinct (tie_of cmp total) (listed (option_map_or (λ (r : R). (r, n) ∷ rows_at numbered ns) o (rows_at numbered ns)) prices)
      by None at h = h
      by (Some row) at h = put row (is_positive (slice_index_or prices n (pos 0))) at h

  -- sorted, the prices of active rows are all prices
  pub active_listed : (l : Levels) → IsLevels l → length l.prices.items ≡ length numbered → (sorted : PriceList R) → IsPermutation (listed (rows_at numbered l.active.items) l.prices.items) sorted
      → IsSortedByKey (λ e. e.0) cmp sorted → sorted ≡ listed order l.prices.items
  active_listed l levels count sorted moved ascends = one_list cmp total sorted (listed order prices) strict (listed_up prices cmp order is.ordered) to back
    where
      prices : List ℤ
      prices = l.prices.items

      active : List ℕ
      active = l.active.items

      found : PriceList R
      found = listed (rows_at numbered active) prices

      strict : IsStrictlySortedBy cmp (keys_of sorted)
      strict = up_sorted cmp total sorted ascends (IsDistinct-IsPermutation (tie_of cmp total) (tie_flips cmp total) found sorted moved (apart_listed prices active levels.once))

      to : (k : ℕ) (e : R × ℤ) → slice_get sorted k ≡ Some e → (j : ℕ) × (slice_get (listed order prices) j ≡ Some e)
      to k e at =
          let here = contains_at found e (Contains-permutation sorted found e (IsPermutation-sym found sorted moved) (at_contains sorted k e at)) in
          let one = listed_from prices (rows_at numbered active) here.0 e here.1 in
          let stands = rows_at_from numbered active one.place (e.0, one.number) one.stands in
          let place = up_number cmp total apart order e.0 one.number (is.known one.number e.0 stands.0) in
          let there = listed_has prices order place.0 e.0 one.number place.1 one.high in
          (there.0, there.1 ∙ ap (λ (z : ℤ). Some (e.0, z)) (sym one.price_is))

      back : (k : ℕ) (e : R × ℤ) → slice_get (listed order prices) k ≡ Some e → (j : ℕ) × (slice_get sorted j ≡ Some e)
      back k e at =
          let one = listed_from prices order k e at in
          let n = one.number in
          let row_at : slice_get numbered n ≡ Some e.0 = all_at (λ (x : R × ℕ). slice_get numbered x.1 ≡ Some x.0) order one.place (e.0, n) (numbering_rows cmp total order numbered is) one.stands in
          let w = slice_get_within numbered n e.0 row_at in
          elim (levels.covers n (omega arith)) as (λ _. (j : ℕ) × (slice_get sorted j ≡ Some e)) [
            | inl idle ↦ absurd (let clash : true ≡ false = sym one.high ∙ ap is_positive idle.0 in cc)
            | inr has ↦
                let place = contains_at active n has in
                let stands = rows_at_has numbered active place.0 n e.0 place.1 row_at in
                let there = listed_has prices (rows_at numbered active) stands.0 e.0 n stands.1 one.high in
                let whole : slice_get found there.0 ≡ Some e = there.1 ∙ ap (λ (z : ℤ). Some (e.0, z)) (sym one.price_is) in
                contains_at sorted e (Contains-permutation found sorted e moved (at_contains found there.0 e whole))
          ]
