-- Totals that are raised or lowered row by row.
use Rattle.std.proofs.Common.{◌≡◌, ℕ, zero, suc, ◌+◌, ◌<◌, ◌≤◌, ◌↔◌, ◌⊎◌, inl, inr, true, cond, Option, Some, None, List, [], ◌∷◌, length, slice_get, Contains, refl, sym, ap, ◌∙◌, subst, arith}
use Rattle.std.proofs.lemmas.Bool.{cases_lt, cases_eq, false_from_ne_true}
use Rattle.std.proofs.lemmas.Option.{slice_get-get_or, slice_get_within, get_or_from_slice_get}
use Rattle.std.specs.Cmp.{IsTotalOrder}
use Rattle.std.specs.Ordering.{is_eq, ordering_reverse}
use Rattle.std.specs.declared.cmp.Ordering.{Ordering}
use Rattle.std.specs.declared.cmp.Ordering.TheVariants.{Less, Equal, Greater}
use Rattle.optra_walk.specs.Families.{Ascends, TellsApart}
use Rattle.optra_walk.specs.Raises.{IsRaised, IsLowered, AreEnough}
use Rattle.optra_walk.proofs.RoomLemmas.{at_contains}

module _ {Row : Type 0} (cmp : Row → Row → Ordering) (total : IsTotalOrder cmp) (apart : TellsApart cmp) where
  itself_by : (x : Row) (o : Ordering) → cmp x x ≡ o → o ≡ ordering_reverse o → o ≡ Equal
  itself_by x Less e r = absurd (cc)
  itself_by x Equal e r = refl
  itself_by x Greater e r = absurd (cc)

  pub itself : (x : Row) → cmp x x ≡ Equal
  itself x = itself_by x (cmp x x) refl (total.antisymm x x)

  pub is_eq_from : (o : Ordering) → is_eq o ≡ true → o ≡ Equal
  is_eq_from Less e = absurd (cc)
  is_eq_from Equal e = refl
  is_eq_from Greater e = absurd (cc)

  pub ascends_at : (rows : List Row) (i j : ℕ) (a b : Row) → Ascends cmp rows → i < j → slice_get rows i ≡ Some a → slice_get rows j ≡ Some b → cmp a b ≡ Less
  ascends_at [] i j a b h l ea eb = absurd (cc)
  ascends_at (x ∷ xs) i zero a b h l ea eb = absurd (omega arith)
  ascends_at (x ∷ xs) zero (suc j) a b h l ea eb =
      let same : x ≡ a = cc in
      let w = slice_get_within xs j b eb in
      subst (λ z. cmp z b ≡ Less) same (subst (λ z. cmp x z ≡ Less) (get_or_from_slice_get xs j b b eb) (h.0 j b w))
  ascends_at (x ∷ xs) (suc i) (suc j) a b h l ea eb = ascends_at xs i j a b h.1 (omega arith) ea eb

  module _ (rows : List Row) (ascending : Ascends cmp rows) (use_count before : Row → ℕ) where
    not_equal : (i j : ℕ) (a b : Row) → i < j → slice_get rows i ≡ Some a → slice_get rows j ≡ Some b → a ≡ b → ⊥
    not_equal i j a b l ea eb e =
        let less = ascends_at rows i j a b ascending l ea eb in
        let same : cmp a b ≡ Equal = ap (cmp a) (sym e) ∙ itself a in cc

    pub raised_more : (now after : Row → ℕ) (k by : ℕ) (row : Row) → IsRaised cmp rows use_count before now k → slice_get rows k ≡ Some row → by ≡ use_count row
        → ((q : Row) → after q ≡ now q + cond (is_eq (cmp row q)) by 0) → IsRaised cmp rows use_count before after (k + 1)
    raised_more now after k by row h at is made = record {
      done = λ j other l e. elim (cases_lt j k) [
        | inl b ↦
            let ne : is_eq (cmp row other) ≡ true → ⊥ = λ t. not_equal j k other row b e at (sym (apart row other (is_eq_from (cmp row other) t))) in
            let kept = h.done j other b e in
            made other ∙ ap (λ c. now other + cond c by 0) (false_from_ne_true (is_eq (cmp row other)) ne) ∙ (let z : now other + 0 ≡ before other + use_count other = omega arith in z)
        | inr ge ↦
            let jk : j ≡ k = omega arith in
            let same : other ≡ row = some_same other row (sym e ∙ ap (slice_get rows) jk ∙ at) in
            let old = h.rest row (λ i r li ei eq. not_equal i k r row li ei at (apart r row eq)) in
            subst (λ z. after z ≡ before z + use_count z) (sym same)
            (made row ∙ ap (λ o. now row + cond (is_eq o) by 0) (itself row) ∙ (let z : now row + by ≡ before row + use_count row = omega arith in z))
      ];
      rest = λ q far.
          let ne : is_eq (cmp row q) ≡ true → ⊥ = λ t. far k row (omega arith) at (is_eq_from (cmp row q) t) in
          let old = h.rest q (λ j r l e eq. far j r (omega arith) e eq) in
          made q ∙ ap (λ c. now q + cond c by 0) (false_from_ne_true (is_eq (cmp row q)) ne) ∙ (let z : now q + 0 ≡ before q = omega arith in z);
    }
      where
        some_same : (a b : Row) → Some a ≡ Some b → a ≡ b
        some_same a b e = cc

    pub raised_all : ((row : Row) → 0 < use_count row ↔ Contains rows row) → (now : Row → ℕ) (k : ℕ) → length rows ≤ k → IsRaised cmp rows use_count before now k → (q : Row) → now q ≡ before q + use_count q
    raised_all used now k few h q = elim (cases_eq (use_count q) 0) [
      | inl z ↦
          let old = h.rest q (λ j r l e eq. let same = apart r q eq in let pos = (used q).1 (subst (λ x. Contains rows x) same (at_contains rows j r e)) in omega arith) in omega arith
      | inr nz ↦
          let c = (used q).0 (omega arith) in
          let l = c.1 in
          h.done c.0 q (omega arith) (slice_get-get_or rows c.0 q c.1 ∙ ap Some c.2)
    ]

    -- a row that is still to come has its old total
    pub still : (now : Row → ℕ) (k : ℕ) (row : Row) → IsRaised cmp rows use_count before now k → slice_get rows k ≡ Some row → now row ≡ before row
    still now k row h at = h.rest row (λ i r li ei eq. not_equal i k r row li ei at (apart r row eq))

    pub raised_none : (now : Row → ℕ) → ((q : Row) → now q ≡ before q) → IsRaised cmp rows use_count before now 0
    raised_none now same = record { done = λ j row l e. absurd (omega arith); rest = λ q _. same q }

module _ {Row : Type 0} (cmp : Row → Row → Ordering) (total : IsTotalOrder cmp) (apart : TellsApart cmp) (rows : List Row) (ascending : Ascends cmp rows) (use_count before : Row → ℕ) where
  not_same : (i j : ℕ) (a b : Row) → i < j → slice_get rows i ≡ Some a → slice_get rows j ≡ Some b → a ≡ b → ⊥
  not_same i j a b l ea eb e =
      let less = ascends_at cmp total apart rows i j a b ascending l ea eb in
      let same : cmp a b ≡ Equal = ap (cmp a) (sym e) ∙ itself cmp total apart a in cc

  pub lowered_more : (now after : Row → ℕ) (k by : ℕ) (row : Row) → IsLowered cmp rows use_count before now k → slice_get rows k ≡ Some row → by ≡ use_count row
      → ((q : Row) → after q + cond (is_eq (cmp row q)) by 0 ≡ now q) → IsLowered cmp rows use_count before after (k + 1)
  lowered_more now after k by row h at is made = record {
    done = λ j other l e. elim (cases_lt j k) [
      | inl b ↦
          let ne : is_eq (cmp row other) ≡ true → ⊥ = λ t. not_same j k other row b e at (sym (apart row other (is_eq_from cmp total apart (cmp row other) t))) in
          let kept = h.done j other b e in
          let same : after other + 0 ≡ now other = ap (λ c. after other + cond c by 0) (sym (false_from_ne_true (is_eq (cmp row other)) ne)) ∙ made other in omega arith
      | inr ge ↦
          let jk : j ≡ k = omega arith in
          let same : other ≡ row = some_same other row (sym e ∙ ap (slice_get rows) jk ∙ at) in
          let old = h.rest row (λ i r li ei eq. not_same i k r row li ei at (apart r row eq)) in
          let step : after row + by ≡ now row = ap (λ o. after row + cond (is_eq o) by 0) (sym (itself cmp total apart row)) ∙ made row in
          subst (λ z. after z + use_count z ≡ before z) (sym same) (let z : after row + use_count row ≡ before row = omega arith in z)
    ];
    rest = λ q far.
        let ne : is_eq (cmp row q) ≡ true → ⊥ = λ t. far k row (omega arith) at (is_eq_from cmp total apart (cmp row q) t) in
        let old = h.rest q (λ j r l e eq. far j r (omega arith) e eq) in
        let same : after q + 0 ≡ now q = ap (λ c. after q + cond c by 0) (sym (false_from_ne_true (is_eq (cmp row q)) ne)) ∙ made q in omega arith;
  }
    where
      some_same : (a b : Row) → Some a ≡ Some b → a ≡ b
      some_same a b e = cc

  pub lowered_all : ((row : Row) → 0 < use_count row ↔ Contains rows row) → (now : Row → ℕ) (k : ℕ) → length rows ≤ k → IsLowered cmp rows use_count before now k → (q : Row) → now q + use_count q ≡ before q
  lowered_all used now k few h q = elim (cases_eq (use_count q) 0) [
    | inl z ↦
        let old = h.rest q (λ j r l e eq. let same = apart r q eq in let pos = (used q).1 (subst (λ x. Contains rows x) same (at_contains rows j r e)) in omega arith) in omega arith
    | inr nz ↦
        let c = (used q).0 (omega arith) in
        let l = c.1 in
        h.done c.0 q (omega arith) (slice_get-get_or rows c.0 q c.1 ∙ ap Some c.2)
  ]

  -- a row that is still to come has its old total
  pub still_high : (now : Row → ℕ) (k : ℕ) (row : Row) → IsLowered cmp rows use_count before now k → slice_get rows k ≡ Some row → now row ≡ before row
  still_high now k row h at = h.rest row (λ i r li ei eq. not_same i k r row li ei at (apart r row eq))

  pub lowered_none : (now : Row → ℕ) → ((q : Row) → now q ≡ before q) → IsLowered cmp rows use_count before now 0
  lowered_none now same = record { done = λ j row l e. absurd (omega arith); rest = λ q _. same q }

  -- past the last row nothing is lowered
  pub lowered_past : (now : Row → ℕ) (k count : ℕ) → k ≤ count → length rows ≤ k → IsLowered cmp rows use_count before now k → IsLowered cmp rows use_count before now count
  lowered_past now k count up few h = record {
    done = λ j row l e. let w = slice_get_within rows j row e in h.done j row (omega arith) e;
    rest = λ q far. h.rest q (λ j row l e eq. far j row (omega arith) e eq);
  }

  -- rows that were raised have their use
  pub raised_enough : (now : Row → ℕ) (k : ℕ) → IsRaised cmp rows use_count before now k → AreEnough rows use_count now k
  raised_enough now k h j row l e = let d = h.done j row l e in omega arith

  -- whether a row is one of the first k
  among : (q : Row) (k : ℕ) → ((j : ℕ) × (row : Row) × (j < k) × (slice_get rows j ≡ Some row) × (row ≡ q)) ⊎ ((j : ℕ) (row : Row) → j < k → slice_get rows j ≡ Some row → cmp row q ≡ Equal → ⊥)
  among q zero = inr (λ j row l e eq. omega arith)
  among q (suc k) = of_before (among q k) (slice_get rows k) refl
    where
      of_row : (row : Row) → slice_get rows k ≡ Some row → ((j : ℕ) (row : Row) → j < k → slice_get rows j ≡ Some row → cmp row q ≡ Equal → ⊥) → (o : Ordering) → cmp row q ≡ o
          → ((j : ℕ) × (row : Row) × (j < suc k) × (slice_get rows j ≡ Some row) × (row ≡ q)) ⊎ ((j : ℕ) (row : Row) → j < suc k → slice_get rows j ≡ Some row → cmp row q ≡ Equal → ⊥)
      of_row row at far Equal is = inl (k, row, omega arith, at, apart row q is)
      of_row row at far Less is = inr (λ j other l e eq. elim (cases_lt j k) [
        | inl b ↦ far j other b e eq
        | inr ge ↦ let jk : j ≡ k = omega arith in let same : Some other ≡ Some row = sym e ∙ ap (slice_get rows) jk ∙ at in cc
      ])
      of_row row at far Greater is = inr (λ j other l e eq. elim (cases_lt j k) [
        | inl b ↦ far j other b e eq
        | inr ge ↦ let jk : j ≡ k = omega arith in let same : Some other ≡ Some row = sym e ∙ ap (slice_get rows) jk ∙ at in cc
      ])

      of_before : ((j : ℕ) × (row : Row) × (j < k) × (slice_get rows j ≡ Some row) × (row ≡ q)) ⊎ ((j : ℕ) (row : Row) → j < k → slice_get rows j ≡ Some row → cmp row q ≡ Equal → ⊥) → (o : Option Row) → slice_get rows k ≡ o
          → ((j : ℕ) × (row : Row) × (j < suc k) × (slice_get rows j ≡ Some row) × (row ≡ q)) ⊎ ((j : ℕ) (row : Row) → j < suc k → slice_get rows j ≡ Some row → cmp row q ≡ Equal → ⊥)
      of_before (inl found) o at = let l = found.2 in inl (found.0, found.1, omega arith, found.3, found.4)
      of_before (inr far) (Some row) at = of_row row at far (cmp row q) refl
      of_before (inr far) None at = inr (λ j other l e eq. elim (cases_lt j k) [
        | inl b ↦ far j other b e eq
        | inr ge ↦ let jk : j ≡ k = omega arith in let same : Some other ≡ None = sym e ∙ ap (slice_get rows) jk ∙ at in cc
      ])

  -- rows that were raised and lowered again have their old totals, also where a step between that failed changed none
  pub undone : (mid kept now : Row → ℕ) (k : ℕ) → IsRaised cmp rows use_count before mid k → ((q : Row) → kept q ≡ mid q) → IsLowered cmp rows use_count kept now k → (q : Row) → now q ≡ before q
  undone mid kept now k up same down q = elim (among q k) [
    | inl found ↦
        let a = up.done found.0 found.1 found.2 found.3 in
        let b = down.done found.0 found.1 found.2 found.3 in
        let m = same found.1 in
        let e : now found.1 ≡ before found.1 = omega arith in
        subst (λ (z : Row). now z ≡ before z) found.4 e
    | inr far ↦ down.rest q far ∙ same q ∙ up.rest q far
  ]
