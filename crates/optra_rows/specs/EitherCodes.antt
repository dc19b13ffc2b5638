-- The numbers that tell rows of two families: those of the second stand past those of the first.
use Rattle.std.proofs.Common.{◌≡◌, ℕ, ◌+◌, ◌-◌, ◌^◌, ◌<◌, Bool, cond, nat_lt, refl, sym, ap, ◌∙◌, arith}
use Rattle.std.specs.Prelude.{Option, Some, None, min}
use Rattle.std.specs.Cmp.{nat_cmp_is}
use Rattle.std.specs.Ordering.{nat_cmp}
use Rattle.std.specs.declared.cmp.Ordering.{Ordering}
use Rattle.std.specs.declared.cmp.Ordering.TheVariants.{Less, Greater}
use Rattle.std.proofs.lemmas.Bool.{ltb-true, lt-ltb, le-ltb}
use Rattle.std.proofs.lemmas.Option.{none-some}
use Rattle.optra_walk.specs.Codes.{moved_cmp, some_parts}
use Rattle.optra_rows.specs.declared.joining.Either.{Either}
use Rattle.optra_rows.specs.declared.joining.Either.TheVariants.{First, Second}

-- a number past so many others, where it is below the greatest number of 64 bits
abbrev pub past : ℕ → ℕ → Option ℕ
past others code = cond (nat_lt (others + code) (2 ^ 64 - 1)) (Some (others + code)) None

abbrev pub past_some : ℕ → Option ℕ → Option ℕ
past_some others None = None
past_some others (Some code) = past others code

abbrev pub either_code : {P Q : Type 0} → (P → Option ℕ) → (Q → Option ℕ) → ℕ → Either P Q → Option ℕ
either_code code_p code_q others (First p) = code_p p
either_code code_p code_q others (Second q) = past_some others (code_q q)

abbrev pub either_row : {P Q : Type 0} → (ℕ → P) → (ℕ → Q) → ℕ → ℕ → Either P Q
either_row row_p row_q others code = cond (nat_lt code others) (First (row_p code)) (Second (row_q (code - others)))

abbrev pub either_codes : ℕ → ℕ → ℕ
either_codes first second = min (first + second) (2 ^ 64 - 1)

pub either_few : (first second : ℕ) → either_codes first second < 2 ^ 64
either_few first second = omega arith

-- the number of a row of the second family
record IsPast (others : ℕ) (inner : Option ℕ) (code : ℕ) : Type 0 where
  own : ℕ
  is : inner ≡ Some own
  sum : others + own ≡ code
  small : code < 2 ^ 64 - 1

past_is : (others : ℕ) (inner : Option ℕ) (code : ℕ) → past_some others inner ≡ Some code → IsPast others inner code
past_is others None code is = absurd (none-some code is)
past_is others (Some own) code is =
    let both = some_parts (nat_lt (others + own) (2 ^ 64 - 1)) (others + own) code is in
    let low = ltb-true (others + own) (2 ^ 64 - 1) both.0 in
    let sum = both.1 in
    record { own = own; is = refl; sum = sum; small = omega arith }

module _ {P Q : Type 0} (code_p : P → Option ℕ) (code_q : Q → Option ℕ) where
  pub either_leads_back : (row_p : ℕ → P) (row_q : ℕ → Q) (others : ℕ) → ((row : P) (code : ℕ) → code_p row ≡ Some code → row_p code ≡ row) → ((row : Q) (code : ℕ) → code_q row ≡ Some code → row_q code ≡ row)
      → ((row : P) (code : ℕ) → code_p row ≡ Some code → code < others) → (row : Either P Q) (code : ℕ) → either_code code_p code_q others row ≡ Some code → either_row row_p row_q others code ≡ row
  either_leads_back row_p row_q others back_p back_q below_p (First p) code is =
      ap (λ (b : Bool). cond b (First (row_p code)) (Second (row_q (code - others)))) (lt-ltb code others (below_p p code is)) ∙ ap (λ (r : P). First r) (back_p p code is)
  either_leads_back row_p row_q others back_p back_q below_p (Second q) code is =
      let e = past_is others (code_q q) code is in
      let sum = e.sum in
      let own : code - others ≡ e.own = omega arith in
      ap (λ (b : Bool). cond b (First (row_p code)) (Second (row_q (code - others)))) (le-ltb code others (omega arith)) ∙ ap (λ (n : ℕ). Second (row_q n)) own ∙ ap (λ (r : Q). Second r) (back_q q e.own e.is)

  pub either_below : (others more : ℕ) → others < 2 ^ 64 → ((row : P) (code : ℕ) → code_p row ≡ Some code → code < others) → ((row : Q) (code : ℕ) → code_q row ≡ Some code → code < more)
      → (row : Either P Q) (code : ℕ) → either_code code_p code_q others row ≡ Some code → code < either_codes others more
  either_below others more few below_p below_q (First p) code is = let low = below_p p code is in omega arith
  either_below others more few below_p below_q (Second q) code is =
      let e = past_is others (code_q q) code is in
      let sum = e.sum in
      let small = e.small in
      let low = below_q q e.own e.is in
      omega arith

pub either_ordered : {P Q : Type 0} (cmp_p : P → P → Ordering) (cmp_q : Q → Q → Ordering) (cmp : Either P Q → Either P Q → Ordering)
    → ((a b : P) → cmp (First a) (First b) ≡ cmp_p a b) → ((a b : Q) → cmp (Second a) (Second b) ≡ cmp_q a b)
    → ((a : P) (b : Q) → cmp (First a) (Second b) ≡ Less) → ((a : P) (b : Q) → cmp (Second b) (First a) ≡ Greater)
    → (code_p : P → Option ℕ) (code_q : Q → Option ℕ) (others : ℕ)
    → ((a b : P) (x y : ℕ) → code_p a ≡ Some x → code_p b ≡ Some y → cmp_p a b ≡ nat_cmp x y) → ((a b : Q) (x y : ℕ) → code_q a ≡ Some x → code_q b ≡ Some y → cmp_q a b ≡ nat_cmp x y)
    → ((row : P) (code : ℕ) → code_p row ≡ Some code → code < others)
    → (a b : Either P Q) (x y : ℕ) → either_code code_p code_q others a ≡ Some x → either_code code_p code_q others b ≡ Some y → cmp a b ≡ nat_cmp x y
either_ordered cmp_p cmp_q cmp firsts seconds low high code_p code_q others ordered_p ordered_q below_p (First a) (First b) x y is is' = firsts a b ∙ ordered_p a b x y is is'
either_ordered cmp_p cmp_q cmp firsts seconds low high code_p code_q others ordered_p ordered_q below_p (First a) (Second b) x y is is' =
    let e = past_is others (code_q b) y is' in
    let sum = e.sum in
    let under = below_p a x is in
    low a b ∙ nat_cmp_is x y Less (omega arith)
either_ordered cmp_p cmp_q cmp firsts seconds low high code_p code_q others ordered_p ordered_q below_p (Second b) (First a) x y is is' =
    let e = past_is others (code_q b) x is in
    let sum = e.sum in
    let under = below_p a y is' in
    high a b ∙ nat_cmp_is x y Greater (omega arith)
either_ordered cmp_p cmp_q cmp firsts seconds low high code_p code_q others ordered_p ordered_q below_p (Second a) (Second b) x y is is' =
    let e = past_is others (code_q a) x is in
    let f = past_is others (code_q b) y is' in
    seconds a b ∙ ordered_q a b e.own f.own e.is f.is ∙ sym (moved_cmp others e.own f.own) ∙ ap (λ (n : ℕ). nat_cmp n (others + f.own)) e.sum ∙ ap (nat_cmp x) f.sum
