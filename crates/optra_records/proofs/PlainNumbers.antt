-- Numbers that were printed are read again, and a number as it is printed is what is printed of it.
use Rattle.std.proofs.Common.{◌≡◌, ◌<◌, ◌≤◌, ◌^◌, ◌||◌, ℕ, zero, suc, Bool, true, false, List, not, nat_eq, Some, None, length, get_or, arith, refl, sym, subst, rules, lit<}
use Rattle.std.specs.Prelude.{cond}
use Rattle.std.proofs.lemmas.Bool.{le-leb, leb-true, ne_eqb, and_parts}
use Rattle.std.proofs.lemmas.Bool.Decides.{Decides-eqb}
use Rattle.std.proofs.lemmas.Fmt.{digits_decimal, digits_value-decimal, length-decimal-le, decimal_nonempty, first_decimal, decimal-digits_value}
use Rattle.std.proofs.lemmas.Str.Parse.{IsNumeralModel, numerals_by_fold}
use Rattle.std.specs.Char.{is_ascii_digit}
use Rattle.std.specs.Fmt.{decimal, digits}
use Rattle.std.specs.List.{list_all}
use Rattle.optra_records.specs.Numbers.{is_plain_number, plain_number_of, value_after, value_of}

digits_own : IsNumeralModel (λ ds. list_all is_ascii_digit ds ≡ true) (value_after 0)
digits_own = numerals_by_fold _ (search rules) value_after (search rules)

or_true : (b : Bool) → (b || true) ≡ true
or_true true = refl
or_true false = refl

no_zero : (n : ℕ) → n < 2 ^ 64 → (nat_eq (length (decimal n)) 1 || not (nat_eq (get_or (decimal n) 0 0) 48)) ≡ true
unfolding digits
no_zero zero fits = refl
no_zero (suc n) fits =
    let first = first_decimal (suc n) (omega arith) fits in
    rw (ne_eqb (get_or (decimal (suc n)) 0 0) 48 (λ e. absurd (omega (arith, e, first)))) (or_true (nat_eq (length (decimal (suc n))) 1))

-- a number below 10^18 that was printed is read back
pub plain_number_back : (n : ℕ) → n < 10 ^ 18 → plain_number_of (decimal n) ≡ Some n
unfolding plain_number_of
plain_number_back n small =
    let fits : n < 2 ^ 64 = omega arith in
    let some : 1 ≤ length (decimal n) = decimal_nonempty n fits in
    let few : length (decimal n) ≤ 18 = length-decimal-le 18 n (lit< tt) small fits in
    rw (le-leb 1 _ some, le-leb _ 18 few, digits_decimal digits_own n fits, digits_value-decimal digits_own n fits, no_zero n fits) refl

one_digit : (a b : Bool) → (a || not b) ≡ true → b ≡ true → a ≡ true
one_digit true b e f = refl
one_digit false true e f = absurd (cc e)
one_digit false false e f = absurd (cc f)

plain_text : (text : List ℕ) → is_plain_number text ≡ true → value_of text < 2 ^ 64 → decimal (value_of text) ≡ text
plain_text text is fits =
    let parts = and_parts _ _ is in
    let more = and_parts _ _ parts.0 in
    let some = and_parts _ _ more.0 in
    let one : get_or text 0 0 ≡ 48 → length text ≡ 1 =
    λ e. (Decides-eqb (length text) 1).0 (one_digit _ _ parts.1 ((Decides-eqb (get_or text 0 0) 48).1 e)) in
    decimal-digits_value digits_own text more.1 (leb-true 1 (length text) some.0) one fits

-- a number as it is printed is what is printed of it
pub plain_number_text : (text : List ℕ) (n : ℕ) → plain_number_of text ≡ Some n → n < 2 ^ 64 → decimal n ≡ text
unfolding plain_number_of
plain_number_text text n e fits = by (is_plain_number text) refl e
  where
    by : (b : Bool) → is_plain_number text ≡ b → cond b (Some (value_of text)) None ≡ Some n → decimal n ≡ text
    by true is e =
        let same : value_of text ≡ n = cc e in
        subst (λ (m : ℕ). decimal m ≡ text) same (plain_text text is (subst (λ (m : ℕ). m < 2 ^ 64) (sym same) fits))
    by false is e = absurd (cc e)
