-- The names of a demo are names, and differ.
use Rattle.std.proofs.Common.{◌≡◌, ◌≢◌, ℕ, ◌<◌, ◌≤◌, ◌^◌, ◌&&◌, not, Bool, true, false, cond, List, [], ◌∷◌, Some, None, refl, sym, ap, ◌∙◌, arith, length, nat_le, ◌*◌, ◌-◌}
use Rattle.std.specs.Prelude.{codes, ◌==◌, if◌then◌else◌}
use Rattle.std.specs.Char.{is_ascii_digit, is_control}
use Rattle.std.specs.Fmt.{decimal}
use Rattle.std.specs.List.{list_all}
use Rattle.std.specs.Str.{IsAscii}
use Rattle.std.proofs.lemmas.Bool.{leb-true}
use Rattle.std.proofs.lemmas.Bool.Decides.{nat_tests}
use Rattle.std.proofs.lemmas.Fmt.{IsAscii-decimal}
use Rattle.std.proofs.lemmas.Str.{IsUtf8-from_ascii, chars-IsAscii}
use Rattle.std.proofs.lemmas.Str.Ascii.{IsAscii-cons}
use Rattle.optra_network.specs.Names.{is_name, is_plain}
use Rattle.optra_network.proofs.NamesLemmas.{is_name-text}
use Rattle.optra_records.specs.Numbers.{is_number, number_of, value_of}
use Rattle.optra_records.specs.Reading.{Field}
use Rattle.optra_records.proofs.ReadBack.{number_back}
use Rattle.optra_demo.specs.Names.{named}

both : (a b : Bool) → (a && b) ≡ true → (a ≡ true) × (b ≡ true)
both true b e = (refl, e)
both false b e = cc

-- a printed number is 1 to 10 digits
printed : (n : ℕ) → n < 10 ^ 10 → is_number (decimal n) ≡ true
unfolding number_of
printed n small = by (is_number (decimal n)) (number_back n small)
  where
    by : (b : Bool) → cond b (Some (value_of (decimal n))) None ≡ Some n → b ≡ true
    by true e = refl
    by false e = cc

digit_plain : (c : ℕ) → is_ascii_digit c ≡ true → not (is_control c) ≡ true
digit_plain c e = grind (arith, nat_tests)

digits_plain : (text : List ℕ) → list_all is_ascii_digit text ≡ true → list_all (λ c. not (is_control c)) text ≡ true
digits_plain [] e = refl
digits_plain (c ∷ text) e =
    let h = both (is_ascii_digit c) (list_all is_ascii_digit text) e in
    rw (digit_plain c h.0, digits_plain text h.1) refl

-- a letter and a number are a name
letter_name : (letter n : ℕ) → letter < 128 → not (is_control letter) ≡ true → n < 10 ^ 10 → is_name (letter ∷ decimal n) ≡ true
letter_name letter n ascii plain small =
    let text = both (nat_le 1 (length (decimal n))) (nat_le (length (decimal n)) 10 && list_all is_ascii_digit (decimal n)) (printed n small) in
    let rest = both (nat_le (length (decimal n)) 10) (list_all is_ascii_digit (decimal n)) text.1 in
    let few : length (decimal n) ≤ 10 = leb-true (length (decimal n)) 10 rest.0 in
    let all : IsAscii (letter ∷ decimal n) = IsAscii-cons letter (decimal n) ascii (IsAscii-decimal n (omega arith)) in
    let shown : is_plain (letter ∷ decimal n) ≡ true = ap (list_all (λ c. not (is_control c))) (chars-IsAscii (letter ∷ decimal n) all) ∙ rw (plain, digits_plain (decimal n) rest.1) refl in
    sym (is_name-text (letter ∷ decimal n) (IsUtf8-from_ascii (letter ∷ decimal n) all) (omega arith) (omega arith)) ∙ shown

-- numbers that are printed alike are the same
same_number : (a b : ℕ) → a < 10 ^ 10 → b < 10 ^ 10 → decimal a ≡ decimal b → a ≡ b
same_number a b sa sb e = let s : Some a ≡ Some b = sym (number_back a sa) ∙ ap number_of e ∙ number_back b sb in cc

-- names of one letter are the same only where their numbers are
pub letter_once : (letter : ℕ) (a b : ℕ) → a < 10 ^ 10 → b < 10 ^ 10 → named (letter ∷ []) a ≡ named (letter ∷ []) b → a ≡ b
unfolding named
letter_once letter a b sa sb e = let f : decimal a ≡ decimal b = cc in same_number a b sa sb f

-- names of two letters differ
pub letters_apart : (x y : ℕ) (a b : ℕ) → x ≢ y → named (x ∷ []) a ≢ named (y ∷ []) b
unfolding named
letters_apart x y a b apart e = let f : x ≡ y = cc in apart f

pub station_is : (n : ℕ) → n < 10 ^ 10 → is_name (named (codes "S") n) ≡ true
unfolding named
station_is n small = letter_name 83 n (omega arith) refl small

pub onward_is : (n : ℕ) → n < 10 ^ 10 → is_name (named (codes "T") n) ≡ true
unfolding named
onward_is n small = letter_name 84 n (omega arith) refl small

pub back_is : (n : ℕ) → n < 10 ^ 10 → is_name (named (codes "U") n) ≡ true
unfolding named
back_is n small = letter_name 85 n (omega arith) refl small

pub bid_is : (n : ℕ) → n < 10 ^ 10 → is_name (named (codes "b") n) ≡ true
unfolding named
bid_is n small = letter_name 98 n (omega arith) refl small

pub bidder_is : (n : ℕ) → n < 10 ^ 10 → is_name (named (codes "R") n) ≡ true
unfolding named
bidder_is n small = letter_name 82 n (omega arith) refl small

-- the number that a printed number tells
pub number_value : (n : ℕ) → n < 10 ^ 10 → value_of (decimal n) ≡ n
unfolding number_of
number_value n small = by (is_number (decimal n)) (number_back n small)
  where
    by : (b : Bool) → cond b (Some (value_of (decimal n))) None ≡ Some n → value_of (decimal n) ≡ n
    by true e = cc
    by false e = cc

-- the place of a track by its name
pub track_code : Field → ℕ
track_code [] = 0
track_code (b ∷ text) = if b == 84 then 2 * value_of text - 2 else 2 * value_of text - 1

pub track_code_onward : (i : ℕ) → i < 10 ^ 10 → track_code (named (codes "T") i) ≡ 2 * i - 2
unfolding named track_code
track_code_onward i small = ap (λ (n : ℕ). 2 * n - 2) (number_value i small)

pub track_code_back : (i : ℕ) → i < 10 ^ 10 → track_code (named (codes "U") i) ≡ 2 * i - 1
unfolding named track_code
track_code_back i small = ap (λ (n : ℕ). 2 * n - 1) (number_value i small)

-- plain ASCII of 1 to 64 bytes is a name
pub ascii_name : (text : List ℕ) → IsAscii text → 1 ≤ length text → length text ≤ 64 → list_all (λ c. not (is_control c)) text ≡ true → is_name text ≡ true
ascii_name text all some few plain =
    let shown : is_plain text ≡ true = ap (list_all (λ c. not (is_control c))) (chars-IsAscii text all) ∙ plain in
    sym (is_name-text text (IsUtf8-from_ascii text all) some few) ∙ shown
