-- The fields of a record tell what it was written of, and what is written of what they tell are the fields.
use Rattle.std.proofs.Common.{◌≡◌, ◌<◌, ◌≤◌, ◌^◌, ◌+◌, ◌-◌, ◌++◌, ℕ, [], ◌∷◌, length, Option, Some, None, refl, ap, ◌∙◌, subst, arith, ℤ, pos, negsuc, lit<}
use Rattle.std.specs.Prelude.{Result, Ok, Err}
use Rattle.std.specs.Fmt.{decimal, signed_decimal}
use Rattle.std.proofs.lemmas.List.{take_at, drop_at, take-append-drop, length_push}
use Rattle.std.proofs.lemmas.Int.{ints}
use Rattle.optra_network.specs.Net.{Net, IsBuilt, IsFromTo}
use Rattle.optra_records.specs.Numbers.{plain_number_of}
use Rattle.optra_records.specs.Reading.{Field, Record}
use Rattle.optra_cert.specs.Columns.{in_range}
use Rattle.optra_cert.specs.RowTexts.{RowTexts, AreApart, AreTexts, read_row, row_fields}
use Rattle.optra_cert.specs.Certs.{IsAmount, IsListed}
use Rattle.optra_cert.specs.Forms.{but_last, last_alone}
use Rattle.optra_cert.specs.Outcomes.{◌>>=◌, row_or_fault}
use Rattle.optra_cert.specs.RecordFields.{or_fault, number_told, count_told, amount_told, bid_told, price_told}
use Rattle.optra_cert.specs.declared.CertCode.TheVariants as codes
use Rattle.optra_cert.specs.declared.row_text.RowRead.{RowRead}
use Rattle.optra_cert.specs.declared.row_text.RowRead.TheVariants as read
use Rattle.optra_cert.proofs.ColumnLemmas.{number_shown, shown_number}
use Rattle.optra_cert.proofs.RowLemmas.{row_back, row_told}

-- what goes on with a value gave one
pub bind_ok : {A B E : Type 0} (r : Result A E) (f : A → Result B E) (b : B) → (r >>= f) ≡ Ok b → (a : A) × (r ≡ Ok a) × (f a ≡ Ok b)
bind_ok (Ok a) f b e = (a, refl, e)
bind_ok (Err x) f b e = absurd (cc e)

pub row_read : {R : Type 0} (r : RowRead R) (row : R) → row_or_fault r ≡ Ok row → r ≡ read.Row row
row_read (read.Row other) row e = let same : other ≡ row = cc e in ap read.Row same
row_read read.Kind row e = absurd (cc e)
row_read read.Name row e = absurd (cc e)
row_read read.Number row e = absurd (cc e)

-- ---- one number alone

or_fault_some : (o : Option ℕ) (n : ℕ) → or_fault codes.Number o ≡ Ok n → o ≡ Some n
or_fault_some None n e = absurd (cc e)
or_fault_some (Some m) n e = let same : m ≡ n = cc e in ap Some same

-- the number that is told alone is that of the field
pub number_is : (low high : ℕ) (fields : Record) (n : ℕ) → high < 10 ^ 18 → number_told low high fields ≡ Ok n → IsFromTo low high n × (decimal n ∷ [] ≡ fields)
number_is low high [] n few e = absurd (cc e)
number_is low high (field ∷ []) n few e =
    let h = shown_number low high field n few (or_fault_some (in_range low high (plain_number_of field)) n e) in
    (h.0, ap (λ (f : Field). f ∷ []) h.1)
number_is low high (field ∷ next ∷ rest) n few e = absurd (cc e)

pub number_back : (low high n : ℕ) → high < 10 ^ 18 → low ≤ n → n ≤ high → number_told low high (decimal n ∷ []) ≡ Ok n
number_back low high n few least most = ap (or_fault codes.Number) (number_shown low high n few least most)

pub count_is : (fields : Record) (n : ℕ) → count_told fields ≡ Ok n → (n < 10 ^ 18) × (decimal n ∷ [] ≡ fields)
count_is fields n e =
    let told = number_is 0 (10 ^ 18 - 1) fields n (lit< tt) e in
    let most = told.0.1 in
    (omega (arith, most), told.1)

pub count_back : (n : ℕ) → n < 10 ^ 18 → count_told (decimal n ∷ []) ≡ Ok n
count_back n few = number_back 0 (10 ^ 18 - 1) n (lit< tt) (omega arith) (omega (arith, few))

pub amount_is : (fields : Record) (amount : ℤ) → amount_told fields ≡ Ok amount → IsAmount amount × (signed_decimal amount ∷ [] ≡ fields)
unfolding amount_told
amount_is fields amount e =
    let h = bind_ok (count_told fields) (λ n. Ok (pos n)) amount e in
    let same : pos h.0 ≡ amount = cc h.2 in
    let told = count_is fields h.0 h.1 in
    let few = told.0 in
    subst (λ (a : ℤ). IsAmount a × (signed_decimal a ∷ [] ≡ fields)) same ((omega (arith, ints), omega (arith, ints, few)), told.1)

pub amount_back : (amount : ℤ) → IsAmount amount → amount_told (signed_decimal amount ∷ []) ≡ Ok amount
unfolding amount_told
amount_back (pos n) is = let few = is.1 in rw (count_back n (omega (arith, ints, few))) refl
amount_back (negsuc n) is = let least = is.0 in absurd (omega (arith, ints, least))

pub bid_is : (bids : ℕ) (fields : Record) (bid : ℕ) → bids < 10 ^ 18 → bid_told bids fields ≡ Ok bid → (bid < bids) × (decimal (bid + 1) ∷ [] ≡ fields)
unfolding bid_told
bid_is bids fields bid few e =
    let h = bind_ok (number_told 1 bids fields) (λ n. Ok (n - 1)) bid e in
    let same : h.0 - 1 ≡ bid = cc h.2 in
    let told = number_is 1 bids fields h.0 few h.1 in
    let least = told.0.0 in
    let most = told.0.1 in
    let next : h.0 ≡ bid + 1 = omega (arith, same, least) in
    (omega (arith, next, most), subst (λ (k : ℕ). decimal k ∷ [] ≡ fields) next told.1)

pub bid_back : (bids bid : ℕ) → bids < 10 ^ 18 → bid < bids → bid_told bids (decimal (bid + 1) ∷ []) ≡ Ok bid
unfolding bid_told
bid_back bids bid few within =
    let before : bid + 1 - 1 ≡ bid = omega arith in
    rw (number_back 1 bids (bid + 1) few (omega arith) (omega (arith, within))) (ap Ok before)

-- ---- a row and its price

-- the parts of fields behind which one more stands
but_last_is : (xs : Record) (y : Field) → but_last (xs ++ y ∷ []) ≡ xs
but_last_is xs y = let long = length_push xs y in take_at xs (y ∷ []) (length (xs ++ y ∷ []) - 1) (omega (arith, long))

last_alone_is : (xs : Record) (y : Field) → last_alone (xs ++ y ∷ []) ≡ y ∷ []
last_alone_is xs y = let long = length_push xs y in drop_at xs (y ∷ []) (length (xs ++ y ∷ []) - 1) (omega (arith, long))

parts_are : (fields : Record) → but_last fields ++ last_alone fields ≡ fields
parts_are fields = take-append-drop (length fields - 1) fields

module _ {R : Type 0} (texts : RowTexts R) (apart : AreApart texts.kinds) (are : AreTexts texts) (net : Net) (built : IsBuilt net) (version : ℕ) where
  pub price_is : (fields : Record) (entry : R × ℤ) → price_told texts net version fields ≡ Ok entry
      → IsListed texts net version entry × (row_fields texts net entry.0 ++ signed_decimal entry.1 ∷ [] ≡ fields)
  unfolding price_told
  price_is fields entry e =
      let first = bind_ok (row_or_fault (read_row texts net version (but_last fields))) (λ row. amount_told (last_alone fields) >>= λ amount. Ok (row, amount)) entry e in
      let second = bind_ok (amount_told (last_alone fields)) (λ amount. Ok (first.0, amount)) entry first.2 in
      let same : (first.0, second.0) ≡ entry = cc second.2 in
      let row = row_told texts apart are net built version (but_last fields) first.0 (row_read (read_row texts net version (but_last fields)) first.0 first.1) in
      let amount = amount_is (last_alone fields) second.0 second.1 in
      subst (λ (e : R × ℤ). IsListed texts net version e × (row_fields texts net e.0 ++ signed_decimal e.1 ∷ [] ≡ fields)) same
      ((row.0, amount.0), ap (λ (t : Record). t ++ signed_decimal second.0 ∷ []) row.1 ∙ ap (λ (t : Record). but_last fields ++ t) amount.1 ∙ parts_are fields)

  pub price_row_back : (entry : R × ℤ) → IsListed texts net version entry → read_row texts net version (but_last (row_fields texts net entry.0 ++ signed_decimal entry.1 ∷ [])) ≡ read.Row entry.0
  price_row_back entry is = rw (but_last_is (row_fields texts net entry.0) (signed_decimal entry.1)) (row_back texts apart are net built version entry.0 is.0)

  pub price_back : (entry : R × ℤ) → IsListed texts net version entry → price_told texts net version (row_fields texts net entry.0 ++ signed_decimal entry.1 ∷ []) ≡ Ok entry
  unfolding price_told
  price_back entry is =
      rw (price_row_back entry is, last_alone_is (row_fields texts net entry.0) (signed_decimal entry.1), amount_back entry.1 is.1) refl
