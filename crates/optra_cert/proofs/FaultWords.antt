-- What is known of the records before, where one record more stands behind them.
use Rattle.std.proofs.Common.{◌≡◌, ◌+◌, ◌-◌, ◌++◌, ◌==◌, ℕ, Bool, true, false, List, [], ◌∷◌, length, Option, Some, None, refl, sym, ap, ◌∙◌, arith, codes, cond, bytes_eq}
use Rattle.std.specs.Prelude.{Result, Ok, Err, count_by}
use Rattle.std.specs.List.{list_any}
use Rattle.std.proofs.lemmas.Bool.{ne_eqb, eq-eqb, eqb-true, eqb-false}
use Rattle.std.proofs.lemmas.List.{get_or_push, length_push}
use Rattle.std.proofs.lemmas.List.Sums.{fold_push, sum_by_push}
use Rattle.std.proofs.lemmas.Option.{unwrap_or-slice_get}
use Rattle.optra_records.specs.Reading.{Field, Record}
use Rattle.optra_cert.specs.Faults.{fault_of, is_one_of, last_of, number_at, or_then, prices_due, row_fault}
use Rattle.optra_cert.specs.Forms.{field_at}
use Rattle.optra_cert.specs.Outcomes.{◌>>=◌, row_or_fault}
use Rattle.optra_cert.specs.declared.CertCode.{CertCode}
use Rattle.optra_cert.specs.declared.CertCode.TheVariants as code
use Rattle.optra_cert.specs.declared.row_text.RowRead.{RowRead}
use Rattle.optra_cert.specs.declared.row_text.RowRead.TheVariants as read

-- ---- one record more

pub last_push : (before : List Record) (fields : Record) → last_of (before ++ fields ∷ []) ≡ fields
last_push before fields =
    let long = length_push before fields in
    unwrap_or-slice_get (before ++ fields ∷ []) (length (before ++ fields ∷ []) - 1) [] ∙ get_or_push before fields [] (length (before ++ fields ∷ []) - 1) (omega (arith, long))

pub due_push : (before : List Record) (fields : Record) → prices_due (before ++ fields ∷ []) ≡ cond (is_one_of (codes "priced" ∷ []) fields) (number_at fields 1) (prices_due before - 1)
due_push before fields = fold_push (λ (due : ℕ) (row : Record). cond (is_one_of (codes "priced" ∷ []) row) (number_at row 1) (due - 1)) 0 before fields

pub count_push : (words : List Field) (before : List Record) (fields : Record) → count_by (is_one_of words) (before ++ fields ∷ []) ≡ count_by (is_one_of words) before + cond (is_one_of words fields) 1 0
count_push words before fields = sum_by_push (λ (row : Record). cond (is_one_of words row) 1 0) before fields

-- whether a record has one of some words, where its word is known
pub has_word : (fields : Record) (word : Field) (words : List Field) (b : Bool) → field_at fields 0 ≡ word → list_any (bytes_eq word) words ≡ b → is_one_of words fields ≡ b
has_word fields word words b same e = ap (λ (w : Field). list_any (bytes_eq w) words) same ∙ e

-- ---- faults of steps

pub or_none : (o : Option CertCode) → or_then o None ≡ o
or_none None = refl
or_none (Some c) = refl

-- what goes on without a fault has that of what went before
pub fault_before : {A B : Type 0} (r : Result A CertCode) (f : A → Result B CertCode) → ((a : A) → fault_of (f a) ≡ None) → fault_of (r >>= f) ≡ fault_of r
fault_before (Ok a) f none = none a
fault_before (Err c) f none = refl

-- what goes on has its own fault, or that of what went before
pub fault_then : {A B : Type 0} (r : Result A CertCode) (f : A → Result B CertCode) (later : Option CertCode) → ((a : A) → r ≡ Ok a → fault_of (f a) ≡ later) → or_then (fault_of r) later ≡ fault_of (r >>= f)
fault_then (Ok a) f later same = sym (same a refl)
fault_then (Err c) f later same = refl

pub row_fault_is : {R : Type 0} (r : RowRead R) → row_fault r ≡ fault_of (row_or_fault r)
row_fault_is (read.Row row) = refl
row_fault_is read.Kind = refl
row_fault_is read.Name = refl
row_fault_is read.Number = refl

-- ---- where the tree is whole

pub same_zero : (ways leaves splits : ℕ) → ways + leaves ≡ splits + 1 → (leaves == splits + 1) ≡ (ways == 0)
same_zero ways leaves splits e = by (ways == 0) refl
  where
    by : (b : Bool) → (ways == 0) ≡ b → (leaves == splits + 1) ≡ b
    by true f = let none = eqb-true ways 0 f in eq-eqb leaves (splits + 1) (omega (arith, e, none))
    by false f = let some = eqb-false ways 0 f in ne_eqb leaves (splits + 1) (λ same. some (omega (arith, e, same)))
