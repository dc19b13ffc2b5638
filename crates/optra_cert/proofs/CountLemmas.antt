-- Two families have no more rows together than each by itself.
use Rattle.std.proofs.Common.{◌≡◌, ◌+◌, ◌∷◌, [], true, List, length, refl, sym, ◌∙◌, suc, arith}
use Rattle.std.specs.Prelude.{All}
use Rattle.std.specs.List.{AllPairs}
use Rattle.std.specs.declared.cmp.Ordering.{Ordering}
use Rattle.std.specs.declared.cmp.Ordering.TheVariants.{Less}
use Rattle.std.proofs.lemmas.List.Elements.{All-nil, All-cons, All-head, All-tail}
use Rattle.std.proofs.lemmas.List.Kept.{AllPairs-cons}
use Rattle.optra_walk.specs.Families.{Rows}
use Rattle.optra_rows.specs.declared.joining.Either.{Either}
use Rattle.optra_rows.specs.declared.joining.Either.TheVariants.{First, Second}
use Rattle.optra_rows.specs.Eithers.{both_rows}
use Rattle.optra_cert.specs.Counts.{AreFewTogether}

module _ {P Q : Type 0} where
  -- the rows of the first family in a list of rows of both, and those of the second
  abbrev firsts : List (Either P Q) → List P
  firsts [] = []
  firsts (First p ∷ rows) = p ∷ firsts rows
  firsts (Second q ∷ rows) = firsts rows

  abbrev seconds : List (Either P Q) → List Q
  seconds [] = []
  seconds (First p ∷ rows) = seconds rows
  seconds (Second q ∷ rows) = q ∷ seconds rows

  counted : (rows : List (Either P Q)) → length rows ≡ length (firsts rows) + length (seconds rows)
  counted [] = refl
  counted (First p ∷ rows) = let more = counted rows in omega (arith, more)
  counted (Second q ∷ rows) = let more = counted rows in omega (arith, more)

  firsts_keep : (A : Either P Q → Type 0) (B : P → Type 0) → ((p : P) → A (First p) → B p) → (rows : List (Either P Q)) → All A rows → All B (firsts rows)
  firsts_keep A B h [] all = All-nil B
  firsts_keep A B h (First p ∷ rows) all = All-cons B p (firsts rows) (h p (All-head A (First p) rows all)) (firsts_keep A B h rows (All-tail A (First p) rows all))
  firsts_keep A B h (Second q ∷ rows) all = firsts_keep A B h rows (All-tail A (Second q) rows all)

  seconds_keep : (A : Either P Q → Type 0) (B : Q → Type 0) → ((q : Q) → A (Second q) → B q) → (rows : List (Either P Q)) → All A rows → All B (seconds rows)
  seconds_keep A B h [] all = All-nil B
  seconds_keep A B h (First p ∷ rows) all = seconds_keep A B h rows (All-tail A (First p) rows all)
  seconds_keep A B h (Second q ∷ rows) all = All-cons B q (seconds rows) (h q (All-head A (Second q) rows all)) (seconds_keep A B h rows (All-tail A (Second q) rows all))

  module _ (cmp_p : P → P → Ordering) (cmp_q : Q → Q → Ordering) (cmp : Either P Q → Either P Q → Ordering)
      (by_first : (a b : P) → cmp (First a) (First b) ≡ cmp_p a b) (by_second : (a b : Q) → cmp (Second a) (Second b) ≡ cmp_q a b) where
    abbrev Before : Either P Q → Either P Q → Type 0
    Before a b = cmp a b ≡ Less

    behind : (row : Either P Q) (rows : List (Either P Q)) → AllPairs Before (row ∷ rows) → All (Before row) rows
    behind row rows ascend = λ k d within. ascend 0 (suc k) d (omega arith) (omega arith)

    rest : (row : Either P Q) (rows : List (Either P Q)) → AllPairs Before (row ∷ rows) → AllPairs Before rows
    rest row rows ascend = λ i j d before within. ascend (suc i) (suc j) d (omega arith) (omega arith)

    firsts_ascend : (rows : List (Either P Q)) → AllPairs Before rows → AllPairs (λ a b. cmp_p a b ≡ Less) (firsts rows)
    firsts_ascend [] ascend = λ i j d before within. absurd (omega (arith, within))
    firsts_ascend (First p ∷ rows) ascend =
        AllPairs-cons (λ a b. cmp_p a b ≡ Less) p (firsts rows)
        (firsts_keep (Before (First p)) (λ b. cmp_p p b ≡ Less) (λ b l. sym (by_first p b) ∙ l) rows (behind (First p) rows ascend))
        (firsts_ascend rows (rest (First p) rows ascend))
    firsts_ascend (Second q ∷ rows) ascend = firsts_ascend rows (rest (Second q) rows ascend)

    seconds_ascend : (rows : List (Either P Q)) → AllPairs Before rows → AllPairs (λ a b. cmp_q a b ≡ Less) (seconds rows)
    seconds_ascend [] ascend = λ i j d before within. absurd (omega (arith, within))
    seconds_ascend (First p ∷ rows) ascend = seconds_ascend rows (rest (First p) rows ascend)
    seconds_ascend (Second q ∷ rows) ascend =
        AllPairs-cons (λ a b. cmp_q a b ≡ Less) q (seconds rows)
        (seconds_keep (Before (Second q)) (λ b. cmp_q q b ≡ Less) (λ b l. sym (by_second q b) ∙ l) rows (behind (Second q) rows ascend))
        (seconds_ascend rows (rest (Second q) rows ascend))

    pub few_together : (p : Rows P) (q : Rows Q) → AreFewTogether cmp_p cmp_q cmp p q
    few_together p q m n few_p few_q rows ascend all =
        let own = few_p (firsts rows) (firsts_ascend rows ascend)
        (firsts_keep (λ row. (both_rows p q).is_row row ≡ true) (λ row. p.is_row row ≡ true) (λ row is. is) rows all) in
        let other = few_q (seconds rows) (seconds_ascend rows ascend)
        (seconds_keep (λ row. (both_rows p q).is_row row ≡ true) (λ row. q.is_row row ≡ true) (λ row is. is) rows all) in
        let sum = counted rows in
        omega (arith, own, other, sum)
