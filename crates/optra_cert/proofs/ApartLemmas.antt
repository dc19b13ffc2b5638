-- Kinds of rows have different words where the test of it passes.
use Rattle.std.proofs.Common.{◌≡◌, ◌≢◌, [], ◌∷◌, true, false, Bool, List, not, refl, sym, arith, bytes_eq, true≢false}
use Rattle.std.specs.Prelude.{All}
use Rattle.std.specs.List.{list_all}
use Rattle.std.proofs.lemmas.Bool.{and_parts}
use Rattle.std.proofs.lemmas.List.Elements.{All-nil, All-cons}
use Rattle.std.proofs.lemmas.List.Kept.{AllPairs-cons}
use Rattle.std.proofs.lemmas.Slice.Eq.{bytes_eq-Decides}
use Rattle.optra_cert.specs.Headways.{headway_texts}
use Rattle.optra_cert.specs.Kinds.{are_apart}
use Rattle.optra_cert.specs.RowTexts.{AreApart, RowKind}

abbrev Differ : RowKind → RowKind → Type 0
Differ a b = a.word ≢ b.word

words_differ : (a b : RowKind) → not (bytes_eq a.word b.word) ≡ true → Differ a b
words_differ a b e same = by (bytes_eq a.word b.word) ((bytes_eq-Decides a.word b.word).1 same) e
  where
    by : (t : Bool) → t ≡ true → not t ≡ true → ⊥
    by true s e = true≢false (sym e)
    by false s e = true≢false (sym s)

all_differ : (kind : RowKind) (kinds : List RowKind) → list_all (λ (other : RowKind). not (bytes_eq kind.word other.word)) kinds ≡ true → All (Differ kind) kinds
all_differ kind [] e = All-nil (Differ kind)
all_differ kind (other ∷ kinds) e =
    let parts = and_parts (not (bytes_eq kind.word other.word)) _ e in
    All-cons (Differ kind) other kinds (words_differ kind other parts.0) (all_differ kind kinds parts.1)

-- kinds whose words the test finds to differ are apart
pub apart_from : (kinds : List RowKind) → are_apart kinds ≡ true → AreApart kinds
apart_from [] e = λ i j d before within. absurd (omega (arith, within))
apart_from (kind ∷ kinds) e =
    let parts = and_parts _ (are_apart kinds) e in
    AllPairs-cons Differ kind kinds (all_differ kind kinds parts.0) (apart_from kinds parts.1)

pub headways_apart : AreApart headway_texts.kinds
headways_apart = apart_from headway_texts.kinds refl
