-- Texts that are printed one behind another.
use Rattle.std.proofs.Common.{◌≡◌, ℕ, List, [], ◌∷◌, ◌++◌, ap, sym, ◌∙◌, append_assoc}
use Rattle.std.proofs.lemmas.List.{append-nil}
use Rattle.std.proofs.lemmas.Grind.{flat_map-append}
use Rattle.optra_records.specs.Reading.{Record}
use Rattle.optra_records.specs.Texts.{record_text, records_text}

regroup : (o a b c d : List ℕ) → (((o ++ a) ++ b) ++ c) ++ d ≡ o ++ (a ++ (b ++ (c ++ d)))
regroup o a b c d = simp append_assoc

-- a record, two lists of records and a record behind a text
pub four_pieces : (old one two three new : List ℕ) (a : Record) (b c : List Record) (d : Record)
    → one ≡ old ++ record_text a → two ≡ one ++ records_text b → three ≡ two ++ records_text c → new ≡ three ++ record_text d → new ≡ old ++ records_text (a ∷ (b ++ (c ++ d ∷ [])))
four_pieces old one two three new a b c d e f g h =
    let parts : new ≡ (((old ++ record_text a) ++ records_text b) ++ records_text c) ++ record_text d =
    h ∙ ap (λ (t : List ℕ). t ++ record_text d) (g ∙ ap (λ (t : List ℕ). t ++ records_text c) (f ∙ ap (λ (t : List ℕ). t ++ records_text b) e)) in
    let last : records_text (c ++ d ∷ []) ≡ records_text c ++ record_text d = flat_map-append record_text c (d ∷ []) ∙ ap (λ (t : List ℕ). records_text c ++ t) (append-nil (record_text d)) in
    let rest : records_text (b ++ (c ++ d ∷ [])) ≡ records_text b ++ (records_text c ++ record_text d) = flat_map-append record_text b (c ++ d ∷ []) ∙ ap (λ (t : List ℕ). records_text b ++ t) last in
    parts ∙ regroup old (record_text a) (records_text b) (records_text c) (record_text d) ∙ ap (λ (t : List ℕ). old ++ (record_text a ++ t)) (sym rest)
