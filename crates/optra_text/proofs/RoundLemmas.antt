-- Records that are printed one list after another.
use Rattle.std.proofs.Common.{◌≡◌, ℕ, List, [], ◌∷◌, ◌++◌, sym, ap, ◌∙◌}
use Rattle.std.proofs.lemmas.List.{append-nil}
use Rattle.std.proofs.lemmas.List.Concat.{flat_map-append}
use Rattle.optra_records.specs.Reading.{Record}
use Rattle.optra_records.specs.Texts.{record_text, records_text}

-- the first record
pub first-printed : (a b : List ℕ) (line : Record) → a ≡ [] → b ≡ a ++ record_text line → b ≡ records_text (line ∷ [])
first-printed a b line none e = e ∙ ap (λ (t : List ℕ). t ++ record_text line) none ∙ sym (append-nil (record_text line))

-- more records behind those so far
pub more-printed : (a b : List ℕ) (so_far more : List Record) → a ≡ records_text so_far → b ≡ a ++ records_text more → b ≡ records_text (so_far ++ more)
more-printed a b so_far more h e = e ∙ ap (λ (t : List ℕ). t ++ records_text more) h ∙ sym (flat_map-append record_text so_far more)

-- one more record behind them
pub one-printed : (a b : List ℕ) (so_far : List Record) (line : Record) → a ≡ records_text so_far → b ≡ a ++ record_text line → b ≡ records_text (so_far ++ line ∷ [])
one-printed a b so_far line h e = more-printed a b so_far (line ∷ []) h (e ∙ ap (λ (t : List ℕ). a ++ t) (sym (append-nil (record_text line))))
