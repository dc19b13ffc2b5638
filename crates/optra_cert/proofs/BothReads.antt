-- What the two families of both are asked, and what they answer.
use Rattle.std.proofs.Common.{◌≡◌, ℕ, sym, ap, ◌∙◌}
use Rattle.optra_network.specs.Net.{Net}
use Rattle.optra_records.specs.Reading.{Record}
use Rattle.optra_cert.specs.RowTexts.{RowTexts, AreApart, AreTexts, read_row}
use Rattle.optra_cert.specs.Boths.{both_texts, lesser, read_either}
use Rattle.optra_cert.specs.BothLemmas.{both_read}
use Rattle.optra_cert.specs.declared.row_text.RowRead.{RowRead}

-- a family that is asked with the lesser version
pub asked : {R : Type 0} (texts : RowTexts R) (net : Net) (version own least : ℕ) (cells : Record) (read told : RowRead R) → own ≡ texts.version → least ≡ lesser version own → read ≡ read_row texts net least cells → read ≡ told
    → read_row texts net (lesser version texts.version) cells ≡ told
asked texts net version own least cells read told e1 e2 e3 e4 = sym (e3 ∙ ap (λ (n : ℕ). read_row texts net n cells) (e2 ∙ ap (lesser version) e1)) ∙ e4

module _ {P Q : Type 0} (p : RowTexts P) (q : RowTexts Q) (apart : AreApart (both_texts p q).kinds) (tp : AreTexts p) (tq : AreTexts q) (net : Net) (version : ℕ) (cells : Record) where
  -- what both answer
  pub both_answer : (first : RowRead P) (second : RowRead Q) → read_row p net (lesser version p.version) cells ≡ first → read_row q net (lesser version q.version) cells ≡ second
      → read_either first second ≡ read_row (both_texts p q) net version cells
  both_answer first second e f =
      sym (both_read p q apart tp tq net version cells ∙ ap (λ (r : RowRead P). read_either r (read_row q net (lesser version q.version) cells)) e ∙ ap (λ (r : RowRead Q). read_either first r) f)
