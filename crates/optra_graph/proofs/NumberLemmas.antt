-- The numbers of the kept places, given row by row.
use Rattle.std.proofs.Common.{◌≡◌, ℕ, ◌+◌, ◌-◌, ◌≤◌, ◌<◌, ◌⊎◌, inl, inr, Bool, false, List, length, get_or, set, sym, ap, ◌∙◌, subst, arith, add-one, length-set, get_or-set_other, get_or-set_same}
use Rattle.std.specs.Prelude.{slice_index, slice_index_or}
use Rattle.std.proofs.lemmas.Bool.{cases_lt}
use Rattle.std.proofs.Math.Nat.{eq-or-lt_of_le}
use Rattle.optra_graph.specs.Flags.{is_set, IsSet}
use Rattle.optra_graph.specs.Nodes.{kept_before, node_of, AreNumbers}
use Rattle.optra_graph.specs.StepTables.{AreListed}
use Rattle.optra_graph.proofs.FlagLemmas.{set_within}
use Rattle.optra_graph.proofs.NodeLemmas.{kept_few, kept_yes, kept_no, kept_none}
use Rattle.optra_graph.proofs.RowLemmas.{row_end, row_here, row_next, none_first, none_next}

module _ (flags : List Bool) where
  -- the kept places before one have their numbers
  abbrev pub AreBefore : ℕ → List ℕ → Type 0
  AreBefore before numbers = (place : ℕ) → place < before → IsSet flags place → get_or numbers place 0 ≡ node_of flags place

  -- what is kept before a place and before a later one is the same where no flag between them is set
  same_node : (i j : ℕ) → i ≤ j → ((place : ℕ) → i ≤ place → place < j → IsSet flags place → ⊥) → node_of flags j ≡ node_of flags i
  same_node i j l none =
      let s : i + (j - i) ≡ j = omega arith in
      let e = kept_none flags i (j - i) (λ place a b. none place a (omega arith)) in
      let f = ap (kept_before flags) s in
      omega arith

  -- one more number, and none up to a later place
  before_more : (numbers : List ℕ) (place next x : ℕ) → place < length numbers → x ≡ node_of flags place
      → ((p : ℕ) → place + 1 ≤ p → p < next → IsSet flags p → ⊥) → AreBefore place numbers → AreBefore next (set numbers place x)
  before_more numbers place next x w e none h p l s = by (cases_lt p place)
    where
      on : (place ≡ p) ⊎ (place < p) → get_or (set numbers place x) p 0 ≡ node_of flags p
      on (inl t) = subst (λ q. get_or (set numbers place x) q 0 ≡ node_of flags q) t (get_or-set_same numbers place x 0 w ∙ e)
      on (inr m) = absurd (none p (omega arith) l s)

      by : (p < place) ⊎ (place ≤ p) → get_or (set numbers place x) p 0 ≡ node_of flags p
      by (inl m) = get_or-set_other numbers place p x 0 (λ t. omega (arith, t)) ∙ h p m s
      by (inr m) = on (eq-or-lt_of_le m)

  -- at last the end has the next number
  pub numbers_all : (numbers : List ℕ) (end x : ℕ) → length flags ≤ length numbers → 0 < length flags → end ≡ length flags - 1 → x ≡ node_of flags end
      → AreBefore end numbers → AreNumbers flags (set numbers end x)
  numbers_all numbers end x n some z e h = record {
    len = omega (arith, length-set numbers end x, n);
    each = λ place s. let l = set_within flags place s in
        before_more numbers end (length flags) x (omega arith) e (λ p a b t. omega arith) h place l s;
    end = subst (λ p. get_or (set numbers end x) p 0 ≡ node_of flags p) z (get_or-set_same numbers end x 0 (omega arith) ∙ e);
  }

  -- the number that stands at the end
  pub end_number : (numbers : List ℕ) (end : ℕ) → length flags ≡ end + 1 → AreNumbers flags numbers → get_or numbers end 0 ≡ node_of flags end
  end_number numbers end n h = let e : length flags - 1 ≡ end = omega arith in subst (λ p. get_or numbers p 0 ≡ node_of flags p) e h.end

  module _ (end : ℕ) (places : List ℕ) (listed : AreListed flags end places) where
    pub next_start : 1 ≡ node_of flags (slice_index_or places 0 end)
    next_start =
        let e = same_node 0 (slice_index_or places 0 end) (omega arith) (none_first end flags places listed) in
        let z = kept_few flags 0 in
        omega arith

    pub before_start : (numbers : List ℕ) → AreBefore (slice_index_or places 0 end) numbers
    before_start numbers place l s = absurd (none_first end flags places listed place (omega arith) l s)

    -- the next number behind a row, by whether its place is kept
    behind : (row : ℕ) → row < length places → node_of flags (slice_index_or places (row + 1) end) ≡ node_of flags (slice_index places row + 1)
    behind row l = same_node (slice_index places row + 1) (slice_index_or places (row + 1) end) (row_next end flags places listed row l) (none_next end flags places listed row l)

    pub next_yes : (row place next : ℕ) → row < length places → place ≡ slice_index places row → IsSet flags place
        → next ≡ node_of flags (slice_index_or places row end) → next + 1 ≡ node_of flags (slice_index_or places (row + 1) end)
    next_yes row place next l p s n =
        let k = kept_yes flags (slice_index places row) (subst (IsSet flags) p s) in
        let t = ap (kept_before flags) (add-one (slice_index places row)) in
        let b = behind row l in
        let e = ap (kept_before flags) (row_here end flags places listed row l) in
        omega arith

    pub next_no : (row place next : ℕ) → row < length places → place ≡ slice_index places row → is_set flags place ≡ false
        → next ≡ node_of flags (slice_index_or places row end) → next ≡ node_of flags (slice_index_or places (row + 1) end)
    next_no row place next l p s n =
        let k = kept_no flags (slice_index places row) (subst (λ q. is_set flags q ≡ false) p s) in
        let t = ap (kept_before flags) (add-one (slice_index places row)) in
        let b = behind row l in
        let e = ap (kept_before flags) (row_here end flags places listed row l) in
        omega arith

    pub row_more : (numbers : List ℕ) (row place next : ℕ) → row < length places → place ≡ slice_index places row → place < length numbers
        → next ≡ node_of flags (slice_index_or places row end) → AreBefore (slice_index_or places row end) numbers
        → AreBefore (slice_index_or places (row + 1) end) (set numbers place next)
    row_more numbers row place next l p w n h =
        let here = row_here end flags places listed row l ∙ sym p in
        before_more numbers place (slice_index_or places (row + 1) end) next w (n ∙ ap (node_of flags) here)
        (λ q a b s. none_next end flags places listed row l q (omega (arith, p, a)) b s)
        (subst (λ q. AreBefore q numbers) here h)

    pub rows_all : (numbers : List ℕ) (row last next : ℕ) → length places ≤ row → length flags ≤ length numbers → 0 < length flags → end ≡ length flags - 1 → last ≡ end
        → next ≡ node_of flags (slice_index_or places row end) → AreBefore (slice_index_or places row end) numbers → AreNumbers flags (set numbers last next)
    rows_all numbers row last next l len some z same n h =
        let e = row_end end flags places listed row l ∙ sym same in
        numbers_all numbers last next len some (same ∙ z) (n ∙ ap (node_of flags) e) (subst (λ q. AreBefore q numbers) e h)
