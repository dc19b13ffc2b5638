-- A table of steps with the steps of one more place.
use Rattle.std.proofs.Common.{◌≡◌, ℕ, ◌+◌, ◌-◌, ◌*◌, ◌≤◌, ◌<◌, ◌⊎◌, inl, inr, Bool, List, [], ◌∷◌, ◌++◌, length, take, drop, sym, ap, ◌∙◌, subst, arith, length-append}
use Rattle.std.specs.Prelude.{slice_index, slice_range}
use Rattle.std.proofs.lemmas.Bool.{cases_lt}
use Rattle.std.proofs.lemmas.List.{take_all, take-append-le, drop-append-le, get_or_append_left, length-drop}
use Rattle.std.proofs.Math.Seq.{drop-append_seam, get_or-append_seam}
use Rattle.optra_network.specs.Net.{Net, out_tracks_of}
use Rattle.optra_bid.specs.Specs.{Path}
use Rattle.optra_graph.specs.declared.states.Layout.{Layout}
use Rattle.optra_graph.specs.declared.step_table.StepTable.{StepTable}
use Rattle.optra_graph.specs.declared.stepping.Step.{Step}
use Rattle.optra_graph.specs.Flags.{IsPassed, IsSet}
use Rattle.optra_graph.specs.Places.{state_of}
use Rattle.optra_graph.specs.Steps.{AreSteps}
use Rattle.optra_graph.proofs.RowLemmas.{row_end, row_here, row_next, row_most, none_first, none_next}
use Rattle.optra_graph.specs.StepTables.{AreListed, AreStepsTo, HasRange, IsGrown, IsEmpty, place_at, place_or, rows_of, steps_at}

pub table_start : (net : Net) (path : Path) (layout : Layout) (flags : List Bool) (table : StepTable) → IsEmpty table → AreStepsTo net path layout 0 flags table
table_start net path layout flags table e =
    let z : rows_of table ≡ 0 = ap length e.places in
    let n : length table.starts.items ≡ 1 = ap length e.starts in
    record {
      count = omega arith;
      last = ap (slice_index table.starts.items) z ∙ ap (λ (xs : List ℕ). slice_index xs 0) e.starts ∙ sym (ap length e.steps);
      rising = λ j k l m. absurd (omega arith);
      within = λ row l. absurd (omega arith);
      listed = λ place l s. absurd (omega arith);
      ranges = λ row l. absurd (omega arith);
      steps = λ row l. absurd (omega arith);
      few = λ row l. absurd (omega arith);
    }

module _ (net : Net) (path : Path) (layout : Layout) (before : ℕ) (flags more : List Bool) (table new : StepTable) (steps : List Step)
    (old : (place : ℕ) → place < before → IsSet more place → IsSet flags place)
    (h : AreStepsTo net path layout before flags table) (added : IsGrown table before steps new) where
  abbrev rows : ℕ
  rows = rows_of table

  start_kept : (row : ℕ) → row ≤ rows → slice_index new.starts.items row ≡ slice_index table.starts.items row
  start_kept row l =
      let n = h.count in
      ap (λ (xs : List ℕ). slice_index xs row) added.starts ∙ get_or_append_left table.starts.items ((length table.steps.items + length steps) ∷ []) 0 row (omega arith)

  start_new : slice_index new.starts.items (rows + 1) ≡ length table.steps.items + length steps
  start_new =
      let n = h.count in
      ap (λ (xs : List ℕ). slice_index xs (rows + 1)) added.starts
      ∙ ap (slice_index (table.starts.items ++ (length table.steps.items + length steps) ∷ [])) (sym n)
      ∙ get_or-append_seam table.starts.items (length table.steps.items + length steps) [] 0

  place_kept : (row : ℕ) → row < rows → place_at new row ≡ place_at table row
  place_kept row l = ap (λ (xs : List ℕ). slice_index xs row) added.places ∙ get_or_append_left table.places.items (before ∷ []) 0 row l

  place_new : place_at new rows ≡ before
  place_new = ap (λ (xs : List ℕ). slice_index xs rows) added.places ∙ get_or-append_seam table.places.items before [] 0

  more_rows : rows_of new ≡ rows + 1
  more_rows = ap length added.places ∙ length-append table.places.items (before ∷ [])

  total : length new.steps.items ≡ length table.steps.items + length steps
  total = ap length added.steps ∙ length-append table.steps.items steps

  part_kept : (a b : ℕ) → a ≤ b → b ≤ length table.steps.items → slice_range (table.steps.items ++ steps) a b ≡ slice_range table.steps.items a b
  part_kept a b l m =
      let e = drop-append-le a table.steps.items steps (omega arith) in
      let n : b - a ≤ length (drop a table.steps.items) = omega (arith, length-drop a table.steps.items) in
      ap (take (b - a)) e ∙ take-append-le (b - a) (drop a table.steps.items) steps n

  steps_kept : (row : ℕ) → row < rows → steps_at new row ≡ steps_at table row
  steps_kept row l =
      let r = h.ranges row l in
      (λ i. slice_range (added.steps i) (start_kept row (omega arith) i) (start_kept (row + 1) (omega arith) i))
      ∙ part_kept (slice_index table.starts.items row) (slice_index table.starts.items (row + 1)) r.ordered r.within

  steps_new : steps_at new rows ≡ steps
  steps_new =
      let a = start_kept rows (omega arith) ∙ h.last in
      let seam = drop-append_seam table.steps.items steps in
      let n : length steps ≤ length table.steps.items + length steps - length table.steps.items = omega arith in
      (λ i. slice_range (added.steps i) (a i) (start_new i))
      ∙ ap (take (length table.steps.items + length steps - length table.steps.items)) seam ∙ take_all (length table.steps.items + length steps - length table.steps.items) steps n

  -- what holds of each row that was there and of the new one holds of each
  each_row : (P : ℕ → Type 0) → ((row : ℕ) → row < rows → P row) → P rows → (row : ℕ) → row < rows_of new → P row
  each_row P kept last row l = by (cases_lt row rows)
    where
      by : (row < rows) ⊎ (rows ≤ row) → P row
      by (inl m) = kept row m
      by (inr m) = let n = more_rows in let e : rows ≡ row = omega arith in subst P e last

  pub table_more : AreSteps net path layout (state_of layout before) steps → length steps ≤ 63 * length (out_tracks_of net.tracks (state_of layout before).station)
      → AreStepsTo net path layout (before + 1) more new
  table_more are fit = record {
    count = let n = h.count in let m = ap length added.starts in omega (arith, n, m, more_rows, length-append table.starts.items ((length table.steps.items + length steps) ∷ []));
    last = ap (slice_index new.starts.items) more_rows ∙ start_new ∙ sym total;
    rising = λ j k l m. each_row (λ k. (j : ℕ) → j < k → place_at new j < place_at new k)
        (λ k m j l. let e = place_kept j (omega arith) in let f = place_kept k m in let r = h.rising j k l m in omega arith)
        (λ j l. let e = place_kept j l in let f = place_new in let w = h.within j l in omega arith) k m j l;
    within = each_row (λ row. place_at new row < before + 1) (λ row l. let e = place_kept row l in let w = h.within row l in omega arith) (let e = place_new in omega arith);
    listed = λ place l s. list place l s (cases_lt place before);
    ranges = each_row (HasRange new)
        (λ row l.
        let r = h.ranges row l in
        let a = start_kept row (omega arith) in
        let b = start_kept (row + 1) (omega arith) in
        let n = h.count in
        let o = r.ordered in
        let w = r.within in
        let c = ap length added.starts in
        record {
          started = omega (arith, n, c, length-append table.starts.items ((length table.steps.items + length steps) ∷ []));
          ordered = omega (arith, a, b, o);
          within = omega (arith, b, w, total);
        })
        (let a = start_kept rows (omega arith) in
        let z = h.last in
        let n = h.count in
        let c = ap length added.starts in
        record {
          started = omega (arith, n, c, length-append table.starts.items ((length table.steps.items + length steps) ∷ []));
          ordered = omega (arith, a, z, start_new);
          within = omega (arith, start_new, total);
        });
    steps = each_row (λ row. AreSteps net path layout (state_of layout (place_at new row)) (steps_at new row))
        (λ row l. subst (λ p. AreSteps net path layout (state_of layout p) (steps_at new row)) (sym (place_kept row l)) (subst (AreSteps net path layout (state_of layout (place_at table row))) (sym (steps_kept row l)) (h.steps row l)))
        (subst (λ p. AreSteps net path layout (state_of layout p) (steps_at new rows)) (sym place_new) (subst (AreSteps net path layout (state_of layout before)) (sym steps_new) are));
    few = each_row (λ row. length (steps_at new row) ≤ 63 * length (out_tracks_of net.tracks (state_of layout (place_at new row)).station))
        (λ row l. subst (λ p. length (steps_at new row) ≤ 63 * length (out_tracks_of net.tracks (state_of layout p).station)) (sym (place_kept row l)) (let e = ap length (steps_kept row l) in let f = h.few row l in omega arith))
        (subst (λ p. length (steps_at new rows) ≤ 63 * length (out_tracks_of net.tracks (state_of layout p).station)) (sym place_new) (let n = ap length steps_new in omega arith));
  }
    where
      list : (place : ℕ) → place < before + 1 → IsSet more place → (place < before) ⊎ (before ≤ place) → (row : ℕ) × (row < rows_of new) × (place_at new row ≡ place)
      list place l s (inl m) = let w = h.listed place m (old place m s) in let n = more_rows in (w.0, omega (arith, n, w.1), place_kept w.0 w.1 ∙ w.2)
      list place l s (inr m) = let e : before ≡ place = omega arith in let n = more_rows in (rows, omega (arith, n), place_new ∙ e)

module _ (net : Net) (path : Path) (layout : Layout) where
  -- places whose flags are not set add no row
  pub table_to : (before next : ℕ) (flags : List Bool) (table : StepTable) → before ≤ next → IsPassed flags before next → AreStepsTo net path layout before flags table → AreStepsTo net path layout next flags table
  table_to before next flags table later passed h = record {
    count = h.count;
    last = h.last;
    rising = h.rising;
    within = λ row l. let w = h.within row l in omega arith;
    listed = λ place l s. list place l s (cases_lt place before);
    ranges = h.ranges;
    steps = h.steps;
    few = h.few;
  }
    where
      list : (place : ℕ) → place < next → IsSet flags place → (place < before) ⊎ (before ≤ place) → (row : ℕ) × (row < rows_of table) × (place_at table row ≡ place)
      list place l s (inl m) = h.listed place m s
      list place l s (inr m) = absurd (passed place m l s)

  -- fewer flags, fewer places that are known to have a row
  pub table_fewer : (before : ℕ) (flags fewer : List Bool) (table : StepTable) → ((place : ℕ) → IsSet fewer place → IsSet flags place)
      → AreStepsTo net path layout before flags table → AreStepsTo net path layout before fewer table
  table_fewer before flags fewer table old h = record {
    count = h.count;
    last = h.last;
    rising = h.rising;
    within = h.within;
    listed = λ place l s. h.listed place l (old place s);
    ranges = h.ranges;
    steps = h.steps;
    few = h.few;
  }

  module _ (end : ℕ) (flags : List Bool) (table : StepTable) (h : AreStepsTo net path layout end flags table) where
    -- the steps that the table gives for a row
    pub steps_of : (row place : ℕ) (steps : List Step) → row < rows_of table → place ≡ place_at table row → steps ≡ steps_at table row → AreSteps net path layout (state_of layout place) steps
    steps_of row place steps l p e = subst (λ q. AreSteps net path layout (state_of layout q) steps) (sym p) (subst (AreSteps net path layout (state_of layout (place_at table row))) (sym e) (h.steps row l))

    pub few_of : (row place : ℕ) (steps : List Step) → row < rows_of table → place ≡ place_at table row → steps ≡ steps_at table row → length steps ≤ 63 * length (out_tracks_of net.tracks (state_of layout place).station)
    few_of row place steps l p e = subst (λ q. length steps ≤ 63 * length (out_tracks_of net.tracks (state_of layout q).station)) (sym p) (let f = h.few row l in let n = ap length e in omega arith)

    -- the places of the rows
    pub listing : AreListed flags end table.places.items
    listing = record { rising = h.rising; within = h.within; listed = h.listed }

    -- behind all rows comes the end
    pub place_end : (row : ℕ) → rows_of table ≤ row → place_or table row end ≡ end
    place_end = row_end end flags table.places.items listing

    pub place_here : (row : ℕ) → row < rows_of table → place_or table row end ≡ place_at table row
    place_here = row_here end flags table.places.items listing

    -- the next row is of a later place, or is the end
    pub place_next : (row : ℕ) → row < rows_of table → place_at table row + 1 ≤ place_or table (row + 1) end
    place_next = row_next end flags table.places.items listing

    pub place_most : (row : ℕ) → place_or table row end ≤ end
    place_most = row_most end flags table.places.items listing

    -- no flag is set before the first row, nor between two rows
    pub gap_first : (place : ℕ) → 0 ≤ place → place < place_or table 0 end → IsSet flags place → ⊥
    gap_first = none_first end flags table.places.items listing

    pub gap_next : (row : ℕ) → row < rows_of table → (place : ℕ) → place_at table row + 1 ≤ place → place < place_or table (row + 1) end → IsSet flags place → ⊥
    gap_next = none_next end flags table.places.items listing
