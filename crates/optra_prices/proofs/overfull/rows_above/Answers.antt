use Rattle.std.proofs.Common.{◌≡◌, ℕ, ◌+◌, ◌<◌, true, false, Some, length, slice_get, slice_index, refl, sym, ap, ◌∙◌, subst}
use Rattle.std.proofs.lemmas.List.{get_or_default}
use Rattle.std.proofs.lemmas.Option.{slice_get_read}
use Rattle.optra_prices.specs.Overfull.{IsAbove, ListsAboveTo}
use Rattle.optra_prices.proofs.OverfullLemmas.{above_pushed, above_passed}
use Rattle.optra_prices.proofs.overfull.rows_above.Goals as goal
use Rattle.optra_prices.proofs.overfull.rows_above.Goals.{then-is_above+in_ok-push, else-is_above}

clash : true ≡ false → ⊥
clash e = cc

pub is_above-requires-clause-within : goal.is_above-requires-clause-within
is_above-requires-clause-within g c =
    let levels = c.args.levels.now in
    let active = levels.active.items in
    let k = c.loop-k.k in
    let here : k < length active = subst (λ (n : ℕ). k < n) (c.len-k-end.ensures ∙ levels.active.ok.0) c.loop-k-test.true in
    let number : c.index-number.result.now ≡ slice_index active k = c.index-number.ensures ∙ get_or_default active k c.index-number.result.now 0 here in
    subst (λ (n : ℕ). n < length levels.prices.items) (sym number) (c.requires.levels.within k 0 here)

pub at-requires : goal.at-requires
at-requires g c =
    let levels = c.args.levels.now in
    let active = levels.active.items in
    let k = c.loop-k.k in
    let here : k < length active = subst (λ (n : ℕ). k < n) (c.len-k-end.ensures ∙ levels.active.ok.0) c.loop-k-test.true in
    let number : c.index-number.result.now ≡ slice_index active k = c.index-number.ensures ∙ get_or_default active k c.index-number.result.now 0 here in
    subst (λ (n : ℕ). c.index-number.result.now < n) c.requires.count (subst (λ (n : ℕ). n < length levels.prices.items) (sym number) (c.requires.levels.within k 0 here))

pub loop-k-preserved : goal.loop-k-preserved
loop-k-preserved g c =
    let numbered = c.args.numbered.now.items in
    let levels = c.args.levels.now in
    let active = levels.active.items in
    let k = c.loop-k.k in
    let listed = c.loop-k.listed.items in
    let here : k < length active = subst (λ (n : ℕ). k < n) (c.len-k-end.ensures ∙ levels.active.ok.0) c.loop-k-test.true in
    let number : c.index-number.result.now ≡ slice_index active k = c.index-number.ensures ∙ get_or_default active k c.index-number.result.now 0 here in
    let within : c.index-number.result.now < length numbered = subst (λ (n : ℕ). c.index-number.result.now < n) c.requires.count (subst (λ (n : ℕ). n < length levels.prices.items) (sym number) (c.requires.levels.within k 0 here)) in
    elim c.if-is_above.branch as (λ _. ListsAboveTo numbered levels (k + 1) c.if-is_above.listed.items) [
      | then-is_above+in_ok-push w ↦
          let above : IsAbove levels (slice_index active k) = subst (IsAbove levels) number (c.is_above.ensures.0 w.if-is_above.true) in
          let row = w.at.result in
          let at = subst (λ (n : ℕ). slice_get numbered n ≡ Some row) number w.at.ensures in
          subst (ListsAboveTo numbered levels (k + 1)) (sym (ap (λ v. v.items) w.listed-is ∙ w.in_ok-push.ensures.items)) (above_pushed numbered levels k listed c.loop-k.invariant row at above)
      | else-is_above w ↦
          subst (λ v. ListsAboveTo numbered levels (k + 1) v.items) (sym w.listed-is)
          (above_passed numbered levels k listed c.loop-k.invariant (λ above. clash (sym (c.is_above.ensures.1 (subst (IsAbove levels) (sym number) above)) ∙ w.if-is_above.false)))
    ]
