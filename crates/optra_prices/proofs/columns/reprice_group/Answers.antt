use Rattle.std.proofs.Common.{◌≡◌, ◌∙◌, ◌<◌, ◌+◌, ℕ, Bool, true, false, not, inl, inr, length, set, refl, sym, ap, subst, arith, rules, to_z, of_z}
use Rattle.std.specs.Prelude.{All, ℤ, ◌≤ℤ◌, pos, FitsSigned}
use denote.Enum.Bare.{same_true, sameb}
use Rattle.std.specs.Int.{w64, int_max}
use Rattle.std.proofs.lemmas.Bool.{cases_eq}
use Rattle.std.proofs.lemmas.Int.{to_z-of_z}
use Rattle.std.proofs.lemmas.List.{get_or_read, length-set}
use Rattle.std.proofs.lemmas.List.Elements.{All-set, All-contains_itself}
use Rattle.optra_prices.specs.Columns.{MarkTells, mark_at, price_at}
use Rattle.optra_prices.specs.Tables.{IsGroupPrice, group_at}
use Rattle.optra_prices.proofs.RunningLemmas.{group_range}
use Rattle.optra_prices.specs.contracts.columns.Mark.{the_type}
use Rattle.optra_prices.specs.declared.columns.Mark.{Mark}
use Rattle.optra_prices.specs.declared.columns.Mark.TheVariants.{Still, Due}
use Rattle.optra_prices.proofs.ColumnLemmas.{not_due, past_due, tells_by, mark_set, mark_apart, listed_more, most_set, high_max}
use Rattle.optra_prices.proofs.ValueOfLemmas.{set_at, set_elsewhere}
use Rattle.optra_prices.proofs.columns.reprice_group.Goals.{then-g-len-via-then-g-len, then-g-len-via-else-g-len+then-ne}
use Rattle.optra_prices.proofs.columns.reprice_group.Goals as goal

not_false : (b : Bool) → false ≡ not b → b ≡ true
not_false true e = refl
not_false false e = cc

pub returns-then-g-len-clause-repriced : goal.returns-then-g-len-clause-repriced
returns-then-g-len-clause-repriced c =
    let columns = c.args.columns.now in
    let marks = columns.marks.items in
    let g = c.args.g in
    let count = c.requires.columns.mark_count in
    elim c.then-g-len.branch [
      | then-g-len-via-then-g-len w ↦ not_due c.args.prices.now.items g columns (past_due columns g (grind (arith, c.len.ensures, w.if-g-len.true)))
      | then-g-len-via-else-g-len+then-ne w ↦ not_due c.args.prices.now.items g columns (λ due.
          let within : g < length marks = grind (arith, c.len.ensures, w.if-g-len.false) in
          let here = get_or_read marks g w.index.result.now within w.index.ensures Still ∙ due in
          let test : true ≡ false = w.if-ne.ensures ∙ ap (λ (mark : Mark). not (sameb the_type mark Due)) here in
          cc)
    ]

pub returns-clause-columns : goal.returns-clause-columns
returns-clause-columns c =
    let columns = c.args.columns.now in
    let is = c.requires.columns in
    let marks = columns.marks.items in
    let grouped = columns.grouped.items in
    let g = c.args.g in
    let count = is.mark_count in
    let within : g < length marks = grind (arith, c.len.ensures, c.if-g-len.false) in
    let due : mark_at marks g ≡ Due = sym (get_or_read marks g c.index.result.now within c.index.ensures Still) ∙ same_true the_type (search rules) _ _ (not_false _ c.if-ne.ensures) in
    let price = to_z w64 (of_z w64 c.index-price.result.now) in
    let f1 : FitsSigned w64 c.index-price.result.now = search rules in
    let placed : g < length columns.running.items = let more = is.running_count in grind (arith, c.len.ensures, c.if-g-len.false) in
    let price_is = to_z-of_z w64 c.index-price.result.now f1 ∙ get_or_read columns.running.items g c.index-price.result.now placed c.index-price.ensures (pos 0) in
    let known = c.requires.running g (let a = is.count in let more = is.running_count in omega arith) in
    let few = is.are.few g (let a = is.count in let more = is.running_count in omega arith) in
    let range : IsGroupPrice price = subst IsGroupPrice (sym (price_is ∙ known)) (group_range c.args.prices.now.items (group_at columns.groups.starts.items columns.groups.touches g) c.requires.prices few) in
    let f2 : FitsSigned w64 c.max-columns.result = search rules in
    let f3 : FitsSigned w64 columns.highest = search rules in
    let highest = to_z-of_z w64 c.max-columns.result f2 ∙ c.max-columns.ensures.value ∙ ap (λ (z : ℤ). int_max z price) (to_z-of_z w64 columns.highest f3) in
    record {
      groups_are = refl;
      are = is.are;
      users_are = is.users_are;
      found = is.found;
      shares = is.shares;
      running_count = is.running_count ∙ sym (length-set grouped g price);
      count = ap (λ (n : ℕ). n + 1) (length-set grouped g price) ∙ is.count;
      mark_count = length-set marks g c.mark_of.result ∙ is.mark_count ∙ sym (length-set grouped g price);
      range = All-set IsGroupPrice grouped g price range is.range;
      high = subst IsGroupPrice (sym highest) (high_max columns.highest price is.high range);
      most = subst (λ (z : ℤ). All (λ (p : ℤ). p ≤ℤ z) (set grouped g price)) (sym highest) (most_set grouped g price columns.highest is.most);
      listed = listed_more marks columns.due.items columns.due.items g c.mark_of.result is.listed (λ still. let e : Due ≡ Still = sym due ∙ still in cc) (All-contains_itself columns.due.items);
    }

pub returns-clause-repriced : goal.returns-clause-repriced
returns-clause-repriced c =
    let columns = c.args.columns.now in
    let is = c.requires.columns in
    let marks = columns.marks.items in
    let grouped = columns.grouped.items in
    let g = c.args.g in
    let count = is.mark_count in
    let within : g < length grouped = grind (arith, c.len.ensures, c.if-g-len.false) in
    let marked : g < length marks = omega arith in
    let due : mark_at marks g ≡ Due = sym (get_or_read marks g c.index.result.now marked c.index.ensures Still) ∙ same_true the_type (search rules) _ _ (not_false _ c.if-ne.ensures) in
    let price = to_z w64 (of_z w64 c.index-price.result.now) in
    let f1 : FitsSigned w64 c.index-price.result.now = search rules in
    let before = c.index-2.result.now in
    let f2 : FitsSigned w64 before = search rules in
    let before_is : to_z w64 (of_z w64 before) ≡ price_at grouped g = to_z-of_z w64 before f2 ∙ get_or_read grouped g before within c.index-2.ensures (pos 0) in
    let price_is : price_at (set grouped g price) g ≡ price = set_at grouped g g price within refl in
    let tells : MarkTells (price_at grouped g) price c.mark_of.result = subst (λ (z : ℤ). MarkTells z price c.mark_of.result) before_is c.mark_of.ensures in
    record {
      due_is = refl;
      running_is = refl;
      priced = λ _. price_is ∙ to_z-of_z w64 c.index-price.result.now f1 ∙ get_or_read columns.running.items g c.index-price.result.now (let more = is.running_count in omega arith) c.index-price.ensures (pos 0) ∙ c.requires.running g (let a = is.count in omega arith);
      marked = λ _. tells_by (price_at grouped g) price (price_at (set grouped g price) g) c.mark_of.result (mark_at (set marks g c.mark_of.result) g) price_is (mark_set marks g g c.mark_of.result marked refl) tells;
      kept = λ h other. elim (cases_eq h g) as (λ _. (price_at (set grouped g price) h ≡ price_at grouped h) × (mark_at (set marks g c.mark_of.result) h ≡ mark_at marks h)) [
        | inl same ↦ absurd (other (same, ap (mark_at marks) same ∙ due))
        | inr apart ↦ (set_elsewhere grouped g h price apart, mark_apart marks g h c.mark_of.result apart)
      ];
    }
