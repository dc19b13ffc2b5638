use Rattle.std.proofs.Common.{◌≡◌, ◌-◌, ◌++◌, ℕ, List, length, take, drop, ap, ◌∙◌, sym, subst, arith}
use Rattle.std.proofs.lemmas.List.{take_all, take-append-drop, length-drop}
use Rattle.optra_prices.specs.Uses.{CountsList}
use Rattle.optra_prices.proofs.UseLemmas.{counted_on_start}
use Rattle.optra_prices.proofs.loading.count_list.Goals as goal

pub returns-clause-uses : goal.returns-clause-uses
returns-clause-uses c =
    let groups = c.args.groups.now in
    let old = c.args.levels.now.loads.uses in
    let new = c.count_groups.new.levels.loads.uses in
    let i = c.same_start-same.result in
    let before = c.args.counted.now.items in
    let list = c.args.list.now in
    let same : take i before ≡ take i list = ap (take i) (sym c.deref.ensures.value) ∙ c.same_start-same.ensures.same in
    let whole = c.deref-2.result.now in
    let rest = take_all (length whole - i) (drop i whole) (omega (arith, length-drop i whole)) in
    let more = take_all (length list - i) (drop i list) (omega (arith, length-drop i list)) in
    let after = subst (λ (gs : List ℕ). CountsList groups (take (length whole - i) (drop i whole)) gs old new) more c.in_ok-count_groups.ensures.uses in
    let counts = subst (λ (gs : List ℕ). CountsList groups (drop i gs) (drop i list) old new) c.deref-2.ensures.value (subst (λ (gs : List ℕ). CountsList groups gs (drop i list) old new) rest after) in
    counted_on_start groups before list old new i same counts

pub returns-clause-list : goal.returns-clause-list
returns-clause-list c =
    let i = c.same_start-same.result in
    let before = c.args.counted.now.items in
    let list = c.args.list.now in
    let same : take i before ≡ take i list = ap (take i) (sym c.deref.ensures.value) ∙ c.same_start-same.ensures.same in
    let rest = take_all (length list - i) (drop i list) (omega (arith, length-drop i list)) in
    c.in_ok-extend_from_slice.ensures.items ∙ ap (λ (gs : List ℕ). gs ++ take (length list - i) (drop i list)) (c.truncate.ensures.items ∙ same) ∙ ap (λ (gs : List ℕ). take i list ++ gs) rest ∙ take-append-drop i list
