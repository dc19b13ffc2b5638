use Rattle.std.proofs.Common.{◌≡◌, ◌<◌, ℕ, List, Some, length, set, slice_get, refl, sym, ap, ◌∙◌, subst, arith}
use Rattle.std.proofs.lemmas.List.{length-map, length-set, map-set}
use Rattle.std.proofs.lemmas.Option.{slice_get_read}
use Rattle.optra_prices.specs.Uses.{AreCounted, CountsList, lists_of, lists_in}
use Rattle.optra_prices.specs.declared.numbering.Standing.{Standing}
use Rattle.optra_prices.proofs.UseLemmas.{uses_more, same_more, same_all, list_in, list_of}
use Rattle.optra_prices.proofs.loading.count_uses.Goals as goal

pub loop-number-preserved : goal.loop-number-preserved
loop-number-preserved c =
    let groups = c.args.groups.now in
    let standings = c.args.standings.now in
    let counted = c.loop-number.counted.items in
    let inv = c.loop-number.invariant in
    let is = c.in_ok-count_list.ensures in
    let n = c.loop-number.number in
    let l : n < length standings = c.loop-number-test.true in
    let long = length-map counted (λ v. v.items) in
    let w : n < length counted = let count = inv.counted.count_is in omega arith in
    let standing = c.index-standings-number.result in
    let list = standing.groups.items in
    let before = c.index_mut.result.now in
    let standing_at : slice_get standings n ≡ Some standing = slice_get_read standings (length standings) n standing refl l c.index-standings-number.is in
    let before_at : slice_get counted n ≡ Some before = slice_get_read counted (length counted) n before refl w c.index_mut.ensures.value in
    let list_is : c.deref.result.now ≡ list = c.deref.ensures.value ∙ ap (λ (x : Standing). x.groups.items) (sym c.index-standings-number.is) in
    let now = c.count_list.new.counted in
    let new : lists_in (set counted n now) ≡ set (lists_in counted) n list = map-set (λ v. v.items) counted n now ∙ ap (set (lists_in counted) n) (is.list ∙ list_is) in
    let counts = subst (λ (gs : List ℕ). CountsList groups before.items gs c.loop-number.levels.loads.uses c.count_list.new.levels.loads.uses) list_is is.uses in
    let more = uses_more groups (lists_in counted) n before.items list c.loop-number.levels.loads.uses c.count_list.new.levels.loads.uses (list_in counted n before before_at) inv.counted.uses_are counts in
    record {
      levels = is.levels;
      done = λ k within. ap (λ (lists : List (List ℕ)). slice_get lists k) new ∙ same_more (lists_in counted) (lists_of standings) n k list (inv.done k) (list_of standings n standing standing_at) (omega arith) within;
      counted = subst (λ (lists : List (List ℕ)). AreCounted groups (length standings) lists c.count_list.new.levels.loads.uses) (sym new) (record { count_is = length-set (lists_in counted) n list ∙ inv.counted.count_is; uses_are = more });
      prices = record { prices = is.prices.prices ∙ inv.prices.prices; capacities = is.prices.capacities ∙ inv.prices.capacities };
    }

pub returns-clause-lists : goal.returns-clause-lists
returns-clause-lists c =
    let counted = c.loop-number.counted.items in
    let standings = c.args.standings.now in
    let b = length-map standings (λ (x : Standing). x.groups.items) in
    let count = c.loop-number.invariant.counted.count_is in
    let past = c.loop-number-test.false in
    same_all (lists_in counted) (lists_of standings) (omega arith) (λ n l. c.loop-number.invariant.done n (omega arith))
