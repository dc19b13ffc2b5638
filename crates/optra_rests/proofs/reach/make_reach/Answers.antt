-- The stations are counted by the levels for no stop.
use Rattle.std.proofs.Common.{◌∙◌, ℕ, [], map, length, slice_index_or, List, Vec, Global, sym, ap, subst, arith}
use Rattle.std.proofs.lemmas.List.{length-map}
use Rattle.optra_rests.specs.Reaches.{SkipsFar}
use Rattle.optra_rests.proofs.reach.make_reach.Goals as goal

pub find_levels-requires : goal.find_levels-requires
find_levels-requires c = c.requires

pub find_levels-requires-2 : goal.find_levels-requires-2
find_levels-requires-2 c = c.requires

pub level_of-requires : goal.level_of-requires
level_of-requires c =
    let same = ap length c.deref.ensures.value in
    let each = length-map c.in_ok-behind.behind.items (λ (level : Vec ℕ Global). level.items) in
    let count = c.in_ok-behind.ensures.count in
    omega (arith, same, each, count)

pub level_of-requires-2 : goal.level_of-requires-2
level_of-requires-2 c =
    let same = ap length c.deref-2.ensures.value in
    let each = length-map c.in_ok-ahead.ahead.items (λ (level : Vec ℕ Global). level.items) in
    let count = c.in_ok-ahead.ensures.count in
    omega (arith, same, each, count)

pub skip_far-requires-clause-same : goal.skip_far-requires-clause-same
skip_far-requires-clause-same c =
    let items = λ (level : Vec ℕ Global). level.items in
    let from = ap length (c.level_of.ensures ∙ ap (λ (vs : List (Vec ℕ Global)). slice_index_or (map items vs) 0 []) c.deref.ensures.value) in
    let on = ap length (c.level_of-2.ensures ∙ ap (λ (vs : List (Vec ℕ Global)). slice_index_or (map items vs) 0 []) c.deref-2.ensures.value) in
    on ∙ c.in_ok-ahead.ensures.len 0 (omega arith) ∙ sym (from ∙ c.in_ok-behind.ensures.len 0 (omega arith))

pub skip_far-requires-clause-count : goal.skip_far-requires-clause-count
skip_far-requires-clause-count c =
    let items = λ (level : Vec ℕ Global). level.items in
    let from = ap length (c.level_of.ensures ∙ ap (λ (vs : List (Vec ℕ Global)). slice_index_or (map items vs) 0 []) c.deref.ensures.value) in
    from ∙ c.in_ok-behind.ensures.len 0 (omega arith) ∙ sym c.station_count.ensures.count

pub returns : goal.returns
returns c =
    let items = λ (level : Vec ℕ Global). level.items in
    let from = c.level_of.ensures ∙ ap (λ (vs : List (Vec ℕ Global)). slice_index_or (map items vs) 0 []) c.deref.ensures.value in
    let on = c.level_of-2.ensures ∙ ap (λ (vs : List (Vec ℕ Global)). slice_index_or (map items vs) 0 []) c.deref-2.ensures.value in
    let skips = c.in_ok-skips.skips.items in
    let path = c.args.bid.now.path in
    record {
      far = subst (λ (xs : List ℕ). SkipsFar path xs (slice_index_or (map items c.in_ok-ahead.ahead.items) 0 []) skips) from (subst (λ (xs : List ℕ). SkipsFar path c.level_of.result.now xs skips) on c.in_ok-skips.ensures);
      ahead = c.in_ok-ahead.ensures;
      behind = c.in_ok-behind.ensures;
    }
