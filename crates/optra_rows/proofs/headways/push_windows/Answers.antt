use Rattle.std.proofs.Common.{◌≡◌, ◌+◌, ℕ, Some, map, slice_get, ap, ◌∙◌, arith}
use Rattle.std.specs.List.{range_with_len}
use Rattle.std.specs.Option.{option_map}
use Rattle.std.proofs.lemmas.List.FromFn.{length-map-range_with_len}
use Rattle.std.proofs.lemmas.Option.{slice_get-map}
use Rattle.optra_walk.proofs.ListLemmas.{listed_more, listed_all}
use Rattle.optra_rows.specs.declared.HRow.{HRow}
use Rattle.optra_rows.specs.declared.HRow.TheVariants.{Window}
use Rattle.optra_rows.specs.ListLemmas.{slice_get-range}
use Rattle.optra_rows.proofs.headways.push_windows.Goals as goal

pub loop-k-preserved : goal.loop-k-preserved
loop-k-preserved c =
    let row : ℕ → HRow = λ minute. Window c.args.leg.track minute in
    let minutes = range_with_len c.args.leg.depart c.args.least in
    let k = c.loop-k.k in
    let at : slice_get (map row minutes) k ≡ Some (row (c.args.leg.depart + k)) =
    slice_get-map row minutes k ∙ ap (option_map row) (slice_get-range c.args.leg.depart c.args.least k c.loop-k-test.true) in
    listed_more _ _ _ (map row minutes) k (row (c.args.leg.depart + k)) c.loop-k.invariant at c.in_ok-push.ensures.pushed

pub returns : goal.returns
returns c =
    let row : ℕ → HRow = λ minute. Window c.args.leg.track minute in
    let minutes = range_with_len c.args.leg.depart c.args.least in
    listed_all _ _ (map row minutes) c.loop-k.k c.loop-k.invariant (let few = length-map-range_with_len row c.args.leg.depart c.args.least in omega (arith, few))
