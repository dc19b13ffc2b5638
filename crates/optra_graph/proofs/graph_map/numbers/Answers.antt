-- No stop is left.
use Rattle.std.proofs.Common.{◌≡◌, ◌++◌, ◌∙◌, List, length, ap, sym, arith}
use Rattle.std.proofs.Math.ListN.{drop_of_length-le}
use Rattle.std.proofs.lemmas.List.{append-nil}
use Rattle.optra_bid.specs.Specs.{Path}
use Rattle.optra_bid.specs.declared.Stop.{Stop}
use Rattle.optra_graph.specs.Keys.{numbers_of, stops_numbers}
use Rattle.optra_graph.proofs.graph_map.numbers.Goals as goal

pub returns : goal.returns
unfolding numbers_of
returns c =
    let same : length c.deref-stop-items.result.now ≡ length c.args.bid.now.path.stops = ap length (c.deref-stop-items.ensures.value ∙ ap (λ (p : Path). p.stops) c.path.view_is) in
    sym (append-nil c.loop-stop.numbers.items)
    ∙ ap (λ (left : List Stop). c.loop-stop.numbers.items ++ stops_numbers left) (sym (drop_of_length-le c.args.bid.now.path.stops (omega arith)))
    ∙ c.loop-stop.invariant.numbers
