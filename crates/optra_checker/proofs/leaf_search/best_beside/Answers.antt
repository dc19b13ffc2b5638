use Rattle.std.proofs.Common.{◌≡◌, ◌∙◌, ◌<◌, List, length, Option, Some, ap, sym, slice_get, subst, get_or}
use Rattle.std.specs.Option.{option_map_or}
use Rattle.std.proofs.lemmas.Option.{get_or_from_slice_get, slice_get-get_or}
use Rattle.optra_bid.specs.declared.bids.Bid.{Bid}
use Rattle.optra_node.specs.Nodes.{kind_at}
use Rattle.optra_open.specs.NodeWeights.{leaf_weights}
use Rattle.optra_rests.specs.Weights.{IsBestWorth}
use Rattle.optra_open.proofs.ToComeLemmas.{if_ok}
use Rattle.optra_checker.proofs.leaf_search.best_beside.Goals as goal

pub invariant_of-weights : goal.invariant_of-weights
invariant_of-weights g c = record { in_range = c.requires.bid; ascending = c.requires.ascending; rising = c.requires.rising; all = c.requires.all; proper = c.requires.proper }

pub search-requires-clause-path : goal.search-requires-clause-path
search-requires-clause-path g c =
    c.inst-inst.result.paths c.args.bid c.index-inst-bid.result (subst (λ (bs : List Bid). c.args.bid < length bs) (sym c.inst-inst.ensures.bids) c.requires.bid)

pub search-requires-clause-weights : goal.search-requires-clause-weights
search-requires-clause-weights g c =
    let bids = c.inst-inst.result.bids.now in
    let bid = c.args.bid in
    let there = slice_get-get_or bids bid c.index-inst-bid.result (subst (λ (bs : List Bid). bid < length bs) (sym c.inst-inst.ensures.bids) c.requires.bid) in
    record {
      net_is = sym c.inst-inst.ensures.net;
      kind_is = ap (λ (bs : List Bid). kind_at bs bid) (sym c.inst-inst.ensures.bids) ∙ ap (λ (o : Option Bid). option_map_or (λ (b : Bid). b.path.kind) o (record { 0 = 0 })) there;
    }

pub returns-clause-best : goal.returns-clause-best
returns-clause-best g c =
    let node = c.args.node.now in
    let rows = g.F.RowFamily.rows_of node.family node.net in
    let used = g.F.RowFamily.rows_used node.family node.net in
    let r = c.index-inst-bid.result in
    let weights = leaf_weights node.net rows used node.bids node.node c.args.bid c.args.prices.now (kind_at node.bids c.args.bid) in
    if_ok c.search.result (IsBestWorth weights c.inst-inst.result.net.now (get_or c.inst-inst.result.bids.now c.args.bid r)) (λ best. (b : Bid) → slice_get node.bids c.args.bid ≡ Some b → IsBestWorth weights node.net b best)
    (λ best is b at.
    let same : get_or c.inst-inst.result.bids.now c.args.bid r ≡ b = ap (λ bs. get_or bs c.args.bid r) c.inst-inst.ensures.bids ∙ get_or_from_slice_get node.bids c.args.bid b r at in
    subst (λ x. IsBestWorth weights node.net x best) same (subst (λ n. IsBestWorth weights n (get_or c.inst-inst.result.bids.now c.args.bid r) best) c.inst-inst.ensures.net is))
    c.search.ensures.best

pub returns-clause-size : goal.returns-clause-size
returns-clause-size g c = c.search.ensures.size
