use Rattle.std.proofs.Common.{◌∙◌, cond, None, ap}
use Rattle.std.specs.Option.{option_map}
use Rattle.optra_network.specs.Net.{IsProper}
use Rattle.optra_node.specs.Duals.{whole_cents}
use Rattle.optra_checker.specs.Leaves.{plus_of}
use Rattle.optra_evidence.specs.Figures.{less_of, IsFigureSize}
use Rattle.optra_evidence.proofs.SaidLemmas.{served_is, left_is, served_small, left_small}
use Rattle.std.proofs.Common.{IfSome, sym, subst}
use Rattle.optra_evidence.proofs.saying.said_of.Goals as goal

pub returns : goal.returns
returns g c b at =
    let node = c.args.node.now in
    let rows = g.F.RowFamily.rows_of node.family node.net in
    let used = g.F.RowFamily.rows_used node.family node.net in
    let proper : IsProper node.net = c.laws.ensures in
    let offer = c.offer_of-offer.result in
    let rest = c.without_term-rest.result in
    let yes_is = c.has_yes.result in
    record {
      served = (
        plus_of (less_of c.args.value offer) c.args.worth,
        served_is g.F.Row.Ord.cmp node.net proper rows used (λ kind leg usable. g.met.F.RowFamily.lists_rows node.family node.net kind leg usable) node.bids node.node c.args.prices.now c.args.bid b at c.args.value offer c.args.worth c.requires.value.dual
            (c.offer_of-offer.ensures.best b at) (c.requires.worth b at),
        c.with_bid.ensures ∙ ap (λ r. option_map whole_cents (plus_of r c.args.worth)) c.without_term-rest.ensures.is,
      );
      left = (
        cond yes_is None (less_of c.args.value offer),
        left_is g.F.Row.Ord.cmp node.net proper rows used (λ kind leg usable. g.met.F.RowFamily.lists_rows node.family node.net kind leg usable) node.bids node.node c.args.prices.now c.args.bid b at c.args.value offer yes_is c.has_yes.ensures c.requires.value.dual
            (c.offer_of-offer.ensures.best b at),
        c.without_bid.ensures ∙ ap (λ r. option_map whole_cents (cond yes_is None r)) c.without_term-rest.ensures.is,
      );
      small = record {
        served = subst (λ o. IfSome o IsFigureSize) (sym c.with_bid.ensures) (served_small rest c.args.worth c.without_term-rest.ensures.size c.requires.size);
        left = subst (λ o. IfSome o IsFigureSize) (sym c.without_bid.ensures) (left_small rest yes_is c.without_term-rest.ensures.size);
      };
    }
