-- The ranks in order have the positions in the order in which the bids are taken.
use Rattle.std.proofs.Common.{length, sym, ap, ◌∙◌, subst}
use Rattle.optra_prices.specs.Repairs.{IsTakingOrder}
use Rattle.optra_repair.specs.Takings.{positions_of}
use Rattle.optra_repair.proofs.TakingLemmas.{taken_in_order}
use Rattle.optra_repair.proofs.taking.taking_order.Goals as goal

pub returns : goal.returns
returns c =
    let v = c.args.dual.now in
    subst (IsTakingOrder v (length v.terms)) (sym (c.in_ok-order.ensures ∙ ap positions_of c.deref.ensures.value))
    (taken_in_order v (length v.terms) c.in_ok-ranks.ranks.items c.sort_unstable.new.self.items c.in_ok-ranks.ensures c.sort_unstable.ensures.permutation c.sort_unstable.ensures.sorted)
