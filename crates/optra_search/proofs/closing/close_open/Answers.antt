-- One more node that waited is a leaf.
use Rattle.std.proofs.Common.{◌≡◌, [], ◌∷◌, ◌++◌, None, unwrap_or, sym, ap, ◌∙◌, subst, rules, FitsSigned}
use Rattle.std.specs.Int.{w128}
use Rattle.std.proofs.lemmas.Int.{to_z-of_z}
use Rattle.optra_node.specs.Duals.{PriceList, whole_cents}
use Rattle.optra_prices.specs.Replies.{Valuation, IsValuation}
use Rattle.optra_prices.specs.Steps.{AreProper}
use Rattle.optra_search.specs.Openings.{front, start_below}
use Rattle.optra_search.specs.Searches.{Parts}
use Rattle.optra_search.specs.Reached.{parts_of, settled_as}
use Rattle.optra_search.specs.Closings.{MayClose, HasClosed}
use Rattle.optra_search.proofs.WaitingLemmas.{top_within}
use Rattle.optra_search.proofs.ClosingLemmas.{closing_node, closing_start, closing_next, closing_same}
use Rattle.optra_search.proofs.closing.close_open.Goals as goal

pub enter-requires : goal.enter-requires
enter-requires g c = top_within c.args.search.node c.args.search.waiting.items c.args.top c.requires.closing.nested

pub bring_to-requires-clause-node : goal.bring_to-requires-clause-node
bring_to-requires-clause-node g c =
    let net = c.args.inst.net.now in
    closing_node g.F.Row.Ord.cmp net (g.F.RowFamily.rows_of c.args.rows.now net) c.args.inst.bids.now (parts_of c.args.search) c.args.top c.enter.new.node c.requires.closing c.in_ok-enter.ensures

pub dual_over-requires-clause-node : goal.dual_over-requires-clause-node
dual_over-requires-clause-node g c =
    let net = c.args.inst.net.now in
    closing_node g.F.Row.Ord.cmp net (g.F.RowFamily.rows_of c.args.rows.now net) c.args.inst.bids.now (parts_of c.args.search) c.args.top c.enter.new.node c.requires.closing c.in_ok-enter.ensures

pub dual_over-requires-clause-prices : goal.dual_over-requires-clause-prices
dual_over-requires-clause-prices g c =
    let net = c.args.inst.net.now in
    let rows = g.F.RowFamily.rows_of c.args.rows.now net in
    let start = unwrap_or c.args.top.start (start_below (front c.args.search.waiting.items)) in
    let are : c.in_ok-prices.prices ≡ start = rw c.deref.ensures.value at c.in_ok-prices.ensures in
    subst (AreProper g.F.Row.Ord.cmp rows) (sym are)
    (closing_start g.F.Row.Ord.cmp net rows c.args.inst.bids.now (parts_of c.args.search) c.args.top c.enter.new.node c.requires.closing c.in_ok-enter.ensures)

pub returns : goal.returns
returns g c =
    let net = c.args.inst.net.now in
    let rows = g.F.RowFamily.rows_of c.args.rows.now net in
    let bids = c.args.inst.bids.now in
    let s = parts_of c.args.search in
    let top = c.args.top in
    let node = c.enter.new.node in
    let v = c.in_ok-dual.dual in
    let after = parts_of c.in_ok-after.after in
    let start = unwrap_or top.start (start_below (front c.args.search.waiting.items)) in
    let are : c.in_ok-prices.prices ≡ start = rw c.deref.ensures.value at c.in_ok-prices.ensures in
    let valued : IsValuation net rows bids node start v = subst (λ (prices : PriceList g.row.F-Row.Denot). IsValuation net rows bids node prices v) are c.in_ok-dual.ensures.dual in
    let value : FitsSigned w128 c.dual.inside.value = search rules in
    let whole : FitsSigned w128 c.whole_cents-cents.result = search rules in
    let cents_is : c.whole_cents-cents.result ≡ whole_cents v.value = (simp to_z-of_z at c.whole_cents-cents.ensures) ∙ ap (λ (v : Valuation). whole_cents v.value) c.dual.view_is in
    let after_is : after ≡ settled_as (record s { node = node }) None start (whole_cents v.value) =
    (simp to_z-of_z at c.in_ok-after.ensures) ∙ (λ i. settled_as (record s { node = node }) None (are i) (cents_is i)) in
    record {
      closing = subst (MayClose g.F.Row.Ord.cmp net rows bids) (sym after_is) (closing_next g.F.Row.Ord.cmp net rows bids s top node c.requires.closing c.in_ok-enter.ensures v valued);
      closed = subst (HasClosed (record s { waiting = c.args.search.waiting.items ++ top ∷ [] })) (sym after_is) (closing_same g.F.Row.Ord.cmp net rows bids s top node c.requires.closing c.in_ok-enter.ensures v valued);
      rest = ap (λ (p : Parts g.row.F-Row.Denot). p.waiting) after_is;
      kept = (node, c.in_ok-dual.ensures.kept);
    }
