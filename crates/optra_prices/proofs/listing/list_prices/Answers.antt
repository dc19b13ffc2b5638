use Rattle.std.proofs.Common.{List, ap, ◌∙◌, subst, rules}
use Rattle.std.specs.List.Sorted.{IsPermutation}
use Rattle.std.proofs.lemmas.List.Sorted.{answers_always}
use Rattle.optra_node.specs.Duals.{PriceList}
use Rattle.optra_prices.specs.Courses.{listed}
use Rattle.optra_prices.specs.Listings.{rows_at}
use Rattle.optra_prices.proofs.ActivePriceLemmas.{active_listed}
use Rattle.optra_prices.proofs.listing.list_prices.Goals as goal

pub returns : goal.returns
returns g c =
    let levels = c.args.levels.now in
    let order = c.args.numbering.now.order.items in
    let numbered = c.args.numbering.now.rows.items in
    let sorted = c.sort_by_key.new.self.items in
    active_listed g.F.Row.Ord.cmp g.met.F.Row.Ord.total g.met.F.Row.CodedRow.tells_apart order numbered c.requires.numbering levels c.requires.levels c.requires.count sorted
    (subst (λ (es : PriceList g.row.F-Row.Denot). IsPermutation es sorted) (c.in_ok-entries.ensures ∙ ap (λ (rs : List g.row.F-Row.Denot). listed (rows_at rs levels.active.items) levels.prices.items) c.rows.ensures) c.sort_by_key.ensures.permutation)
    (c.in_ok-sort_by_key.ensures.sorted (λ e. e.0) (answers_always _ _ _ (λ f a r h called. search rules)))
