use Rattle.std.proofs.Common.{◌<◌, ◌≤◌, length, get_or, rules, sym, ◌∙◌, subst}
use Rattle.std.specs.Prelude.{MatchResult}
use Rattle.std.proofs.lemmas.List.Sorted.{answers_always}
use Rattle.optra_rests.specs.Sizes.{IsRowPrice}
use Rattle.optra_rests.proofs.ProductLemmas.{row_price_same}
use Rattle.optra_open.proofs.LeafPriceLemmas.{price_found, price_missing, may_search, found_at, missing_at}
use Rattle.optra_open.proofs.leaf_prices.price_at.Goals as goal

pub returns-in-Ok-clause-value : goal.returns-in-Ok-clause-value
returns-in-Ok-clause-value g c =
    let cmp = g.R.Ord.cmp in
    let prices = c.args.prices.now in
    let row = c.args.row in
    let is = c.binary_search_by_key.ensures.position (λ e. e.0) (answers_always _ _ _ (λ f a r h called. search rules)) in
    let within = subst (λ r. MatchResult r (λ i. i < length prices) (λ i. i ≤ length prices)) c.in-Ok.is c.binary_search_by_key.ensures.bound in
    row_price_same (get_or prices c.in-Ok.place c.index-prices-place.result).1 (c.requires.small c.in-Ok.place c.index-prices-place.result within)
    ∙ sym (price_found cmp g.met.R.Ord.total prices c.requires.ascending row c.in-Ok.place c.index-prices-place.result within (found_at cmp prices row c.binary_search_by_key.result c.in-Ok.place c.in-Ok.is is c.index-prices-place.result))

pub returns-in-Err-clause-value : goal.returns-in-Err-clause-value
returns-in-Err-clause-value g c =
    let cmp = g.R.Ord.cmp in
    let prices = c.args.prices.now in
    let row = c.args.row in
    let is = c.binary_search_by_key.ensures.position (λ e. e.0) (answers_always _ _ _ (λ f a r h called. search rules)) in
    sym (price_missing cmp g.met.R.Ord.total prices c.requires.ascending row
    (missing_at cmp prices row c.binary_search_by_key.result c.in-Err.field-0 c.in-Err.is is (may_search cmp g.met.R.Ord.total prices c.requires.ascending row)))

pub returns-in-Ok-clause-range : goal.returns-in-Ok-clause-range
returns-in-Ok-clause-range g c =
    let prices = c.args.prices.now in
    let within = subst (λ r. MatchResult r (λ i. i < length prices) (λ i. i ≤ length prices)) c.in-Ok.is c.binary_search_by_key.ensures.bound in
    let range = c.requires.small c.in-Ok.place c.index-prices-place.result within in
    subst IsRowPrice (sym (row_price_same (get_or prices c.in-Ok.place c.index-prices-place.result).1 range)) range
