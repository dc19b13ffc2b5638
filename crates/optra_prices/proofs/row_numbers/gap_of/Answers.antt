use Rattle.std.proofs.Common.{length, rules, sym, ◌∙◌}
use Rattle.std.proofs.lemmas.List.Sorted.{answers_always}
use Rattle.std.proofs.lemmas.Option.{none-some}
use Rattle.optra_prices.proofs.ListLemmas.{some_at}
use Rattle.optra_prices.proofs.RankLemmas.{search_found, search_gap, found_within}
use Rattle.optra_prices.proofs.row_numbers.gap_of.Goals as goal

pub returns-in-Ok : goal.returns-in-Ok
returns-in-Ok g c =
    let cmp = g.F.Row.Ord.cmp in
    let later = c.args.later.now in
    let row = c.args.row in
    let r = c.binary_search_by_key.result in
    let k = c.in-Ok.place in
    let is = c.binary_search_by_key.ensures.position (λ e. e.0) (answers_always _ _ _ (λ f a r h called. search rules)) in
    let bound = c.binary_search_by_key.ensures.bound in
    let there = some_at later k (found_within r k (length later) c.in-Ok.is bound) in
    absurd (none-some there.0.1 (sym c.requires.other ∙ search_found cmp g.met.F.Row.Ord.total later row r k there.0 g.met.F.Row.CodedRow.tells_apart c.in-Ok.is c.requires.up is there.1))

pub returns-in-Err : goal.returns-in-Err
returns-in-Err g c =
    let cmp = g.F.Row.Ord.cmp in
    let later = c.args.later.now in
    let row = c.args.row in
    let r = c.binary_search_by_key.result in
    let k = c.in-Err.place in
    let is = c.binary_search_by_key.ensures.position (λ e. e.0) (answers_always _ _ _ (λ f a r h called. search rules)) in
    search_gap cmp g.met.F.Row.Ord.total later row r k c.in-Err.is c.requires.up c.binary_search_by_key.ensures.bound is
