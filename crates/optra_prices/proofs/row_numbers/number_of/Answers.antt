use Rattle.std.proofs.Common.{◌≡◌, ℕ, List, length, Some, false, slice_get, take, refl, rules, sym, ap, ◌∙◌, subst}
use Rattle.std.specs.List.Sorted.{IsBinarySearchResult, IsSearchInRange}
use Rattle.std.proofs.lemmas.List.Sorted.{answers_always}
use Rattle.std.proofs.lemmas.Option.{slice_get_read}
use Rattle.optra_prices.specs.Numberings.{RowNumbering, placed_from}
use Rattle.optra_prices.specs.Tables.{number_in}
use Rattle.optra_prices.proofs.NumberingLemmas.{taken_at, put_some, order_none}
use Rattle.std.specs.Ordering.{is_eq}
use Rattle.optra_prices.proofs.ListLemmas.{all_at}
use Rattle.optra_prices.proofs.RankLemmas.{search_found, search_gap, gap_none, found_within}
use Rattle.optra_prices.proofs.row_numbers.number_of.Goals as goal

pub returns-in-Some : goal.returns-in-Some
returns-in-Some g c =
    let inside = c.numbering.inside in
    let row = c.args.row in
    let k = c.in-Some.place in
    let at : slice_get inside.rows.items k ≡ Some row = taken_at inside.sorted inside.rows.items k row c.in-Some.ensures.found in
    sym (c.requires.known k row (sym (ap (λ (v : RowNumbering g.row.F-Row.Denot). slice_get v.rows.items k) c.numbering.view_is) ∙ at))

pub returns-in-Ok : goal.returns-in-Ok
returns-in-Ok g c =
    let cmp = g.F.Row.Ord.cmp in
    let inside = c.numbering.inside in
    let later = inside.later.items in
    let row = c.args.row in
    let r = c.binary_search_by_key.result in
    let k = c.in-Ok.place in
    let here = c.binary_search_by_key.ensures.position (λ e. e.0) (answers_always _ _ _ (λ f a r h called. search rules)) in
    let is : IsBinarySearchResult (λ e. cmp e.0 row) later r = subst (λ (es : List (g.row.F-Row.Denot × ℕ)). IsBinarySearchResult (λ e. cmp e.0 row) es r) c.deref.ensures.value here in
    let bound : IsSearchInRange r (length later) = subst (λ (es : List (g.row.F-Row.Denot × ℕ)). IsSearchInRange r (length es)) c.deref.ensures.value c.binary_search_by_key.ensures.bound in
    let e = c.index.result.now in
    let at : slice_get later k ≡ Some e = slice_get_read later (length later) k e refl (found_within r k (length later) c.in-Ok.is bound) c.index.ensures in
    let has = search_found cmp g.met.F.Row.Ord.total later row r k e g.met.F.Row.CodedRow.tells_apart c.in-Ok.is c.numbering.invariant.rest is at in
    sym (sym (ap (λ (v : RowNumbering g.row.F-Row.Denot). number_in cmp v.order.items row) c.numbering.view_is)
    ∙ put_some cmp g.met.F.Row.Ord.total g.met.F.Row.CodedRow.tells_apart later (placed_from 0 (take inside.sorted inside.rows.items)) row e.1 has)

pub returns-in-Err : goal.returns-in-Err
returns-in-Err g c =
    let cmp = g.F.Row.Ord.cmp in
    let inside = c.numbering.inside in
    let first = take inside.sorted inside.rows.items in
    let later = inside.later.items in
    let row = c.args.row in
    let q = c.binary_search_by_key.result in
    let k = c.in-Err.field-0 in
    let missed = c.place_of.ensures.missed c.in_default.is in
    let here = c.binary_search_by_key.ensures.position (λ e. e.0) (answers_always _ _ _ (λ f a r h called. search rules)) in
    let is : IsBinarySearchResult (λ e. cmp e.0 row) later q = subst (λ (es : List (g.row.F-Row.Denot × ℕ)). IsBinarySearchResult (λ e. cmp e.0 row) es q) c.deref.ensures.value here in
    let bound : IsSearchInRange q (length later) = subst (λ (es : List (g.row.F-Row.Denot × ℕ)). IsSearchInRange q (length es)) c.deref.ensures.value c.binary_search_by_key.ensures.bound in
    let none = gap_none cmp g.met.F.Row.Ord.total later row k c.numbering.invariant.rest (search_gap cmp g.met.F.Row.Ord.total later row q k c.in-Err.is c.numbering.invariant.rest bound is) in
    sym (sym (ap (λ (v : RowNumbering g.row.F-Row.Denot). number_in cmp v.order.items row) c.numbering.view_is)
    ∙ order_none cmp g.met.F.Row.Ord.total g.met.F.Row.CodedRow.tells_apart first later row (λ i x at. all_at (λ (y : g.row.F-Row.Denot). is_eq (cmp row y) ≡ false) first i x missed at) none)
