use Rattle.std.proofs.Common.{◌≡◌, None, set, refl, sym, ap, ◌∙◌, arith, inl, inr, rules}
use Rattle.std.specs.Prelude.{FitsSigned}
use Rattle.std.specs.Int.{w64}
use Rattle.optra_prices.specs.Tables.{number_in}
use Rattle.std.proofs.lemmas.Int.{to_z-of_z}
use Rattle.std.proofs.lemmas.Option.{none-some, slice_get_within}
use Rattle.optra_prices.proofs.valuing.put_row_price.Goals as goal

pub set_price-requires-clause-within : goal.set_price-requires-clause-within
set_price-requires-clause-within g c =
    let rows = c.args.numbering.now.rows.items in
    let at = c.requires.numbering.found c.args.entry.0 c.in-Some.number (sym c.number_of.ensures ∙ c.in-Some.is) in
    let l = slice_get_within rows c.in-Some.number c.args.entry.0 at in
    let count = c.requires.count in
    omega arith

pub returns-in_ok-set_price-clause-prices : goal.returns-in_ok-set_price-clause-prices
returns-in_ok-set_price-clause-prices g c =
    let number = c.in-Some.number in
    let price = c.args.entry.1 in
    let low = c.requires.price.0 in
    let high = c.requires.price.1 in
    let fits : FitsSigned w64 price = search rules in
    let at = c.requires.numbering.found c.args.entry.0 number (sym c.number_of.ensures ∙ c.in-Some.is) in
    inl (number, at, c.in_ok-set_price.ensures.prices ∙ ap (set c.args.levels.now.prices.items number) (to_z-of_z w64 price fits))

pub returns-in_default-clause-prices : goal.returns-in_default-clause-prices
returns-in_default-clause-prices g c =
    let order = c.args.numbering.now.order.items in
    let cmp = g.F.Row.Ord.cmp in
    let none : number_in cmp order c.args.entry.0 ≡ None = sym c.number_of.ensures ∙ c.in_default.is in
    inr ((λ n row at tie. none-some n (sym none ∙ ap (number_in cmp order) (sym (g.met.F.Row.CodedRow.tells_apart row c.args.entry.0 tie)) ∙ c.requires.numbering.known n row at)), refl)
