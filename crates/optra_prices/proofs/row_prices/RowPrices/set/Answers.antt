use Rattle.std.proofs.Common.{◌≡◌, Bool, true, List, cond, set, sym, ap, ◌∙◌, rules}
use Rattle.std.specs.Prelude.{ℤ, pos, FitsSigned}
use Rattle.std.specs.Int.{w64}
use Rattle.std.proofs.lemmas.Int.{to_z-of_z}
use Rattle.std.proofs.lemmas.List.{map-set}
use Rattle.optra_prices.specs.RowPrices.{prices_of}
use Rattle.optra_prices.proofs.row_prices.RowPrices.set.Goals as goal

pub returns-in-Some : goal.returns-in-Some
returns-in-Some c =
    let narrow = c.self.inside.narrow.items in
    let wide = c.self.inside.wide.items in
    let number = c.args.number in
    let here = λ (b : Bool). cond b (prices_of narrow) wide in
    let kept : c.self.inside.is_narrow ≡ true = c.if-not-self.false in
    let old : c.args.self.now.items ≡ prices_of narrow = ap (λ v. v.items) (sym c.self.view_is) ∙ ap here kept in
    let fits : FitsSigned w64 c.args.price = search rules in
    ap (λ (b : Bool). cond b (prices_of (set narrow number c.in-Some.narrow)) wide) kept
    ∙ map-set pos narrow number c.in-Some.narrow
    ∙ ap (set (prices_of narrow) number) (c.in-Some.ensures ∙ to_z-of_z w64 c.args.price fits)
    ∙ ap (λ (xs : List ℤ). set xs number c.args.price) (sym old)
