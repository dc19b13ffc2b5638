use Rattle.std.proofs.Common.{◌≡◌, ◌+◌, ◌<◌, ◌∷◌, [], ◌++◌, ℕ, suc, List, cond, length, take, Some, slice_get, refl, sym, ap, ◌∙◌, subst, arith, rules, to_z, of_z}
use Rattle.std.specs.Prelude.{ℤ, pos, FitsSigned, slice_index, slice_index_or}
use Rattle.std.specs.Int.{w64, is_positive}
use Rattle.std.proofs.lemmas.Int.{to_z-of_z}
use Rattle.std.proofs.lemmas.List.{get_or_default}
use Rattle.std.proofs.lemmas.Option.{slice_get_read}
use Rattle.optra_node.specs.Duals.{PriceList}
use Rattle.optra_prices.specs.Courses.{listed}
use Rattle.optra_prices.specs.Listings.{rows_at}
use Rattle.optra_prices.proofs.ActivePriceLemmas.{listed_push, rows_at_push}
use Rattle.optra_prices.proofs.NumberLemmas.{take_push}
use Rattle.optra_prices.proofs.listing.active_prices.Goals as goal

pub loop-k-preserved : goal.loop-k-preserved
loop-k-preserved g c =
    let numbered = c.args.numbered.now.items in
    let levels = c.args.levels.now in
    let active = levels.active.items in
    let prices = levels.prices.items in
    let k = c.loop-k.k in
    let here : k < length active = omega arith in
    let number = c.index-number.result.now in
    let row = c.at.result in
    let number_at : slice_get active k ≡ Some number = slice_get_read active (length active) k number refl here c.index-number.ensures in
    let least = c.requires.levels.within k 0 here in
    let is : number ≡ slice_index active k = c.index-number.ensures ∙ get_or_default active k number 0 here in
    let count = c.requires.count in
    let within : number < length prices = subst (λ (n : ℕ). n < length prices) (sym is) least in
    let at : slice_get numbered number ≡ Some row = c.at.ensures in
    let whole : FitsSigned w64 c.at-in-loop-k.result = search rules in
    let price : to_z w64 (of_z w64 c.at-in-loop-k.result) ≡ slice_index_or prices number (pos 0) = to_z-of_z w64 c.at-in-loop-k.result whole ∙ c.at-in-loop-k.ensures in
    let one : k + 1 ≡ suc k = omega arith in
    let taken : take (k + 1) active ≡ take k active ++ number ∷ [] = ap (λ (j : ℕ). take j active) one ∙ take_push active k number number_at in
    let last : ℤ → PriceList g.row.R.Denot = λ z. cond (is_positive z) ((row, z) ∷ []) [] in
    c.in_ok-push_price.ensures
    ∙ ap (λ (es : PriceList g.row.R.Denot). es ++ last (to_z w64 (of_z w64 c.at-in-loop-k.result))) c.loop-k.invariant
    ∙ ap (λ (z : ℤ). listed (rows_at numbered (take k active)) prices ++ last z) price
    ∙ sym (listed_push prices (rows_at numbered (take k active)) (row, number))
    ∙ ap (λ (es : List (g.row.R.Denot × ℕ)). listed es prices) (sym (rows_at_push numbered (take k active) number row at))
    ∙ ap (λ (ns : List ℕ). listed (rows_at numbered ns) prices) (sym taken)
