use Rattle.std.proofs.Common.{◌≡◌, ℕ, true, List, ◌∷◌, ◌++◌, ap, ◌∙◌, subst, rules, to_z, of_z}
use Rattle.std.specs.Prelude.{All, ℤ, FitsSigned}
use Rattle.std.specs.Int.{w64}
use Rattle.std.proofs.lemmas.Int.{to_z-of_z}
use Rattle.std.proofs.lemmas.Option.{MatchOption-at_some}
use Rattle.optra_node.proofs.LoadLemmas.{all_head, all_tail}
use Rattle.optra_prices.specs.Steps.{next_price}
use Rattle.optra_prices.specs.Holdings.{stepped, next_held}
use Rattle.optra_prices.specs.declared.holding.Held.{Held}
use Rattle.optra_prices.proofs.StepLemmas.{stepped_turn}
use Rattle.optra_prices.proofs.stepping.made_prices.Goals as goal

pub cap-capacity-requires : goal.cap-capacity-requires
cap-capacity-requires g c =
    let rows = g.F.RowFamily.rows_of c.args.rows.now c.args.net.now in
    let e : g.row.F-Row.Denot × Held = (c.in-Some.row.now, c.in-Some.item.now) in
    let turn : c.loop-row.row-iterator ≡ e ∷ c.next.new.self = MatchOption-at_some _ (λ x. c.loop-row.row-iterator ≡ (x.0.now, x.1.now) ∷ c.next.new.self) (c.in-Some.row, c.in-Some.item) c.in-Some.is c.next.ensures.steps in
    all_head (λ (x : g.row.F-Row.Denot × Held). rows.is_row x.0 ≡ true) e c.next.new.self (subst (All (λ (x : g.row.F-Row.Denot × Held). rows.is_row x.0 ≡ true)) turn c.loop-row.invariant.rows)

pub loop-row-preserved : goal.loop-row-preserved
loop-row-preserved g c =
    let rows = g.F.RowFamily.rows_of c.args.rows.now c.args.net.now in
    let e : g.row.F-Row.Denot × Held = (c.in-Some.row.now, c.in-Some.item.now) in
    let turn : c.loop-row.row-iterator ≡ e ∷ c.next.new.self = MatchOption-at_some _ (λ x. c.loop-row.row-iterator ≡ (x.0.now, x.1.now) ∷ c.next.new.self) (c.in-Some.row, c.in-Some.item) c.in-Some.is c.next.ensures.steps in
    let length = to_z w64 (of_z w64 c.args.length) in
    let next = next_held rows length in
    let whole = stepped next c.args.held.now.entries in
    let out = c.loop-row.out.items in
    let f1 : FitsSigned w64 c.next_price-price.result = search rules in
    let f2 : FitsSigned w64 c.in-Some.item.now.price = search rules in
    let price = to_z w64 (of_z w64 c.next_price-price.result) in
    let price_is : price ≡ next e =
    to_z-of_z w64 c.next_price-price.result f1 ∙ c.next_price-price.ensures.value ∙ ap (λ (z : ℤ). next_price length z c.in-Some.item.now.used c.cap-capacity.result) (to_z-of_z w64 c.in-Some.item.now.price f2)
    ∙ ap (λ (n : ℕ). next_price length c.in-Some.item.now.price c.in-Some.item.now.used n) c.cap-capacity.ensures
    in
    record {
      so_far = stepped_turn next out c.push_price.new.out.items whole e c.next.new.self price (subst (λ (xs : List (g.row.F-Row.Denot × Held)). out ++ stepped next xs ≡ whole) turn c.loop-row.invariant.so_far) price_is c.in_ok-push_price.ensures;
      rows = all_tail (λ (x : g.row.F-Row.Denot × Held). rows.is_row x.0 ≡ true) e c.next.new.self (subst (All (λ (x : g.row.F-Row.Denot × Held). rows.is_row x.0 ≡ true)) turn c.loop-row.invariant.rows);
    }
