use Rattle.std.proofs.Common.{◌≡◌, true, false, pos, sym, ap, ◌∙◌, subst, rules}
use Rattle.std.specs.Prelude.{FitsSigned, ℤ, ◌⊎◌, ◌<ℤ◌, ◌≤ℤ◌, ◌++◌, List, ℕ}
use Rattle.std.specs.Int.{w64, w128}
use Rattle.std.proofs.lemmas.Int.{to_z-of_z}
use Rattle.std.proofs.lemmas.Option.{MatchOption-at_some}
use Rattle.optra_dag.specs.Paths.{IsFirstBest}
use Rattle.optra_prices.specs.Tables.{allows_by, weight_by, AreWeighedTo}
use Rattle.optra_prices.specs.ArcTerms.{ArcTerm}
use Rattle.optra_prices.proofs.FoundLemmas.{found_path, found_nothing}
use Rattle.optra_prices.proofs.NarrowLemmas.{weighed_to}
use Rattle.optra_prices.proofs.searching.search_bid.Goals as goal

pub returns : goal.returns
returns c =
    let dag = c.args.dag.now in
    let prices = c.args.grouped.prices.now in
    let allows = allows_by c.args.arcs.now in
    let weight = weight_by c.args.arcs.now prices in
    let is_best = λ (arcs : List ArcTerm) (sum : ℤ). IsFirstBest dag (allows_by arcs) (weight_by arcs prices) sum c.best_in.new.buffers in
    let best = subst (λ (arcs : List ArcTerm). is_best arcs c.in-Some.sum) c.slice.ensures (MatchOption-at_some _ (is_best c.slice.result) c.in-Some.sum c.in-Some.is c.in_ok-sum.ensures.best) in
    let fits : FitsSigned w128 c.in-Some.sum = search rules in
    let whole = to_z-of_z w128 c.in-Some.sum fits in
    let same : c.extend_from_slice.new.self.items ≡ c.best_in.new.buffers = c.in_ok-extend_from_slice.ensures.items ∙ ap (λ (xs : List ℕ). xs ++ c.path.result.now) c.clear.ensures.items ∙ c.path.ensures in
    found_path dag allows weight c.args.forced c.best_in.new.buffers c.extend_from_slice.new.self.items c.in-Some.sum _ best (subst (λ z. (c.args.forced ≡ true) ⊎ (pos 0 <ℤ z)) whole c.if-not-is_worth.ensures) same whole

pub returns-then-not-is_worth : goal.returns-then-not-is_worth
returns-then-not-is_worth c =
    let dag = c.args.dag.now in
    let prices = c.args.grouped.prices.now in
    let allows = allows_by c.args.arcs.now in
    let weight = weight_by c.args.arcs.now prices in
    let is_best = λ (arcs : List ArcTerm) (sum : ℤ). IsFirstBest dag (allows_by arcs) (weight_by arcs prices) sum c.best_in.new.buffers in
    let best = subst (λ (arcs : List ArcTerm). is_best arcs c.in-Some.sum) c.slice.ensures (MatchOption-at_some _ (is_best c.slice.result) c.in-Some.sum c.in-Some.is c.in_ok-sum.ensures.best) in
    let fits : FitsSigned w128 c.in-Some.sum = search rules in
    let whole = to_z-of_z w128 c.in-Some.sum fits in
    found_nothing dag allows weight c.args.forced c.best_in.new.buffers c.clear.new.self.items c.in-Some.sum best (subst (λ z. (c.args.forced ≡ false) × (z ≤ℤ pos 0)) whole c.if-not-is_worth.ensures) c.clear.ensures.items

pub best_in-requires-clause-weighed : goal.best_in-requires-clause-weighed
best_in-requires-clause-weighed c =
    let values = c.args.most in
    let grouped = c.args.grouped in
    let a : FitsSigned w64 values = search rules in
    let b : FitsSigned w64 grouped.most = search rules in
    let both = to_z-of_z w64 values a in
    let high = to_z-of_z w64 grouped.most b in
    let sum = c.most_of.ensures in
    subst (λ (arcs : List ArcTerm). AreWeighedTo c.most_of.result arcs grouped.prices.now) (sym c.slice.ensures)
    (weighed_to values grouped.most c.most_of.result c.args.arcs.now grouped.prices.now c.requires.most c.requires.values c.requires.grouped cc)
