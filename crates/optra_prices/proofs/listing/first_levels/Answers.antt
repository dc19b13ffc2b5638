use Rattle.std.proofs.Common.{◌∙◌, ◌≤◌, ℕ, List, length, ap, sym, subst, replicate, slice_get}
use Rattle.std.specs.Prelude.{All, pos}
use Rattle.std.specs.Option.{option_map}
use Rattle.std.proofs.lemmas.List.{length-replicate}
use Rattle.std.proofs.lemmas.List.Elements.{All-map, All-weaker}
use Rattle.std.proofs.lemmas.Option.{slice_get-map}
use Rattle.optra_prices.proofs.listing.first_levels.Goals as goal

pub free_levels-requires-clause-small : goal.free_levels-requires-clause-small
free_levels-requires-clause-small g c =
    let f = c.args.rows.now in
    let net = c.args.net.now in
    let rows = g.F.RowFamily.rows_of f net in
    let numbered = c.args.numbered.now.items in
    subst (All (λ (capacity : ℕ). capacity ≤ 65535)) (sym c.in_ok-loads.ensures.capacities)
    (All-map (λ (capacity : ℕ). capacity ≤ 65535) rows.capacity numbered (All-weaker _ _ (λ row is. g.met.F.RowFamily.capacity_fits f net row c.laws.ensures is) numbered c.requires))

pub returns-clause-capacities : goal.returns-clause-capacities
returns-clause-capacities g c n row at =
    let rows = g.F.RowFamily.rows_of c.args.rows.now c.args.net.now in
    ap (λ (cs : List ℕ). slice_get cs n) (c.in_ok-levels.ensures.capacities ∙ c.in_ok-loads.ensures.capacities)
    ∙ slice_get-map rows.capacity c.args.numbered.now.items n ∙ ap (option_map rows.capacity) at

pub returns-clause-prices : goal.returns-clause-prices
returns-clause-prices g c = c.in_ok-levels.ensures.prices ∙ ap (λ (n : ℕ). replicate n (pos 0)) (ap length c.in_ok-loads.ensures.uses ∙ length-replicate (length c.args.numbered.now.items) 0)
