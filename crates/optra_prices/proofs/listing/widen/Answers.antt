use Rattle.std.proofs.Common.{◌≡◌, ◌<◌, ◌∷◌, [], ◌++◌, ◌+◌, ◌∙◌, suc, true, ℕ, List, length, take, Some, slice_get, refl, ap, sym, subst, arith}
use Rattle.std.specs.Prelude.{pos}
use Rattle.std.proofs.lemmas.List.{length-append, length-take}
use Rattle.std.proofs.lemmas.Option.{slice_get_read}
use Rattle.optra_prices.specs.Courses.{HaveCapacities}
use Rattle.optra_prices.specs.Listings.{AddsZeros}
use Rattle.optra_prices.proofs.ListLemmas.{all_at}
use Rattle.optra_prices.proofs.ListingLemmas.{capacities_push, adds_zero, no_zeros}
use Rattle.optra_prices.proofs.NumberLemmas.{take_push}
use Rattle.optra_prices.proofs.listing.widen.Goals as goal

pub loop-n-init : goal.loop-n-init
loop-n-init g c =
    let old = c.args.levels.now in
    let now = c.reserve_levels.new.levels in
    let is = c.in_ok-reserve_levels.ensures in
    let count : length now.prices.items ≡ c.len-n.result = sym c.len-n.ensures in
    let was : length old.prices.items ≡ c.len-n.result = ap length (sym is.prices) ∙ count in
    record {
      levels = is.levels;
      unused = is.unused;
      capacities = subst (λ (caps : List ℕ). HaveCapacities (g.F.RowFamily.rows_of c.args.rows.now c.args.net.now) (take c.len-n.result c.args.numbered.now.items) caps) (sym is.capacities)
          (subst (λ (n : ℕ). HaveCapacities (g.F.RowFamily.rows_of c.args.rows.now c.args.net.now) (take n c.args.numbered.now.items) old.loads.capacities) was c.requires.capacities);
      prices = subst (AddsZeros old.prices.items) (sym is.prices) (no_zeros old.prices.items);
      count = count;
    }

pub push_level-requires-clause-small : goal.push_level-requires-clause-small
push_level-requires-clause-small g c =
    let f = c.args.rows.now in
    let net = c.args.net.now in
    let numbered = c.args.numbered.now.items in
    let n = c.loop-n.n in
    let row = c.at.result in
    let at : slice_get numbered n ≡ Some row = c.at.ensures in
    let fits = g.met.F.RowFamily.capacity_fits f net row c.laws.ensures (all_at (λ r. (g.F.RowFamily.rows_of f net).is_row r ≡ true) numbered n row c.requires.rows at) in
    let is = c.cap.ensures in
    omega arith

pub loop-n-preserved : goal.loop-n-preserved
loop-n-preserved g c =
    let rows = g.F.RowFamily.rows_of c.args.rows.now c.args.net.now in
    let numbered = c.args.numbered.now.items in
    let n = c.loop-n.n in
    let row = c.at.result in
    let at : slice_get numbered n ≡ Some row = c.at.ensures in
    let one : n + 1 ≡ suc n = omega arith in
    let taken = ap (λ (k : ℕ). take k numbered) one ∙ take_push numbered n row at in
    let now = c.loop-n.levels in
    let new = c.push_level.new.levels in
    let inv = c.loop-n.invariant in
    let is = c.in_ok-push_level.ensures in
    let short = length-take n numbered in
    let l : n < length numbered = subst (λ (k : ℕ). n < k) c.len-n-end.ensures c.loop-n-test.true in
    let count = inv.count in
    let long : length now.loads.capacities ≡ length (take n numbered) = let a = inv.levels.capacity_count in omega arith in
    let pushed = capacities_push rows (take n numbered) now.loads.capacities row c.cap.result long inv.capacities c.cap.ensures in
    record {
      levels = is.levels;
      unused = is.unused;
      capacities = subst (λ (caps : List ℕ). HaveCapacities rows (take (n + 1) numbered) caps) (sym is.capacities) (subst (λ (rs : List g.row.F-Row.Denot). HaveCapacities rows rs (now.loads.capacities ++ c.cap.result ∷ [])) (sym taken) pushed);
      prices = adds_zero c.args.levels.now.prices.items now.prices.items new.prices.items inv.prices is.prices;
      count = ap length is.prices ∙ length-append now.prices.items (pos 0 ∷ []) ∙ ap (λ (k : ℕ). k + 1) inv.count;
    }
