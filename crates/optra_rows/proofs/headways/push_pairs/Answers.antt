use Rattle.std.proofs.Common.{◌≡◌, ◌+◌, ◌-◌, ◌&&◌, ◌++◌, ℕ, Some, length, drop, map, slice_get, sym, ap, ◌∙◌, arith}
use Rattle.std.proofs.lemmas.List.{length-map}
use Rattle.optra_walk.proofs.ListLemmas.{listed_more, listed_all}
use Rattle.optra_rows.specs.Headways.{in_day, is_started, is_not_over, pair_of}
use Rattle.optra_rows.proofs.CountLemmas.{length_from_to}
use Rattle.optra_rows.proofs.DayLemmas.{day_from_to, pair_in_day}
use Rattle.optra_rows.proofs.headways.push_pairs.Goals as goal

pub loop-k-preserved : goal.loop-k-preserved
loop-k-preserved c =
    let leg = c.args.leg in
    let pairs = map (pair_of leg.track c.args.kind leg.depart) (in_day leg.depart c.args.partners.now) in
    let first = c.first_started-first.result in
    let k = c.loop-k.k in
    let started = c.loop-k.invariant.started in
    let here : first + (k - first) ≡ k = omega (arith, started) in
    let next : k - first + 1 ≡ k + 1 - first = omega (arith, started) in
    let at : slice_get pairs (k - first) ≡ Some c.pair_of.result =
    pair_in_day leg.track c.args.kind leg.depart c.args.partners.now first c.first_over-k-end.result k (k - first) _ c.first_started-first.ensures.parts c.first_over-k-end.ensures here c.loop-k-test.true
    ∙ ap Some (sym c.pair_of.ensures) in
    let more = listed_more (c.args.list.now.items ++ drop c.args.from pairs) c.loop-k.list.items c.push.new.self.items pairs (k - first) c.pair_of.result c.loop-k.invariant.list at c.in_ok-push.ensures.pushed in
    record {
      started = omega (arith, started);
      list = ap (λ (m : ℕ). c.push.new.self.items ++ drop m pairs) (sym next) ∙ more;
    }

pub returns : goal.returns
returns c =
    let leg = c.args.leg in
    let pairs = map (pair_of leg.track c.args.kind leg.depart) (in_day leg.depart c.args.partners.now) in
    let first = c.first_started-first.result in
    let over = c.first_over-k-end.result in
    let count : length pairs ≡ length (in_day leg.depart c.args.partners.now) = length-map (in_day leg.depart c.args.partners.now) (pair_of leg.track c.args.kind leg.depart) in
    let in_all : length (in_day leg.depart c.args.partners.now) ≡ over - first =
    length_from_to (λ partner. is_started leg.depart partner && is_not_over leg.depart partner) c.args.partners.now first over
    (day_from_to leg.depart c.args.partners.now first over c.first_started-first.ensures.parts c.first_over-k-end.ensures) in
    let last = c.loop-k-test.false in
    let started = c.loop-k.invariant.started in
    listed_all (c.args.list.now.items ++ drop c.args.from pairs) c.loop-k.list.items pairs (c.loop-k.k - first) c.loop-k.invariant.list (omega (arith, count, in_all, last, started))
