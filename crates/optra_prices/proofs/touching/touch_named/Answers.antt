use Rattle.std.proofs.Common.{◌≡◌, ◌-◌, ◌+◌, ℕ, Some, length, drop, take, slice_get, refl, ap, subst, ◌∙◌, arith}
use Rattle.std.specs.Prelude.{Contains}
use Rattle.std.proofs.lemmas.List.{length-drop}
use Rattle.std.proofs.lemmas.Option.{slice_get_read}
use Rattle.optra_prices.specs.Tables.{AddsTouches}
use Rattle.optra_prices.proofs.ListLemmas.{all_at}
use Rattle.optra_prices.proofs.NamedLemmas.{at_drop}
use Rattle.optra_prices.proofs.NumberLemmas.{adds_touch, all_touches, adds_none}
use Rattle.optra_prices.proofs.touching.touch_named.Goals as goal

pub loop-place-init : goal.loop-place-init
loop-place-init g c =
    let uses = (g.F.RowFamily.rows_of c.args.rows.now c.args.net.now).uses c.args.kind c.args.leg in
    let start = c.args.start in
    let named = c.args.named.now.items in
    let none : 0 ≡ start - start = omega arith in
    record {
      from = omega arith;
      touches = subst (λ (n : ℕ). AddsTouches named uses (take n (drop start named)) c.args.touches.now c.args.touches.now) none (adds_none named uses (drop start named) c.args.touches.now);
    }

pub loop-place-preserved : goal.loop-place-preserved
loop-place-preserved g c =
    let uses = (g.F.RowFamily.rows_of c.args.rows.now c.args.net.now).uses c.args.kind c.args.leg in
    let start = c.args.start in
    let named = c.args.named.now.items in
    let place = c.loop-place.place in
    let row = c.at.result in
    let from = c.loop-place.invariant.from in
    let here : start + (place - start) ≡ place = omega (arith, from) in
    let next : place - start + 1 ≡ place + 1 - start = omega (arith, from) in
    let at : slice_get named place ≡ Some row = c.at.ensures in
    let inside : slice_get (drop start named) (place - start) ≡ Some row = at_drop start named (place - start) ∙ ap (slice_get named) here ∙ at in
    record {
      from = omega (arith, from);
      touches = subst (λ (n : ℕ). AddsTouches named uses (take n (drop start named)) c.args.touches.now c.push.new.self) next
          (adds_touch named named uses (drop start named) (place - start) place c.touched_use-uses.result row c.args.touches.now c.loop-place.touches c.push.new.self
          c.loop-place.invariant.touches (λ n r e. e) inside at c.touched_use-uses.ensures c.in_ok-push.ensures);
    }

pub returns : goal.returns
returns g c =
    let start = c.args.start in
    let named = c.args.named.now.items in
    let last = c.loop-place-test.false in
    let from = c.loop-place.invariant.from in
    all_touches _ _ (drop start named) (c.loop-place.place - start) _ _ c.loop-place.invariant.touches (let l = length-drop start named in omega (arith, l, last, from))

pub touched_use-uses-requires-clause-used : goal.touched_use-uses-requires-clause-used
touched_use-uses-requires-clause-used g c =
    let used = g.F.RowFamily.rows_used c.args.rows.now c.args.net.now c.args.kind c.args.leg in
    let start = c.args.start in
    let named = c.args.named.now.items in
    let place = c.loop-place.place in
    let row = c.at.result in
    let from = c.loop-place.invariant.from in
    let here : start + (place - start) ≡ place = omega (arith, from) in
    let at : slice_get named place ≡ Some row = c.at.ensures in
    all_at (Contains used) (drop start named) (place - start) row c.requires.used (at_drop start named (place - start) ∙ ap (slice_get named) here ∙ at)
