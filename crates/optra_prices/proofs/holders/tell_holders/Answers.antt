use Rattle.std.proofs.Common.{◌≡◌, ◌+◌, ◌-◌, ◌<◌, ◌≤◌, ℕ, List, Bool, true, length, set, refl, sym, ap, ◌∙◌, subst, arith}
use Rattle.std.specs.Prelude.{slice_index}
use Rattle.optra_prices.specs.Indexes.{items_at}
use Rattle.optra_prices.proofs.HolderLemmas.{TellsFirst, first_none, first_more, first_all}
use Rattle.optra_prices.proofs.KeyLemmas.{item_read, items_most}
use Rattle.optra_prices.proofs.holders.tell_holders.Goals as goal

pub loop-place-init : goal.loop-place-init
loop-place-init c =
    let bids = items_at c.args.holders.now c.args.g in
    let start = slice_index c.args.holders.now.starts.items c.args.g in
    let none : c.start_of-place.result - start ≡ 0 = let e = c.start_of-place.ensures in omega arith in
    record {
      low = let e = c.start_of-place.ensures in omega arith;
      first = subst (λ (n : ℕ). TellsFirst n bids c.args.fallen.now.items c.args.fallen.now.items) (sym none) (first_none bids c.args.fallen.now.items);
    }

pub loop-place-preserved : goal.loop-place-preserved
loop-place-preserved c =
    let holders = c.args.holders.now in
    let bids = items_at holders c.args.g in
    let start = slice_index holders.starts.items c.args.g in
    let place = c.loop-place.place in
    let inv = c.loop-place.invariant in
    let low = inv.low in
    let high : place < slice_index holders.starts.items (c.args.g + 1) = let e = c.end_of-place-end.ensures in let t = c.loop-place-test.true in omega arith in
    let n = place - start in
    let next : place + 1 - start ≡ n + 1 = omega arith in
    let told = c.tell_bid.ensures ∙ ap (λ (bid : ℕ). set c.loop-place.fallen.items bid true) (c.at.ensures ∙ sym (item_read holders c.args.g place inv.low high)) in
    record {
      low = omega arith;
      first = subst (λ (m : ℕ). TellsFirst m bids c.args.fallen.now.items c.tell_bid.new.fallen.items) (sym next)
          (subst (λ (told : List Bool). TellsFirst (n + 1) bids c.args.fallen.now.items told) (sym told) (first_more n bids c.args.fallen.now.items c.loop-place.fallen.items inv.first));
    }

pub returns : goal.returns
returns c =
    let holders = c.args.holders.now in
    let n = c.loop-place.place - slice_index holders.starts.items c.args.g in
    let most = items_most holders c.args.g in
    let past : length (items_at holders c.args.g) ≤ n = let e = c.end_of-place-end.ensures in let t = c.loop-place-test.false in omega arith in
    first_all n (items_at holders c.args.g) holders c.args.g c.args.fallen.now.items c.loop-place.fallen.items past refl c.loop-place.invariant.first
