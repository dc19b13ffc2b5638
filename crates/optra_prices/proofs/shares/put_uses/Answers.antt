use Rattle.std.proofs.Common.{◌<◌, ◌∙◌, ap, length, sym, arith}
use Rattle.std.proofs.lemmas.List.{get_or-map}
use Rattle.optra_prices.specs.NarrowTouches.{no_touch}
use Rattle.optra_prices.specs.Users.{rows_touched}
use Rattle.optra_prices.specs.declared.touch.Touch.{Touch}
use Rattle.optra_prices.proofs.PlacedLemmas.{uses_more}
use Rattle.optra_prices.proofs.shares.put_uses.Goals as goal

pub loop-place-preserved : goal.loop-place-preserved
loop-place-preserved c =
    let touches = c.args.touches.now in
    let rows = rows_touched touches in
    let n = c.loop-place.place in
    let inv = c.loop-place.invariant in
    let l : n < length touches = let t = c.loop-place-test.true in omega arith in
    record {
      are_open = c.put.ensures.room;
      put = uses_more rows touches n _ c.loop-place.index c.put.new.index (ap (λ (t : Touch). t.uses) c.at.ensures ∙ sym (get_or-map (λ (t : Touch). t.uses) touches n no_touch 0 l)) inv.put c.put.ensures.puts;
    }
