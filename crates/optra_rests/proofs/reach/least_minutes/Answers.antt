use Rattle.std.proofs.Common.{◌≡◌, ◌++◌, ◌∙◌, ℕ, List, length, slice_index, sum, take, drop, sym, ap, subst, arith}
use Rattle.std.proofs.Math.Seq.{take-append_seam}
use Rattle.optra_rests.specs.Reaches.{AreLeast}
use Rattle.optra_rests.proofs.reach.least_minutes.Goals as goal

pub overflow_cast-station_count : goal.overflow_cast-station_count
overflow_cast-station_count c = omega (arith, c.station_count.type_inv)

pub overflow_cast-at : goal.overflow_cast-at
overflow_cast-at c = omega (arith, c.requires, c.station_count.ensures.count, c.station_count.type_inv)

pub index_mut-requires : goal.index_mut-requires
index_mut-requires c = omega (arith, c.in_ok-least.ensures.len, c.requires, c.station_count.ensures.count)

pub lower-requires : goal.lower-requires
lower-requires c = record { len = ap length c.deref_mut.ensures.value ∙ c.passes.invariant.len }

written : (new old : List ℕ) (len : ℕ) → len ≡ length new → take len (new ++ drop (length new) old) ≡ new
written new old len e = ap (λ n. take n (new ++ drop (length new) old)) e ∙ take-append_seam new (drop (length new) old)

pub passes-preserved : goal.passes-preserved
passes-preserved c =
    let new = c.lower.new.least in
    let old = c.passes.least.items in
    let at = c.args.at.0 in
    let count : c.passes.least.len ≡ length old = grind arith in
    let kept = c.lower.auto.least in
    let value = c.deref_mut.ensures.value in
    let same = ap length value in
    let e = written new old c.passes.least.len (omega (arith, count, kept, same)) in
    let len = c.passes.invariant.len in
    let l = ap length e in
    let no_more = c.lower.ensures.no_more at in
    let v = ap (λ (xs : List ℕ). slice_index xs at) value in
    let w = ap (λ (xs : List ℕ). slice_index xs at) e in
    let first = c.passes.invariant.first in
    record { len = omega (arith, l, kept, same, len); first = omega (arith, no_more, v, w, first) }

pub passes-smaller : goal.passes-smaller
passes-smaller c =
    let new = c.lower.new.least in
    let old = c.passes.least.items in
    let count : c.passes.least.len ≡ length old = grind arith in
    let kept = c.lower.auto.least in
    let value = c.deref_mut.ensures.value in
    let same = ap length value in
    let e = written new old c.passes.least.len (omega (arith, count, kept, same)) in
    let less = c.lower.ensures.lowered c.passes-test.true in
    let v = ap sum value in
    let w = ap sum e in
    omega (arith, less, v, w)

pub returns : goal.returns
returns c =
    let new = c.lower.new.least in
    let old = c.passes.least.items in
    let at = c.args.at.0 in
    let count : c.passes.least.len ≡ length old = grind arith in
    let kept = c.lower.auto.least in
    let value = c.deref_mut.ensures.value in
    let same = ap length value in
    let e = written new old c.passes.least.len (omega (arith, count, kept, same)) in
    let len = c.passes.invariant.len in
    let no_more = c.lower.ensures.no_more at in
    let v = ap (λ (xs : List ℕ). slice_index xs at) value in
    let first = c.passes.invariant.first in
    subst (λ (xs : List ℕ). AreLeast c.args.net.now c.args.kind c.args.back c.args.at c.args.start xs) (sym e)
    (record { len = omega (arith, kept, same, len); first = omega (arith, no_more, v, first); each = c.lower.ensures.stays c.passes-test.false })
