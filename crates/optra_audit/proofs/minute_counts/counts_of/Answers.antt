-- Each stay adds one to its minutes.
use Rattle.std.proofs.Common.{◌≡◌, ℕ, ◌+◌, List, length, take, sym, ap, ◌∙◌, subst}
use Rattle.optra_audit.specs.Stays.{AreCounts, HasRoom}
use Rattle.optra_audit.proofs.MinuteLemmas.{counts_more, have_room, none_counted, written}
use Rattle.optra_audit.proofs.minute_counts.counts_of.Goals as goal

pub stays-init : goal.stays-init
stays-init c = none_counted c.in_ok-counts.counts.items (c.in_ok-counts.ensures.items_if_clones_equal (λ y e. e))

pub add_stay-requires : goal.add_stay-requires
add_stay-requires c =
    subst HasRoom (sym c.deref_mut.ensures.value)
    (have_room c.args.stays.now c.stays.counts.items c.stays.stay-index c.requires c.stays-test.true c.stays.invariant)

pub stays-preserved : goal.stays-preserved
stays-preserved c =
    let new = c.add_stay.new.counts in
    let n : length new ≡ c.stays.counts.len = c.add_stay.ensures.long ∙ sym (sym c.deref_mut.ensures.len ∙ ap length c.deref_mut.ensures.value ∙ c.stays.invariant.long) in
    subst (λ (xs : List ℕ). AreCounts (take (c.stays.stay-index + 1) c.args.stays.now) xs) (sym (written _ new _ n))
    (counts_more c.args.stays.now c.stays.counts.items new c.stays.stay-index _ c.stays-test.true c.stays.invariant (rw c.deref_mut.ensures.value at c.add_stay.ensures))
