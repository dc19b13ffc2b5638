use Rattle.std.proofs.Common.{refl, subst}
use Rattle.std.specs.Prelude.{All}
use Rattle.optra_prices.specs.Columns.{HasNotRisen}
use Rattle.optra_prices.proofs.SkipLemmas.{stands_still}
use Rattle.optra_prices.proofs.settling.update.Goals as goal

pub returns-then-not-has_risen : goal.returns-then-not-has_risen
returns-then-not-has_risen c =
    let before = c.requires.before in
    let marks = c.args.marks.now in
    let unfallen = c.requires.told c.if-not-fell.true in
    let unrisen = subst (All (HasNotRisen marks)) c.deref.ensures.value (c.if-not-has_risen.ensures.still refl) in
    stands_still c.args.table.now before.0 c.args.grouped.prices.now marks c.requires.sound before.2 unfallen c.args.standing.now unrisen before.1
