-- One more copy.
use Rattle.std.proofs.Common.{◌≡◌, ◌+◌, length, Some, slice_get, refl, sym, subst}
use Rattle.std.proofs.lemmas.Option.{slice_get_read}
use Rattle.optra_prices.proofs.StandLemmas.{CopiesBelow, copy_push}
use Rattle.optra_prices.proofs.sessions.copy_standings.Goals as goal

pub loop-standing-preserved : goal.loop-standing-preserved
loop-standing-preserved c =
    let standings = c.args.standings.now in
    let n = c.loop-standing.standing-index in
    let standing = c.standing-item.result in
    let at : slice_get standings n ≡ Some standing = slice_get_read standings (length standings) n standing refl c.loop-standing-test.true c.standing-item.is in
    subst (CopiesBelow standings (n + 1)) (sym c.in_ok-push.ensures.items) (copy_push standings n c.loop-standing.copies.items standing c.in_ok-copy.copy c.loop-standing.invariant at c.in_ok-copy.ensures)
