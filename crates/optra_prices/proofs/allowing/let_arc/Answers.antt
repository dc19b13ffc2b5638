use Rattle.std.proofs.Common.{sym, ◌∙◌}
use Rattle.optra_prices.proofs.AllowLemmas.{free_mark, leg_let}
use Rattle.optra_prices.proofs.allowing.let_arc.Goals as goal

pub returns-then-not-has_own : goal.returns-then-not-has_own
returns-then-not-has_own g c =
    let s = c.args.own.now in
    free_mark s.net s.bids s.node c.args.number c.args.graph.now c.args.k c.args.has_room (c.requires.own c.if-not-has_own.true) c.if-not-has_room.false

pub returns-in-Some : goal.returns-in-Some
returns-in-Some g c =
    let s = c.args.own.now in
    leg_let s.net s.bids s.node c.args.number c.args.graph.now c.args.k c.in-Some.leg c.args.has_room c.let_by.result (sym c.leg.ensures ∙ c.in-Some.is) c.if-not-has_room.false c.let_by.ensures
