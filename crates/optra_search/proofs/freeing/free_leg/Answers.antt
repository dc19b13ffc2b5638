-- The first free leg of the freest walk.
use Rattle.std.proofs.Common.{◌≡◌, List, subst}
use Rattle.optra_walk.specs.declared.Leg.{Leg}
use Rattle.optra_search.specs.Splits.{IsFree, IsFirstOrNone}
use Rattle.optra_search.proofs.MarkLemmas.{settled_none, free_leg_of}
use Rattle.optra_search.proofs.freeing.free_leg.Goals as goal

pub returns-in-None : goal.returns-in-None
returns-in-None g c =
    let net = c.args.inst.net.now in
    settled_none net (g.F.RowFamily.rows_of c.args.rows.now net) c.args.inst.bids.now c.args.node.now c.args.bid (rw c.in-None.is at c.in_ok-walk.ensures)

pub returns-in-Some : goal.returns-in-Some
returns-in-Some g c =
    let net = c.args.inst.net.now in
    free_leg_of net (g.F.RowFamily.rows_of c.args.rows.now net) c.args.inst.bids.now c.args.node.now c.args.bid c.in-Some.walk c.first_free.result (rw c.in-Some.is at c.in_ok-walk.ensures)
    (let e : c.deref.result.now ≡ c.in-Some.walk = cc in subst (λ (legs : List Leg). IsFirstOrNone (IsFree c.args.node.now c.args.bid) legs c.first_free.result) e c.first_free.ensures)
