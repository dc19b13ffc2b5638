-- Each turn places one more bid.
use Rattle.std.proofs.Common.{ℕ, ◌+◌, List, length, get_or, drop, Option, refl, sym, subst, arith}
use Rattle.std.proofs.lemmas.List.{drop_more}
use Rattle.std.proofs.lemmas.Option.{slice_get_within}
use Rattle.optra_walk.specs.declared.Leg.{Leg}
use Rattle.optra_walk.specs.Families.{entries_of}
use Rattle.optra_prices.proofs.ListLemmas.{some_at}
use Rattle.optra_repair.specs.Placings.{use_of_walk}
use Rattle.optra_repair.proofs.TurnLemmas.{IsUnderWay, none_placed, one_placed, next_free, later_differ, under_way_within}
use Rattle.optra_repair.proofs.repairing.place_all.Goals as goal

pub loop-turn-init : goal.loop-turn-init
loop-turn-init g c =
    let net = c.args.inst.net.now in
    let rows = g.F.RowFamily.rows_of c.args.rows.now net in
    let bids = c.args.inst.bids.now in
    let none : g.row.F-Row.Denot → ℕ = λ row. 0 in (
      none,
      subst (λ (walks : List (Option (List Leg))). IsUnderWay net rows bids c.args.node.now c.args.order.now c.args.order.now walks none) (sym c.in_ok-walks.ensures)
          (none_placed net rows bids c.args.node.now c.args.order.now none c.requires.within (λ row. refl)),
      c.in_ok-free_room.ensures,
    )

pub place-requires-clause-number : goal.place-requires-clause-number
place-requires-clause-number g c = c.requires.within c.loop-turn.turn 0 c.loop-turn-test.true

pub place-requires-clause-room : goal.place-requires-clause-room
place-requires-clause-room g c =
    let net = c.args.inst.net.now in
    let rows = g.F.RowFamily.rows_of c.args.rows.now net in
    let inv = c.loop-turn.invariant in
    (inv.0, under_way_within net rows c.args.inst.bids.now c.args.node.now c.args.order.now (drop c.loop-turn.turn c.args.order.now) c.loop-turn.walks.items inv.0 inv.1, inv.2)

pub index_mut-requires : goal.index_mut-requires
index_mut-requires g c =
    let net = c.args.inst.net.now in
    let rows = g.F.RowFamily.rows_of c.args.rows.now net in
    let inv = c.loop-turn.invariant in
    let free = next_free net rows c.args.inst.bids.now c.args.node.now c.args.order.now c.loop-turn.turn c.loop-turn.walks.items inv.0 c.loop-turn-test.true inv.1 in
    let within = slice_get_within c.loop-turn.walks.items (get_or c.args.order.now c.loop-turn.turn 0) _ free in
    grind (arith, within)

pub loop-turn-preserved : goal.loop-turn-preserved
loop-turn-preserved g c =
    let net = c.args.inst.net.now in
    let rows = g.F.RowFamily.rows_of c.args.rows.now net in
    let bids = c.args.inst.bids.now in
    let order = c.args.order.now in
    let turn = c.loop-turn.turn in
    let number = get_or order turn 0 in
    let walks = c.loop-turn.walks.items in
    let inv = c.loop-turn.invariant in
    let total = inv.0 in
    let bid = some_at bids number (c.requires.within turn 0 c.loop-turn-test.true) in
    let given = c.in_ok-given.given in
    let after : g.row.F-Row.Denot → ℕ = λ row. total row + use_of_walk rows bid.0.path.kind given row in
    let is = subst (λ (left : List ℕ). IsUnderWay net rows bids c.args.node.now order left walks total) (drop_more order turn 0 c.loop-turn-test.true) inv.1 in
    let within = under_way_within net rows bids c.args.node.now order (drop turn order) walks total inv.1 in
    let gives = c.in_ok-given.ensures.given bid.0 total (entries_of bids walks) bid.1 within inv.2 inv.1.totals in (
      after,
      one_placed net rows bids c.args.node.now order number (drop (turn + 1) order) walks total after bid.0 given bid.1 (later_differ order turn c.requires.once c.loop-turn-test.true) is gives (λ row. refl),
      c.in_ok-given.ensures.room bid.0 total bid.1 within inv.2,
    )
