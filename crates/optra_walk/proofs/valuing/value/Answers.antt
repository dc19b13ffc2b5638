use Rattle.std.proofs.Common.{arith, rules, sym, ◌∙◌, ap}
use Rattle.optra_bid.specs.Specs.{Path}
use Rattle.optra_walk.specs.Legs.{arrival_of}
use Rattle.optra_walk.proofs.AddingLemmas.{walk_sum}
use Rattle.optra_walk.proofs.WalkLemmas.{walk_within}
use Rattle.optra_walk.proofs.valuing.value.Goals as goal

pub wait_minutes-waits-requires : goal.wait_minutes-waits-requires
wait_minutes-waits-requires c =
    let w = walk_within c.args.net.now c.args.bid.now.path c.args.legs.now c.in-Some-Some.last.now c.in-Some.arrive c.laws.ensures c.requires
    (search rules) (ap (λ (p : Path). arrival_of c.args.net.now p.kind c.in-Some-Some.last.now) (sym c.path.view_is) ∙ sym c.in-Some.ensures.value) in
    omega (arith, w.0, w.1, c.args.bid.now.bounds.arrive.day)

pub overflow_cast-waits : goal.overflow_cast-waits
overflow_cast-waits c =
    let w = walk_within c.args.net.now c.args.bid.now.path c.args.legs.now c.in-Some-Some.last.now c.in-Some.arrive c.laws.ensures c.requires
    (search rules) (ap (λ (p : Path). arrival_of c.args.net.now p.kind c.in-Some-Some.last.now) (sym c.path.view_is) ∙ sym c.in-Some.ensures.value) in
    omega (arith, w.0, w.1, c.args.bid.now.bounds.arrive.day, c.wait_minutes-waits.ensures)

pub value_by-requires-clause-waits : goal.value_by-requires-clause-waits
value_by-requires-clause-waits c =
    let w = walk_within c.args.net.now c.args.bid.now.path c.args.legs.now c.in-Some-Some.last.now c.in-Some.arrive c.laws.ensures c.requires
    (search rules) (ap (λ (p : Path). arrival_of c.args.net.now p.kind c.in-Some-Some.last.now) (sym c.path.view_is) ∙ sym c.in-Some.ensures.value) in
    omega (arith, w.0, w.1, c.args.bid.now.bounds.arrive.day, c.wait_minutes-waits.ensures)

pub returns-clause-shares : goal.returns-clause-shares
returns-clause-shares c = walk_sum c.args.net.now c.args.bid.now c.laws.ensures c.args.legs.now c.requires
