-- The leg of one more arc.
use Rattle.std.proofs.Common.{arith, ◌≡◌, ◌∙◌, ◌-◌, ◌+◌, ◌++◌, ◌∷◌, [], sym, ap, take, subst, length, get_or, List, ℕ}
use Rattle.std.proofs.lemmas.Grind.{common_steps}
use Rattle.std.proofs.lemmas.List.{take_all}
use Rattle.optra_walk.specs.declared.Leg.{Leg}
use Rattle.optra_graph.specs.Timed.{Timed, IsLaidOut, walk_of, leg_at, no_leg}
use Rattle.optra_graph.proofs.RouteLemmas.{arc_there, start_first, leg_later, walk_none, walk_first, walk_more}
use Rattle.optra_graph.proofs.timegraphs.TimeGraph.walk_of.Goals as goal

pub loop-arc-init : goal.loop-arc-init
loop-arc-init c = let laid : IsLaidOut c.args.self.now = subst IsLaidOut c.self.view_is c.self.invariant in c.in_ok-reserve_exact.ensures.items ∙ c.new-legs.ensures.items ∙ sym (walk_none c.args.self.now laid c.args.path.now)

pub loop-arc-preserved-then-arc-starts : goal.loop-arc-preserved-then-arc-starts
loop-arc-preserved-then-arc-starts c =
    let n : c.len-starts.result ≡ length c.self.inside.minutes.items = grind (arith, common_steps) in
    let vm = ap length (ap (λ (t : Timed). t.minutes) c.self.view_is) in
    let laid : IsLaidOut c.args.self.now = subst IsLaidOut c.self.view_is c.self.invariant in
    let z = start_first c.args.self.now laid c.args.path.now c.requires c.loop-arc.arc-index 0 c.loop-arc-test.true (omega (arith, n, vm, c.if-arc-starts.true)) in
    let e : c.loop-arc.legs.items ≡ [] = c.loop-arc.invariant ∙ ap (λ (i : ℕ). walk_of c.args.self.now (take i c.args.path.now)) z ∙ walk_none c.args.self.now laid c.args.path.now in
    e ∙ sym (ap (λ (i : ℕ). walk_of c.args.self.now (take (i + 1) c.args.path.now)) z ∙ walk_first c.args.self.now laid c.args.path.now)

pub at-requires : goal.at-requires
at-requires c =
    let n : c.len-starts.result ≡ length c.self.inside.minutes.items = grind (arith, common_steps) in
    let vm = ap length (ap (λ (t : Timed). t.minutes) c.self.view_is) in
    let vl = ap length (ap (λ (t : Timed). t.legs) c.self.view_is) in
    let laid : IsLaidOut c.args.self.now = subst IsLaidOut c.self.view_is c.self.invariant in
    let count = laid.arcs in
    let there = arc_there c.args.self.now laid c.args.path.now c.requires c.loop-arc.arc-index 0 c.loop-arc-test.true in
    omega (arith, n, vm, vl, count, there, c.if-arc-starts.false)

pub loop-arc-preserved : goal.loop-arc-preserved
loop-arc-preserved c =
    let n : c.len-starts.result ≡ length c.self.inside.minutes.items = grind (arith, common_steps) in
    let vm = ap length (ap (λ (t : Timed). t.minutes) c.self.view_is) in
    let vl = ap (λ (t : Timed). t.legs) c.self.view_is in
    let laid : IsLaidOut c.args.self.now = subst IsLaidOut c.self.view_is c.self.invariant in
    let one = leg_later c.args.self.now laid c.args.path.now c.requires c.loop-arc.arc-index 0 c.loop-arc-test.true (omega (arith, n, vm, c.if-arc-starts.false)) in
    let more = walk_more c.args.self.now laid c.args.path.now c.loop-arc.arc-index 0 one c.loop-arc-test.true in
    let same : get_or c.args.path.now c.loop-arc.arc-index 0 - c.len-starts.result ≡ get_or c.args.path.now c.loop-arc.arc-index 0 - length c.args.self.now.minutes = omega (arith, n, vm) in
    let leg : c.at.result ≡ leg_at c.args.self.now (get_or c.args.path.now c.loop-arc.arc-index 0) =
    c.at.ensures
    ∙ ap (λ (xs : List Leg). get_or xs (get_or c.args.path.now c.loop-arc.arc-index 0 - c.len-starts.result) no_leg) vl ∙ ap (λ (i : ℕ). get_or c.args.self.now.legs i no_leg) same in
    c.in_ok-push.ensures.items ∙ (λ i. c.loop-arc.invariant i ++ leg i ∷ []) ∙ sym more

pub returns : goal.returns
returns c =
    let end : length c.args.path.now ≡ c.loop-arc.arc-index = omega (arith, c.loop-arc-test.false, c.loop-arc.auto.arc-index-end) in
    c.loop-arc.invariant ∙ ap (walk_of c.args.self.now) (take_all c.loop-arc.arc-index c.args.path.now (omega (arith, end)))
