use Rattle.std.proofs.Common.{◌∷◌, [], length, refl, sym, ap, ◌∙◌, ◌≡◌, inr, arith, rules}
use Rattle.std.proofs.lemmas.List.{length-append, take_all}
use Rattle.optra_node.specs.Trees.{decide_not}
use Rattle.optra_open.proofs.ToComeLemmas.{no_leaves_none, yes_leaves_no, back_first, back_yes, back_kept, yes_inside}
use Rattle.std.proofs.lemmas.Result.{on_ok_weaker}
use Rattle.optra_open.proofs.node_room.turn.Goals as goal

pub returns-then-last-clause-next : goal.returns-then-last-clause-next
returns-then-last-clause-next g c =
    let before = c.undo-last.new.room.decisions.items in
    let last = c.undo-last.result in
    let next = c.decide.new.room.decisions.items in
    on_ok_weaker c.decide.result
    (λ made. inr (sym c.back.invariant.to_come_is ∙ yes_leaves_no c.back.room.decisions.items before next last c.undo-last.ensures.last c.if-last.true made)) c.decide.ensures.more

pub returns-then-last-clause-room : goal.returns-then-last-clause-room
returns-then-last-clause-room g c = c.decide.ensures.room

pub back-preserved : goal.back-preserved
back-preserved g c = record {
  kept = c.undo-last.ensures.room;
  to_come_is = sym (no_leaves_none c.back.room.decisions.items c.undo-last.new.room.decisions.items c.undo-last.result c.undo-last.ensures.last c.if-last.false) ∙ c.back.invariant.to_come_is;
  first = back_first c.args.room.now.decisions.items c.back.room.decisions.items c.undo-last.new.room.decisions.items c.undo-last.result c.undo-last.ensures.last c.back.invariant.first;
  yes = λ k h. back_yes c.args.room.now.decisions.items c.back.room.decisions.items c.undo-last.new.room.decisions.items c.undo-last.result c.undo-last.ensures.last c.back.invariant.first c.if-last.false k (c.back.invariant.yes k h) h;
}

pub returns-then-last-clause-kept : goal.returns-then-last-clause-kept
returns-then-last-clause-kept g c =
    on_ok_weaker c.decide.result
    (λ made k h. back_kept c.args.room.now.decisions.items c.back.room.decisions.items c.undo-last.new.room.decisions.items c.undo-last.result c.undo-last.ensures.last c.back.invariant.first
    c.decide.new.room.decisions.items (decide_not c.undo-last.result.bid c.undo-last.result.leg) k made (c.back.invariant.yes k h)) c.decide.ensures.more

pub back-init : goal.back-init
back-init g c = record {
  kept = c.requires;
  to_come_is = refl;
  first = take_all (length c.args.room.now.decisions.items) c.args.room.now.decisions.items (omega arith);
  yes = λ k h. yes_inside c.args.room.now.decisions.items k h;
}

pub returns-clause-kept : goal.returns-clause-kept
returns-clause-kept g c k h = let l = c.back.invariant.yes k h in let empty : length c.back.room.decisions.items ≡ 0 = grind (arith, rules, c.is_empty.ensures, c.back-test.false) in absurd (omega (arith, l, empty))

pub back-smaller : goal.back-smaller
back-smaller g c =
    let before = c.undo-last.new.room.decisions.items in
    let last = ap length c.undo-last.ensures.last in
    let one = length-append before (c.undo-last.result ∷ []) in
    omega (arith, last, one)

pub undo-last-requires-clause-room : goal.undo-last-requires-clause-room
undo-last-requires-clause-room g c = c.back.invariant.kept

pub decide-requires-clause-room : goal.decide-requires-clause-room
decide-requires-clause-room g c = c.undo-last.ensures.room

pub decide-requires-clause-formed : goal.decide-requires-clause-formed
decide-requires-clause-formed g c = let formed = c.undo-last.ensures.formed in record { in_range = formed.in_range; formed = formed.formed }

pub decide-requires-clause-undecided : goal.decide-requires-clause-undecided
decide-requires-clause-undecided g c = c.undo-last.ensures.undecided
