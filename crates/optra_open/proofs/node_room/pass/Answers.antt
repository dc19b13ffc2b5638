use Rattle.std.proofs.Common.{◌≡◌, ◌++◌, ◌∷◌, [], length, arith, refl, sym, ◌∙◌, ap, inr, subst, take}
use Rattle.std.proofs.lemmas.List.{take-append-le}
use Rattle.optra_node.specs.declared.Decision.{Decision}
use Rattle.optra_node.specs.Trees.{decide, decide_not, children}
use Rattle.optra_open.specs.ToCome.{to_come, AreKept}
use Rattle.optra_open.proofs.ToComeLemmas.{split_opens}
use Rattle.std.proofs.lemmas.Result.{on_ok_weaker}
use Rattle.optra_open.proofs.node_room.pass.Goals as goal

pub returns-in-Split-clause-next : goal.returns-in-Split-clause-next
returns-in-Split-clause-next g c =
    let node = c.args.room.now.decisions.items in
    let next = c.decide.new.room.decisions.items in
    let yes : Decision = decide c.in-Split.bid c.in-Split.leg in
    let no : Decision = decide_not c.in-Split.bid c.in-Split.leg in
    on_ok_weaker c.decide.result
    (λ is. inr (ap (λ item. children node item ++ to_come node) c.in-Split.is ∙ ap (λ n. n ∷ (node ++ no ∷ []) ∷ to_come node) (sym is) ∙ split_opens node next yes is refl)) c.decide.ensures.more

pub decide-requires-clause-room : goal.decide-requires-clause-room
decide-requires-clause-room g c = c.requires.room

pub turn-requires : goal.turn-requires
turn-requires g c = c.requires.room

pub returns-in-Split-clause-kept : goal.returns-in-Split-clause-kept
returns-in-Split-clause-kept g c =
    let node = c.args.room.now.decisions.items in
    let yes : Decision = decide c.in-Split.bid c.in-Split.leg in
    on_ok_weaker c.decide.result
    (λ is k h. ap (take k) is ∙ take-append-le k node (yes ∷ []) (let all : k ≡ length node = subst (λ item. AreKept node item k) c.in-Split.is h in omega (arith, all))) c.decide.ensures.more
