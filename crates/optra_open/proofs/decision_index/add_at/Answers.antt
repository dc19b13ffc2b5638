use Rattle.std.proofs.Common.{map, sym, ◌∙◌, ap, subst, ◌≡◌, ◌<◌, ◌++◌, ◌∷◌, [], get_or, arith, length, Vec, Global}
use Rattle.std.proofs.lemmas.List.{get_or-map, length-map, map-set}
use Rattle.optra_node.specs.declared.Decision.{Decision}
use Rattle.optra_open.specs.Keyed.{AreKeyed}
use Rattle.optra_open.proofs.IndexLemmas.{keyed_push}
use Rattle.optra_open.proofs.decision_index.add_at.Goals as goal

pub returns : goal.returns
returns c key count node is are =
    let items = λ (list : Vec Decision Global). list.items in
    let lists = c.args.lists.now.items in
    let d = c.args.decision in
    let place = c.args.place in
    let below : place < length lists = omega arith in
    let within : place < length (map items lists) = omega (arith, length-map lists items) in
    let before : c.index_mut.result.now.items ≡ get_or (map items lists) place [] =
    ap items c.index_mut.ensures.value ∙ sym (get_or-map items lists place c.index_mut.result.now [] below) in
    subst (AreKeyed key count (node ++ d ∷ [])) (sym (map-set items lists place c.push.new.self))
    (keyed_push key count node d place is (map items lists) c.push.new.self.items within are (c.in_ok-push.ensures.items ∙ ap (λ l. l ++ d ∷ []) before))
