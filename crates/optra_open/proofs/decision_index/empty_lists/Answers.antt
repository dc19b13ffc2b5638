-- One more empty list.
use Rattle.std.proofs.Common.{◌≡◌, ◌∙◌, ◌++◌, ◌∷◌, [], ℕ, Vec, Global, map, replicate, sym, ap, arith}
use Rattle.std.proofs.lemmas.List.{map-append}
use Rattle.std.proofs.lemmas.Grind.{replicate_next}
use Rattle.optra_node.specs.declared.Decision.{Decision}
use Rattle.optra_open.proofs.decision_index.empty_lists.Goals as goal

pub lists-init : goal.lists-init
lists-init c = ap (map (λ (list : Vec Decision Global). list.items)) c.new-lists.ensures.items

pub lists-preserved : goal.lists-preserved
lists-preserved c =
    ap (map (λ (list : Vec Decision Global). list.items)) c.in_ok-push.ensures.items
    ∙ map-append (λ (list : Vec Decision Global). list.items) c.lists.lists.items (c.new.result ∷ [])
    ∙ (λ i. c.lists.invariant i ++ c.new.ensures.items i ∷ [])
    ∙ sym (replicate_next c.lists.counter [])

pub lists-smaller : goal.lists-smaller
lists-smaller c = omega (arith, c.lists-test.true)

pub returns : goal.returns
returns c =
    let all : c.lists.counter ≡ c.args.count = omega (arith, c.lists-test.false, c.lists.auto.counter-end) in
    c.lists.invariant ∙ ap (λ (n : ℕ). replicate n []) all
