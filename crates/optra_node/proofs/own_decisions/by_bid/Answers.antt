use Rattle.std.proofs.Common.{map, sym, ◌∙◌, ap, subst, ◌≡◌, ◌+◌, ◌<◌, ◌++◌, ◌∷◌, [], get_or, take, arith, length, Vec, Global, false}
use Rattle.std.proofs.lemmas.List.{get_or-map, length-map, map-set}
use Rattle.optra_walk.specs.declared.Action.TheVariants.{Pass}
use Rattle.optra_node.specs.declared.Decision.{Decision}
use Rattle.optra_node.specs.OwnDecisions.{AreByBid}
use Rattle.optra_node.proofs.OwnLemmas.{by_bid_more}
use Rattle.optra_node.proofs.own_decisions.by_bid.Goals as goal

abbrev any_decision : Decision
any_decision = record { bid = 0; leg = record { track = record { 0 = 0 }; depart = 0; from_halt = false; action = Pass }; yes = false }

pub loop-place-preserved : goal.loop-place-preserved
loop-place-preserved c =
    let items = λ (list : Vec Decision Global). list.items in
    let lists = c.loop-place.lists.items in
    let n = c.loop-place.place in
    let d = get_or c.args.decisions.now n any_decision in
    let within : n < length c.args.decisions.now = omega arith in
    let there : d.bid < c.args.bids = c.requires n any_decision within in
    let below : d.bid < length lists = let l = c.loop-place.invariant.count in omega (arith, length-map lists items) in
    let before : c.index_mut.result.now.items ≡ get_or (map items lists) d.bid [] =
    ap items c.index_mut.ensures.value ∙ sym (get_or-map items lists d.bid c.index_mut.result.now [] below) in
    subst (AreByBid c.args.bids (take (n + 1) c.args.decisions.now)) (sym (map-set items lists d.bid c.push.new.self))
    (by_bid_more c.args.bids c.args.decisions.now n any_decision (map items lists) c.push.new.self.items within there c.loop-place.invariant
    (c.in_ok-push.ensures.items ∙ ap (λ l. l ++ d ∷ []) before))
