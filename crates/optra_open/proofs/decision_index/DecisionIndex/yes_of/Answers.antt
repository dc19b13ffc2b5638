use Rattle.std.proofs.Common.{◌∙◌, ◌<◌, [], map, sym, ap, arith, length, Vec, Global}
use Rattle.std.proofs.lemmas.List.{get_or-map, length-map}
use Rattle.optra_node.specs.declared.Decision.{Decision}
use Rattle.optra_open.specs.Keyed.{yes_part}
use Rattle.optra_open.proofs.IndexLemmas.{keyed_at}
use Rattle.optra_open.proofs.decision_index.DecisionIndex.yes_of.Goals as goal

pub returns : goal.returns
returns c bids node is =
    let items = λ (list : Vec Decision Global). list.items in
    let lists = c.args.self.now.yes.items in
    let below : c.args.bid < length lists = omega arith in
    c.deref.ensures.value ∙ ap items c.index.ensures ∙ sym (get_or-map items lists c.args.bid c.index.result.now [] below)
    ∙ keyed_at (λ (d : Decision). d.bid) bids (yes_part node) (map items lists) c.args.bid is.yes (omega (arith, length-map lists items, below))
