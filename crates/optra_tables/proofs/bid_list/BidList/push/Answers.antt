-- The index has the name of the new bid.
use Rattle.std.proofs.Common.{◌≡◌, ◌++◌, ◌∙◌, List, [], ◌∷◌, ap, rules, true}
use Rattle.std.specs.Result.{is_ok}
use Rattle.optra_network.specs.Names.{place_of}
use Rattle.optra_network.proofs.NamesLemmas.{texts-insert_key}
use Rattle.optra_bid.specs.declared.bids.Bid.{Bid}
use Rattle.optra_tables.specs.Bids.{names_of}
use Rattle.optra_tables.proofs.BidLemmas.{names_more}
use Rattle.optra_tables.proofs.bid_list.BidList.push.Goals as goal

pub invariant_of-self-2 : goal.invariant_of-self-2
invariant_of-self-2 c =
    let good : is_ok c.push.result ≡ true = search rules in
    let items = rw good at c.push.ensures.items in
    let free = ap (place_of c.args.bid.name) (c.self.invariant ∙ ap names_of c.self.view_is) ∙ c.requires in
    let more = texts-insert_key _ _ _ _ c.in_ok-insert.ensures.keys (c.in_ok-name.ensures.ok ∙ c.text.ensures.text) free in
    names_more _ _ c.self.inside.bids.items _ c.args.bid c.self.invariant
    (items ∙ ap (λ (l : List Bid). l ++ c.args.bid ∷ []) c.in_ok-reserve.ensures.items) more
