use Rattle.std.proofs.Common.{◌≡◌, ◌++◌, ◌∷◌, [], length, subst}
use Rattle.optra_node.specs.Nodes.{IsNode}
use Rattle.optra_open.specs.Opens.{IsIndexOf}
use Rattle.optra_open.proofs.IndexLemmas.{own_within, yes_within, buckets_count}
use Rattle.optra_open.proofs.OpenLemmas.{open_pop, totals_few, behind, enough}
use Rattle.optra_open.proofs.node_room.undo.Goals as goal

pub returns-clause-room : goal.returns-clause-room
returns-clause-room g c =
    let room = c.args.room.now in
    let d = c.in-Some.last in
    let f = c.args.rows.now in
    let net = c.args.inst.net.now in
    let bids = c.args.inst.bids.now in
    let rows = g.F.RowFamily.rows_of f net in
    let node = room.decisions.items in
    let before = c.pop.new.self.items in
    let is : node ≡ before ++ d ∷ [] = c.in-Some.ensures.items in
    let formed = (behind net (length bids) before d (subst (IsNode net (length bids)) is c.requires.room.is_node)).is_node.formed in
    let few =
    totals_few g.F.Row.Ord.cmp net c.args.inst.proper rows (g.F.RowFamily.rows_used f net) (λ kind leg usable. g.met.F.RowFamily.lists_rows f net kind leg usable)
    (λ kind leg row not. g.met.F.RowFamily.unusable_uses_none f net kind leg row not) bids before formed in
    open_pop g.F.Row.Ord.cmp net rows bids d node before room.totals.sums c.take_decision.new.totals.sums room.index c.take_off.new.self is c.requires.room few c.take_decision.ensures
    (c.take_off.ensures (length bids) before (subst (λ n. IsIndexOf (length bids) n room.index) is c.requires.room.indexed))

pub returns-clause-last : goal.returns-clause-last
returns-clause-last g c = c.in-Some.ensures.items

pub take_decision-requires-clause-decision : goal.take_decision-requires-clause-decision
take_decision-requires-clause-decision g c =
    let net = c.args.inst.net.now in
    let bids = length c.args.inst.bids.now in
    let node = subst (IsNode net bids) c.in-Some.ensures.items c.requires.room.is_node in
    (behind net bids c.pop.new.self.items c.in-Some.last node).formed

pub take_decision-requires-clause-enough : goal.take_decision-requires-clause-enough
take_decision-requires-clause-enough g c =
    let room = c.args.room.now in
    let net = c.args.inst.net.now in
    enough g.F.Row.Ord.cmp net (g.F.RowFamily.rows_of c.args.rows.now net) c.args.inst.bids.now c.in-Some.last room.decisions.items c.pop.new.self.items room.totals.sums c.in-Some.ensures.items c.requires.room.loads

pub returns-clause-formed : goal.returns-clause-formed
returns-clause-formed g c =
    let net = c.args.inst.net.now in
    let bids = length c.args.inst.bids.now in
    let node = subst (IsNode net bids) c.in-Some.ensures.items c.requires.room.is_node in
    (behind net bids c.pop.new.self.items c.in-Some.last node).formed

pub returns-clause-undecided : goal.returns-clause-undecided
returns-clause-undecided g c =
    let net = c.args.inst.net.now in
    let bids = length c.args.inst.bids.now in
    let node = subst (IsNode net bids) c.in-Some.ensures.items c.requires.room.is_node in
    (behind net bids c.pop.new.self.items c.in-Some.last node).undecided

pub take_off-requires-clause-own : goal.take_off-requires-clause-own
take_off-requires-clause-own g c =
    let net = c.args.inst.net.now in
    let bids = length c.args.inst.bids.now in
    let formed = (behind net bids c.pop.new.self.items c.in-Some.last (subst (IsNode net bids) c.in-Some.ensures.items c.requires.room.is_node)).formed in
    own_within bids c.args.room.now.decisions.items c.args.room.now.index c.requires.room.indexed c.in-Some.last.bid formed.in_range

pub take_off-requires-clause-yes : goal.take_off-requires-clause-yes
take_off-requires-clause-yes g c =
    let net = c.args.inst.net.now in
    let bids = length c.args.inst.bids.now in
    let formed = (behind net bids c.pop.new.self.items c.in-Some.last (subst (IsNode net bids) c.in-Some.ensures.items c.requires.room.is_node)).formed in
    yes_within bids c.args.room.now.decisions.items c.args.room.now.index c.requires.room.indexed c.in-Some.last.bid formed.in_range

pub take_off-requires-clause-buckets : goal.take_off-requires-clause-buckets
take_off-requires-clause-buckets g c = buckets_count (length c.args.inst.bids.now) c.args.room.now.decisions.items c.args.room.now.index c.requires.room.indexed
