use Rattle.std.proofs.Common.{length, arith}
use Rattle.optra_open.proofs.IndexLemmas.{own_within, yes_within, buckets_count}
use Rattle.optra_open.proofs.OpenLemmas.{open_push, decision_few}
use Rattle.optra_open.proofs.node_room.decide.Goals as goal

pub returns-clause-room : goal.returns-clause-room
returns-clause-room g c =
    let room = c.args.room.now in
    let net = c.args.inst.net.now in
    let bids = c.args.inst.bids.now in
    let node = room.decisions.items in
    let before = c.requires.room in
    open_push g.F.Row.Ord.cmp net (g.F.RowFamily.rows_of c.args.rows.now net) bids c.args.decision node c.push.new.self.items room.totals.sums c.add_decision.new.totals.sums room.index c.put.new.self c.in_ok-push.ensures.items
    before c.requires.formed c.requires.undecided c.in_ok-add_decision.ensures (λ row.
    decision_few g.F.Row.Ord.cmp net c.args.inst.proper (g.F.RowFamily.rows_of c.args.rows.now net) (g.F.RowFamily.rows_used c.args.rows.now net) (λ kind leg usable. g.met.F.RowFamily.lists_rows c.args.rows.now net kind leg usable)
    (λ kind leg row not. g.met.F.RowFamily.unusable_uses_none c.args.rows.now net kind leg row not) bids row c.args.decision c.requires.formed) (c.in_ok-put.ensures (length bids) node before.indexed)

pub returns-clause-more : goal.returns-clause-more
returns-clause-more g c = c.in_ok-push.ensures.items

pub add_decision-requires-clause-decision : goal.add_decision-requires-clause-decision
add_decision-requires-clause-decision g c = c.requires.formed

pub put-requires-clause-own : goal.put-requires-clause-own
put-requires-clause-own g c = own_within (length c.args.inst.bids.now) c.args.room.now.decisions.items c.args.room.now.index c.requires.room.indexed c.args.decision.bid c.requires.formed.in_range

pub put-requires-clause-yes : goal.put-requires-clause-yes
put-requires-clause-yes g c = yes_within (length c.args.inst.bids.now) c.args.room.now.decisions.items c.args.room.now.index c.requires.room.indexed c.args.decision.bid c.requires.formed.in_range

pub put-requires-clause-buckets : goal.put-requires-clause-buckets
put-requires-clause-buckets g c = buckets_count (length c.args.inst.bids.now) c.args.room.now.decisions.items c.args.room.now.index c.requires.room.indexed

pub add_decision-requires-clause-below : goal.add_decision-requires-clause-below
add_decision-requires-clause-below g c row =
    let f = c.args.rows.now in
    let net = c.args.inst.net.now in
    let few = c.requires.room.few row in
    let little =
    decision_few g.F.Row.Ord.cmp net c.args.inst.proper (g.F.RowFamily.rows_of f net) (g.F.RowFamily.rows_used f net) (λ kind leg usable. g.met.F.RowFamily.lists_rows f net kind leg usable)
    (λ kind leg row not. g.met.F.RowFamily.unusable_uses_none f net kind leg row not) c.args.inst.bids.now row c.args.decision c.requires.formed in
    omega (arith, few, little)
