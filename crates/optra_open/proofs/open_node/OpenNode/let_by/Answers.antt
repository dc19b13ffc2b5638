use Rattle.std.proofs.Common.{◌≡◌, ◌↔◌, length, refl, subst, ◌<◌, sym}
use Rattle.std.proofs.lemmas.List.Elements.{All-weaker}
use Rattle.optra_node.specs.declared.Decision.{Decision}
use Rattle.std.specs.Prelude.{IsTrue}
use Rattle.optra_node.specs.Nodes.{kind_at}
use Rattle.optra_node.specs.Spans.{IsLetBy, Lets}
use Rattle.optra_node.specs.Nodes.{InstanceNode}
use Rattle.optra_open.proofs.IndexLemmas.{yes_within, buckets_count}
use Rattle.optra_open.proofs.open_node.OpenNode.let_by.Goals as goal

pub returns-then-is_left_alone : goal.returns-then-is_left_alone
returns-then-is_left_alone g c = (
  λ _. All-weaker (λ (d : Decision). d.bid ≡ c.args.bid → ⊥) (λ (d : Decision). d.bid ≡ c.args.bid → Lets c.args.self.now.net (kind_at c.args.self.now.bids c.args.bid) d c.args.leg)
      (λ d none same. absurd (none same)) c.args.self.now.node (c.is_left_alone.ensures.0 c.if-is_left_alone.true),
  λ _. refl,
)

pub returns : goal.returns
returns g c =
    let inside = c.self.inside in
    let net = inside.inst.net.now in
    let here = c.let_by.ensures (length inside.inst.bids.now) inside.room.now.decisions.items c.self.invariant.indexed in
    let of_kind = subst (λ k. IsTrue c.let_by.result ↔ IsLetBy net inside.room.now.decisions.items c.args.bid k c.args.leg) c.kind_at.ensures here in
    subst (λ (v : InstanceNode g.row.F.Denot). IsTrue c.let_by.result ↔ IsLetBy v.net v.node c.args.bid (kind_at v.bids c.args.bid) c.args.leg) c.self.view_is of_kind

pub let_by-requires-clause-bid : goal.let_by-requires-clause-bid
let_by-requires-clause-bid g c =
    let inside = c.self.inside in
    yes_within (length inside.inst.bids.now) inside.room.now.decisions.items inside.room.now.index c.self.invariant.indexed c.args.bid (subst (λ (v : InstanceNode g.row.F.Denot). c.args.bid < length v.bids) (sym c.self.view_is) c.requires)

pub let_by-requires-clause-buckets : goal.let_by-requires-clause-buckets
let_by-requires-clause-buckets g c =
    let inside = c.self.inside in
    buckets_count (length inside.inst.bids.now) inside.room.now.decisions.items inside.room.now.index c.self.invariant.indexed
