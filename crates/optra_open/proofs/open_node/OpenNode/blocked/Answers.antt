use Rattle.std.proofs.Common.{◌≡◌, ◌↔◌, ◌∙◌, ap, sym, subst, length}
use Rattle.std.specs.Prelude.{IsTrue}
use Rattle.std.proofs.lemmas.List.Elements.{All-filter}
use Rattle.optra_node.specs.declared.Decision.{Decision}
use Rattle.optra_node.specs.Nodes.{IsFormedDecision, kind_at, IsBlocked}
use Rattle.optra_node.specs.OwnDecisions.{decisions_for}
use Rattle.optra_node.specs.Nodes.{InstanceNode}
use Rattle.optra_node.proofs.OwnLemmas.{own_formed}
use Rattle.optra_open.proofs.BesideLemmas.{own_within, blocked_beside}
use Rattle.optra_open.specs.Keyed.{yes_part}
use Rattle.optra_open.proofs.IndexLemmas.{load_part, blocked_part}
use Rattle.optra_open.proofs.open_node.OpenNode.blocked.Goals as goal

pub is_blocked_beside-requires-clause-formed : goal.is_blocked_beside-requires-clause-formed
is_blocked_beside-requires-clause-formed g c =
    let inside = c.self.inside in
    let node = inside.room.now.decisions.items in
    let net = inside.inst.net.now in
    let bids = length inside.inst.bids.now in
    let own : c.yes.result.now ≡ decisions_for (yes_part node) c.args.bid = c.yes.ensures ∙ ap (λ v. decisions_for (yes_part v.node) c.args.bid) (sym c.self.view_is) in
    own_formed c.args.bid c.yes.result.now (yes_part node) own net bids (All-filter (λ (d : Decision). d.yes) (IsFormedDecision net bids) node c.self.invariant.is_node.formed)

pub is_blocked_beside-requires-clause-within : goal.is_blocked_beside-requires-clause-within
is_blocked_beside-requires-clause-within g c =
    let inside = c.self.inside in
    let node = inside.room.now.decisions.items in
    let rows = g.F.RowFamily.rows_of inside.rows.now inside.inst.net.now in
    let own : c.yes.result.now ≡ decisions_for (yes_part node) c.args.bid = c.yes.ensures ∙ ap (λ v. decisions_for (yes_part v.node) c.args.bid) (sym c.self.view_is) in
    own_within c.args.bid c.yes.result.now (yes_part node) own g.F.Row.Ord.cmp rows inside.inst.bids.now inside.room.now.totals.sums
    (λ row. c.self.invariant.loads row ∙ sym (load_part rows inside.inst.bids.now row node))

pub returns : goal.returns
returns g c =
    let inside = c.self.inside in
    let node = inside.room.now.decisions.items in
    let bids = inside.inst.bids.now in
    let rows = g.F.RowFamily.rows_of inside.rows.now inside.inst.net.now in
    let r = c.is_blocked_beside.result in
    let own : c.yes.result.now ≡ decisions_for (yes_part node) c.args.bid = c.yes.ensures ∙ ap (λ v. decisions_for (yes_part v.node) c.args.bid) (sym c.self.view_is) in
    let part = blocked_beside c.args.bid c.yes.result.now (yes_part node) own g.F.Row.Ord.cmp rows bids inside.room.now.totals.sums
    (λ row. c.self.invariant.loads row ∙ sym (load_part rows bids row node)) r c.kind_at.result c.args.leg c.is_blocked_beside.ensures in
    let both = blocked_part rows bids c.args.bid c.kind_at.result c.args.leg node in
    let here : IsTrue r ↔ IsBlocked rows bids node c.args.bid c.kind_at.result c.args.leg = ((λ t. both.0 (part.0 t)), (λ b. part.1 (both.1 b))) in
    let of_kind = subst (λ k. IsTrue r ↔ IsBlocked rows bids node c.args.bid k c.args.leg) c.kind_at.ensures here in
    subst (λ (v : InstanceNode g.row.F.Denot). IsTrue r ↔ IsBlocked (g.F.RowFamily.rows_of v.family v.net) v.bids v.node c.args.bid (kind_at v.bids c.args.bid) c.args.leg) c.self.view_is of_kind
