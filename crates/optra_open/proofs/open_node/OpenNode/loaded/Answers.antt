use Rattle.std.proofs.Common.{◌≡◌, ◌<◌, ◌∙◌, sym, subst, Vec, Global}
use Rattle.std.specs.Prelude.{All}
use Rattle.std.proofs.lemmas.List.Elements.{All-weaker}
use Rattle.optra_walk.specs.Families.{total_of}
use Rattle.optra_node.specs.Nodes.{InstanceNode, yes_load}
use Rattle.optra_open.specs.Loaded.{AreLoaded, AreUsed, IsMissing}
use Rattle.optra_open.proofs.ToComeLemmas.{if_ok}
use Rattle.optra_open.proofs.open_node.OpenNode.loaded.Goals as goal

pub returns-clause-all : goal.returns-clause-all
returns-clause-all g c =
    let inside = c.self.inside in
    let cmp = g.F.Row.Ord.cmp in
    if_ok c.loaded_rows.result (λ (loaded : Vec g.row.F-Row.Denot Global). (row : g.row.F-Row.Denot) → IsMissing cmp loaded.items row → total_of cmp inside.room.now.totals.sums row ≡ 0)
    (λ (loaded : Vec g.row.F-Row.Denot Global). AreLoaded cmp (g.F.RowFamily.rows_of c.args.self.now.family c.args.self.now.net) c.args.self.now.bids c.args.self.now.node loaded.items)
    (λ loaded all. subst (λ (v : InstanceNode g.row.F.Denot). AreLoaded cmp (g.F.RowFamily.rows_of v.family v.net) v.bids v.node loaded.items) c.self.view_is
    (λ row missing. sym (c.self.invariant.loads row) ∙ all row missing)) c.loaded_rows.ensures.all

pub returns-clause-used : goal.returns-clause-used
returns-clause-used g c =
    let inside = c.self.inside in
    let cmp = g.F.Row.Ord.cmp in
    let rows = g.F.RowFamily.rows_of inside.rows.now inside.inst.net.now in
    let load = yes_load rows inside.inst.bids.now inside.room.now.decisions.items in
    if_ok c.loaded_rows.result (λ (loaded : Vec g.row.F-Row.Denot Global). All (λ row. 0 < total_of cmp inside.room.now.totals.sums row) loaded.items)
    (λ (loaded : Vec g.row.F-Row.Denot Global). AreUsed (g.F.RowFamily.rows_of c.args.self.now.family c.args.self.now.net) c.args.self.now.bids c.args.self.now.node loaded.items)
    (λ loaded used. subst (λ (v : InstanceNode g.row.F.Denot). AreUsed (g.F.RowFamily.rows_of v.family v.net) v.bids v.node loaded.items) c.self.view_is
    (All-weaker (λ row. 0 < total_of cmp inside.room.now.totals.sums row) (λ row. 0 < load row) (λ row some. subst (λ n. 0 < n) (c.self.invariant.loads row) some) loaded.items used)) c.loaded_rows.ensures.used
