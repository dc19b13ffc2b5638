-- The path that is known of the bid at zero prices is that of its reply.
use Rattle.std.proofs.Common.{◌<◌, ℕ, List, [], length, refl, sym, ◌∙◌, subst, arith}
use Rattle.std.proofs.lemmas.Option.{slice_get_read}
use Rattle.optra_graph.specs.Timed.{Timed, IsRoute}
use Rattle.optra_prices.specs.Arcs.{path_reply}
use Rattle.optra_prices.specs.Replies.{IsReply}
use Rattle.optra_prices.specs.Terms.{Setting, setting}
use Rattle.optra_prices.proofs.ValueOfLemmas.{path_route}
use Rattle.optra_prices.proofs.ZeroLemmas.{zero_replied}
use Rattle.optra_prices.proofs.zero.zero_path.Goals as goal

pub index-requires : goal.index-requires
index-requires g c =
    let is = c.requires.kept.is in
    let count = is.tables.count_is in
    let m = is.zero.count_is in
    let l = c.requires.number in
    omega arith

pub returns-clause-reply : goal.returns-clause-reply
returns-clause-reply g c bid t at graph =
    let net = c.args.inst.net.now in
    let f = c.args.rows.now in
    let s : Setting g.row.F-Row.Denot = setting net (g.F.RowFamily.rows_of f net) (g.F.RowFamily.rows_used f net) c.args.inst.bids.now c.args.node.now in
    let kept = c.args.kept.now in
    let n = c.args.number in
    let standing = c.index.result.now in
    let is = c.requires.kept.is in
    let count = is.tables.count_is in
    let m = is.zero.count_is in
    let k : n < length kept.zero.items = omega (arith, m, count, c.requires.number) in
    let standing_at = slice_get_read kept.zero.items (length kept.zero.items) n standing refl k c.index.ensures in
    let replied = zero_replied g.F.Row.Ord.cmp s c.args.inst.proper c.tests_tell_allowed.ensures c.prices_by_used_rows.ensures kept.numbering.rows.items kept.columns.groups kept.tables.items kept.zero.items is.tables is.zero n graph.0 standing graph.1 standing_at bid at in
    subst (λ (t : Timed). IsReply net s.rows s.bids s.node [] n bid (path_reply t c.deref.result.now)) graph.2
    (subst (λ (path : List ℕ). IsReply net s.rows s.bids s.node [] n bid (path_reply graph.0.graph.now path)) (sym c.deref.ensures.value) replied)

pub returns-clause-route : goal.returns-clause-route
returns-clause-route g c t graph some =
    let kept = c.args.kept.now in
    let n = c.args.number in
    let standing = c.index.result.now in
    let is = c.requires.kept.is in
    let count = is.tables.count_is in
    let m = is.zero.count_is in
    let k : n < length kept.zero.items = omega (arith, m, count, c.requires.number) in
    let standing_at = slice_get_read kept.zero.items (length kept.zero.items) n standing refl k c.index.ensures in
    let path = c.deref.ensures.value in
    let route = path_route graph.0 [] standing (is.zero.each n graph.0 standing graph.1 standing_at) (λ e. some (path ∙ e)) in
    subst (λ (t : Timed). IsRoute t c.deref.result.now) graph.2 (subst (IsRoute graph.0.graph.now) (sym path) route)
