use Rattle.std.proofs.Common.{ℕ, ◌≡◌, ◌≤◌, length, Some, slice_get, sym, ◌∙◌, subst, arith}
use Rattle.optra_node.proofs.LeastLemmas.{none_past}
use Rattle.optra_prices.specs.Claims.{ClaimsMore}
use Rattle.optra_prices.specs.Tables.{number_in}
use Rattle.optra_prices.proofs.ClaimLemmas.{claims_first, claims_more, claims_all}
use Rattle.optra_prices.proofs.claims.claim_of_leg.Goals as goal

pub loop-k-init : goal.loop-k-init
loop-k-init g c =
    let f = c.args.rows.now in
    let net = c.args.net.now in
    claims_first g.F.Row.Ord.cmp c.args.numbering.now.rows.items ((g.F.RowFamily.rows_of f net).uses c.args.kind c.args.leg) (g.F.RowFamily.rows_used f net c.args.kind c.args.leg) c.no_claim-claim.result c.no_claim-claim.ensures.touches

pub loop-k-preserved : goal.loop-k-preserved
loop-k-preserved g c =
    let f = c.args.rows.now in
    let net = c.args.net.now in
    let rows = g.F.RowFamily.rows_of f net in
    let used = g.F.RowFamily.rows_used f net c.args.kind c.args.leg in
    let cmp = g.F.Row.Ord.cmp in
    let numbering = c.args.numbering.now in
    let old = c.loop-k.claim in
    let new = c.claim_row.new.claim in
    let row = c.in-Some.row in
    let at : slice_get used c.loop-k.k ≡ Some row = sym c.touched.ensures ∙ c.in-Some.is in
    let more = subst (λ (by : ℕ). ClaimsMore (number_in cmp numbering.order.items row) by old new) c.leg_use-uses.ensures c.in_ok-claim_row.ensures in
    claims_more cmp numbering.rows.items (rows.uses c.args.kind c.args.leg) used g.met.F.Row.Ord.total g.met.F.Row.CodedRow.tells_apart numbering.order.items c.requires.numbering rows.is_row c.loop-k.k row old new at more c.loop-k.invariant

pub returns-in_default : goal.returns-in_default
returns-in_default g c =
    let f = c.args.rows.now in
    let net = c.args.net.now in
    let rows = g.F.RowFamily.rows_of f net in
    let used = g.F.RowFamily.rows_used f net c.args.kind c.args.leg in
    let lists = g.met.F.RowFamily.lists_rows f net c.args.kind c.args.leg c.requires.usable in
    let past : length used ≤ c.loop-k.k = none_past used c.loop-k.k (sym c.touched.ensures ∙ c.in_default.is) in
    claims_all g.F.Row.Ord.cmp c.args.numbering.now.rows.items (rows.uses c.args.kind c.args.leg) used g.met.F.Row.Ord.total g.met.F.Row.CodedRow.tells_apart rows.is_row lists c.loop-k.k c.loop-k.claim past c.loop-k.invariant

pub returns : goal.returns
returns g c =
    let f = c.args.rows.now in
    let net = c.args.net.now in
    let rows = g.F.RowFamily.rows_of f net in
    let used = g.F.RowFamily.rows_used f net c.args.kind c.args.leg in
    let lists = g.met.F.RowFamily.lists_rows f net c.args.kind c.args.leg c.requires.usable in
    let past : length used ≤ c.loop-k.k = let few = lists.few in omega arith in
    claims_all g.F.Row.Ord.cmp c.args.numbering.now.rows.items (rows.uses c.args.kind c.args.leg) used g.met.F.Row.Ord.total g.met.F.Row.CodedRow.tells_apart rows.is_row lists c.loop-k.k c.loop-k.claim past c.loop-k.invariant
