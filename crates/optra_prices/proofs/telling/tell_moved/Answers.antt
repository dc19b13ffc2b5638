use Rattle.std.proofs.Common.{◌≡◌, List, false, length, drop, sym, ap, ◌∙◌, subst, arith}
use Rattle.std.proofs.lemmas.List.{length-replicate}
use Rattle.std.proofs.lemmas.Slice.Zip.{AllZip-long}
use Rattle.optra_node.specs.declared.Decision.{Decision}
use Rattle.optra_prices.specs.Claims.{IsClaim, claim_uses}
use Rattle.optra_prices.specs.Columns.{IsColumns}
use Rattle.optra_prices.specs.Standings.{AreTables}
use Rattle.optra_prices.specs.Tellings.{MarksUsed, TellsDue, TellsOwn}
use Rattle.optra_prices.specs.Terms.{Setting, setting}
use Rattle.optra_prices.specs.declared.claims.Claim.{Claim}
use Rattle.optra_prices.specs.declared.numbering.BidTable.{BidTable}
use Rattle.optra_prices.specs.declared.numbering.Groups.{Groups}
use Rattle.optra_prices.proofs.HolderLemmas.{keeps_on}
use Rattle.optra_prices.proofs.ListLemmas.{zip_drop}
use Rattle.optra_prices.proofs.TellingLemmas.{moved, own_kept, rest_is, used_kept}
use Rattle.optra_prices.proofs.telling.tell_moved.Goals as goal

pub slice_bounds-mark_claims-count : goal.slice_bounds-mark_claims-count
slice_bounds-mark_claims-count g c =
    let kept = c.args.kept.now in
    let zip = IsClaim (g.F.RowFamily.rows_of c.args.rows.now c.args.inst.net.now) c.args.inst.bids.now kept.numbering.rows.items in
    let long = AllZip-long zip kept.decided.decisions.items kept.decided.claims.items c.requires.course.is.decided.claims_are in
    let same = ap length c.deref-2.ensures.value in
    let within = c.requires.old in
    omega (arith, long, same, within)

pub slice_bounds-mark_claims-start : goal.slice_bounds-mark_claims-start
slice_bounds-mark_claims-start g c =
    let kept = c.args.kept.now in
    let zip = IsClaim (g.F.RowFamily.rows_of c.args.rows.now c.args.inst.net.now) c.args.inst.bids.now kept.numbering.rows.items in
    let long = AllZip-long zip kept.decided.decisions.items kept.decided.claims.items c.requires.course.is.decided.claims_are in
    let same = ap length c.deref-2.ensures.value in
    let within = c.requires.old in
    omega (arith, long, same, within)

pub returns-clause-left : goal.returns-clause-left
returns-clause-left g c =
    let net = c.args.inst.net.now in
    let f = c.args.rows.now in
    let rows = g.F.RowFamily.rows_of f net in
    let bids = c.args.inst.bids.now in
    let kept = c.args.kept.now in
    let numbered = kept.numbering.rows.items in
    let decisions = kept.decided.decisions.items in
    let claims = kept.decided.claims.items in
    let s : Setting g.row.F-Row.Denot = setting net rows (g.F.RowFamily.rows_used f net) bids decisions in
    let part = drop c.args.count decisions in
    let first = c.mark_claims.new.columns in
    let marked = c.mark_claims-2.new.columns in
    let own = c.tell_own.new.told.items in
    let fallen = c.tell_own-2.new.told.items in
    let told = c.tell_due.new.told.items in
    let one = c.in_ok-mark_claims.ensures in
    let two = c.in_ok-mark_claims-2.ensures in
    let still = c.still.ensures.columns.groups_are in
    let rest = rest_is c.deref.result.now decisions c.args.count c.deref.ensures.value in
    let claimed = rest_is c.deref-2.result.now claims c.args.count c.deref-2.ensures.value in
    let marks : MarksUsed (claim_uses (drop c.args.count claims)) kept.columns first = subst (λ (cs : List Claim). MarksUsed (claim_uses cs) kept.columns first) claimed one.marks in
    let columns : IsColumns c.still.new.columns.groups marked = subst (λ (groups : Groups). IsColumns groups marked) (sym two.columns.groups_are ∙ sym still) two.columns in
    let tables : AreTables s (length bids) numbered c.still.new.columns.groups kept.tables.items =
    subst (λ (groups : Groups). AreTables s (length bids) numbered groups kept.tables.items) (sym one.columns.groups_are ∙ sym two.columns.groups_are ∙ sym still) c.requires.course.is.tables
    in
    let due : TellsDue marked.marks.items kept.tables.items told = subst (λ (ts : List BidTable). TellsDue marked.marks.items ts told) c.deref-3.ensures.value c.tell_due.ensures.tells in
    let count : length told ≡ length kept.tables.items =
    c.tell_due.ensures.keeps.count ∙ ap length c.in_ok-tell_none.ensures ∙ length-replicate c.len.result false ∙ (let size = c.len.ensures in let ok = kept.tables.ok.0 in omega arith)
    in
    let are = zip_drop (IsClaim rows bids numbered) c.args.count decisions claims c.requires.course.is.decided.claims_are in
    moved s _ marked told columns tables due (keeps_on told own fallen c.tell_own.ensures.keeps c.tell_own-2.ensures.keeps) count part (drop c.args.count claims) kept.columns are (used_kept (claim_uses (drop c.args.count claims)) kept.columns first marked marks two.marks.more)
    (own_kept part own fallen c.tell_own-2.ensures.keeps (subst (λ (ds : List Decision). TellsOwn ds own) rest c.tell_own.ensures.own))

pub returns-clause-entered : goal.returns-clause-entered
returns-clause-entered g c =
    let net = c.args.inst.net.now in
    let f = c.args.rows.now in
    let rows = g.F.RowFamily.rows_of f net in
    let bids = c.args.inst.bids.now in
    let kept = c.args.kept.now in
    let numbered = kept.numbering.rows.items in
    let decisions = kept.decided.decisions.items in
    let s : Setting g.row.F-Row.Denot = setting net rows (g.F.RowFamily.rows_used f net) bids decisions in
    let part = drop c.args.count c.args.node.now in
    let first = c.mark_claims.new.columns in
    let marked = c.mark_claims-2.new.columns in
    let own = c.tell_own.new.told.items in
    let fallen = c.tell_own-2.new.told.items in
    let told = c.tell_due.new.told.items in
    let one = c.in_ok-mark_claims.ensures in
    let two = c.in_ok-mark_claims-2.ensures in
    let still = c.still.ensures.columns.groups_are in
    let rest = rest_is c.decisions_of.result.now c.args.node.now c.args.count c.decisions_of.ensures in
    let columns : IsColumns c.still.new.columns.groups marked = subst (λ (groups : Groups). IsColumns groups marked) (sym two.columns.groups_are ∙ sym still) two.columns in
    let tables : AreTables s (length bids) numbered c.still.new.columns.groups kept.tables.items =
    subst (λ (groups : Groups). AreTables s (length bids) numbered groups kept.tables.items) (sym one.columns.groups_are ∙ sym two.columns.groups_are ∙ sym still) c.requires.course.is.tables
    in
    let due : TellsDue marked.marks.items kept.tables.items told = subst (λ (ts : List BidTable). TellsDue marked.marks.items ts told) c.deref-3.ensures.value c.tell_due.ensures.tells in
    let count : length told ≡ length kept.tables.items =
    c.tell_due.ensures.keeps.count ∙ ap length c.in_ok-tell_none.ensures ∙ length-replicate c.len.result false ∙ (let size = c.len.ensures in let ok = kept.tables.ok.0 in omega arith)
    in
    moved s _ marked told columns tables due (keeps_on told own fallen c.tell_own.ensures.keeps c.tell_own-2.ensures.keeps) count part c.args.claims.now first c.requires.claims two.marks
    (subst (λ (ds : List Decision). TellsOwn ds fallen) rest c.tell_own-2.ensures.own)
