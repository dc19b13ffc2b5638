-- A priced turn.
use Rattle.std.proofs.Common.{◌≡◌, length, subst, sym, ap, ◌∙◌, rules, arith, FitsSigned}
use Rattle.std.specs.Int.{w128}
use Rattle.std.proofs.lemmas.Int.{to_z-of_z}
use Rattle.optra_node.specs.Nodes.{IsNode}
use Rattle.optra_node.specs.Duals.{whole_cents}
use Rattle.optra_prices.specs.Keepings.{AreKeptAt}
use Rattle.optra_prices.specs.Replies.{Valuation}
use Rattle.optra_search.specs.Searches.{Parts}
use Rattle.optra_search.specs.Reached.{parts_of, settled_as}
use Rattle.optra_search.proofs.SearchLemmas.{entered_node, entered_start}
use Rattle.optra_search.proofs.PricingLemmas.{priced_terms, priced_replies, repaired_choice, priced_closes, priced_next}
use Rattle.optra_search.proofs.pricing.price_node.Goals as goal

pub path_result-requires-clause-node : goal.path_result-requires-clause-node
path_result-requires-clause-node g c =
    let net = c.args.inst.net.now in
    entered_node g.F.Row.Ord.cmp net c.args.inst.proper (g.F.RowFamily.rows_of c.args.rows.now net) c.args.inst.bids.now c.args.means.now.limits.steps c.args.means.now.limits.budget c.args.start (parts_of c.args.search) c.requires.entered

pub path_result-requires-clause-start : goal.path_result-requires-clause-start
path_result-requires-clause-start g c =
    let net = c.args.inst.net.now in
    entered_start g.F.Row.Ord.cmp net c.args.inst.proper (g.F.RowFamily.rows_of c.args.rows.now net) c.args.inst.bids.now c.args.means.now.limits.steps c.args.means.now.limits.budget c.args.start (parts_of c.args.search) c.requires.entered

pub repair_over-requires-clause-node : goal.repair_over-requires-clause-node
repair_over-requires-clause-node g c =
    let net = c.args.inst.net.now in
    entered_node g.F.Row.Ord.cmp net c.args.inst.proper (g.F.RowFamily.rows_of c.args.rows.now net) c.args.inst.bids.now c.args.means.now.limits.steps c.args.means.now.limits.budget c.args.start (parts_of c.args.search) c.requires.entered

pub repair_over-requires-clause-terms : goal.repair_over-requires-clause-terms
repair_over-requires-clause-terms g c =
    let net = c.args.inst.net.now in
    priced_terms g.F.Row.Ord.cmp net c.args.inst.proper (g.F.RowFamily.rows_of c.args.rows.now net) c.args.inst.bids.now c.args.means.now.limits.steps c.args.means.now.limits.budget c.args.start (parts_of c.args.search) c.requires.entered c.requires.lives
    c.in_ok-priced.priced c.in_ok-priced.ensures.path

pub repair_over-requires-clause-replies : goal.repair_over-requires-clause-replies
repair_over-requires-clause-replies g c =
    let net = c.args.inst.net.now in
    priced_replies g.F.Row.Ord.cmp net c.args.inst.proper (g.F.RowFamily.rows_of c.args.rows.now net) c.args.inst.bids.now c.args.means.now.limits.steps c.args.means.now.limits.budget c.args.start (parts_of c.args.search) c.requires.entered c.requires.lives
    c.in_ok-priced.priced c.in_ok-priced.ensures.path

pub improve-search-requires-clause-choice : goal.improve-search-requires-clause-choice
improve-search-requires-clause-choice g c =
    let net = c.args.inst.net.now in
    repaired_choice g.F.Row.Ord.cmp net c.args.inst.proper (g.F.RowFamily.rows_of c.args.rows.now net) c.args.inst.bids.now c.args.means.now.limits.steps c.args.means.now.limits.budget c.args.start (parts_of c.args.search) c.requires.entered c.requires.lives
    c.in_ok-priced.priced c.in_ok-priced.ensures.path c.in_ok-repaired.repaired c.in_ok-repaired.ensures

pub improve-search-requires-clause-room : goal.improve-search-requires-clause-room
improve-search-requires-clause-room g c =
    let most = c.args.means.now.budget in
    let below = c.requires.entered.below in
    omega (arith, most, below)

pub outcome-requires-clause-node : goal.outcome-requires-clause-node
outcome-requires-clause-node g c =
    let net = c.args.inst.net.now in
    let node = entered_node g.F.Row.Ord.cmp net c.args.inst.proper (g.F.RowFamily.rows_of c.args.rows.now net) c.args.inst.bids.now c.args.means.now.limits.steps c.args.means.now.limits.budget c.args.start (parts_of c.args.search) c.requires.entered in
    subst (λ (s : Parts g.row.F-Row.Denot). IsNode net (length c.args.inst.bids.now) s.node) (sym c.improve-search.ensures.parts) node

pub outcome-requires-clause-kept : goal.outcome-requires-clause-kept
outcome-requires-clause-kept g c =
    let net = c.args.inst.net.now in
    let f = c.args.rows.now in
    subst (λ (s : Parts g.row.F-Row.Denot). AreKeptAt g.F.Row.Ord.cmp net (g.F.RowFamily.rows_of f net) (g.F.RowFamily.rows_used f net) c.args.inst.bids.now s.node c.path_result.new.kept) (sym c.improve-search.ensures.parts) c.in_ok-priced.ensures.kept

pub outcome-requires-clause-replies : goal.outcome-requires-clause-replies
outcome-requires-clause-replies g c =
    let net = c.args.inst.net.now in
    priced_replies g.F.Row.Ord.cmp net c.args.inst.proper (g.F.RowFamily.rows_of c.args.rows.now net) c.args.inst.bids.now c.args.means.now.limits.steps c.args.means.now.limits.budget c.args.start (parts_of c.args.search) c.requires.entered c.requires.lives
    c.in_ok-priced.priced c.in_ok-priced.ensures.path

pub outcome-requires-clause-closes : goal.outcome-requires-clause-closes
outcome-requires-clause-closes g c =
    let net = c.args.inst.net.now in
    priced_closes g.F.Row.Ord.cmp net c.args.inst.proper (g.F.RowFamily.rows_of c.args.rows.now net) c.args.inst.bids.now c.args.means.now.limits.steps c.args.means.now.limits.budget c.args.start (parts_of c.args.search) c.requires.entered c.requires.lives
    c.in_ok-priced.priced c.in_ok-priced.ensures.path c.in_ok-repaired.repaired c.in_ok-repaired.ensures (parts_of c.improve-search.result) c.improve-search.ensures.parts c.improve-search.ensures.better c.improve-search.ensures.earned

pub returns : goal.returns
returns g c =
    let net = c.args.inst.net.now in
    let priced = c.in_ok-priced.priced in
    let split = c.in_ok-split.split in
    let more = parts_of c.improve-search.result in
    let after = parts_of c.in_ok-after.after in
    let value : FitsSigned w128 c.dual.inside.value = search rules in
    let whole : FitsSigned w128 c.whole_cents-cents.result = search rules in
    let cents_is : c.whole_cents-cents.result ≡ whole_cents priced.dual.value = (simp to_z-of_z at c.whole_cents-cents.ensures) ∙ ap (λ (v : Valuation). whole_cents v.value) c.dual.view_is in
    let after_is : after ≡ settled_as more split priced.prices (whole_cents priced.dual.value) = (simp to_z-of_z at c.in_ok-after.ensures) ∙ ap (settled_as more split priced.prices) cents_is in
    let t = priced_next g.F.Row.Ord.cmp net c.args.inst.proper (g.F.RowFamily.rows_of c.args.rows.now net) c.args.inst.bids.now c.args.means.now.limits.steps c.args.means.now.limits.budget c.args.start (parts_of c.args.search) c.requires.entered c.requires.lives
    priced c.in_ok-priced.ensures.path c.in_ok-repaired.repaired c.in_ok-repaired.ensures more c.improve-search.ensures.parts c.improve-search.ensures.better c.improve-search.ensures.earned
    split c.in_ok-split.ensures.outcome after after_is in
    record { reached = t.0; count = t.1; kept = (c.improve-search.result.node, c.in_ok-split.ensures.kept) }
