-- There is one plan, and so one text of it.
use Rattle.std.proofs.Common.{subst}
use Rattle.optra_rows.specs.Headways.{KeepsHeadwayRule}
use Rattle.optra_search.specs.Laws.{OnePlan}
use Rattle.optra_verdict.specs.Families.{KeepsAllRules, all_family, headway_family}
use Rattle.optra_top.proofs.TextLemmas.{one_text, one_text-each}
use Rattle.optra_top.proofs.laws.one_text.Goals as goal

pub returns : goal.returns
returns c =
    let net = c.args.inst.net.now in
    let bids = c.args.inst.bids.now in
    one_text-each net bids
    (one_text (headway_family net) (KeepsHeadwayRule net) net bids c.plan_laws.ensures.one_plan)
    (one_text (all_family net) (KeepsAllRules net) net bids
    (subst (λ cmp. OnePlan cmp net (all_family net).rows bids) c.all_rows_are_told.ensures.order c.plan_laws-2.ensures.one_plan))
