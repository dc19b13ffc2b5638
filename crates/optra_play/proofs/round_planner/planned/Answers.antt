-- The graphs that were built are those of the bids' different paths.
use Rattle.std.proofs.Common.{◌≡◌, List, map, sym, ap, subst, rules}
use Rattle.std.specs.Prelude.{All, Contains}
use Rattle.std.proofs.lemmas.List.Elements.{All-map}
use Rattle.optra_bid.specs.declared.bids.Bid.{Bid}
use Rattle.optra_play.specs.HouseRounds.{IsRoundPlan}
use Rattle.optra_play.proofs.HouseLemmas.{among-alone}
use Rattle.optra_play.proofs.round_planner.planned.Goals as goal

pub returns-clause-plan : goal.returns-clause-plan
returns-clause-plan g c =
    let net = c.args.net.now in
    let rows = c.args.rows.now in
    let bids = c.args.bids.now in
    let is = rw (c.new-inst.ensures.net, c.new-inst.ensures.bids) at c.in_ok-plan.ensures.plan in
    let held = rw c.new-inst.ensures.bids at c.in_ok-plan.ensures.held in
    let others = rw c.new-inst.ensures.bids at c.in_ok-plan.ensures.others in
    subst (λ (copies : List Bid). IsRoundPlan g.F.Row.Ord.cmp net (g.F.RowFamily.rows_of rows net) (g.F.RowFamily.KeepsRule rows net) copies c.in_ok-plan.plan c.builds-graphs.result) (sym c.in_ok-bids.ensures) (record {
      instance = c.requires.instance;
      is_plan = is;
      graphs_are = record {
        each = c.certified_plan_over.new.graphs.held;
        differ = c.builds-graphs.ensures.differ;
        among = among-alone c.in_ok-store.store (map (λ (bid : Bid). bid.path) bids) c.certified_plan_over.new.graphs.held net c.in_ok-store.ensures others;
        all = All-map (Contains c.certified_plan_over.new.graphs.held) (λ (bid : Bid). bid.path) bids held;
        count_is = c.builds-graphs.ensures.count;
      };
    })
