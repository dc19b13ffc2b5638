-- The round is printed as it was seen.
use Rattle.std.proofs.Common.{◌≡◌, ◌∙◌, ℕ, Vec, IfOk, subst}
use Rattle.std.specs.declared.alloc.Global.{Global}
use Rattle.optra_records.specs.Texts.{records_text}
use Rattle.optra_text.specs.RoundTexts.{Round, round_records}
use Rattle.optra_text.specs.RoundViews.{round_text_of}
use Rattle.optra_play.proofs.playing.print_round.Goals as goal

pub returns : goal.returns
unfolding round_text_of
returns c =
    let specs = c.deref.ensures.value ∙ c.in_ok-specs.ensures in
    subst (λ (r : Round). IfOk c.round_text.result (λ (text : Vec ℕ Global). text.items ≡ records_text (round_records c.args.plan.inst.net.now r)))
    (λ i. record {
      round = c.round.ensures i;
      outcomes = c.args.outcomes.now;
      bids = c.args.plan.inst.bids.now;
      specs = specs i;
      walks = c.args.plan.choice.now;
      revenue = c.args.plan.revenue;
      bound = c.args.plan.bound;
      nodes = c.args.plan.nodes;
      graphs = c.args.graphs;
    })
    c.round_text.ensures
