-- The text of a round and of the close, as they are asked for.
use Rattle.std.specs.Prelude.{ℕ, ℤ, List, map}
use Rattle.optra_records.specs.Texts.{records_text}
use Rattle.optra_text.specs.RoundTexts.{Round, Close, round_records, close_records}
use Rattle.optra_text.specs.declared.rounds.RoundView.{RoundView}
use Rattle.optra_text.specs.declared.rounds.Award.{Award}
use Rattle.optra_text.specs.declared.rounds.CloseView.{CloseView}

-- the round of a view
abbrev pub round_of : RoundView → Round
round_of view = record {
  round = view.round;
  outcomes = view.outcomes.now;
  bids = view.plan.inst.bids.now;
  specs = view.specs.now;
  walks = view.plan.choice.now;
  revenue = view.plan.revenue;
  bound = view.plan.bound;
  nodes = view.plan.nodes;
  graphs = view.graphs;
}

unfoldable pub round_text_of : RoundView → List ℕ
round_text_of view = records_text (round_records view.plan.inst.net.now (round_of view))

-- a winner: its name, its bidder and its value
abbrev pub award_of : Award → List ℕ × List ℕ × ℤ
award_of award = (award.bid.now, award.bidder.now, award.value)

-- the close of a view
abbrev pub close_of : CloseView → Close
close_of view = record { round = view.round; late = view.late.now; awards = map award_of view.awards.now }

unfoldable pub close_text_of : CloseView → List ℕ
close_text_of view = records_text (close_records (close_of view))
