-- The round is printed as it was seen.
use Rattle.optra_text.specs.RoundViews.{round_text_of}
use Rattle.optra_play.proofs.house_rounds.round_part.Goals as goal

pub returns : goal.returns
unfolding round_text_of
returns c = c.round_text.ensures
