-- The rounds so far were played, and fewer may come with each.
use Rattle.optra_play.specs.Playing.{IsPlayedSo, rounds_left}
use Rattle.optra_play.proofs.playing.play_out.Given as goal

abbrev pub invariant-rounds : goal.invariant-rounds
invariant-rounds g l = IsPlayedSo (record {
  cmp = g.F.Row.Ord.cmp;
  rows = g.F.RowFamily.rows_of l.rows l.net;
  texts = g.F.RowText.texts_of l.rows;
}) (g.F.RowFamily.KeepsRule l.rows l.net) l.net l.certs l.fn.playing.auction.specs l.fn.playing.auction.rules l.fn.playing.left.items l.playing

abbrev pub decreases-rounds : goal.decreases-rounds
decreases-rounds g l = rounds_left l.playing.auction
