-- The verdict on the bytes is printed.
use Rattle.std.proofs.Common.{refl, rules}
use Rattle.optra_verdict.proofs.check_command.answer_by.Goals as goal

pub returns : goal.returns
returns g c = record {
  bids = c.args.inst.bids.now;
  are_those = refl;
  verdict = c.in_ok-view.view;
  finds = c.in_ok-view.ensures;
  printed = c.in_ok-text.ensures;
  ends = c.status-status.ensures;
  put = search rules;
}
