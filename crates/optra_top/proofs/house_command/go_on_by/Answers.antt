-- The close is printed of a closed auction, whose journal stays as it is.
use Rattle.std.proofs.Common.{◌≡◌, ◌∙◌, true, inl, inr, ap, sym, subst, rules}
use Rattle.optra_auction.specs.Machine.{State}
use Rattle.optra_house.specs.Replay.{opens_as}
use Rattle.optra_house.proofs.RestLemmas.{rest_opens}
use Rattle.optra_house.proofs.Torn.{stays}
use Rattle.optra_play.specs.HouseRounds.{PrintsClose}
use Rattle.optra_top.proofs.house_command.go_on_by.Goals as goal

pub returns-then-closed-clause-ok : goal.returns-then-closed-clause-ok
returns-then-closed-clause-ok g c =
    let answer = c.in_ok-answer.answer in
    let s = c.args.house.auction in
    let moment = (g.D.Disk.state c.args.disk.now).file.now in
    let is : c.state-then-closed.result.now ≡ s = search rules in
    let closed : s.closed ≡ true = search rules in
    record {
      last = s;
      goes = inr (subst (λ (t : State). PrintsClose c.args.actions.items t t answer.status answer.text.items) is c.in_ok-answer.ensures.close);
      room = inl closed;
      stands = λ tells stamp specs rules rest image left. ap (opens_as stamp specs rules) (stays moment image rest.settled.synced left) ∙ rest_opens stamp specs rules c.args.house moment rest;
      put = c.in_ok-answer.ensures.puts;
    }
