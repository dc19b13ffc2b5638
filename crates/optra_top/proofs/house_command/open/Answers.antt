-- The journal that is open is that of the file at entry.
use Rattle.std.proofs.Common.{◌≡◌, ◌∙◌, true, Some, None, ap, sym, rules}
use Rattle.optra_outside.specs.Disk.{File}
use Rattle.optra_house.specs.Answers.{open_refusal, opened_gate}
use Rattle.optra_house.specs.Replay.{opens_as}
use Rattle.optra_house.specs.Stamps.{payload_of}
use Rattle.optra_top.proofs.house_command.open.Goals as goal

pub returns-in-Ok-clause-ok : goal.returns-in-Ok-clause-ok
returns-in-Ok-clause-ok g c =
    let stamp = c.args.stamp.now in
    let specs = c.args.specs.items in
    let chosen : (g.D.Disk.state c.choose.new.self).chosen ≡ true = search rules in
    let named : (g.D.Disk.state c.args.disk.now).tells ≡ true → (g.D.Disk.state c.choose.new.self).name ≡ c.args.journal.now = search rules in
    record {
      chosen = c.in-Ok.ensures.same.chosen ∙ chosen;
      specs_are = c.in-Ok.ensures.specs;
      accepted = λ tells. ap (λ (f : File). open_refusal stamp specs c.args.rules f.now.bytes) (sym (c.choose.ensures.file tells)) ∙ c.in-Ok.ensures.rule (c.choose.ensures.leaves.tells ∙ tells);
      opens = λ tells. ap (λ (f : File). opens_as (payload_of stamp) specs c.args.rules f.now.bytes) (sym (c.choose.ensures.file tells)) ∙ c.in-Ok.ensures.state (c.choose.ensures.leaves.tells ∙ tells);
      gate = λ tells. c.in-Ok.ensures.gate (c.choose.ensures.leaves.tells ∙ tells) ∙ ap (λ (f : File). opened_gate stamp f.now.bytes) (c.choose.ensures.file tells);
      rests = λ tells. c.in-Ok.ensures.at_rest (c.choose.ensures.leaves.tells ∙ tells);
      name_is = λ tells. c.in-Ok.ensures.same.name ∙ named tells;
    }
