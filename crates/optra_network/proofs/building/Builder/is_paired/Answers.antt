use Rattle.std.proofs.Common.{sym, ◌∙◌}
use Rattle.optra_network.proofs.ReadLemmas.{may_use_read, least_read, headway_read}
use Rattle.optra_network.proofs.PartnerLemmas.{first_may_not, second_may_not, both_may}
use Rattle.optra_network.proofs.building.Builder.is_paired.Goals as goal

pub returns-then-not-may_use : goal.returns-then-not-may_use
returns-then-not-may_use c = λ t u e.
    let first = sym (may_use_read c.args.self.now c.args.rows.now c.requires.rows c.args.track c.args.first) ∙ sym c.may_use.ensures in
    first_may_not c.args.self.now c.args.track t c.args.first u c.args.second (first ∙ c.if-not-may_use.true)

pub returns-then-not-may_use-2 : goal.returns-then-not-may_use-2
returns-then-not-may_use-2 c = λ t u e.
    let second = sym (may_use_read c.args.self.now c.args.rows.now c.requires.rows c.args.track c.args.second) ∙ sym c.may_use-2.ensures in
    second_may_not c.args.self.now c.args.track t c.args.first u c.args.second (second ∙ c.if-not-may_use-2.true)

pub returns : goal.returns
returns c = λ t u e.
    let first = sym (may_use_read c.args.self.now c.args.rows.now c.requires.rows c.args.track c.args.first) ∙ sym c.may_use.ensures in
    let second = sym (may_use_read c.args.self.now c.args.rows.now c.requires.rows c.args.track c.args.second) ∙ sym c.may_use-2.ensures in
    c.is_between.ensures
    ∙ both_may c.args.self.now c.args.track t c.args.first u c.args.second c.least_in-least.result c.headway.result c.args.later (first ∙ c.if-not-may_use.false) (second ∙ c.if-not-may_use-2.false)
    (c.least_in-least.ensures ∙ least_read c.args.self.now c.requires.rows.built c.args.leasts.now c.requires.leasts c.args.track.0 c.args.first.0)
    (c.headway.ensures ∙ headway_read c.args.self.now c.requires.rows.built c.args.rows.now c.requires.rows c.args.track.0 c.args.first.0 c.args.second.0) e
