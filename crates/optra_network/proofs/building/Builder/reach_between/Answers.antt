use Rattle.std.proofs.Common.{◌≡◌, sym, ◌∙◌, subst, arith, true≢false, ◌≤◌, ◌<◌, ◌+◌}
use Rattle.optra_network.specs.Headways.{hmin_or_0, headway_or_0}
use Rattle.optra_network.proofs.ReadLemmas.{may_use_read, least_read, headway_read}
use Rattle.optra_network.proofs.PartnerLemmas.{first_may_not, second_may_not, near_none, headway_most, pair_parts}
use Rattle.optra_network.proofs.building.Builder.reach_between.Goals as goal

pub returns-then-not-may_use-clause-near : goal.returns-then-not-may_use-clause-near
returns-then-not-may_use-clause-near c = λ t u p.
    let first = sym (may_use_read c.args.self.now c.args.rows.now c.requires.rows c.args.track c.args.first) ∙ sym c.may_use.ensures in
    absurd (true≢false (sym (first_may_not c.args.self.now c.args.track t c.args.first u c.args.second (first ∙ c.if-not-may_use.true) ∙ p)))

pub returns-then-not-may_use-2-clause-near : goal.returns-then-not-may_use-2-clause-near
returns-then-not-may_use-2-clause-near c = λ t u p.
    let second = sym (may_use_read c.args.self.now c.args.rows.now c.requires.rows c.args.track c.args.second) ∙ sym c.may_use-2.ensures in
    absurd (true≢false (sym (second_may_not c.args.self.now c.args.track t c.args.first u c.args.second (second ∙ c.if-not-may_use-2.true) ∙ p)))

pub returns-then-headway-least_in-clause-near : goal.returns-then-headway-least_in-clause-near
returns-then-headway-least_in-clause-near c =
    let least : c.least_in.result ≡ hmin_or_0 c.args.self.now c.args.track c.args.first =
    c.least_in.ensures ∙ least_read c.args.self.now c.requires.rows.built c.args.leasts.now c.requires.leasts c.args.track.0 c.args.first.0 in
    let headway : c.headway-headway.result ≡ headway_or_0 c.args.self.now c.args.track c.args.first c.args.second =
    c.headway-headway.ensures ∙ headway_read c.args.self.now c.requires.rows.built c.args.rows.now c.requires.rows c.args.track.0 c.args.first.0 c.args.second.0 in
    near_none c.args.self.now c.args.track c.args.first c.args.second (let le : c.headway-headway.result ≤ c.least_in.result = c.if-headway-least_in.true in omega arith)

pub returns-clause-most : goal.returns-clause-most
returns-clause-most c =
    let headway : c.headway-headway.result ≡ headway_or_0 c.args.self.now c.args.track c.args.first c.args.second =
    c.headway-headway.ensures ∙ headway_read c.args.self.now c.requires.rows.built c.args.rows.now c.requires.rows c.args.track.0 c.args.first.0 c.args.second.0 in
    subst (λ n. n ≤ 120) (sym headway) (headway_most c.args.self.now c.requires.rows.built c.args.track c.args.first c.args.second)

pub returns-clause-near : goal.returns-clause-near
returns-clause-near c = λ t u p.
    let headway : c.headway-headway.result ≡ headway_or_0 c.args.self.now c.args.track c.args.first c.args.second =
    c.headway-headway.ensures ∙ headway_read c.args.self.now c.requires.rows.built c.args.rows.now c.requires.rows c.args.track.0 c.args.first.0 c.args.second.0 in
    subst (λ n. u < t + n) (sym headway) (pair_parts c.args.self.now c.args.track t c.args.first u c.args.second p).near
