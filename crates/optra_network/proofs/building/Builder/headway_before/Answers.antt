use Rattle.std.proofs.Common.{cond, None, sym, ap, ◌∙◌}
use Rattle.optra_network.specs.Net.{headway_of}
use Rattle.optra_network.proofs.ReadLemmas.{may_use_read, minutes_read}
use Rattle.optra_network.proofs.building.Builder.headway_before.Goals as goal

pub returns-then-may_use : goal.returns-then-may_use
returns-then-may_use c =
    let may = sym (may_use_read c.args.self.now c.args.rows.now c.requires c.args.track c.args.other) ∙ sym c.may_use.ensures ∙ c.if-may_use.true in
    c.above_zero.ensures ∙ minutes_read c.args.self.now c.args.rows.now c.requires c.args.track c.args.kind c.args.other c.headway.result c.headway.ensures
    ∙ sym (ap (λ b. cond b (headway_of c.args.self.now c.args.track c.args.kind c.args.other) None) may)

pub returns-else-may_use : goal.returns-else-may_use
returns-else-may_use c =
    let may = sym (may_use_read c.args.self.now c.args.rows.now c.requires c.args.track c.args.other) ∙ sym c.may_use.ensures ∙ c.if-may_use.false in
    sym (ap (λ b. cond b (headway_of c.args.self.now c.args.track c.args.kind c.args.other) None) may)
