use Rattle.std.proofs.Common.{sym, ◌∙◌}
use Rattle.optra_network.proofs.ReadLemmas.{may_use_read, hmin_or_0-none}
use Rattle.optra_network.proofs.building.Builder.least.Goals as goal

pub returns-then-not-may_use : goal.returns-then-not-may_use
returns-then-not-may_use c =
    let may = sym (may_use_read c.args.self.now c.args.rows.now c.requires c.args.track c.args.kind) ∙ sym c.may_use.ensures in
    sym (hmin_or_0-none c.args.self.now c.requires.built c.args.track c.args.kind (may ∙ c.if-not-may_use.true))
