use Rattle.std.proofs.Common.{IfSome, ap, sym, subst, ◌∙◌}
use Rattle.optra_network.specs.Net.{Net, IsFromTo, headway_of}
use Rattle.optra_network.specs.NetworkParts.{net_of}
use Rattle.optra_network.proofs.ReadLemmas.{headway_range, minutes_read}
use Rattle.optra_network.proofs.finished.Network.headway.Goals as goal

pub returns-clause-minutes : goal.returns-clause-minutes
returns-clause-minutes c =
    c.above_zero.ensures
    ∙ minutes_read (net_of c.self.inside) c.self.inside.tables.rows c.self.invariant.tables.rows c.args.track c.args.first c.args.second c.headway.result c.headway.ensures
    ∙ ap (λ (n : Net). headway_of n c.args.track c.args.first c.args.second) c.self.view_is

pub returns-clause-range : goal.returns-clause-range
returns-clause-range c =
    subst (λ o. IfSome o (IsFromTo 1 120)) (sym (returns-clause-minutes c))
    (subst (λ (n : Net). IfSome (headway_of n c.args.track c.args.first c.args.second) (IsFromTo 1 120)) c.self.view_is
    (headway_range (net_of c.self.inside) c.self.invariant.proper.built c.args.track c.args.first c.args.second))
