use Rattle.std.proofs.Common.{◌≡◌, IfSome, sym, subst, rules}
use Rattle.optra_network.specs.Net.{Net, IsFromTo, crossing_of}
use Rattle.optra_network.specs.NetworkParts.{net_of}
use Rattle.optra_network.proofs.ReadLemmas.{crossing_range}
use Rattle.optra_network.proofs.finished.Network.crossing.Goals as goal

pub returns-clause-range : goal.returns-clause-range
returns-clause-range c =
    let is : c.copied.result ≡ crossing_of c.args.self.now c.args.a c.args.b c.args.first c.args.second = search rules in
    subst (λ o. IfSome o (IsFromTo 1 120)) (sym is)
    (subst (λ (n : Net). IfSome (crossing_of n c.args.a c.args.b c.args.first c.args.second) (IsFromTo 1 120)) c.self.view_is
    (crossing_range (net_of c.self.inside) c.self.invariant.proper.built c.args.a c.args.b c.args.first c.args.second))
