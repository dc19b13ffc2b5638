use Rattle.std.proofs.Common.{◌≡◌, ◌≤◌, sym, subst, rules}
use Rattle.optra_network.specs.Net.{Net, halt_max_of}
use Rattle.optra_network.specs.NetworkParts.{net_of}
use Rattle.optra_network.proofs.ReadLemmas.{halt_most}
use Rattle.optra_network.proofs.finished.Network.halt_max.Goals as goal

pub returns-clause-most : goal.returns-clause-most
returns-clause-most c =
    let is : c.unwrap_or.result ≡ halt_max_of c.args.self.now c.args.id = search rules in
    subst (λ n. n ≤ 1000) (sym is)
    (subst (λ (n : Net). halt_max_of n c.args.id ≤ 1000) c.self.view_is (halt_most (net_of c.self.inside) c.self.invariant.proper.built c.args.id))
