use Rattle.std.proofs.Common.{◌≡◌, ◌↔◌, Some, subst, rules, w64}
use Rattle.std.specs.Prelude.{IsTrue, FitsSigned}
use Rattle.std.proofs.lemmas.Int.{to_z-of_z}
use Rattle.optra_checker.proofs.BoundLemmas.{stated_is}
use Rattle.optra_checker.proofs.bounding.bound_holds.Goals as goal

pub returns : goal.returns
returns g c =
    let net = c.args.inst.net.now in
    let fits : FitsSigned w64 c.args.stated = search rules in
    let told = subst (λ z. IsTrue c.is_stated.result ↔ (c.in_ok-greatest.greatest ≡ Some z)) (to_z-of_z w64 c.args.stated fits) c.is_stated.ensures in
    stated_is net (g.F.RowFamily.rows_of c.args.rows.now net) c.args.inst.bids.now c.args.tree.now c.in_ok-greatest.greatest c.args.stated c.is_stated.result c.in_ok-greatest.ensures told

pub greatest_bound-requires : goal.greatest_bound-requires
greatest_bound-requires g c = c.requires
