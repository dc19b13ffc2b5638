-- A price of a row that is above is added.
use Rattle.std.proofs.Common.{sym, ◌∙◌, FitsSigned, w64, to_z-of_z, rules}
use Rattle.optra_cert.proofs.TreeLemmas.{price_goes}
use Rattle.optra_cert.proofs.read_tree.ReadTree.add_price.Goals as goal

pub returns : goal.returns
returns g c =
    let fits : FitsSigned w64 c.args.price = search rules in
    let tree = c.args.self.now in
    price_goes g.R.Ord.cmp tree c.push_price.new.self c.fill.new.self (c.args.row, c.args.price) (sym c.is_above.ensures ∙ c.if-not-is_above.false)
    (simp to_z-of_z at c.in_ok-push_price.ensures) c.in_ok-fill.ensures
