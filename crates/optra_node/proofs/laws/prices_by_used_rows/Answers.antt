use Rattle.std.proofs.Common.{◌≡◌, Bool, true, false, sym, ap, ◌∙◌}
use Rattle.std.specs.declared.cmp.Ordering.{Ordering}
use Rattle.std.specs.declared.cmp.Ordering.TheVariants.{Less, Equal}
use Rattle.std.specs.Ordering.{is_eq, eq_by_cmp}
use Rattle.std.proofs.lemmas.Cmp.{tied_itself}
use Rattle.optra_node.proofs.PriceLemmas.{by_used_rows}
use Rattle.optra_node.proofs.RowLemmas.{ascending_pairs, equal_is}
use Rattle.optra_node.proofs.laws.prices_by_used_rows.Goals as goal

tied : {o : Ordering} → o ≡ Less → o ≡ Equal → ⊥
tied a b = no (sym a ∙ b)
  where
    no : Less ≡ Equal → ⊥
    no e = cc

differ : {b : Bool} → b ≡ false → b ≡ true → ⊥
differ a b = clash (sym a ∙ b)
  where
    clash : false ≡ true → ⊥
    clash e = cc

pub returns : goal.returns
returns g c prices kind leg usable =
    let net = c.args.inst.net.now in
    let f = c.args.rows.now in
    let proper = c.args.inst.proper in
    let uses = (g.F.RowFamily.rows_of f net).uses kind leg in
    let rows = g.F.RowFamily.rows_used f net kind leg in
    let cmp = g.F.Row.Ord.cmp in
    let total = g.met.F.Row.Ord.total in
    let lists = g.met.F.RowFamily.lists_rows f net kind leg usable in
    by_used_rows (eq_by_cmp cmp)
    (λ a b e. g.met.F.Row.CodedRow.tells_apart a b (equal_is (cmp a b) e))
    (λ a b e same. differ e (ap (eq_by_cmp cmp a) (sym same) ∙ ap is_eq (tied_itself total a)))
    uses rows
    (λ i j d l m same. tied (ascending_pairs cmp rows lists.ascending i j d l m) (ap (cmp _) (sym same) ∙ tied_itself total _))
    (λ row l. (lists.used row).0 l)
    prices
