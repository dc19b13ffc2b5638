use Rattle.std.proofs.Common.{◌≡◌, IsSome, All, length, sym, refl, subst, arith, rules}
use Rattle.std.proofs.lemmas.Bool.{true≢false}
use Rattle.optra_walk.specs.RowLists.{Listed}
use Rattle.optra_walk.proofs.ListLemmas.{all_have_numbers, some_has_none}
use Rattle.optra_walk.proofs.row_list.RowList.codes.Goals as goal

pub returns-then-is_empty-clause-exact : goal.returns-then-is_empty-clause-exact
returns-then-is_empty-clause-exact g c =
    let wide = c.self.inside.wide in
    let none : length wide.items ≡ 0 = grind (arith, rules, c.is_empty.ensures, c.if-is_empty.true, wide.ok.0) in
    let all = all_have_numbers g.R.CodedRow.code_of g.R.CodedRow.row_of c.self.inside.codes.items wide.items c.self.invariant.0 none in
    ((λ _. subst (λ (v : Listed g.row.R.Denot). All (λ row. IsSome (g.R.CodedRow.code_of row)) v.items) c.self.view_is all), (λ _. refl))

pub returns-else-is_empty-clause-exact : goal.returns-else-is_empty-clause-exact
returns-else-is_empty-clause-exact g c =
    let wide = c.self.inside.wide in
    let some : length wide.items ≡ 0 → ⊥ = λ (none : length wide.items ≡ 0). grind (arith, rules, c.is_empty.ensures, c.if-is_empty.false, wide.ok.0, none) in (
      (λ f. absurd (true≢false (sym f))),
      (λ all. absurd (some_has_none g.R.CodedRow.code_of g.R.CodedRow.row_of c.self.inside.codes.items wide.items c.self.invariant.1 some
          (subst (λ (v : Listed g.row.R.Denot). All (λ row. IsSome (g.R.CodedRow.code_of row)) v.items) (sym c.self.view_is) all))),
    )
