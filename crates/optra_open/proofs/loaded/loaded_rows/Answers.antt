use Rattle.std.proofs.Common.{◌≡◌, ◌<◌, ap, sym, subst, Some, Vec, Global, ℕ}
use Rattle.std.specs.BTreeMap.{get}
use Rattle.std.specs.Prelude.{All, unwrap_or}
use Rattle.std.proofs.lemmas.List.Elements.{All-weaker}
use Rattle.optra_walk.specs.Families.{total_of}
use Rattle.optra_open.specs.Loaded.{used_rows, AreRising, IsMissing}
use Rattle.optra_open.proofs.LoadedLemmas.{used_rise, used_all, used_each}
use Rattle.optra_open.proofs.ToComeLemmas.{if_ok}
use Rattle.optra_open.proofs.loaded.loaded_rows.Goals as goal

pub returns-clause-rising : goal.returns-clause-rising
returns-clause-rising g c =
    let cmp = g.F.Row.Ord.cmp in
    let entries = c.args.totals.now.sums.entries in
    if_ok c.rows_of.result (λ (rows : Vec g.row.F-Row.Denot Global). rows.items ≡ used_rows entries) (λ (rows : Vec g.row.F-Row.Denot Global). AreRising cmp rows.items)
    (λ rows is. subst (AreRising cmp) (sym is) (used_rise cmp g.met.F.Row.Ord.total entries c.iter-ordered.ensures.ordered)) c.rows_of.ensures

pub returns-clause-all : goal.returns-clause-all
returns-clause-all g c =
    let cmp = g.F.Row.Ord.cmp in
    let sums = c.args.totals.now.sums in
    if_ok c.rows_of.result (λ (rows : Vec g.row.F-Row.Denot Global). rows.items ≡ used_rows sums.entries)
    (λ (rows : Vec g.row.F-Row.Denot Global). (row : g.row.F-Row.Denot) → IsMissing cmp rows.items row → total_of cmp sums row ≡ 0)
    (λ rows is row missing. used_all cmp g.met.F.Row.Ord.total row sums.entries (subst (λ listed. IsMissing cmp listed row) is missing)) c.rows_of.ensures

pub returns-clause-used : goal.returns-clause-used
returns-clause-used g c =
    let cmp = g.F.Row.Ord.cmp in
    let sums = c.args.totals.now.sums in
    if_ok c.rows_of.result (λ (rows : Vec g.row.F-Row.Denot Global). rows.items ≡ used_rows sums.entries)
    (λ (rows : Vec g.row.F-Row.Denot Global). All (λ row. 0 < total_of cmp sums row) rows.items)
    (λ rows is. subst (All (λ row. 0 < total_of cmp sums row)) (sym is) (used_each cmp g.met.F.Row.Ord.total (total_of cmp sums) sums.entries
    (All-weaker (λ (e : g.row.F-Row.Denot × ℕ). get cmp sums e.0 ≡ Some e.1) (λ (e : g.row.F-Row.Denot × ℕ). total_of cmp sums e.0 ≡ e.1) (λ e at. ap (λ o. unwrap_or o 0) at) sums.entries c.iter-ordered.ensures.found))) c.rows_of.ensures
