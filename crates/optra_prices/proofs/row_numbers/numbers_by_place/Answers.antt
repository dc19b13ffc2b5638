use Rattle.std.proofs.Common.{◌≡◌, ℕ, List, [], take, sym, subst, arith}
use Rattle.std.specs.List.Sorted.{IsStrictlySortedBy}
use Rattle.std.proofs.lemmas.List.{take_all}
use Rattle.optra_prices.specs.Numberings.{order_of}
use Rattle.optra_prices.specs.Tables.{IsNumbering}
use Rattle.optra_prices.proofs.NumberingLemmas.{numbering_placed, none_up}
use Rattle.optra_prices.proofs.row_numbers.numbers_by_place.Goals as goal

pub invariant_of-result : goal.invariant_of-result
invariant_of-result g c =
    let rows = c.args.rows.items in
    let all : take c.len-sorted.result rows ≡ rows = take_all c.len-sorted.result rows (omega (arith, c.len-sorted.ensures)) in
    record {
      within = omega (arith, c.len-sorted.ensures);
      first = subst (IsStrictlySortedBy g.F.Row.Ord.cmp) (sym all) c.requires;
      rest = none_up g.F.Row.Ord.cmp c.new.result.items c.new.ensures.items;
    }

pub returns-clause-numbering : goal.returns-clause-numbering
returns-clause-numbering g c =
    let cmp = g.F.Row.Ord.cmp in
    let rows = c.args.rows.items in
    let all : take c.len-sorted.result rows ≡ rows = take_all c.len-sorted.result rows (omega (arith, c.len-sorted.ensures)) in
    subst (λ (later : List (g.row.F-Row.Denot × ℕ)). IsNumbering cmp (order_of cmp (take c.len-sorted.result rows) later) rows) (sym c.new.ensures.items)
    (subst (λ (first : List g.row.F-Row.Denot). IsNumbering cmp (order_of cmp first []) rows) (sym all) (numbering_placed cmp g.met.F.Row.Ord.total g.met.F.Row.CodedRow.tells_apart rows c.requires))
