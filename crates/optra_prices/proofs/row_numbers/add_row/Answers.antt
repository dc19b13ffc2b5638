use Rattle.std.proofs.Common.{◌≡◌, ℕ, None, List, [], ◌∷◌, ◌++◌, take, sym, ap, ◌∙◌, subst, arith}
use Rattle.std.specs.List.Sorted.{IsStrictlySortedBy}
use Rattle.std.proofs.lemmas.List.{length-append, take-append-le}
use Rattle.optra_prices.specs.Numberings.{RowNumbering, order_of}
use Rattle.optra_prices.specs.Rankings.{IsGap}
use Rattle.optra_prices.specs.Tables.{IsNumbering, number_in}
use Rattle.optra_prices.proofs.NumberingLemmas.{later_none, numbering_added, gap_put_up}
use Rattle.optra_prices.proofs.row_numbers.add_row.Goals as goal

pub gap_of-place-requires-clause-other : goal.gap_of-place-requires-clause-other
gap_of-place-requires-clause-other g c =
    let cmp = g.F.Row.Ord.cmp in
    let inside = c.numbering.inside in
    subst (λ (es : List (g.row.F-Row.Denot × ℕ)). number_in cmp es c.args.row ≡ None) (sym c.deref.ensures.value)
    (later_none cmp g.met.F.Row.Ord.total g.met.F.Row.CodedRow.tells_apart (take inside.sorted inside.rows.items) inside.later.items c.args.row
    (subst (λ (v : RowNumbering g.row.F-Row.Denot). number_in cmp v.order.items c.args.row ≡ None) (sym c.numbering.view_is) c.requires.other))

pub invariant_of-numbering-2 : goal.invariant_of-numbering-2
invariant_of-numbering-2 g c =
    let cmp = g.F.Row.Ord.cmp in
    let inside = c.numbering.inside in
    let is = c.numbering.invariant in
    let pushed = c.in_ok-push.ensures.pushed in
    record {
      within = grind (arith, length-append, pushed, is.within);
      first = subst (IsStrictlySortedBy cmp) (sym (ap (take inside.sorted) pushed ∙ take-append-le inside.sorted inside.rows.items _ is.within)) is.first;
      rest = gap_put_up cmp g.met.F.Row.Ord.total inside.later.items c.insert.new.self.items c.args.row c.gap_of-place.result c.len-number.result is.rest
          (subst (λ (es : List (g.row.F-Row.Denot × ℕ)). IsGap cmp es c.args.row c.gap_of-place.result) c.deref.ensures.value c.gap_of-place.ensures) c.in_ok-insert.ensures.items;
    }

pub returns-clause-numbering : goal.returns-clause-numbering
returns-clause-numbering g c =
    let cmp = g.F.Row.Ord.cmp in
    let inside = c.numbering.inside in
    let is = c.numbering.invariant in
    let pushed = c.in_ok-push.ensures.pushed in
    let first = take inside.sorted inside.rows.items in
    let same : take inside.sorted c.push.new.self.items ≡ first = ap (take inside.sorted) pushed ∙ take-append-le inside.sorted inside.rows.items _ is.within in
    subst (λ (rows : List g.row.F-Row.Denot). IsNumbering cmp (order_of cmp (take inside.sorted c.push.new.self.items) c.insert.new.self.items) rows) (sym pushed)
    (subst (λ (rows : List g.row.F-Row.Denot). IsNumbering cmp (order_of cmp rows c.insert.new.self.items) (inside.rows.items ++ c.args.row ∷ [])) (sym same)
    (numbering_added cmp g.met.F.Row.Ord.total g.met.F.Row.CodedRow.tells_apart first inside.rows.items inside.later.items c.insert.new.self.items c.args.row c.gap_of-place.result c.len-number.result is.first
    (subst (λ (v : RowNumbering g.row.F-Row.Denot). IsNumbering cmp v.order.items v.rows.items) (sym c.numbering.view_is) c.requires.numbering)
    (subst (λ (v : RowNumbering g.row.F-Row.Denot). number_in cmp v.order.items c.args.row ≡ None) (sym c.numbering.view_is) c.requires.other)
    (subst (λ (es : List (g.row.F-Row.Denot × ℕ)). IsGap cmp es c.args.row c.gap_of-place.result) c.deref.ensures.value c.gap_of-place.ensures) (omega (arith, c.len-number.ensures, arith)) c.in_ok-insert.ensures.items))
