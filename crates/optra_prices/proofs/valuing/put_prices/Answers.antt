use Rattle.std.proofs.Common.{◌≡◌, List, length, take, Some, slice_get, refl, sym, ap, ◌∙◌, subst, arith}
use Rattle.std.specs.Prelude.{ℤ, pos, slice_index_or}
use Rattle.std.proofs.lemmas.List.{length-replicate, take_all}
use Rattle.std.proofs.lemmas.Option.{slice_get_read, same_Some}
use Rattle.optra_prices.specs.Columns.{IsColumns}
use Rattle.optra_prices.specs.Standings.{Agrees}
use Rattle.optra_prices.specs.declared.numbering.Groups.{Groups}
use Rattle.optra_prices.proofs.ValueOfLemmas.{agrees_first, agrees_more, sets_count}
use Rattle.optra_prices.proofs.valuing.put_prices.Goals as goal

pub loop-entry-init : goal.loop-entry-init
loop-entry-init g c =
    let rows = c.args.numbering.now.rows.items in
    let n = length rows in
    let is = c.requires.zero in
    record {
      count = ap length is ∙ length-replicate n (pos 0);
      agrees = λ k row at. agrees_first g.F.Row.Ord.cmp g.met.F.Row.Ord.total rows n c.args.entries.now k row at ∙ ap (λ (xs : List ℤ). slice_index_or xs k (pos 0)) (sym is);
      levels = c.requires.levels;
      columns = c.requires.columns;
      due = c.requires.due;
      grouped = refl;
      rest = record { uses = refl; capacities = refl };
    }

pub loop-entry-preserved : goal.loop-entry-preserved
loop-entry-preserved g c =
    let entries = c.args.entries.now in
    let cmp = g.F.Row.Ord.cmp in
    let rows = c.args.numbering.now.rows.items in
    let i = c.loop-entry.entry-index in
    let e = c.entry-item.result in
    let at : slice_get entries i ≡ Some e = slice_get_read entries (length entries) i e refl c.loop-entry-test.true c.entry-item.is in
    let is = c.in_ok-put_row_price.ensures in
    let old = c.loop-entry.levels.prices.items in
    let new = c.put_row_price.new.levels.prices.items in
    let inv = c.loop-entry.invariant in
    record {
      count = sets_count cmp rows e old new is.prices ∙ inv.count;
      agrees = agrees_more cmp g.met.F.Row.Ord.total rows old new entries i e
          (λ j k row j_at k_at. same_Some j k (sym (c.requires.numbering.known j row j_at) ∙ c.requires.numbering.known k row k_at))
          g.met.F.Row.CodedRow.tells_apart inv.count inv.agrees c.requires.ascending at is.prices;
      levels = is.levels;
      columns = subst (λ (groups : Groups). IsColumns groups c.put_row_price.new.columns) inv.columns.groups_are is.columns;
      due = is.due;
      grouped = is.grouped ∙ inv.grouped;
      rest = record { uses = is.rest.uses ∙ inv.rest.uses; capacities = is.rest.capacities ∙ inv.rest.capacities };
    }

pub returns-clause-agrees : goal.returns-clause-agrees
returns-clause-agrees g c =
    let entries = c.args.entries.now in
    let all : take c.loop-entry.entry-index entries ≡ entries = take_all c.loop-entry.entry-index entries (omega arith) in
    subst (Agrees g.F.Row.Ord.cmp c.args.numbering.now.rows.items c.loop-entry.levels.prices.items) all c.loop-entry.invariant.agrees
