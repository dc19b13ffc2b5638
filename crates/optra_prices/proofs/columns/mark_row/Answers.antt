use Rattle.std.proofs.Common.{refl}
use Rattle.optra_prices.specs.Indexes.{items_at}
use Rattle.optra_prices.proofs.ColumnLemmas.{marked_columns}
use Rattle.optra_prices.proofs.columns.mark_row.Goals as goal

pub returns-clause-columns : goal.returns-clause-columns
returns-clause-columns c =
    let is = c.in_ok-mark_groups.ensures in
    let columns = c.args.columns.now in
    marked_columns columns _ (items_at columns.users c.args.row) c.requires.columns refl refl refl refl refl refl is.listed is.marks

pub returns-clause-row : goal.returns-clause-row
returns-clause-row c =
    let is = c.in_ok-mark_groups.ensures in
    record {
      more = record { users = refl; prices = refl; running = refl; marks = is.marks.keeps.marks };
      users_due = λ g l has. is.marks.due g l has;
    }
