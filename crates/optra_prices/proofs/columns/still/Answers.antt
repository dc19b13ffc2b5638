use Rattle.std.proofs.Common.{◌∙◌, ℕ, List, refl, subst}
use Rattle.optra_prices.proofs.ColumnLemmas.{IsStillOrLeft, all_still}
use Rattle.optra_prices.proofs.columns.still.Goals as goal

pub returns-clause-columns : goal.returns-clause-columns
returns-clause-columns c =
    let old = c.args.columns.now in
    let new = c.still_groups.new.marks.items in
    let is = c.requires in
    record {
      groups_are = refl;
      are = is.are;
      users_are = is.users_are;
      found = is.found;
      shares = is.shares;
      running_count = is.running_count;
      count = is.count;
      mark_count = c.still_groups.ensures.count ∙ is.mark_count;
      range = is.range;
      high = is.high;
      most = is.most;
      listed = λ g told. absurd (told (all_still old.marks.items new old.due.items g is.listed (subst (λ (due : List ℕ). IsStillOrLeft old.marks.items due new g) c.deref.ensures.value (c.still_groups.ensures.still g))));
    }

pub returns-clause-still : goal.returns-clause-still
returns-clause-still c =
    let old = c.args.columns.now in
    let new = c.still_groups.new.marks.items in
    λ g. all_still old.marks.items new old.due.items g c.requires.listed (subst (λ (due : List ℕ). IsStillOrLeft old.marks.items due new g) c.deref.ensures.value (c.still_groups.ensures.still g))
