use Rattle.std.proofs.Common.{◌≡◌, ℕ, zero, suc, ◌-◌, List, replicate, refl, rules, subst, arith, sym, ap, ◌∙◌}
use Rattle.std.specs.Prelude.{All, ℤ, pos, ◌≤ℤ◌, slice_index_or}
use Rattle.std.proofs.lemmas.Int.{ints}
use Rattle.std.proofs.lemmas.List.Elements.{All-nil, All-cons}
use Rattle.optra_prices.specs.Columns.{mark_at}
use Rattle.optra_prices.specs.declared.columns.Mark.{Mark}
use Rattle.optra_prices.specs.declared.columns.Mark.TheVariants.{Still}
use Rattle.optra_prices.specs.Shares.{ArePutUses}
use Rattle.optra_prices.specs.Tables.{IsGroupPrice, group_at}
use Rattle.optra_prices.proofs.ColumnLemmas.{zero_group}
use Rattle.optra_prices.proofs.ShareLemmas.{shares_are}
use Rattle.optra_prices.proofs.ValueOfLemmas.{zeros_at}
use Rattle.optra_prices.proofs.columns.new_columns.Goals as goal

all_zeros : (P : ℤ → Type 0) (n : ℕ) → P (pos 0) → All P (replicate n (pos 0))
all_zeros P zero has = All-nil P
all_zeros P (suc n) has = All-cons P (pos 0) (replicate n (pos 0)) has (all_zeros P n has)

still_at : (n g : ℕ) → mark_at (replicate n Still) g ≡ Still
still_at zero g = refl
still_at (suc n) zero = refl
still_at (suc n) (suc g) = still_at n g

pub returns-clause-zero : goal.returns-clause-zero
returns-clause-zero c =
    let groups = c.args.groups in
    let zeros = c.in_ok-vec.ensures.items_if_clones_equal (λ y e. e) in
    λ g l. ap (λ (xs : List ℤ). slice_index_or xs g (pos 0)) zeros ∙ zeros_at (c.len-count.result - 1) g ∙ sym (zero_group (group_at groups.starts.items groups.touches g))

pub returns-clause-running : goal.returns-clause-running
returns-clause-running c =
    let groups = c.args.groups in
    let zeros = c.in_ok-vec-2.ensures.items_if_clones_equal (λ y e. e) in
    λ g l. ap (λ (xs : List ℤ). slice_index_or xs g (pos 0)) zeros ∙ zeros_at (c.len-count.result - 1) g ∙ sym (zero_group (group_at groups.starts.items groups.touches g))

pub returns-clause-columns : goal.returns-clause-columns
returns-clause-columns c =
    let zeros = c.in_ok-vec.ensures.items_if_clones_equal (λ y e. e) in
    let marks = c.in_ok-vec-3.ensures.items_if_clones_equal (λ y e. e) in
    let n = c.len-count.result - 1 in
    record {
      groups_are = refl;
      are = c.requires;
      users_are = c.in_ok-users.ensures.users;
      found = c.in_ok-users.ensures.found;
      shares = shares_are c.args.groups c.in_ok-users.users _ c.requires c.in_ok-users.ensures.placed (subst (λ v. ArePutUses c.args.groups.touches v.items) (sym c.amounts.view_is) c.in_ok-amounts.ensures);
      running_count = search rules;
      count = search rules;
      mark_count = search rules;
      range = subst (All IsGroupPrice) (sym zeros) (all_zeros IsGroupPrice n (omega (arith, ints), omega (arith, ints)));
      high = (omega (arith, ints), omega (arith, ints));
      most = subst (All (λ price. price ≤ℤ pos 0)) (sym zeros) (all_zeros (λ (price : ℤ). price ≤ℤ pos 0) n (omega (arith, ints)));
      listed = λ g told. absurd (told (ap (λ (ms : List Mark). mark_at ms g) marks ∙ still_at n g));
    }
