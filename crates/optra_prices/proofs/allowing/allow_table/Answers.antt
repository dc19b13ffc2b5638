use Rattle.std.proofs.Common.{refl, sym, ◌∙◌, inl, inr}
use Rattle.optra_prices.proofs.HolderLemmas.{same_groups, neither, one_of}
use Rattle.optra_prices.proofs.allowing.allow_table.Goals as goal

pub returns-clause-brought : goal.returns-clause-brought
returns-clause-brought g c =
    let told = c.allow_arcs-arcs.ensures.told in
    record {
      graph = refl;
      groups = same_groups c.args.table.now.arcs c.allow_arcs-arcs.new.arcs told.count_is (λ k before after old_at new_at. (told.each k before after old_at new_at).group_is);
      arcs = λ e. c.allow_arcs-arcs.ensures.same (neither _ _ (sym c.either.ensures ∙ e)).0;
      forced = λ e. c.set_forced-forced.ensures.same (neither _ _ (sym c.either.ensures ∙ e)).1;
      other = λ e same still. elim (one_of c.allow_arcs-arcs.result c.set_forced-forced.result (sym c.either.ensures ∙ e)) as (λ _. ⊥) [
        | inl arcs ↦ c.allow_arcs-arcs.ensures.other arcs same
        | inr forced ↦ c.set_forced-forced.ensures.other forced still
      ];
    }
