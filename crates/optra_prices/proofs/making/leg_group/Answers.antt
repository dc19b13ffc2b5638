-- A new group leaves those that were made.
use Rattle.optra_prices.proofs.MakingLemmas.{heads_kept}
use Rattle.optra_prices.proofs.making.leg_group.Goals as goal

pub enter-requires-clause-making : goal.enter-requires-clause-making
enter-requires-clause-making g c =
    let net = c.args.net.now in
    let f = c.args.rows.now in
    let making = c.guessed_group.new.making in
    let made = c.guessed_group.ensures.making in
    let found = c.in_ok-group.ensures in
    record {
      rows_are = found.rows_are;
      groups_are = found.groups_are;
      heads_are = heads_kept net (g.F.RowFamily.rows_of f net) (g.F.RowFamily.rows_used f net) making.named.items c.new_group.new.named.items making.groups c.new_group.new.groups making.heads.items found.extends found.keeps made.heads_are;
    }
