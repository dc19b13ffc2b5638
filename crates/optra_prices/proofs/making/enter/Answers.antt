-- One more leg has entered.
use Rattle.std.proofs.Common.{sym, subst}
use Rattle.std.specs.Prelude.{All}
use Rattle.std.proofs.lemmas.List.Elements.{All-push}
use Rattle.optra_prices.specs.Makings.{IsHead}
use Rattle.optra_prices.specs.declared.making.Head.{Head}
use Rattle.optra_prices.proofs.making.enter.Goals as goal

pub returns-clause-making : goal.returns-clause-making
returns-clause-making g c =
    let net = c.args.net.now in
    let f = c.args.rows.now in
    let making = c.args.making.now in
    let is : (head : Head) → Type 0 = IsHead net (g.F.RowFamily.rows_of f net) (g.F.RowFamily.rows_used f net) making.named.items making.groups in
    let made = c.requires.making in
    record {
      rows_are = made.rows_are;
      groups_are = made.groups_are;
      heads_are = subst (All is) (sym c.in_ok-push.ensures.items) (All-push is making.heads.items c.args.head made.heads_are c.requires.head);
    }
