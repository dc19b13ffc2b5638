use Rattle.std.proofs.Common.{ap, ◌≡◌, true, List, subst}
use Rattle.std.specs.Prelude.{Contains}
use Rattle.std.proofs.lemmas.List.Elements.{All-weaker}
use Rattle.optra_prices.specs.Rankings.{Renumbers}
use Rattle.optra_prices.specs.declared.touch.Touch.{Touch}
use Rattle.optra_prices.proofs.ListLemmas.{all_at}
use Rattle.optra_prices.proofs.PlaceLemmas.{contains_at}
use Rattle.optra_prices.proofs.making.finish_making.Goals as goal

pub returns : goal.returns
returns g c =
    let rows = g.F.RowFamily.rows_of c.args.rows.now c.args.net.now in
    let named = c.args.making.named.items in
    let numbering = c.in_ok-numbering.numbering in
    let is = c.in_ok-numbering.ensures in
    record {
      numbering = is.numbering;
      rows_are = All-weaker (Contains named) (λ row. rows.is_row row ≡ true) (λ row has. let p = contains_at named row has in all_at (λ r. rows.is_row r ≡ true) named p.0 row c.requires.rows_are p.1) numbering.rows.items is.rows;
      starts_are = ap (λ v. v.items) c.shrink_to_fit.ensures;
      renumbers = subst (λ (old : List Touch). Renumbers named numbering.rows.items old c.number_rows.new.touches) c.shrink_to_fit-2.ensures is.renumbers;
    }
