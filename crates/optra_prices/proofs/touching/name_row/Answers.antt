use Rattle.std.proofs.Common.{List, slice_get, ap, ◌∙◌}
use Rattle.optra_prices.proofs.NumberLemmas.{push_at}
use Rattle.optra_prices.proofs.touching.name_row.Goals as goal

pub returns-clause-place : goal.returns-clause-place
returns-clause-place g c =
    let named = c.args.named.now.items in
    ap (λ (xs : List g.row.F-Row.Denot). slice_get xs c.len-place.result) c.in_ok-push.ensures.pushed ∙ ap (slice_get _) c.len-place.ensures ∙ push_at named c.args.row
