use Rattle.std.proofs.Common.{◌∙◌}
use Rattle.optra_prices.proofs.HolderLemmas.{filled}
use Rattle.optra_prices.proofs.holders.tell_none.Goals as goal

pub returns : goal.returns
returns c =
    let emptied = c.clear.new.self in
    c.in_ok-resize.ensures.items ∙ filled emptied.items c.args.count _ c.clear.ensures.items emptied.ok.0
