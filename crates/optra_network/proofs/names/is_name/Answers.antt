use Rattle.std.proofs.Common.{◌∙◌, arith}
use Rattle.optra_network.proofs.NamesLemmas.{is_name-text}
use Rattle.optra_network.proofs.names.is_name.Goals as goal

pub returns : goal.returns
returns c = c.is_plain.ensures ∙ is_name-text c.args.text.now c.utf8.text (grind arith) (omega arith)
