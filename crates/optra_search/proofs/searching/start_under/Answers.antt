-- The top of the stack.
use Rattle.std.proofs.Common.{None, Some, sym, ◌∙◌}
use Rattle.optra_search.proofs.WaitingLemmas.{last_start, none_below}
use Rattle.optra_search.proofs.searching.start_under.Goals as goal

pub returns-in-None : goal.returns-in-None
returns-in-None g c = c.requires ∙ sym (none_below c.args.waiting.now (sym c.in-None.ensures.value))

pub returns-in-Some-start : goal.returns-in-Some-start
returns-in-Some-start g c = sym (last_start c.args.waiting.now c.in-Some.below.now (Some c.in-Some-start.prices) c.in-Some.ensures.value c.in-Some-start.is)

pub returns-in-None-start : goal.returns-in-None-start
returns-in-None-start g c = c.requires ∙ sym (last_start c.args.waiting.now c.in-Some.below.now None c.in-Some.ensures.value c.in-None-start.is)
