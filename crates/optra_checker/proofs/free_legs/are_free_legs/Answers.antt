use Rattle.optra_open.proofs.AtLemmas.{no_true}
use Rattle.optra_checker.proofs.free_legs.are_free_legs.Goals as goal

pub returns-then-not-is_allowed_start-clause-free : goal.returns-then-not-is_allowed_start-clause-free
returns-then-not-is_allowed_start-clause-free g c t = absurd (no_true t)

pub returns-then-not-is_allowed_start-clause-some : goal.returns-then-not-is_allowed_start-clause-some
returns-then-not-is_allowed_start-clause-some g c t = absurd (no_true t)

pub returns-clause-free : goal.returns-clause-free
returns-clause-free g c t = record { start = c.is_allowed_start.ensures.start c.if-not-is_allowed_start.false; each = c.each_is_free.ensures.0 t }

pub returns-clause-some : goal.returns-clause-some
returns-clause-some g c t = c.is_allowed_start.ensures.some c.if-not-is_allowed_start.false

pub each_is_free-requires-clause-bid : goal.each_is_free-requires-clause-bid
each_is_free-requires-clause-bid g c = c.requires.bid

pub each_is_free-requires-clause-usable : goal.each_is_free-requires-clause-usable
each_is_free-requires-clause-usable g c = c.requires.usable

pub each_is_free-requires-clause-ascending : goal.each_is_free-requires-clause-ascending
each_is_free-requires-clause-ascending g c = c.requires.ascending

pub each_is_free-requires-clause-proper : goal.each_is_free-requires-clause-proper
each_is_free-requires-clause-proper g c = c.requires.proper
