-- The first strip of the next minute.
use Rattle.std.proofs.Common.{arith}
use Rattle.optra_graph.proofs.StripLemmas.{minute_next}
use Rattle.optra_graph.proofs.strip.Strip.next.Goals as goal

pub returns-then-self-layout-clause-strip : goal.returns-then-self-layout-clause-strip
returns-then-self-layout-clause-strip c =
    rw c.from.ensures (minute_next c.args.layout c.args.self c.requires.strip c.if-self-layout.true (let m = c.requires.more in omega (arith, m)))
