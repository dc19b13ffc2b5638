use Rattle.std.proofs.Common.{sym, arith}
use Rattle.std.proofs.lemmas.Bool.Decides.{nat_tests}
use Rattle.optra_network.specs.BuilderParts.{net_of}
use Rattle.optra_network.proofs.NetLemmas.{built_with_running}
use Rattle.optra_network.proofs.RowLemmas.{entries_with_new}
use Rattle.optra_network.proofs.building.Builder.running.Goals as goal

pub returns-clause-ok : goal.returns-clause-ok
returns-clause-ok c =
    let rows = entries_with_new _ c.self.inside.running _ _ _ c.in_ok-insert.ensures.entries c.if-contains_key.ensures in
    rw (← c.self.view_is, sym c.in-Some-Some.ensures.place, sym c.in-Some-Some.ensures'.place, rows)

pub invariant_of-self-2 : goal.invariant_of-self-2
invariant_of-self-2 c =
    let rows = entries_with_new _ c.self.inside.running _ _ _ c.in_ok-insert.ensures.entries c.if-contains_key.ensures in
    built_with_running (net_of c.self.inside) _ _ c.self.invariant rows (sym c.if-contains_key.ensures) (
      omega (arith, c.in-Some-Some.ensures.within, c.self.invariant.named),
      omega (arith, c.in-Some-Some.ensures'.within),
      record {
        pass_pass = grind (arith, nat_tests);
        pass_halt = grind (arith, nat_tests);
        halt_pass = grind (arith, nat_tests);
        halt_halt = grind (arith, nat_tests);
      },
    )
