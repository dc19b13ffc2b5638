use Rattle.std.proofs.Common.{sym, arith, rules}
use Rattle.optra_network.specs.BuilderParts.{net_of}
use Rattle.optra_network.proofs.NetLemmas.{built_with_crossing}
use Rattle.optra_network.proofs.RowLemmas.{entries_with_new}
use Rattle.optra_network.proofs.building.Builder.crossing.Goals as goal

pub returns-clause-ok : goal.returns-clause-ok
returns-clause-ok c =
    let rows = entries_with_new _ c.self.inside.crossings _ _ _ c.in_ok-insert.ensures.entries c.if-contains_key.ensures in
    rw (← c.self.view_is, sym c.in-Some-Some-Some-Some.ensures.place, sym c.in-Some-Some-Some-Some.ensures'.place, sym c.in-Some-Some-Some-Some.ensures''.place, sym c.in-Some-Some-Some-Some.ensures'''.place, rows)

pub invariant_of-self-2 : goal.invariant_of-self-2
invariant_of-self-2 c =
    let rows = entries_with_new _ c.self.inside.crossings _ _ _ c.in_ok-insert.ensures.entries c.if-contains_key.ensures in
    built_with_crossing (net_of c.self.inside) _ _ c.self.invariant rows (sym c.if-contains_key.ensures) (record {
      first_track = omega (arith, c.in-Some-Some-Some-Some.ensures.within, c.self.invariant.named);
      second_track = omega (arith, c.in-Some-Some-Some-Some.ensures'.within, c.self.invariant.named);
      first = omega (arith, c.in-Some-Some-Some-Some.ensures''.within);
      second = omega (arith, c.in-Some-Some-Some-Some.ensures'''.within);
      apart = search rules;
      minutes = (omega arith, omega arith);
    })
