-- The kinds of the three families differ, their rows are few together, and their order is the one by cases.
use Rattle.std.proofs.Common.{◌+◌, ◌^◌, refl, arith}
use Rattle.optra_cert.proofs.ApartLemmas.{apart_from}
use Rattle.optra_verdict.specs.Families.{all_family}
use Rattle.optra_verdict.proofs.FamilyLemmas.{cmp_is}
use Rattle.optra_verdict.proofs.families.all_rows_are_told.Goals as goal

pub returns-clause-apart : goal.returns-clause-apart
returns-clause-apart c = apart_from (all_family c.args.net.now).texts.kinds refl

pub returns-clause-few : goal.returns-clause-few
returns-clause-few c list ascending all =
    let two = c.both_rows_are_few.ensures (10 ^ 13) (10 ^ 16) c.headway_rows_are_few.ensures c.cross_rows_are_few.ensures in
    let three = c.both_rows_are_few-2.ensures (10 ^ 13 + 10 ^ 16) (10 ^ 6) two c.platform_rows_are_few.ensures in
    let few = three list ascending all in
    omega (arith, few)

pub returns-clause-order : goal.returns-clause-order
returns-clause-order c = cmp_is _ (λ a b. refl) (λ a b. refl) (λ a b. refl) (λ a b. refl) (λ a b. refl) (λ a b. refl) (λ a b. refl)
