-- The base and the three pairs of rates, one after the other.
use Rattle.std.proofs.Common.{◌≡◌, FitsSigned, OnOk, refl, rules, subst, w64}
use Rattle.std.proofs.lemmas.Int.{to_z-of_z}
use Rattle.optra_records.specs.Reading.{Record}
use Rattle.optra_tables.proofs.WrittenPrints.{joined}
use Rattle.optra_tables.proofs.writing.put_money.Goals as goal

pub returns : goal.returns
returns c =
    let base : FitsSigned w64 c.args.money.base = search rules in
    let early_depart : FitsSigned w64 c.args.money.early_depart = search rules in
    let late_depart : FitsSigned w64 c.args.money.late_depart = search rules in
    let early_arrive : FitsSigned w64 c.args.money.early_arrive = search rules in
    let late_arrive : FitsSigned w64 c.args.money.late_arrive = search rules in
    let travel : FitsSigned w64 c.args.money.travel = search rules in
    let wait : FitsSigned w64 c.args.money.wait = search rules in
    let old = c.args.fields.now in
    let one = joined old _ _ c.signed.new.self c.put_pair.new.fields c.in_ok-signed.ensures c.in_ok-put_pair.ensures in
    let two = joined old _ _ c.put_pair.new.fields c.put_pair-2.new.fields one c.in_ok-put_pair-2.ensures in
    let all = joined old _ _ c.put_pair-2.new.fields _ two refl in
    let whole = subst (λ (fields : Record). OnOk c.put_pair-3.result (c.put_pair-3.new.fields ≡ fields)) all c.put_pair-3.ensures in
    simp to_z-of_z at whole
