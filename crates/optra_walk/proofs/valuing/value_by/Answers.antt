use Rattle.std.proofs.Common.{rules, FitsSigned, w64}
use Rattle.std.proofs.lemmas.Int.{to_z-of_z}
use Rattle.optra_walk.proofs.valuing.value_by.Goals as goal

pub returns-clause-value : goal.returns-clause-value
returns-clause-value c =
    let f1 : FitsSigned w64 c.args.money.base = search rules in
    let f2 : FitsSigned w64 c.args.money.early_depart = search rules in
    let f3 : FitsSigned w64 c.args.money.late_depart = search rules in
    let f4 : FitsSigned w64 c.args.money.early_arrive = search rules in
    let f5 : FitsSigned w64 c.args.money.late_arrive = search rules in
    let f6 : FitsSigned w64 c.args.money.travel = search rules in
    let f7 : FitsSigned w64 c.args.money.wait = search rules in
    let f8 : FitsSigned w64 c.price_off-depart.result = search rules in
    let f9 : FitsSigned w64 c.price_off-arrive.result = search rules in
    let f10 : FitsSigned w64 c.price_under_way-under_way.result = search rules in
    let f11 : FitsSigned w64 c.less_prices.result = search rules in
    let less = simp to_z-of_z at c.less_prices.ensures.value in
    let depart = simp to_z-of_z at c.price_off-depart.ensures.value in
    let arrive = simp to_z-of_z at c.price_off-arrive.ensures.value in
    let under_way = simp to_z-of_z at c.price_under_way-under_way.ensures.value in
    simp to_z-of_z (rw (less, depart, arrive, under_way, c.minutes.ensures))
