use Rattle.std.proofs.Common.{◌≡◌, sym, ap, ◌∙◌, subst, arith}
use Rattle.std.specs.Prelude.{All, ℤ}
use Rattle.std.proofs.lemmas.Int.{ints}
use Rattle.std.proofs.lemmas.Result.{on_ok_weaker}
use Rattle.optra_node.specs.Duals.{PriceList}
use Rattle.optra_prices.specs.Courses.{listed}
use Rattle.optra_prices.specs.Standings.{Agrees}
use Rattle.optra_prices.specs.Tables.{IsRowPrice}
use Rattle.optra_prices.specs.Terms.{Setting, setting}
use Rattle.optra_prices.proofs.CourseLemmas.{set_up_on}
use Rattle.optra_prices.proofs.ListingLemmas.{listed_one}
use Rattle.optra_prices.proofs.courses.go_to.Goals as goal

pub put_prices-requires-clause-range : goal.put_prices-requires-clause-range
put_prices-requires-clause-range g c =
    subst (All (λ (e : g.row.F-Row.Denot × ℤ). IsRowPrice e.1)) (sym c.entries.ensures.value)
    (λ k d l. let is = c.requires.start.each k d l in let a = is.least in let b = is.most in (omega (arith, ints), omega (arith, ints)))

pub arrive-requires : goal.arrive-requires
arrive-requires g c =
    let net = c.args.inst.net.now in
    let f = c.args.rows.now in
    let s : Setting g.row.F-Row.Denot = setting net (g.F.RowFamily.rows_of f net) (g.F.RowFamily.rows_used f net) c.args.inst.bids.now c.args.node.now in
    let is = c.in_ok-leave.ensures.moved.is in
    let put = c.in_ok-put_prices.ensures in
    record {
      moved = record {
        is = set_up_on g.F.Row.Ord.cmp s c.leave.new.kept c.put_prices.new.columns put.columns c.put_prices.new.levels is put.levels put.rest.uses (put.count ∙ sym is.price_count) put.rest.capacities put.grouped;
        due = put.due;
      };
    }

pub returns-clause-prices : goal.returns-clause-prices
returns-clause-prices g c =
    let rows = g.F.RowFamily.rows_of c.args.rows.now c.args.inst.net.now in
    let cmp = g.F.Row.Ord.cmp in
    let kept = c.args.kept.now in
    let start = c.args.start.now in
    let is = c.requires.course.is in
    let keeps = c.in_ok-leave.ensures.keeps in
    let put = c.in_ok-put_prices.ensures in
    let prices = c.put_prices.new.levels.prices.items in
    let agrees : Agrees cmp kept.numbering.rows.items prices start =
    subst (λ numbering. Agrees cmp numbering.rows.items prices start) keeps.numbering (subst (λ (xs : PriceList g.row.F-Row.Denot). Agrees cmp c.leave.new.kept.numbering.rows.items prices xs) c.entries.ensures.value put.agrees)
    in
    let one : listed c.leave.new.kept.numbering.order.items prices ≡ start =
    ap (λ numbering. listed numbering.order.items prices) keeps.numbering
    ∙ listed_one cmp g.met.F.Row.Ord.total g.met.F.Row.CodedRow.tells_apart rows kept.numbering.order.items kept.numbering.rows.items is.numbering is.rows is.numbering.ordered prices put.levels.range start c.requires.start agrees c.requires.numbered
    in
    on_ok_weaker c.arrive.result (λ e. e ∙ one) c.arrive.ensures.prices
