use Rattle.std.proofs.Common.{◌≡◌, ◌+◌, sym, ◌∙◌, subst, arith, rules, to_z, of_z}
use Rattle.std.specs.Prelude.{pos, ◌≤ℤ◌, FitsSigned}
use Rattle.std.specs.Int.{w64}
use Rattle.std.specs.Ordering.{eq_by_cmp}
use Rattle.std.proofs.lemmas.Int.{ints, to_z-of_z}
use Rattle.std.proofs.lemmas.Result.{IfOk-weaker}
use Rattle.optra_walk.specs.Families.{load_of, entries_of}
use Rattle.optra_node.specs.Duals.{PriceList, price_of}
use Rattle.optra_prices.specs.Steps.{AreProper, IsStep, step_length}
use Rattle.optra_prices.specs.Holdings.{Holds, stepped, next_held}
use Rattle.optra_prices.proofs.StepLemmas.{entry_held, made_step}
use Rattle.optra_prices.proofs.stepping.step.Goals as goal

pub priced_rows-requires : goal.priced_rows-requires
priced_rows-requires g c = subst (AreProper g.F.Row.Ord.cmp (g.F.RowFamily.rows_of c.args.rows.now c.args.inst.net.now)) (sym c.entries-entries.ensures.value) c.requires.prices

pub made_prices-requires-clause-rows : goal.made_prices-requires-clause-rows
made_prices-requires-clause-rows g c =
    let rows = g.F.RowFamily.rows_of c.args.rows.now c.args.inst.net.now in
    let cmp = g.F.Row.Ord.cmp in
    let price = price_of (eq_by_cmp cmp) c.entries-entries.result.now in
    let holds = c.in_ok-add_replies.ensures price (λ row. 0) c.in_ok-held.ensures in
    let held = entry_held cmp g.met.F.Row.Ord.total rows.is_row price (λ row. 0 + load_of rows row (entries_of c.args.inst.bids.now c.args.replies.now)) c.add_replies.new.held c.len-count.ensures.ordered holds in
    λ k d l. (held k d l).0

pub returns : goal.returns
returns g c =
    let rows = g.F.RowFamily.rows_of c.args.rows.now c.args.inst.net.now in
    let bids = c.args.inst.bids.now in
    let replies = c.args.replies.now in
    let cmp = g.F.Row.Ord.cmp in
    let old = c.args.prices.now in
    let m = c.add_replies.new.held in
    let price = price_of (eq_by_cmp cmp) c.entries-entries.result.now in
    let first = c.in_ok-add_replies.ensures price (λ row. 0) c.in_ok-held.ensures in
    let holds : Holds cmp rows.is_row (price_of (eq_by_cmp cmp) old) (λ row. 0 + load_of rows row (entries_of bids replies)) m =
    subst (λ (xs : PriceList g.row.F-Row.Denot). Holds cmp rows.is_row (price_of (eq_by_cmp cmp) xs) (λ row. 0 + load_of rows row (entries_of bids replies)) m) c.entries-entries.ensures.value first
    in
    let fits : FitsSigned w64 c.step_length-length.result = search rules in
    let length = to_z w64 (of_z w64 c.step_length-length.result) in
    let whole = to_z-of_z w64 c.step_length-length.result fits in
    let is : length ≡ step_length bids c.args.k = whole ∙ c.step_length-length.ensures.value in
    let low : pos 1 ≤ℤ length = let a = c.step_length-length.ensures.range.0 in omega (arith, ints) in
    let made = made_step cmp g.met.F.Row.Ord.total g.met.F.Row.CodedRow.tells_apart rows bids replies c.args.k old c.requires.prices.each (λ row is_row. g.met.F.RowFamily.capacity_fits c.args.rows.now c.args.inst.net.now row c.args.inst.proper is_row) length m is low c.len-count.ensures.ordered holds in
    IfOk-weaker c.made_prices.result (λ new. new ≡ stepped (next_held rows length) m.entries) (IsStep cmp rows bids replies c.args.k old) (λ new e. subst (IsStep cmp rows bids replies c.args.k old) (sym e) made) c.made_prices.ensures
