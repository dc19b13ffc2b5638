use Rattle.std.proofs.Common.{◌≡◌, true, false, sym, ◌∙◌, subst, rules, to_z, of_z}
use Rattle.std.specs.Prelude.{ℤ, ◌≤ℤ◌, FitsSigned}
use Rattle.std.specs.Int.{w64, w128}
use Rattle.std.proofs.lemmas.Int.{to_z-of_z}
use Rattle.optra_node.specs.Duals.{whole_cents}
use Rattle.optra_prices.specs.Terms.{Setting, setting}
use Rattle.optra_prices.specs.Following.{IsFollowed}
use Rattle.optra_prices.specs.declared.following.Best.{Best}
use Rattle.optra_prices.proofs.PathLemmas.{following_start, zero_followed}
use Rattle.optra_prices.proofs.following.follow.Goals as goal

clash : true ≡ false → ⊥
clash e = cc

pub returns-then-is_low : goal.returns-then-is_low
returns-then-is_low g c =
    let net = c.args.inst.net.now in
    let f = c.args.rows.now in
    let s : Setting g.row.F-Row.Denot = setting net (g.F.RowFamily.rows_of f net) (g.F.RowFamily.rows_used f net) c.args.inst.bids.now c.args.node.now in
    let fits : FitsSigned w64 c.args.incumbent = search rules in
    let whole : FitsSigned w128 c.zero_value.result = search rules in
    let again : FitsSigned w128 (to_z w128 (of_z w128 c.zero_value.result)) = search rules in
    let incumbent = to_z w64 (of_z w64 c.args.incumbent) in
    let best : Best = record { prices = c.new.result; value = to_z w128 (of_z w128 c.zero_value.result) } in
    subst (λ (n : ℤ). IsFollowed g.F.Row.Ord.cmp s c.args.ends.now.start.now c.args.ends.now.steps n c.args.kept.now best) (to_z-of_z w64 c.args.incumbent fits)
    (zero_followed g.F.Row.Ord.cmp s c.args.ends.now.start.now c.args.ends.now.steps incumbent c.args.kept.now best c.zero_value.ensures.valuation c.new.ensures.items (to_z-of_z w128 c.zero_value.result whole ∙ c.zero_value.ensures.value) c.requires.course
    (subst (λ v. whole_cents v ≤ℤ incumbent) (to_z-of_z w128 (to_z w128 (of_z w128 c.zero_value.result)) again) (c.is_low.ensures.0 c.if-is_low.true)))

pub go_steps-requires : goal.go_steps-requires
go_steps-requires g c =
    let net = c.args.inst.net.now in
    let f = c.args.rows.now in
    let s : Setting g.row.F-Row.Denot = setting net (g.F.RowFamily.rows_of f net) (g.F.RowFamily.rows_used f net) c.args.inst.bids.now c.args.node.now in
    let whole : FitsSigned w128 c.zero_value.result = search rules in
    let again : FitsSigned w128 (to_z w128 (of_z w128 c.zero_value.result)) = search rules in
    let incumbent = to_z w64 (of_z w64 c.args.incumbent) in
    let best : Best = record { prices = c.new.result; value = to_z w128 (of_z w128 c.zero_value.result) } in
    let gone = c.in_ok-go_to.ensures in
    record {
      following =
          following_start g.F.Row.Ord.cmp s c.args.ends.now.start.now c.args.ends.now.steps incumbent c.args.kept.now c.go_to.new.kept best c.keep_less.new.best c.zero_value.ensures.valuation c.new.ensures.items (to_z-of_z w128 c.zero_value.result whole ∙ c.zero_value.ensures.value)
          gone.keeps gone.priced c.in_ok-keep_less.ensures gone.prices (λ (low : whole_cents best.value ≤ℤ incumbent). clash (sym (c.is_low.ensures.1 (subst (λ v. whole_cents v ≤ℤ incumbent) (sym (to_z-of_z w128 (to_z w128 (of_z w128 c.zero_value.result)) again)) low)) ∙ c.if-is_low.false));
    }
