use Rattle.std.proofs.Common.{◌≡◌, ◌<◌, ◌≤◌, ◌∙◌, List, length, refl, sym, ap, subst, take, arith, rules, inl, inr}
use Rattle.std.specs.Prelude.{All}
use Rattle.std.proofs.lemmas.List.{length-take-le, take_all}
use Rattle.optra_checker.specs.declared.best_walk.BestWalk.{BestWalk}
use Rattle.optra_open.proofs.EachLemmas.{all_past}
use Rattle.optra_checker.proofs.best_on_way.BestOnWay.turn_back.Goals as goal

pub returns-then-count-len : goal.returns-then-count-len
returns-then-count-len c =
    let n = c.count_within-count.result in
    let kept = c.args.self.now.kept.items in
    let left = c.truncate.new.self.items in
    let first : left ≡ take n kept = c.truncate.ensures.items in
    let few : n < length kept = grind (arith, rules, c.if-count-len.true, c.len.ensures) in
    let count : length left ≡ n = ap length first ∙ length-take-le n kept (omega (arith, few)) in
    record {
      first = subst (λ m. left ≡ take m kept) (sym count) first;
      within = subst (All (λ (best : BestWalk). best.depth ≤ c.args.depth)) (sym first)
          (subst (λ (list : List BestWalk). All (λ best. best.depth ≤ c.args.depth) (take n list)) c.deref.ensures.value c.count_within-count.ensures.within);
      allowed_depth = inl refl;
    }

pub returns : goal.returns
returns c =
    let n = c.count_within-count.result in
    let kept = c.args.self.now.kept.items in
    let past : length kept ≤ n = grind (arith, rules, c.if-count-len.false, c.len.ensures) in
    record {
      first = sym (take_all (length kept) kept (omega arith));
      within = all_past (λ (best : BestWalk). best.depth ≤ c.args.depth) kept n past
          (subst (λ (list : List BestWalk). All (λ best. best.depth ≤ c.args.depth) (take n list)) c.deref.ensures.value c.count_within-count.ensures.within);
      allowed_depth = inr (refl, c.min-self.ensures);
    }
