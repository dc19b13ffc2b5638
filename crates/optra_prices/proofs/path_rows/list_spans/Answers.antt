use Rattle.std.proofs.Common.{◌≡◌, ◌+◌, ℕ, List, take, sym, ap, ◌∙◌, subst, arith}
use Rattle.std.proofs.lemmas.List.{take_all}
use Rattle.std.proofs.lemmas.List.Elements.{All-push}
use Rattle.std.specs.Prelude.{All}
use Rattle.optra_prices.specs.Uses.{IsSpan, list_uses, spans_use}
use Rattle.optra_prices.proofs.UseLemmas.{span_more}
use Rattle.optra_prices.proofs.path_rows.list_spans.Goals as goal

pub loop-g-preserved : goal.loop-g-preserved
loop-g-preserved c =
    let groups = c.args.groups.now in
    let list = c.args.list.now in
    let i = c.loop-g.g-index in
    let spans = c.loop-g.spans.items in
    let span = c.span_at.result in
    let inv = c.loop-g.invariant in
    let pushed = sym c.in_ok-push.ensures.items in
    record {
      spans = subst (All (IsSpan groups.touches)) pushed (All-push (IsSpan groups.touches) spans span inv.spans c.span_at.ensures.span);
      uses = λ n. subst (λ (xs : List (ℕ × ℕ)). spans_use groups.touches xs n ≡ list_uses groups (take (i + 1) list) n) pushed (span_more groups list spans span i 0 n c.loop-g-test.true c.span_at.ensures.touches (inv.uses n));
    }

pub returns-clause-uses : goal.returns-clause-uses
returns-clause-uses c = λ n.
    c.loop-g.invariant.uses n ∙ ap (λ (gs : List ℕ). list_uses c.args.groups.now gs n) (take_all c.loop-g.g-index c.args.list.now (omega (arith, c.loop-g-test.false)))
