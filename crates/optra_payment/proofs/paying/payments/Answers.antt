-- One more interval.
use Rattle.std.proofs.Common.{◌++◌, ◌∷◌, [], ℕ, List, take, map, subst, sym, ap, ◌∙◌}
use Rattle.std.specs.Prelude.{All}
use Rattle.std.proofs.lemmas.List.{take_more, map_push}
use Rattle.std.proofs.lemmas.List.Elements.{All-push}
use Rattle.optra_payment.specs.Payments.{IsFoundInterval, HoldsPayment}
use Rattle.optra_payment.specs.declared.Interval.{Interval}
use Rattle.optra_payment.proofs.PaymentLemmas.{found_before}
use Rattle.optra_payment.proofs.paying.payments.Goals as goal

pub bidders-preserved : goal.bidders-preserved
bidders-preserved g c =
    let net = c.args.inst.net.now in
    let so_far = c.bidders.invariant in
    let pushed = c.in_ok-push.ensures.items in
    let Finds = g.P.Planner.Finds c.args.planner.now c.args.rows.now net in
    let Keeps = g.F.RowFamily.KeepsRule c.args.rows.now net in
    let one = found_before net c.args.inst.bids.now c.args.choice.now Finds (g.P.Planner.Finds c.bidders.planner c.args.rows.now net) (λ list found. (so_far.alike c.args.rows.now net list found).1) c.in_ok-payment.field-0
    c.in_ok-payment.ensures.found in
    record {
      alike = λ rows net bids found. (
        λ h. (c.payment.ensures.alike rows net bids found).0 ((so_far.alike rows net bids found).0 h),
        λ h. (so_far.alike rows net bids found).1 ((c.payment.ensures.alike rows net bids found).1 h),
      );
      bidders =
          ap (map (λ (pay : Interval). pay.bidder)) pushed ∙ map_push (λ (pay : Interval). pay.bidder) c.bidders.pays.items c.in_ok-payment.field-0
          ∙ ap (λ (l : List (List ℕ)). l ++ c.in_ok-payment.field-0.bidder ∷ []) so_far.bidders
          ∙ ap (λ (b : List ℕ). take c.bidders.bidder-index c.deref-bidder-items.result.now ++ b ∷ []) (c.in_ok-payment.ensures.bidder ∙ c.bidder-item.is)
          ∙ sym (take_more c.deref-bidder-items.result.now c.bidders.bidder-index c.bidder-item.result c.bidders-test.true);
      found = subst (All (IsFoundInterval Finds net c.args.inst.bids.now c.args.choice.now)) (sym pushed) (All-push (IsFoundInterval Finds net c.args.inst.bids.now c.args.choice.now) c.bidders.pays.items c.in_ok-payment.field-0 so_far.found one);
      payments =
          subst (All (HoldsPayment net Keeps c.args.inst.bids.now c.args.choice.now)) (sym pushed)
          (All-push (HoldsPayment net Keeps c.args.inst.bids.now c.args.choice.now) c.bidders.pays.items c.in_ok-payment.field-0 so_far.payments c.in_ok-payment.ensures.payment);
    }
