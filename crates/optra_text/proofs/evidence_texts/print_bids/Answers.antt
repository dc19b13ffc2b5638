-- There is a walk or none and there are figures for each bid, and the record of each bid follows those of the bids before it.
use Rattle.std.proofs.Common.{◌≡◌, ◌∙◌, ℕ, ◌<◌, ◌+◌, ◌++◌, List, None, length, get_or, drop, ap, arith, rules}
use Rattle.std.specs.Prelude.{FitsSigned}
use Rattle.std.specs.Int.{w64}
use Rattle.std.proofs.lemmas.Int.{to_z-of_z}
use Rattle.optra_walk.proofs.EarnLemmas.{choice_long, choice_at}
use Rattle.optra_records.specs.Texts.{record_text, records_text}
use Rattle.optra_text.specs.EvidenceTexts.{bid_record, bid_records, told_of}
use Rattle.optra_text.specs.declared.evidence_texts.BidFigures.{BidFigures}
use Rattle.optra_text.specs.declared.evidence_texts.Told.{Told}
use Rattle.optra_text.proofs.EvidenceLemmas.{next_bids}
use Rattle.optra_text.proofs.evidence_texts.print_bids.Goals as goal

pub bounds-walks-i : goal.bounds-walks-i
bounds-walks-i c =
    let same = choice_long c.args.view.inst.net.now c.args.view.inst.bids.now c.args.view.walks.now c.requires.walks in
    omega arith

pub print_bid-requires : goal.print_bid-requires
print_bid-requires c =
    choice_at c.args.view.inst.net.now c.args.view.inst.bids.now c.args.view.walks.now c.bids.i c.index-bids-i.result c.index-walks-i.result c.requires.walks c.bids-test.true c.index-bids-i.is c.index-walks-i.is

pub bids-preserved : goal.bids-preserved
bids-preserved c =
    let view = c.args.view in
    let net = view.inst.net.now in
    let bids = view.inst.bids.now in
    let walks = view.walks.now in
    let figures = view.figures.now in
    let i = c.bids.i in
    let bid = c.index-bids-i.result in
    let walk = c.index-walks-i.result in
    let f : BidFigures = record { served = None; left = None } in
    let fits : FitsSigned w64 view.revenue = search rules in
    let same = choice_long net bids walks c.requires.walks in
    let l = c.bids-test.true in
    let within : i < length walks = omega arith in
    let count = c.requires.count in
    let told : i < length figures = omega (arith, l, count) in
    let told_is : c.told_of-told.result ≡ told_of view.revenue walk (get_or figures i f) =
    c.told_of-told.ensures ∙ ap (λ revenue. told_of revenue walk (get_or figures i f)) (to_z-of_z w64 view.revenue fits) in
    let rest : List ℕ = records_text (bid_records net view.revenue (i + 1 + 1) (drop (i + 1) bids) (drop (i + 1) walks) (drop (i + 1) figures)) in
    let next = next_bids net view.revenue (i + 1) bids walks figures i bid walk f c.bids.printer _ l within told c.bids.invariant in
    ap (λ (t : List ℕ). t ++ rest) c.in_ok-print_bid.ensures
    ∙ ap (λ (x : Told). (c.bids.printer ++ record_text (bid_record net (i + 1) bid walk x)) ++ rest) told_is
    ∙ (rw (← c.index-bids-i.is, ← c.index-walks-i.is) at next)
