-- The records of evidence, bid by bid.
use Rattle.std.proofs.Common.{◌≡◌, ℕ, zero, suc, ◌+◌, ◌<◌, List, [], ◌∷◌, ◌++◌, length, drop, get_or, Option, refl, sym, ap, ◌∙◌, arith, add-one, append_assoc}
use Rattle.std.specs.Prelude.{ℤ}
use Rattle.std.proofs.lemmas.List.Concat.{flat_map-append}
use Rattle.optra_network.specs.Net.{Net}
use Rattle.optra_bid.specs.declared.bids.Bid.{Bid}
use Rattle.optra_walk.specs.declared.Leg.{Leg}
use Rattle.optra_records.specs.Texts.{record_text, records_text}
use Rattle.optra_text.specs.EvidenceTexts.{bid_record, bid_records, told_of}
use Rattle.optra_text.specs.declared.evidence_texts.BidFigures.{BidFigures}

module _ (net : Net) (revenue : ℤ) where
  -- from a place on, the record of its bid comes first
  bids_at : (number : ℕ) (bids : List Bid) (walks : List (Option (List Leg))) (figures : List BidFigures) (i : ℕ) (bid : Bid) (walk : Option (List Leg)) (f : BidFigures) → i < length bids → i < length walks → i < length figures
      → bid_records net revenue number (drop i bids) (drop i walks) (drop i figures)
      ≡ bid_record net number (get_or bids i bid) (get_or walks i walk) (told_of revenue (get_or walks i walk) (get_or figures i f)) ∷ bid_records net revenue (number + 1) (drop (i + 1) bids) (drop (i + 1) walks) (drop (i + 1) figures)
  bids_at number [] walks figures i bid walk f h k l = absurd (omega arith)
  bids_at number (b ∷ bids) [] figures i bid walk f h k l = absurd (omega arith)
  bids_at number (b ∷ bids) (w ∷ walks) [] i bid walk f h k l = absurd (omega arith)
  bids_at number (b ∷ bids) (w ∷ walks) (g ∷ figures) zero bid walk f h k l = refl
  bids_at number (b ∷ bids) (w ∷ walks) (g ∷ figures) (suc i) bid walk f h k l =
      rw (bids_at number bids walks figures i bid walk f (omega arith) (omega arith) (omega arith), add-one i, add-one (suc i)) refl

  -- the text so far with the record of the next bid, and the text of what is left
  pub next_bids : (number : ℕ) (bids : List Bid) (walks : List (Option (List Leg))) (figures : List BidFigures) (i : ℕ) (bid : Bid) (walk : Option (List Leg)) (f : BidFigures) (old whole : List ℕ)
      → i < length bids → i < length walks → i < length figures
      → old ++ records_text (bid_records net revenue number (drop i bids) (drop i walks) (drop i figures)) ≡ whole
      → (old ++ record_text (bid_record net number (get_or bids i bid) (get_or walks i walk) (told_of revenue (get_or walks i walk) (get_or figures i f))))
      ++ records_text (bid_records net revenue (number + 1) (drop (i + 1) bids) (drop (i + 1) walks) (drop (i + 1) figures)) ≡ whole
  next_bids number bids walks figures i bid walk f old whole h k l e =
      append_assoc old (record_text (bid_record net number (get_or bids i bid) (get_or walks i walk) (told_of revenue (get_or walks i walk) (get_or figures i f)))) _
      ∙ ap (λ (t : List ℕ). old ++ t) (ap records_text (sym (bids_at number bids walks figures i bid walk f h k l)))
      ∙ e
