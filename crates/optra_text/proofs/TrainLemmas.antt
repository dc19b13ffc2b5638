-- The records of the trains, bid by bid.
use Rattle.std.proofs.Common.{◌≡◌, ℕ, zero, suc, ◌+◌, ◌<◌, List, [], ◌∷◌, ◌++◌, length, drop, get_or, Option, refl, sym, ap, ◌∙◌, arith, add-one, append_assoc}
use Rattle.std.proofs.lemmas.List.Concat.{flat_map-append}
use Rattle.optra_network.specs.Net.{Net}
use Rattle.optra_bid.specs.declared.bids.Bid.{Bid}
use Rattle.optra_walk.specs.declared.Leg.{Leg}
use Rattle.optra_records.specs.Texts.{record_text, records_text}
use Rattle.optra_text.specs.PlanTexts.{entry_records, train_records}

-- from a place on, the records of its bid come first
pub trains_at : (net : Net) (number : ℕ) (bids : List Bid) (walks : List (Option (List Leg))) (i : ℕ) (bid : Bid) (walk : Option (List Leg)) → i < length bids → i < length walks
    → train_records net number (drop i bids) (drop i walks) ≡ entry_records net number (get_or bids i bid) (get_or walks i walk) ++ train_records net (number + 1) (drop (i + 1) bids) (drop (i + 1) walks)
trains_at net number [] walks i bid walk h k = absurd (omega arith)
trains_at net number (b ∷ bids) [] i bid walk h k = absurd (omega arith)
trains_at net number (b ∷ bids) (w ∷ walks) zero bid walk h k = refl
trains_at net number (b ∷ bids) (w ∷ walks) (suc i) bid walk h k = rw (trains_at net number bids walks i bid walk (omega arith) (omega arith), add-one i, add-one (suc i)) refl

-- the text so far with the records of the next bid, and the text of what is left
pub next_trains : (net : Net) (number : ℕ) (bids : List Bid) (walks : List (Option (List Leg))) (i : ℕ) (bid : Bid) (walk : Option (List Leg)) (old whole : List ℕ) → i < length bids → i < length walks
    → old ++ records_text (train_records net number (drop i bids) (drop i walks)) ≡ whole
    → (old ++ records_text (entry_records net number (get_or bids i bid) (get_or walks i walk))) ++ records_text (train_records net (number + 1) (drop (i + 1) bids) (drop (i + 1) walks)) ≡ whole
next_trains net number bids walks i bid walk old whole h k e =
    append_assoc old (records_text (entry_records net number (get_or bids i bid) (get_or walks i walk))) _
    ∙ ap (λ (t : List ℕ). old ++ t)
    (sym (flat_map-append record_text (entry_records net number (get_or bids i bid) (get_or walks i walk)) (train_records net (number + 1) (drop (i + 1) bids) (drop (i + 1) walks)))
    ∙ ap records_text (sym (trains_at net number bids walks i bid walk h k)))
    ∙ e
