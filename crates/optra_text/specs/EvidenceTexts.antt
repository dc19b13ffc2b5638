-- The printed evidence: the verdict, and then what the certificate says of each bid.
use Rattle.std.specs.Prelude.{ℕ, ◌+◌, ℤ, pos, List, [], ◌∷◌, Option, None, Some, IfSome, codes}
use Rattle.std.specs.Prelude.{◌-ℤ◌}
use Rattle.std.specs.Option.{option_map}
use Rattle.std.specs.Fmt.{decimal, signed_decimal}
use Rattle.optra_network.specs.Net.{Net}
use Rattle.optra_bid.specs.Specs.{IsBetween}
use Rattle.optra_bid.specs.declared.bids.Bid.{Bid}
use Rattle.optra_walk.specs.declared.Leg.{Leg}
use Rattle.optra_walk.specs.Values.{value_of}
use Rattle.optra_records.specs.Reading.{Record}
use Rattle.optra_records.specs.Texts.{records_text}
use Rattle.optra_text.specs.VerdictTexts.{verdict_record}
use Rattle.optra_text.specs.declared.evidence_texts.BidFigures.{BidFigures}
use Rattle.optra_text.specs.declared.evidence_texts.Told.{Told}
use Rattle.optra_text.specs.declared.verdicts.VerdictView.TheVariants.{Yes}

-- at most 2^123, above or below zero
abbrev pub IsFigure : ℤ → Type 0
IsFigure n = IsBetween (pos 0 -ℤ pos 10633823966279326983230456482242756608) (pos 10633823966279326983230456482242756608) n

pub record AreFigures (figures : BidFigures) : Type 0 where
  pub served : IfSome figures.served IsFigure
  pub left : IfSome figures.left IsFigure

-- how much below the revenue it is
abbrev pub margin_of : ℤ → Option ℤ → Option ℤ
margin_of revenue figure = option_map (λ n. revenue -ℤ n) figure

-- of a bid that is served what a choice earns at most that leaves it out; of one that isn't what one earns at most that serves it
abbrev pub told_of : {A : Type 0} → ℤ → Option A → BidFigures → Told
told_of revenue (Some walk) figures = record { figure = figures.left; margin = margin_of revenue figures.left }
told_of revenue None figures = record { figure = figures.served; margin = margin_of revenue figures.served }

abbrev pub standing_word : {A : Type 0} → Option A → List ℕ
standing_word (Some walk) = codes "served"
standing_word None = codes "lost"

-- what the bid's walk is worth, or its base where it has none
abbrev pub standing_amount : Net → Bid → Option (List Leg) → ℤ
standing_amount net bid (Some legs) = value_of net bid.path bid.money legs
standing_amount net bid None = bid.money.base

-- a figure, or none
abbrev pub figure_text : Option ℤ → List ℕ
figure_text (Some n) = signed_decimal n
figure_text None = codes "none"

-- bid,<number>,<bid>,<bidder>,served,<value>,<figure>,<margin> or bid,<number>,<bid>,<bidder>,lost,<base>,<figure>,<margin>
abbrev pub bid_record : Net → ℕ → Bid → Option (List Leg) → Told → Record
bid_record net number bid walk told =
    codes "bid" ∷ decimal number ∷ bid.name ∷ bid.bidder ∷ standing_word walk ∷ signed_decimal (standing_amount net bid walk)
    ∷ figure_text told.figure ∷ figure_text told.margin ∷ []

-- the records of the bids in order; the first bid has this number
abbrev pub bid_records : Net → ℤ → ℕ → List Bid → List (Option (List Leg)) → List BidFigures → List Record
bid_records net revenue number [] walks figures = []
bid_records net revenue number (bid ∷ bids) [] figures = []
bid_records net revenue number (bid ∷ bids) (walk ∷ walks) [] = []
bid_records net revenue number (bid ∷ bids) (walk ∷ walks) (f ∷ figures) =
    bid_record net number bid walk (told_of revenue walk f) ∷ bid_records net revenue (number + 1) bids walks figures

-- the printed evidence of a valid certificate; bids are numbered from 1
unfoldable pub evidence_text_of : Net → List Bid → List (Option (List Leg)) → ℤ → ℤ → List BidFigures → List ℕ
evidence_text_of net bids walks revenue bound figures =
    records_text (verdict_record (Yes revenue bound) ∷ bid_records net revenue 1 bids walks figures)
