-- The printed compressed times: the minutes that the trains take together before and after, each train at its new times, and what
-- each start rests on.
use Rattle.std.specs.Prelude.{ℕ, ◌+◌, ◌-◌, nat_lt, List, [], ◌∷◌, ◌++◌, map, Option, None, Some, unwrap_or, if◌then◌else◌, codes}
use Rattle.std.specs.Fmt.{decimal}
use Rattle.optra_network.specs.Net.{Net}
use Rattle.optra_bid.specs.declared.bids.Bid.{Bid}
use Rattle.optra_walk.specs.declared.Leg.{Leg}
use Rattle.optra_walk.specs.Values.{first_departure, last_arrival}
use Rattle.optra_records.specs.Reading.{Record}
use Rattle.optra_records.specs.Texts.{records_text}
use Rattle.optra_compress.specs.Done.{Done}
use Rattle.optra_compress.specs.declared.Cause.{Cause}
use Rattle.optra_compress.specs.declared.Cause.TheVariants.{Zero, After}
use Rattle.optra_compress.specs.declared.Link.{Link}
use Rattle.optra_text.specs.PlanTexts.{leg_record}
use Rattle.optra_text.specs.RoundTexts.{count_record}

-- ---- the trains at their new times

-- a leg of a train that departed first at one minute and now does at another; its distance to the first departure stays
abbrev pub moved_leg : ℕ → ℕ → Leg → Leg
moved_leg first start leg = record leg { depart = start + (leg.depart - first) }

-- the legs of a train that starts at a minute
abbrev pub moved_legs : ℕ → List Leg → List Leg
moved_legs start legs = map (moved_leg (first_departure legs) start) legs

-- the walk of a bid, which is there where it was there
abbrev pub moved_walk : Option ℕ → Option (List Leg) → Option (List Leg)
moved_walk start None = None
moved_walk start (Some legs) = Some (moved_legs (unwrap_or start 0) legs)

-- the walks of all bids
abbrev pub moved_walks : List (Option ℕ) → List (Option (List Leg)) → List (Option (List Leg))
moved_walks [] walks = []
moved_walks (start ∷ starts) [] = []
moved_walks (start ∷ starts) (walk ∷ walks) = moved_walk start walk ∷ moved_walks starts walks

-- ---- the minutes that they take together

abbrev pub earlier : ℕ → ℕ → ℕ
earlier a b = if nat_lt b a then b else a

abbrev pub later : ℕ → ℕ → ℕ
later a b = if nat_lt a b then b else a

-- the earliest of a minute and the first departures of the walks
abbrev pub earliest : ℕ → List (Option (List Leg)) → ℕ
earliest minute [] = minute
earliest minute (None ∷ walks) = earliest minute walks
earliest minute (Some legs ∷ walks) = earliest (earlier minute (first_departure legs)) walks

-- the latest of a minute and the last arrivals of the walks
abbrev pub latest : Net → ℕ → List Bid → List (Option (List Leg)) → ℕ
latest net minute [] walks = minute
latest net minute (bid ∷ bids) [] = minute
latest net minute (bid ∷ bids) (None ∷ walks) = latest net minute bids walks
latest net minute (bid ∷ bids) (Some legs ∷ walks) = latest net (later minute (last_arrival net bid.path.kind legs)) bids walks

-- the minutes from the earliest first departure to the latest last arrival; 0 without trains, since no train departs at 2,880 or later
abbrev pub minutes_taken : Net → List Bid → List (Option (List Leg)) → ℕ
minutes_taken net bids walks = latest net 0 bids walks - earliest 2880 walks

-- ---- the records

-- train,<bid number>,<bid>,<bidder>,<first departure>
abbrev pub moved_record : ℕ → Bid → List Leg → Record
moved_record number bid legs = codes "train" ∷ decimal number ∷ bid.name ∷ bid.bidder ∷ decimal (first_departure legs) ∷ []

-- a train and its legs; nothing of a bid that has none
abbrev pub moved_entry : Net → ℕ → Bid → Option (List Leg) → List Record
moved_entry net number bid None = []
moved_entry net number bid (Some legs) = moved_record number bid legs ∷ map (leg_record net bid.path.kind) legs

-- the trains in order; the first bid has this number
abbrev pub moved_records : Net → ℕ → List Bid → List (Option (List Leg)) → List Record
moved_records net number [] walks = []
moved_records net number (bid ∷ bids) [] = []
moved_records net number (bid ∷ bids) (walk ∷ walks) = moved_entry net number bid walk ++ moved_records net (number + 1) bids walks

-- what a start rests on: minute 0, or the own leg, the other bid, its leg and the minutes between
abbrev pub cause_fields : Cause → Record
cause_fields Zero = codes "start" ∷ []
cause_fields (After bid leg own_leg gap) = decimal (own_leg + 1) ∷ decimal (bid + 1) ∷ decimal (leg + 1) ∷ decimal gap ∷ []

-- chain,<bid number>,start or chain,<bid number>,<own leg number>,<other bid number>,<other leg number>,<gap>; numbers count from 1
abbrev pub chain_record : Link → Record
chain_record link = codes "chain" ∷ decimal (link.bid + 1) ∷ cause_fields link.cause

-- before,<minutes>, after,<minutes>, the trains at their new times and the chains, by the walks as given and as moved
abbrev pub compressed_records : Net → List Bid → List (Option (List Leg)) → List (Option (List Leg)) → List Link → List Record
compressed_records net bids walks moved links =
    count_record (codes "before") (minutes_taken net bids walks) ∷ count_record (codes "after") (minutes_taken net bids moved)
    ∷ (moved_records net 1 bids moved ++ map chain_record links)

-- the text of compressed times
unfoldable pub compress_text_of : Net → List Bid → List (Option (List Leg)) → Done → List ℕ
compress_text_of net bids walks done = records_text (compressed_records net bids walks (moved_walks done.starts walks) done.chains)
