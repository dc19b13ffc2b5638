-- When a bid or a stop is refused, and what an accepted one is.
use Rattle.std.specs.Prelude.{◌≡◌, ℕ, nat_le, nat_eq, ◌&&◌, ◌||◌, not, ◌-◌, nat_lt, Bool, List, [], ◌∷◌, length, slice_index, Option, None, Some, Result, MatchResult, ⊤, pos}
use Rattle.optra_network.specs.Refusals.{first_of}
use Rattle.optra_bid.specs.Specs.{Path}
use Rattle.optra_bid.specs.declared.Window.{Window}
use Rattle.optra_bid.specs.declared.Stop.{Stop}
use Rattle.optra_bid.specs.declared.Money.{Money}
use Rattle.optra_bid.specs.declared.RawBid.{RawBid}
use Rattle.optra_bid.specs.declared.RawStop.{RawStop}
use Rattle.optra_bid.specs.declared.BidRefusal.{BidRefusal}
use Rattle.optra_bid.specs.declared.BidRefusal.TheVariants as why
use Rattle.optra_bid.specs.declared.BidFault.{BidFault}
use Rattle.optra_bid.specs.declared.BidFault.TheVariants.{Refused, NoMemory}

-- a fault is the refusal that the rule gives, or want of memory
abbrev pub IsBidFault : Option BidRefusal → BidFault → Type 0
IsBidFault rule (Refused refusal) = rule ≡ Some refusal
IsBidFault rule NoMemory = ⊤

-- the call answers Ok only where the rule refuses nothing, and a refusal only where the rule gives that one
abbrev pub FollowsBidRule : {T : Type 0} → Option BidRefusal → Result T BidFault → Type 0
FollowsBidRule rule result = MatchResult result (λ _. rule ≡ None) (IsBidFault rule)

-- three minutes from, ideal and to, none before the one before it
abbrev pub are_in_order : List ℕ → Bool
are_in_order minutes = nat_le (slice_index minutes 0) (slice_index minutes 1) && nat_le (slice_index minutes 1) (slice_index minutes 2)

-- a minute is 0 to 2,879
abbrev pub is_minute : ℕ → Bool
is_minute n = nat_le n 2879

-- three minutes
abbrev pub are_three_minutes : List ℕ → Bool
are_three_minutes minutes = is_minute (slice_index minutes 0) && is_minute (slice_index minutes 1) && is_minute (slice_index minutes 2)

-- a rate is 0 to 1,000,000
abbrev pub is_rate : ℕ → Bool
is_rate n = nat_le n 1000000

-- six rates
abbrev pub are_rates : List ℕ → Bool
are_rates rates =
    is_rate (slice_index rates 0) && is_rate (slice_index rates 1) && is_rate (slice_index rates 2)
    && is_rate (slice_index rates 3) && is_rate (slice_index rates 4) && is_rate (slice_index rates 5)

-- Ends, where both ends are one station; else Window, where a window is not in order; else Range, where a number is too great
abbrev pub bid_refusal : RawBid → Option BidRefusal
bid_refusal raw =
    first_of (
    (nat_eq raw.origin.0 raw.destination.0, why.Ends)
    ∷ (not (are_in_order raw.depart) || not (are_in_order raw.arrive), why.Window)
    ∷ (not (are_three_minutes raw.depart) || not (are_three_minutes raw.arrive) || nat_lt 1000000000 raw.base || not (are_rates raw.rates) || nat_lt 30 raw.wait_max, why.Range)
    ∷ [])

-- three minutes as a window
abbrev pub window_of : List ℕ → Window
window_of minutes = record { from = slice_index minutes 0; ideal = slice_index minutes 1; to = slice_index minutes 2 }

-- what an accepted bid asks for, at first with no stop
abbrev pub path_of : RawBid → Path
path_of raw = record {
  kind = raw.kind;
  origin = raw.origin;
  destination = raw.destination;
  depart = window_of raw.depart;
  arrive = window_of raw.arrive;
  wait_max = raw.wait_max;
  stops = [];
}

-- a base and six rates, in the order of their columns
abbrev pub money_from : ℕ → List ℕ → Money
money_from base rates = record {
  base = pos base;
  early_depart = pos (slice_index rates 0);
  late_depart = pos (slice_index rates 1);
  early_arrive = pos (slice_index rates 2);
  late_arrive = pos (slice_index rates 3);
  travel = pos (slice_index rates 4);
  wait = pos (slice_index rates 5);
}

-- what an accepted bid pays
abbrev pub money_of : RawBid → Money
money_of raw = money_from raw.base raw.rates

-- Window, where the span is not in order; else Range, where a minute or a dwell is too great;
-- else Stops, where eight stops are there, or the dwells are not in order, or more than 30 minutes apart
abbrev pub stop_refusal : Path → RawStop → Option BidRefusal
stop_refusal path raw =
    first_of (
    (nat_lt (slice_index raw.arrive 1) (slice_index raw.arrive 0), why.Window)
    ∷ (not (is_minute (slice_index raw.arrive 0)) || not (is_minute (slice_index raw.arrive 1)) || nat_lt 240 raw.min_dwell || nat_lt 240 raw.max_dwell, why.Range)
    ∷ (nat_le 8 (length path.stops) || nat_lt raw.max_dwell raw.min_dwell || nat_lt 30 (raw.max_dwell - raw.min_dwell), why.Stops)
    ∷ [])

-- an accepted stop
abbrev pub stop_of : RawStop → Stop
stop_of raw = record {
  station = raw.station;
  min_dwell = raw.min_dwell;
  max_dwell = raw.max_dwell;
  arrive = record { from = slice_index raw.arrive 0; to = slice_index raw.arrive 1 };
}
