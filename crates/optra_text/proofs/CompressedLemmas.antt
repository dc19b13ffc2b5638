-- The trains at their new times: walk by walk, how early they may start, on which tracks they run; and their records, bid by bid.
use Rattle.std.proofs.Common.{◌≡◌, ℕ, zero, suc, ◌+◌, ◌≤◌, ◌<◌, List, [], ◌∷◌, ◌++◌, length, map, drop, take, get_or, All, Option, None, Some, IfSome, refl, sym, ap, ◌∙◌, arith, add-one, append_assoc}
use Rattle.std.specs.Prelude.{unwrap_or, slice_index_or}
use Rattle.std.proofs.lemmas.List.Concat.{flat_map-append}
use Rattle.std.proofs.lemmas.List.Elements.{All-nil, All-cons}
use Rattle.optra_network.specs.Net.{Net, IsProper, IsTrack}
use Rattle.optra_bid.specs.declared.bids.Bid.{Bid}
use Rattle.optra_walk.specs.declared.Leg.{Leg}
use Rattle.optra_walk.specs.Choices.{IsChoice}
use Rattle.optra_walk.specs.Values.{first_departure, last_arrival}
use Rattle.optra_records.specs.Texts.{record_text, records_text}
use Rattle.optra_compress.specs.Starts.{AreStarts, start_at}
use Rattle.optra_compress.specs.Trains.{start_in, train_at, trains_of}
use Rattle.optra_text.specs.CompressedTexts.{earlier, earliest, later, latest, moved_entry, moved_leg, moved_legs, moved_records, moved_walk, moved_walks}
use Rattle.optra_text.proofs.TrackLemmas.{walk_tracks}

-- ---- the trains at their new times

pub length-moved_walks : (starts : List (Option ℕ)) (walks : List (Option (List Leg))) → length starts ≡ length walks → length (moved_walks starts walks) ≡ length walks
length-moved_walks [] [] e = refl
length-moved_walks [] (w ∷ walks) e = e
length-moved_walks (s ∷ starts) [] e = refl
length-moved_walks (s ∷ starts) (w ∷ walks) e = ap suc (length-moved_walks starts walks (omega arith))

-- one walk more
pub take-moved_walks : (starts : List (Option ℕ)) (walks : List (Option (List Leg))) (i : ℕ) (s : Option ℕ) (w : Option (List Leg)) → i < length starts → i < length walks
    → take (i + 1) (moved_walks starts walks) ≡ take i (moved_walks starts walks) ++ moved_walk (slice_index_or starts i s) (get_or walks i w) ∷ []
take-moved_walks [] walks i s w h k = absurd (omega arith)
take-moved_walks (x ∷ starts) [] i s w h k = absurd (omega arith)
take-moved_walks (x ∷ starts) (y ∷ walks) zero s w h k = refl
take-moved_walks (x ∷ starts) (y ∷ walks) (suc i) s w h k =
    rw (add-one (suc i)) (ap (λ (t : List (Option (List Leg))). moved_walk x y ∷ t) (rw (add-one i) at (take-moved_walks starts walks i s w (omega arith) (omega arith))))

-- there is a train for each bid
pub length-trains : (bids : List Bid) (walks : List (Option (List Leg))) → length bids ≡ length walks → length (trains_of bids walks) ≡ length walks
length-trains [] [] e = refl
length-trains [] (w ∷ walks) e = e
length-trains (b ∷ bids) [] e = refl
length-trains (b ∷ bids) (w ∷ walks) e = ap suc (length-trains bids walks (omega arith))

-- a train doesn't start later than it did
starts-no_later : (bids : List Bid) (walks : List (Option (List Leg))) (i : ℕ) (w : Option (List Leg)) → i < length walks → length bids ≡ length walks
    → IfSome (get_or walks i w) (λ legs. first_departure legs ≡ start_in (train_at (trains_of bids walks) i))
starts-no_later bids [] i w h e = absurd (omega arith)
starts-no_later [] (x ∷ walks) i w h e = absurd (omega arith)
starts-no_later (b ∷ bids) (None ∷ walks) zero w h e = tt
starts-no_later (b ∷ bids) (Some [] ∷ walks) zero w h e = refl
starts-no_later (b ∷ bids) (Some (leg ∷ legs) ∷ walks) zero w h e = refl
starts-no_later (b ∷ bids) (x ∷ walks) (suc i) w h e = starts-no_later bids walks i w (omega arith) (omega arith)

pub start_within : (bids : List Bid) (walks : List (Option (List Leg))) (starts : List (Option ℕ)) (i : ℕ) (w : Option (List Leg)) → i < length walks → length bids ≡ length walks
    → AreStarts (trains_of bids walks) starts → IfSome (get_or walks i w) (λ legs. start_at starts i ≤ first_departure legs)
start_within bids walks starts i w h e are = by (get_or walks i w) (starts-no_later bids walks i w h e)
  where
    by : (o : Option (List Leg)) → IfSome o (λ legs. first_departure legs ≡ start_in (train_at (trains_of bids walks) i)) → IfSome o (λ legs. start_at starts i ≤ first_departure legs)
    by None is = tt
    by (Some legs) is = rw is (are.no_later i)

-- the legs stay on their tracks
moved-tracks : (net : Net) (first start : ℕ) (legs : List Leg) → All (λ leg. IsTrack net leg.track) legs → All (λ leg. IsTrack net leg.track) (map (moved_leg first start) legs)
moved-tracks net first start [] on = All-nil (λ leg. IsTrack net leg.track)
moved-tracks net first start (leg ∷ legs) on = All-cons (λ leg. IsTrack net leg.track) (moved_leg first start leg) (map (moved_leg first start) legs) (on 0 leg (omega arith)) (moved-tracks net first start legs (λ k d l. on (suc k) d (omega arith)))

abbrev IsOnTracks : Net → Option (List Leg) → Type 0
IsOnTracks net walk = IfSome walk (All (λ leg. IsTrack net leg.track))

pub moved_on_tracks : (net : Net) (bids : List Bid) (walks : List (Option (List Leg))) (starts : List (Option ℕ)) → IsProper net → IsChoice net bids walks
    → All (λ walk. IfSome walk (All (λ leg. IsTrack net leg.track))) (moved_walks starts walks)
moved_on_tracks net bids walks [] proper choice = All-nil (IsOnTracks net)
moved_on_tracks net bids [] (s ∷ starts) proper choice = All-nil (IsOnTracks net)
moved_on_tracks net [] (w ∷ walks) (s ∷ starts) proper choice = absurd choice
moved_on_tracks net (b ∷ bids) (None ∷ walks) (s ∷ starts) proper choice = All-cons (IsOnTracks net) None (moved_walks starts walks) tt (moved_on_tracks net bids walks starts proper choice.1)
moved_on_tracks net (b ∷ bids) (Some legs ∷ walks) (s ∷ starts) proper choice =
    All-cons (IsOnTracks net) (Some (moved_legs (unwrap_or s 0) legs)) (moved_walks starts walks) (moved-tracks net (first_departure legs) (unwrap_or s 0) legs (walk_tracks net b.path legs proper choice.0)) (moved_on_tracks net bids walks starts proper choice.1)

-- ---- the minutes that they take together

pub earliest_none : (first : ℕ) (walks : List (Option (List Leg))) (i : ℕ) (w : Option (List Leg)) → i < length walks → get_or walks i w ≡ None → earliest first (drop i walks) ≡ earliest first (drop (i + 1) walks)
earliest_none first [] i w h e = absurd (omega arith)
earliest_none first (x ∷ walks) zero w h e = ap (λ (o : Option (List Leg)). earliest first (o ∷ walks)) e
earliest_none first (x ∷ walks) (suc i) w h e = rw (add-one (suc i)) (rw (add-one i) at (earliest_none first walks i w (omega arith) e))

pub earliest_some : (first : ℕ) (walks : List (Option (List Leg))) (i : ℕ) (w : Option (List Leg)) (legs : List Leg) → i < length walks → get_or walks i w ≡ Some legs
    → earliest first (drop i walks) ≡ earliest (earlier first (first_departure legs)) (drop (i + 1) walks)
earliest_some first [] i w legs h e = absurd (omega arith)
earliest_some first (x ∷ walks) zero w legs h e = ap (λ (o : Option (List Leg)). earliest first (o ∷ walks)) e
earliest_some first (x ∷ walks) (suc i) w legs h e = rw (add-one (suc i)) (rw (add-one i) at (earliest_some first walks i w legs (omega arith) e))

pub latest_none : (net : Net) (last : ℕ) (bids : List Bid) (walks : List (Option (List Leg))) (i : ℕ) (w : Option (List Leg)) → i < length bids → i < length walks → get_or walks i w ≡ None
    → latest net last (drop i bids) (drop i walks) ≡ latest net last (drop (i + 1) bids) (drop (i + 1) walks)
latest_none net last [] walks i w h k e = absurd (omega arith)
latest_none net last (b ∷ bids) [] i w h k e = absurd (omega arith)
latest_none net last (b ∷ bids) (x ∷ walks) zero w h k e = ap (λ (o : Option (List Leg)). latest net last (b ∷ bids) (o ∷ walks)) e
latest_none net last (b ∷ bids) (x ∷ walks) (suc i) w h k e = rw (add-one (suc i)) (rw (add-one i) at (latest_none net last bids walks i w (omega arith) (omega arith) e))

pub latest_some : (net : Net) (last : ℕ) (bids : List Bid) (walks : List (Option (List Leg))) (i : ℕ) (bid : Bid) (w : Option (List Leg)) (legs : List Leg) → i < length bids → i < length walks → get_or walks i w ≡ Some legs
    → latest net last (drop i bids) (drop i walks) ≡ latest net (later last (last_arrival net (get_or bids i bid).path.kind legs)) (drop (i + 1) bids) (drop (i + 1) walks)
latest_some net last [] walks i bid w legs h k e = absurd (omega arith)
latest_some net last (b ∷ bids) [] i bid w legs h k e = absurd (omega arith)
latest_some net last (b ∷ bids) (x ∷ walks) zero bid w legs h k e = ap (λ (o : Option (List Leg)). latest net last (b ∷ bids) (o ∷ walks)) e
latest_some net last (b ∷ bids) (x ∷ walks) (suc i) bid w legs h k e = rw (add-one (suc i)) (rw (add-one i) at (latest_some net last bids walks i bid w legs (omega arith) (omega arith) e))

-- ---- their records

-- from a place on, the records of its bid come first
moved_at : (net : Net) (number : ℕ) (bids : List Bid) (walks : List (Option (List Leg))) (i : ℕ) (bid : Bid) (walk : Option (List Leg)) → i < length bids → i < length walks
    → moved_records net number (drop i bids) (drop i walks) ≡ moved_entry net number (get_or bids i bid) (get_or walks i walk) ++ moved_records net (number + 1) (drop (i + 1) bids) (drop (i + 1) walks)
moved_at net number [] walks i bid walk h k = absurd (omega arith)
moved_at net number (b ∷ bids) [] i bid walk h k = absurd (omega arith)
moved_at net number (b ∷ bids) (w ∷ walks) zero bid walk h k = refl
moved_at net number (b ∷ bids) (w ∷ walks) (suc i) bid walk h k = rw (moved_at net number bids walks i bid walk (omega arith) (omega arith), add-one i, add-one (suc i)) refl

-- the text so far with the records of the next bid, and the text of what is left
pub next_moved : (net : Net) (number : ℕ) (bids : List Bid) (walks : List (Option (List Leg))) (i : ℕ) (bid : Bid) (walk : Option (List Leg)) (old whole : List ℕ) → i < length bids → i < length walks
    → old ++ records_text (moved_records net number (drop i bids) (drop i walks)) ≡ whole
    → (old ++ records_text (moved_entry net number (get_or bids i bid) (get_or walks i walk))) ++ records_text (moved_records net (number + 1) (drop (i + 1) bids) (drop (i + 1) walks)) ≡ whole
next_moved net number bids walks i bid walk old whole h k e =
    append_assoc old (records_text (moved_entry net number (get_or bids i bid) (get_or walks i walk))) _
    ∙ ap (λ (t : List ℕ). old ++ t)
    (sym (flat_map-append record_text (moved_entry net number (get_or bids i bid) (get_or walks i walk)) (moved_records net (number + 1) (drop (i + 1) bids) (drop (i + 1) walks)))
    ∙ ap records_text (sym (moved_at net number bids walks i bid walk h k)))
    ∙ e
