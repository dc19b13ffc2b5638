-- Crossers of one track among those of all, and how many of their uses stand below a place of the track.
use Rattle.std.proofs.Common.{◌≡◌, inl, inr, ℕ, suc, ◌+◌, ◌-◌, ◌*◌, ◌/◌, ◌<◌, ◌≤◌, min, List, [], ◌∷◌, All, filter, Some, None, slice_get, length, get_or, take, drop, sum_by, refl, sym, ap, ◌∙◌, subst, arith}
use Rattle.std.proofs.lemmas.Bool.{cases_lt}
use Rattle.std.proofs.lemmas.List.{get_or-take, get_or-drop, get_or_default, length-map, length-take, length-drop, take_all}
use Rattle.std.proofs.lemmas.List.Elements.{All-filter, All-map, All-take}
use Rattle.std.proofs.lemmas.List.Folds.{drop_split}
use Rattle.std.proofs.lemmas.List.Sums.{sum_by-append, sum_by-cons, sum_by-take-drop, sum_by_more_le, sum_by_more_le_part}
use Rattle.std.proofs.lemmas.List.Sorted.{All-permutation, sum_by-IsPermutation}
use Rattle.std.proofs.lemmas.Option.{slice_get-map, slice_get_within, get_or_from_slice_get}
use Rattle.std.specs.List.Sorted.{IsPermutation}
use Rattle.std.specs.Option.{option_map}
use Rattle.std.specs.List.{range_with_len, slice_range}
use Rattle.optra_network.specs.Net.{Net, IsProper}
use Rattle.optra_network.specs.Crossers.{TracksRise, crosser_of, crossers_of, is_across}
use Rattle.optra_network.specs.declared.Crosser.{Crosser}
use Rattle.optra_network.specs.declared.TrackId.{TrackId}
use Rattle.optra_network.specs.declared.TypeId.{TypeId}
use Rattle.optra_network.specs.declared.TrackUse.{TrackUse}
use Rattle.optra_network.proofs.MemberLemmas.{In, in_get, in_filter_from, in_range_from}
use Rattle.optra_cross.specs.Crosses.{IsPossible}
use Rattle.optra_cross.specs.Places.{IsCrosser, IsGroup, IsInTrack, IsPlace, crossed_places, is_crossed, row_with, touched_rows, use_at, count_all, count_below, from_minute, until_minute, rank, total}
use Rattle.optra_cross.specs.PlaceLemmas.{sum_none, count_most, crossers_are, place_is, place_none, rank_is, total_few}

-- ---- one crosser

-- none of its uses stand below a minute of its track up to its first one
pub count_at_first : (time t m : ℕ) (c : Crosser) → IsCrosser c → c.track.0 ≡ t → m ≤ from_minute time c → count_below time (t * 46080 + m * 16) c ≡ 0
count_at_first time t m c is e l = ap (λ n. min ((t * 46080 + m * 16 + 15 - (n * 46080 + c.kind.0)) / 16) (until_minute time c) - from_minute time c) e ∙ none c.kind.0 (from_minute time c) (until_minute time c) is.kind l
  where
    none : (k f u : ℕ) → k < 16 → m ≤ f → min ((t * 46080 + m * 16 + 15 - (t * 46080 + k)) / 16) u - f ≡ 0
    none k f u lk lf = let q : (t * 46080 + m * 16 + 15 - (t * 46080 + k)) / 16 ≡ m = omega arith in omega arith

-- all of them stand below a minute of its track after its last one
pub count_at_last : (time t m : ℕ) (c : Crosser) → IsCrosser c → c.track.0 ≡ t → until_minute time c ≤ m → count_below time (t * 46080 + m * 16) c ≡ count_all time c
count_at_last time t m c is e l = ap (λ n. min ((t * 46080 + m * 16 + 15 - (n * 46080 + c.kind.0)) / 16) (until_minute time c) - from_minute time c) e ∙ all c.kind.0 (from_minute time c) (until_minute time c) is.kind l
  where
    all : (k f u : ℕ) → k < 16 → u ≤ m → min ((t * 46080 + m * 16 + 15 - (t * 46080 + k)) / 16) u - f ≡ u - f
    all k f u lk lu = let q : (t * 46080 + m * 16 + 15 - (t * 46080 + k)) / 16 ≡ m = omega arith in omega arith

-- all of them stand below a later track, and none below an earlier one
count_later : (time p : ℕ) (c : Crosser) → IsCrosser c → c.track.0 * 46080 + 46080 ≤ p → count_below time p c ≡ count_all time c
count_later time p c is l = all c.track.0 c.kind.0 (from_minute time c) (time + c.after) is.kind l
  where
    all : (t k f u : ℕ) → k < 16 → t * 46080 + 46080 ≤ p → min ((p + 15 - (t * 46080 + k)) / 16) (min u 2880) - f ≡ min u 2880 - f
    all t k f u lk lp = let q : 2880 ≤ (p + 15 - (t * 46080 + k)) / 16 = omega arith in omega arith

count_earlier : (time p : ℕ) (c : Crosser) → p ≤ c.track.0 * 46080 → count_below time p c ≡ 0
count_earlier time p c l = none c.track.0 c.kind.0 (from_minute time c) (until_minute time c) l
  where
    none : (t k f u : ℕ) → p ≤ t * 46080 → min ((p + 15 - (t * 46080 + k)) / 16) u - f ≡ 0
    none t k f u lp = let q : (p + 15 - (t * 46080 + k)) / 16 ≡ 0 = omega arith in omega arith

-- ---- lists

sum_all_same : {X : Type 0} (f g : X → ℕ) (xs : List X) → All (λ x. f x ≡ g x) xs → sum_by f xs ≡ sum_by g xs
sum_all_same f g [] h = refl
sum_all_same f g (x ∷ xs) h =
    let a = sum_by-cons f x xs in let b = sum_by-cons g x xs in
    let first : f x ≡ g x = h 0 x (omega arith) in
    let rest : sum_by f xs ≡ sum_by g xs = sum_all_same f g xs (λ j d l. h (suc j) d (omega arith)) in omega arith

-- ---- the crossers of one track

-- those before a position are of lesser tracks than those from it on
pub record IsCut (crossers : List Crosser) (start : ℕ) : Type 0 where
  pub at : start ≤ length crossers
  pub apart : (i j : ℕ) (d : Crosser) → i < start → start ≤ j → j < length crossers → (get_or crossers i d).track.0 < (get_or crossers j d).track.0

pub no_cut : (crossers : List Crosser) → IsCut crossers 0
no_cut crossers = record { at = omega arith; apart = λ i j d l m w. absurd (omega arith) }

pub cut_next : (crossers : List Crosser) (start end : ℕ) → TracksRise crossers → IsCut crossers start → IsGroup crossers start end → IsCut crossers end
cut_next crossers start end rise cut group = record {
  at = group.within;
  apart = λ i j d l m w.
      let some = group.some in
      let up : (get_or crossers start d).track.0 ≤ (get_or crossers end d).track.0 = rise start end d (omega arith) (omega arith) in
      let more : (get_or crossers end d).track.0 ≤ (get_or crossers j d).track.0 = rise end j d m w in
      let next = group.next d (omega arith) in
      let past : (get_or crossers start d).track.0 < (get_or crossers j d).track.0 = omega (arith, up, more, next) in
      elim (cases_lt i start) [
        | inl before ↦ let a = cut.apart i start d before (omega arith) (omega arith) in omega (arith, a, past)
        | inr here ↦ let s = group.same i d here l in omega (arith, s, past)
      ];
}

module _ (time : ℕ) (crossers : List Crosser) (all : All IsCrosser crossers) where
  parts : (f : Crosser → ℕ) (start end : ℕ) → start ≤ end → sum_by f crossers ≡ sum_by f (take start crossers) + sum_by f (slice_range crossers start end) + sum_by f (drop end crossers)
  parts f start end l =
      let whole = sum_by-take-drop f crossers start in
      let rest : sum_by f (drop start crossers) ≡ sum_by f (slice_range crossers start end) + sum_by f (drop end crossers) =
      ap (sum_by f) (drop_split crossers start end l) ∙ sum_by-append f (slice_range crossers start end) (drop end crossers) in omega (arith, whole, rest)

  pub total_next : (start end : ℕ) → start ≤ end → total time (take end crossers) ≡ total time (take start crossers) + total time (slice_range crossers start end)
  total_next start end l =
      let p = parts (count_all time) start end l in let whole = sum_by-take-drop (count_all time) crossers end in omega (arith, p, whole)

  pub total_end : (start : ℕ) → length crossers ≤ start → total time (take start crossers) ≡ total time crossers
  total_end start l = ap (total time) (take_all start crossers l)

  module _ (start end t : ℕ) (cut : IsCut crossers start) (next : IsCut crossers end) (group : IsGroup crossers start end) (of : (d : Crosser) → (get_or crossers start d).track.0 ≡ t) where
    before_all : (p : ℕ) → t * 46080 ≤ p → rank time p (take start crossers) ≡ total time (take start crossers)
    before_all p low = sum_all_same (count_below time p) (count_all time) (take start crossers) (λ j d l.
        let len = length-take start crossers in
        let is = get_or-take start crossers j d (omega (arith, l, len)) in
        let some = group.some in let within = group.within in
        let apart = cut.apart j start d (omega (arith, l, len)) (omega arith) (omega (arith, some, within)) in
        let same = of d in
        let track : (get_or (take start crossers) j d).track.0 ≡ (get_or crossers j d).track.0 = ap (λ (c : Crosser). c.track.0) is in
        count_later time p (get_or (take start crossers) j d) (All-take IsCrosser start crossers all j d l) (omega (arith, apart, same, track, low)))

    after_none : (p : ℕ) → p ≤ t * 46080 + 46080 → rank time p (drop end crossers) ≡ 0
    after_none p high = sum_none (count_below time p) (drop end crossers) (λ j d l.
        let len = length-drop end crossers in
        let is = get_or-drop end crossers j d in
        let some = group.some in let within = group.within in
        let apart = next.apart start (end + j) d some (omega arith) (omega (arith, l, len)) in
        let same = of d in
        let track : (get_or (drop end crossers) j d).track.0 ≡ (get_or crossers (end + j) d).track.0 = ap (λ (c : Crosser). c.track.0) is in
        count_earlier time p (get_or (drop end crossers) j d) (omega (arith, apart, same, track, high)))

    rank_in : (p : ℕ) → t * 46080 ≤ p → p ≤ t * 46080 + 46080 → rank time p crossers ≡ total time (take start crossers) + rank time p (slice_range crossers start end)
    rank_in p low high =
        let some = group.some in
        let p_parts = parts (count_below time p) start end (omega (arith, some)) in
        let b = before_all p low in let a = after_none p high in omega (arith, p_parts, b, a)

    -- the place among the crossers of the track is that among all
    pub place_in_group : (k left p : ℕ) → total time (take start crossers) + left ≡ k → IsInTrack t p → IsPlace time (slice_range crossers start end) left p → IsPlace time crossers k p
    place_in_group k left p sum inside place =
        let low = inside.low in let high = inside.high in
        let here = rank_in p low (omega (arith, high)) in
        let above = rank_in (p + 1) (omega (arith, low)) (omega (arith, high)) in
        let place_low = place.low in let place_high = place.high in
        record { low = omega (arith, here, sum, place_low); high = omega (arith, above, sum, place_high) }

  -- the crossers of the track are of it
  pub group_of : (start end : ℕ) (t : ℕ) (d : Crosser) → IsGroup crossers start end → (get_or crossers start d).track.0 ≡ t → All (λ c. c.track.0 ≡ t) (slice_range crossers start end)
  group_of start end t first group e j d l =
      let len = length-take (end - start) (drop start crossers) in
      let long = length-drop start crossers in
      let is = get_or-take (end - start) (drop start crossers) j d (omega (arith, l, len)) ∙ get_or-drop start crossers j d in
      let within = group.within in
      let same = group.same (start + j) d (omega arith) (omega (arith, l, len, long)) in
      let track : (get_or (slice_range crossers start end) j d).track.0 ≡ (get_or crossers (start + j) d).track.0 = ap (λ (c : Crosser). c.track.0) is in
      let some = group.some in let within = group.within in
      let here : (get_or crossers start d).track.0 ≡ (get_or crossers start first).track.0 = ap (λ (c : Crosser). c.track.0) (get_or_default crossers start d first (omega arith)) in
      track ∙ same ∙ here ∙ e

-- ---- halves

-- the place sought is between two places of the track
pub record IsBetween (time t k : ℕ) (group : List Crosser) (low high : ℕ) : Type 0 where
  pub first : t * 46080 ≤ low
  pub order : low ≤ high
  pub last : high < t * 46080 + 46080
  pub below : rank time low group ≤ k
  pub above : k < rank time (high + 1) group

pub between_first : (time t k : ℕ) (group : List Crosser) → time ≤ 2879 → All IsCrosser group → All (λ c. c.track.0 ≡ t) group → k < total time group
    → IsBetween time t k group (t * 46080 + (time + 1 - 120) * 16) (t * 46080 + min (time + 120) 2880 * 16 - 1)
between_first time t k group day all of more =
    let from_low : rank time (t * 46080 + (time + 1 - 120) * 16) group ≡ 0 =
    sum_none (count_below time (t * 46080 + (time + 1 - 120) * 16)) group (λ j d l.
    let is = all j d l in let b = is.before in count_at_first time t (time + 1 - 120) (get_or group j d) is (of j d l) (omega (arith, b))) in
    let back : t * 46080 + min (time + 120) 2880 * 16 - 1 + 1 ≡ t * 46080 + min (time + 120) 2880 * 16 = omega arith in
    let all_high : rank time (t * 46080 + min (time + 120) 2880 * 16) group ≡ total time group =
    sum_all_same (count_below time (t * 46080 + min (time + 120) 2880 * 16)) (count_all time) group (λ j d l.
    let is = all j d l in let a = is.after in count_at_last time t (min (time + 120) 2880) (get_or group j d) is (of j d l) (omega (arith, a))) in
    record {
      first = omega arith;
      order = omega arith;
      last = omega arith;
      below = omega (arith, from_low);
      above = omega (arith, more, ap (λ n. rank time n group) back ∙ all_high);
    }

-- a part of the crossers has no more uses
pub part_few : (time : ℕ) (crossers : List Crosser) (start end most : ℕ) → total time crossers ≤ most → total time (slice_range crossers start end) ≤ most
part_few time crossers start end most few =
    let a = sum_by-take-drop (count_all time) crossers start in
    let b = sum_by-take-drop (count_all time) (drop start crossers) (end - start) in omega (arith, few, a, b)

-- the sum so far and the next crosser's are within the whole
pub rank_small : (time p : ℕ) (crossers : List Crosser) (i : ℕ) (d : Crosser) → i < length crossers → total time crossers ≤ 4000 → rank time p (take i crossers) + count_below time p (get_or crossers i d) ≤ 4000
rank_small time p crossers i d l few =
    let part = sum_by_more_le_part (count_below time p) (count_all time) crossers i d l (count_most time p) in
    let most = count_most time p (get_or crossers i d) in omega (arith, part, most, few)

pub total_small : (time : ℕ) (crossers : List Crosser) (i : ℕ) (d : Crosser) → i < length crossers → total time crossers ≤ 4000 → total time (take i crossers) + count_all time (get_or crossers i d) ≤ 4000
total_small time crossers i d l few = let part = sum_by_more_le (count_all time) crossers i d l in omega (arith, part, few)

-- the other tracks of crossers are tracks of the network
within_tracks : (net : Net) → IsProper net → (t : TrackId) (k : TypeId) → All (λ c. c.track.0 < length net.tracks) (crossers_of net t k)
within_tracks net proper t k =
    All-map (λ c. c.track.0 < length net.tracks) (crosser_of net.crossings) (filter (is_across net t.0 k.0) net.crossings)
    (All-filter (is_across net t.0 k.0) (λ row. row.0.1 < length net.tracks) net.crossings (λ j d l. (proper.built.crossings.each j d l).second_track))

-- each of their uses is at one of the places
total_is : (net : Net) (own : TrackUse) → IsProper net → IsPossible net own → total own.time (crossers_of net own.track own.kind) ≡ length (crossed_places net own)
total_is net own proper possible =
    let crossers : List Crosser = crossers_of net own.track own.kind in
    let n : ℕ = length net.tracks * 46080 in
    let tracks = within_tracks net proper own.track own.kind in
    let are = crossers_are net proper.built own.track own.kind in
    sym (sum_all_same (count_below own.time n) (count_all own.time) crossers (λ j d l.
    count_later own.time n (get_or crossers j d) (are j d l) (let t = tracks j d l in omega (arith, t))))
    ∙ rank_is net own proper possible n

-- ---- the same crossers in another order

module _ (net : Net) (own : TrackUse) (proper : IsProper net) (possible : IsPossible net own) (crossers : List Crosser) (same : IsPermutation (crossers_of net own.track own.kind) crossers) where
  pub are_crossers : All IsCrosser crossers
  are_crossers = All-permutation IsCrosser (crossers_of net own.track own.kind) crossers same (crossers_are net proper.built own.track own.kind)

  pub few_uses : total own.time crossers ≤ 4000
  few_uses =
      let is = sum_by-IsPermutation (count_all own.time) (crossers_of net own.track own.kind) crossers same in
      let few = total_few net own.track own.kind own.time in
      let reach = proper.within_reach own.track own.kind in omega (arith, is, few, reach)

  pub row_count : total own.time crossers ≡ length (touched_rows net own)
  row_count =
      let is = sum_by-IsPermutation (count_all own.time) (crossers_of net own.track own.kind) crossers same in
      let all = total_is net own proper possible in
      let rows = length-map (crossed_places net own) (λ p. row_with own (use_at p)) in
      omega (arith, is, all, rows)

  pub row_none : (k : ℕ) → total own.time crossers ≤ k → slice_get (touched_rows net own) k ≡ None
  row_none k le =
      let is = sum_by-IsPermutation (count_all own.time) (crossers_of net own.track own.kind) crossers same in
      slice_get-map (λ p. row_with own (use_at p)) (crossed_places net own) k ∙ ap (option_map (λ p. row_with own (use_at p))) (place_none net own proper possible k (omega (arith, is, le)))

  place_of_all : (k p : ℕ) → IsPlace own.time crossers k p → slice_get (crossed_places net own) k ≡ Some p
  place_of_all k p place =
      let low = sum_by-IsPermutation (count_below own.time p) (crossers_of net own.track own.kind) crossers same in
      let high = sum_by-IsPermutation (count_below own.time (p + 1)) (crossers_of net own.track own.kind) crossers same in
      let a = place.low in let b = place.high in
      place_is net own proper possible k p (record { low = omega (arith, low, a); high = omega (arith, high, b) })

  pub row_there : (k p : ℕ) → IsPlace own.time crossers k p → slice_get (touched_rows net own) k ≡ Some (row_with own (use_at p))
  row_there k p place = slice_get-map (λ p. row_with own (use_at p)) (crossed_places net own) k ∙ ap (option_map (λ p. row_with own (use_at p))) (place_of_all k p place)

  pub place_small : (k p : ℕ) → IsPlace own.time crossers k p → p < 46080000
  place_small k p place =
      let at = place_of_all k p place in
      let inside : In p (crossed_places net own) = subst (λ x. In x (crossed_places net own)) (get_or_from_slice_get (crossed_places net own) k p p at) (in_get (crossed_places net own) k p (slice_get_within (crossed_places net own) k p at)) in
      let range = in_range_from 0 (length net.tracks * 46080) p (in_filter_from (is_crossed net own) (range_with_len 0 (length net.tracks * 46080)) p inside).inside in
      let few = proper.built.counts.few_tracks in omega (arith, range, few)
