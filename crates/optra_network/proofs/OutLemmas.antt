-- The tracks that leave a station: lists for each station, and all of them in one array.
use Rattle.std.proofs.Common.{◌≡◌, ℕ, suc, ◌+◌, ◌-◌, ◌<◌, ◌≤◌, Bool, true, false, cond, nat_eq, List, [], ◌∷◌, ◌++◌, length, get_or, replicate, set, take, drop, slice_get, All, slice_index, map, filter, Some, sym, ap, ◌∙◌, arith, ⊎_elim, add-one, length-append, length-set, append-nil}
use Rattle.std.proofs.lemmas.Bool.{cases_eq, eq-eqb, ne_eqb}
use Rattle.std.proofs.lemmas.List.FromFn.{filter_of_map_range_with_len_more}
use Rattle.std.proofs.lemmas.List.{get_or_append_left, get_or-map, get_or-replicate, length-replicate, take_all, take-append-drop}
use Rattle.std.proofs.lemmas.Grind.{flat_map-append}
use Rattle.std.proofs.lemmas.List.Folds.{length-flat_map-take}
use Rattle.std.proofs.Math.Seq.{get_or-append_seam, take-suc, drop-cons, drop-append_seam, take-append_seam}
use Rattle.std.proofs.lemmas.Option.{slice_get-get_or, get_or_from_slice_get}
use Rattle.std.specs.List.{flat_map, range_with_len, slice_range}
use Rattle.std.specs.Option.{option_map_or}
use Rattle.std.proofs.lemmas.List.Elements.{All-filter, All-map}
use Rattle.std.proofs.lemmas.List.FromFn.{length-range_with_len, get_or-range_with_len}
use Rattle.optra_network.specs.Net.{Net, IsTrack, leaves, track_id, out_tracks_of}
use Rattle.optra_network.specs.Tables.{HoldsOut, AreOut, AreJoined}
use Rattle.optra_network.specs.declared.StationId.{StationId}
use Rattle.optra_network.specs.declared.TrackId.{TrackId}
use Rattle.optra_network.specs.declared.Track.{Track}
use Rattle.optra_network.specs.declared.dense.Outgoing.{Outgoing}
use Rattle.optra_network.proofs.TableLemmas.{read_written, read_other}

-- those of the first n tracks that leave a station
abbrev pub first_out : List Track → ℕ → StationId → List TrackId
first_out tracks n s = filter (leaves tracks s) (map track_id (range_with_len 0 n))

-- with one more track
out_more : (tracks : List Track) (s : StationId) (n : ℕ) (d : Track) (b : Bool) → n < length tracks → nat_eq (get_or tracks n d).tail.0 s.0 ≡ b
    → first_out tracks (n + 1) s ≡ first_out tracks n s ++ cond b (track_id n ∷ []) []
out_more tracks s n d b l e =
    let at : leaves tracks s (track_id n) ≡ b = ap (λ o. option_map_or (λ (t : Track). nat_eq t.tail.0 s.0) o false) (slice_get-get_or tracks n d l) ∙ e in
    filter_of_map_range_with_len_more (leaves tracks s) track_id 0 n n (omega arith) ∙ ap (λ c. first_out tracks n s ++ cond c (track_id n ∷ []) []) at

-- empty lists, before any track
pub HoldsOut-empty : (tracks : List Track) (stations : ℕ) (lists : List (List TrackId)) → lists ≡ replicate stations [] → HoldsOut tracks 0 stations lists
HoldsOut-empty tracks stations lists is =
    let len : length lists ≡ stations = ap length is ∙ length-replicate stations [] in
    record {
      len = len;
      each = λ s l. slice_get-get_or lists s.0 [] (omega arith) ∙ ap Some (ap (λ xs. get_or xs s.0 []) is ∙ get_or-replicate stations s.0 [] [] l);
    }

-- the next track goes to the list of its tail
pub HoldsOut-set : (tracks : List Track) (n stations : ℕ) (lists : List (List TrackId)) (tail : ℕ) (list : List TrackId) (d : Track) → HoldsOut tracks n stations lists
    → n < length tracks → tail < stations → (get_or tracks n d).tail.0 ≡ tail → list ≡ get_or lists tail [] ++ track_id n ∷ [] → HoldsOut tracks (n + 1) stations (set lists tail list)
HoldsOut-set tracks n stations lists tail list d h l within is made = record {
  len = length-set lists tail list ∙ h.len;
  each = λ s ls.
      let place : tail < length lists = let e = h.len in omega arith in
      let other : s.0 < length lists = let e = h.len in omega arith in
      ⊎_elim
      (λ (same : s.0 ≡ tail).
      let before : get_or lists tail [] ≡ first_out tracks n s = ap (λ k. get_or lists k []) (sym same) ∙ get_or_from_slice_get lists s.0 (first_out tracks n s) [] (h.each s ls) in
      ap (slice_get (set lists tail list)) same ∙ read_written lists tail list place
      ∙ ap Some (made ∙ ap (λ xs. xs ++ track_id n ∷ []) before ∙ sym (out_more tracks s n d true l (eq-eqb (get_or tracks n d).tail.0 s.0 (is ∙ sym same)))))
      (λ ne.
      let same : first_out tracks n s ≡ first_out tracks (n + 1) s =
      sym (append-nil (first_out tracks n s)) ∙ sym (out_more tracks s n d false l (ne_eqb (get_or tracks n d).tail.0 s.0 (λ e. ne (sym e ∙ is)))) in
      read_other lists tail s.0 list (first_out tracks (n + 1) s) ne (h.each s ls ∙ ap Some same) other)
      (cases_eq s.0 tail);
}

-- ---- lists in one array

abbrev pub joined : List (List TrackId) → List TrackId
joined lists = flat_map (λ list. list) lists

-- the first i lists in one array, with a start for each of them
pub record AreJoinedTo (lists : List (List TrackId)) (i : ℕ) (tracks : List TrackId) (starts : List ℕ) : Type 0 where
  pub tracks_are : tracks ≡ joined (take i lists)
  pub len : length starts ≡ i
  pub each : (j : ℕ) → j < i → slice_index starts j ≡ length (joined (take j lists))

joined_more : (lists : List (List TrackId)) (i : ℕ) → i < length lists → joined (take (i + 1) lists) ≡ joined (take i lists) ++ get_or lists i []
joined_more lists i l =
    rw add-one (ap joined (take-suc lists i [] l) ∙ flat_map-append (λ (list : List TrackId). list) (take i lists) (get_or lists i [] ∷ []) ∙ ap (λ xs. joined (take i lists) ++ xs) (append-nil (get_or lists i [])))

start_more : (lists : List (List TrackId)) (i : ℕ) (tracks : List TrackId) (starts : List ℕ) → AreJoinedTo lists i tracks starts
    → (j : ℕ) → j ≤ i → slice_index (starts ++ length tracks ∷ []) j ≡ length (joined (take j lists))
start_more lists i tracks starts h j l =
    ⊎_elim
    (λ (same : j ≡ i).
    ap (slice_index (starts ++ length tracks ∷ [])) (same ∙ sym h.len) ∙ get_or-append_seam starts (length tracks) [] 0 ∙ ap length h.tracks_are ∙ ap (λ k. length (joined (take k lists))) (sym same))
    (λ ne. let below : j < i = omega arith in get_or_append_left starts (length tracks ∷ []) 0 j (omega (arith, h.len)) ∙ h.each j below)
    (cases_eq j i)

-- what is read at an index is the list there
pub list_at : {V : Type 0} (items : V → List TrackId) (vecs : List V) (i : ℕ) (v : V) (list : List TrackId) → i < length vecs → v ≡ get_or vecs i v → list ≡ items v → list ≡ get_or (map items vecs) i []
list_at items vecs i v list l at is = is ∙ ap items at ∙ sym (get_or-map items vecs i v [] l)

-- with one more list
pub AreJoinedTo-more : (lists : List (List TrackId)) (i : ℕ) (tracks new : List TrackId) (starts more : List ℕ) (start : ℕ) (list : List TrackId) → AreJoinedTo lists i tracks starts
    → i < length lists → list ≡ get_or lists i [] → start ≡ length tracks → more ≡ starts ++ start ∷ [] → new ≡ tracks ++ list → AreJoinedTo lists (i + 1) new more
AreJoinedTo-more lists i tracks new starts more start list h l is start_is more_is new_is =
    let more_are : more ≡ starts ++ length tracks ∷ [] = more_is ∙ ap (λ n. starts ++ n ∷ []) start_is in
    record {
      tracks_are = new_is ∙ (λ j. h.tracks_are j ++ is j) ∙ sym (joined_more lists i l);
      len = ap length more_are ∙ length-append starts (length tracks ∷ []) ∙ ap (λ n. n + 1) h.len;
      each = λ j below. ap (λ (xs : List ℕ). slice_index xs j) more_are ∙ start_more lists i tracks starts h j (omega arith);
    }

-- with all lists, and the end
pub AreJoined-end : (lists : List (List TrackId)) (i : ℕ) (out : Outgoing) (starts : List ℕ) → AreJoinedTo lists i out.tracks.items starts → i ≡ length lists
    → out.starts.items ≡ starts ++ length out.tracks.items ∷ [] → AreJoined lists out
AreJoined-end lists i out starts h all made = record {
  tracks = h.tracks_are ∙ ap joined (take_all i lists (omega arith));
  len = ap length made ∙ length-append starts (length out.tracks.items ∷ []) ∙ ap (λ n. n + 1) (h.len ∙ all);
  starts = λ j l. ap (λ (xs : List ℕ). slice_index xs j) made ∙ start_more lists i out.tracks.items starts h j (omega arith);
}

-- the s-th list in the array
joined-range : (lists : List (List TrackId)) (s : ℕ) → s < length lists
    → slice_range (joined lists) (length (joined (take s lists))) (length (joined (take (s + 1) lists))) ≡ get_or lists s []
joined-range lists s l =
    let before = joined (take s lists) in
    let own = get_or lists s [] in
    let after = joined (drop (suc s) lists) in
    let whole : joined lists ≡ before ++ (own ++ after) =
    ap joined (sym (take-append-drop s lists) ∙ ap (λ xs. take s lists ++ xs) (drop-cons lists s [] l))
    ∙ flat_map-append (λ (list : List TrackId). list) (take s lists) (own ∷ drop (suc s) lists) in
    let len : length (joined (take (s + 1) lists)) - length before ≡ length own = let m = ap length (joined_more lists s l) ∙ length-append before own in omega arith in
    (λ i. take (len i) (drop (length before) (whole i))) ∙ ap (take (length own)) (drop-append_seam before (own ++ after)) ∙ take-append_seam own after

pub AreOut-from_joined : (tracks : List Track) (stations : ℕ) (lists : List (List TrackId)) (out : Outgoing) → HoldsOut tracks (length tracks) stations lists → AreJoined lists out → AreOut tracks stations out
AreOut-from_joined tracks stations lists out h j s l =
    let within : s.0 < length lists = let e = h.len in omega arith in
    let first = j.starts s.0 (omega arith) in
    let next = j.starts (s.0 + 1) (omega arith) in
    let more = ap length (joined_more lists s.0 within) ∙ length-append (joined (take s.0 lists)) (get_or lists s.0 []) in
    let most = length-flat_map-take (λ (list : List TrackId). list) lists s.0 [] within in
    let all = ap length j.tracks in
    record {
      range = record {
        started = let e = j.len in omega arith;
        ordered = omega arith;
        within = omega arith;
      };
      are =
          (λ i. slice_range (j.tracks i) (first i) (next i)) ∙ joined-range lists s.0 within ∙ get_or_from_slice_get lists s.0 (out_tracks_of tracks s) [] (h.each s l);
    }

-- the tracks that leave a station are there
pub out_tracks-there : (net : Net) (s : StationId) → All (IsTrack net) (out_tracks_of net.tracks s)
out_tracks-there net s =
    All-filter (leaves net.tracks s) (IsTrack net) (map track_id (range_with_len 0 (length net.tracks)))
    (All-map (IsTrack net) track_id (range_with_len 0 (length net.tracks))
    (λ k d l. let n = length-range_with_len 0 (length net.tracks) in let e = get_or-range_with_len 0 (length net.tracks) k d (omega arith) in omega (arith, e)))
