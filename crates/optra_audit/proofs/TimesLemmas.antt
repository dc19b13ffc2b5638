-- What each accepted line adds, and what all lines keep that are read.
use Rattle.std.proofs.Common.{◌≡◌, ◌+◌, ◌-◌, ◌<◌, ◌≤◌, ◌==◌, ℕ, Bool, true, false, List, [], ◌∷◌, ◌++◌, length, get_or, Option, Some, None, slice_get, unwrap_or, nat_lt, nat_le, OnOk, refl, sym, ap, ◌∙◌, subst, arith, length-append, eqb-true}
use Rattle.std.specs.Prelude.{Result, Ok, Err, if◌then◌else◌}
use Rattle.std.specs.List.{All, list_all}
use Rattle.std.specs.Str.{is_utf8}
use Rattle.std.proofs.lemmas.Bool.{ltb-true, and_parts}
use Rattle.std.proofs.lemmas.List.Sums.{AllPass-from_list_all}
use Rattle.std.proofs.lemmas.List.Elements.{All-push, All-nil}
use Rattle.std.proofs.lemmas.List.Quantifiers.{position-Some}
use Rattle.std.proofs.lemmas.Option.{slice_get-get_or}
use Rattle.std.specs.Option.{option_map}
use Rattle.std.specs.Str.{bytes_eq}
use Rattle.optra_network.specs.Names.{place_of}
use Rattle.optra_network.specs.Net.{Net, IsTrack}
use Rattle.optra_network.specs.Refusals.{track_named}
use Rattle.optra_network.specs.declared.TrackId.{TrackId}
use Rattle.optra_bid.specs.declared.bids.Bid.{Bid}
use Rattle.optra_records.specs.Reading.{Field, Record, table_records}
use Rattle.optra_records.specs.Tables.{◌>>=◌, FailsTable, GivesTable, field, guard, is_row, number_at, or_else, rows_from, rows_under, shaped, table_of}
use Rattle.optra_records.specs.declared.TableError.{TableError}
use Rattle.optra_records.specs.declared.TableError.TheVariants as unread
use Rattle.optra_walk.specs.Words.{action_of_word, checked_dwell, start_of_word}
use Rattle.optra_audit.specs.declared.Line.{Line}
use Rattle.optra_audit.specs.declared.TimesKind.TheVariants as kinds
use Rattle.optra_audit.specs.declared.row_faults.RowFault.{RowFault}
use Rattle.optra_audit.specs.Timetables.{Fails, bid_names, error_of, fault, leg_line, line_of, line_row, lines_of, times_header}
use Rattle.optra_audit.specs.Trains.{AreLines}

-- ---- what a value that was read says

from_bind : {A B : Type 0} (r : Result A RowFault) (f : A → Result B RowFault) (y : B) → (r >>= f) ≡ Ok y → (x : A) × (r ≡ Ok x) × (f x ≡ Ok y)
from_bind (Ok x) f y e = (x, refl, e)
from_bind (Err w) f y e = absurd (cc e)

from_guard : (f : RowFault) (b : Bool) (x : Unit {0}) → guard f b ≡ Ok x → b ≡ true
from_guard f true x e = refl
from_guard f false x e = absurd (cc e)

from_or_else : {A : Type 0} (f : RowFault) (o : Option A) (x : A) → or_else f o ≡ Ok x → o ≡ Some x
from_or_else f None x e = absurd (cc e)
from_or_else f (Some y) x e = cc e

from_ok : {A : Type 0} (x y : A) → ◌≡◌ {A = Result A RowFault} (Ok x) (Ok y) → x ≡ y
from_ok x y e = cc e

-- a fault of the reader is the fault that the caller is told
pub fails_told : {Y : Type 0} (e : TableError RowFault) (read : Result Y RowFault) → FailsTable e read → Fails (error_of e) read
fails_told unread.NoMemory read h = tt
fails_told (unread.Fault f) read h = h

-- what an accepted record gives
pub ok_gives : {Y : Type 0} (P : Type 0) (known : Y) (result : Result (Unit {0}) (TableError RowFault)) (read : Result Y RowFault) → GivesTable (λ _. known) result read → (read ≡ Ok known → P) → OnOk result P
ok_gives P known (Ok x) read h gives = gives h
ok_gives P known (Err e) read h gives = tt

-- a field of a record of the right form is UTF-8
pub field_text : (f : RowFault) (n i : ℕ) (fields : Record) → ◌≡◌ {A = Result (Unit {0}) RowFault} (shaped f n fields) (Ok tt) → i < n → is_utf8 (field fields i) ≡ true
field_text f n i fields e l = by (is_row n fields) refl e
  where
    by : (b : Bool) → is_row n fields ≡ b → ◌≡◌ {A = Result (Unit {0}) RowFault} (if b then Ok tt else Err f) (Ok tt) → is_utf8 (field fields i) ≡ true
    by true is e =
        let parts = and_parts (length fields == n) (list_all is_utf8 fields) is in
        let long : length fields ≡ n = eqb-true (length fields) n parts.0 in
        let at : slice_get fields i ≡ Some (get_or fields i []) = slice_get-get_or fields i [] (omega arith) in
        let all = AllPass-from_list_all is_utf8 fields parts.1 in
        ap (λ (o : Option Field). is_utf8 (unwrap_or o [])) at ∙ all i [] (omega arith)
    by false is e = absurd (cc e)

-- ---- lines

-- a line that a record says of a bid and a track
pub leg_line_is : (row : ℕ) (fields : Record) (depart dwell bid : ℕ) (track : TrackId) (line : Line) → leg_line row fields depart dwell bid track ≡ Ok line → (line.bid ≡ bid) × (line.leg.track ≡ track)
unfolding leg_line
leg_line_is row fields depart dwell bid track line e =
    let from = from_bind (or_else (fault row kinds.U3) (start_of_word (field fields 3))) _ line e in
    let word = from_bind (or_else (fault row kinds.U3) (action_of_word (field fields 4))) _ line from.2 in
    let day = from_bind (guard (fault row kinds.U4) (nat_le depart 2879)) _ line word.2 in
    let action = from_bind (or_else (fault row kinds.U4) (checked_dwell word.0 dwell)) _ line day.2 in
    let is : line_of bid track depart from.0 action.0 ≡ line = from_ok (line_of bid track depart from.0 action.0) line action.2 in
    (ap (λ (l : Line). l.bid) (sym is), ap (λ (l : Line). l.leg.track) (sym is))

-- what a record that is accepted adds to the lines
pub record AddsLine (net : Net) (names : List Field) (lines new : List Line) : Type 0 where
  pub added : Line
  pub is : new ≡ lines ++ added ∷ []
  pub few : length lines < 8000
  pub of_bid : added.bid < length names
  pub on_track : length net.track_names ≡ length net.tracks → IsTrack net added.leg.track

track_there : (net : Net) (name : Field) (track : TrackId) → length net.track_names ≡ length net.tracks → track_named net name ≡ Some track → IsTrack net track
track_there net name track named e = by (place_of name net.track_names) refl e
  where
    by : (o : Option ℕ) → place_of name net.track_names ≡ o → option_map (λ (n : ℕ). let t : TrackId = record { 0 = n } in t) o ≡ Some track → IsTrack net track
    by None is e = absurd (cc e)
    by (Some n) is e =
        let low = (position-Some (bytes_eq name) net.track_names n [] is).0 in
        let same : n ≡ track.0 = let t : TrackId = record { 0 = n } in let s : t ≡ track = cc e in ap (λ (t : TrackId). t.0) s in
        omega arith

pub line_adds : (net : Net) (names : List Field) (lines new : List Line) (row : ℕ) (fields : Record) → line_row net names lines row fields ≡ Ok new → AddsLine net names lines new
unfolding line_row
line_adds net names lines new row fields e =
    let form = from_bind (shaped (fault row kinds.Csv) 6 fields) _ new e in
    let depart = from_bind (number_at (fault row kinds.Number) fields 2) _ new form.2 in
    let dwell = from_bind (number_at (fault row kinds.Number) fields 5) _ new depart.2 in
    let few = from_bind (guard (fault row kinds.U5) (nat_lt (length lines) 8000)) _ new dwell.2 in
    let bid = from_bind (or_else (fault row kinds.U1) (place_of (field fields 0) names)) _ new few.2 in
    let track = from_bind (or_else (fault row kinds.U2) (track_named net (field fields 1))) _ new bid.2 in
    let line = from_bind (leg_line row fields depart.0 dwell.0 bid.0 track.0) _ new track.2 in
    let is = leg_line_is row fields depart.0 dwell.0 bid.0 track.0 line.0 line.1 in
    record {
      added = line.0;
      is = sym (from_ok (lines ++ line.0 ∷ []) new line.2);
      few = ltb-true (length lines) 8000 (from_guard _ (nat_lt (length lines) 8000) few.0 few.1);
      of_bid = let low = (position-Some (bytes_eq (field fields 0)) names bid.0 [] (from_or_else _ (place_of (field fields 0) names) bid.0 bid.1)).0 in let e = is.0 in omega arith;
      on_track = λ named. subst (IsTrack net) (sym is.1) (track_there net (field fields 1) track.0 named (from_or_else _ (track_named net (field fields 1)) track.0 track.1));
    }

-- a line that is accepted takes one of the places
pub line_room : (net : Net) (names : List Field) (lines new : List Line) → AddsLine net names lines new → (length new ≤ 8000) × ((8000 - length new) + 1 ≤ 8000 - length lines)
line_room net names lines new adds =
    let few = adds.few in
    let len : length new ≡ length lines + 1 = ap length adds.is ∙ length-append lines (adds.added ∷ []) in
    (omega arith, omega arith)

-- ---- what all lines keep

lines_more : (net : Net) (bids : List Bid) (lines new : List Line) → length net.track_names ≡ length net.tracks → length (bid_names bids) ≡ length bids → AddsLine net (bid_names bids) lines new → AreLines net bids lines → AreLines net bids new
lines_more net bids lines new named same adds kept =
    let few = adds.few in
    let of_bid = adds.of_bid in
    let len : length new ≡ length lines + 1 = ap length adds.is ∙ length-append lines (adds.added ∷ []) in
    record {
      few = omega arith;
      of_bids = subst (All (λ (line : Line). line.bid < length bids)) (sym adds.is) (All-push (λ (line : Line). line.bid < length bids) lines adds.added kept.of_bids (omega arith));
      on_tracks = subst (All (λ (line : Line). IsTrack net line.leg.track)) (sym adds.is) (All-push (λ (line : Line). IsTrack net line.leg.track) lines adds.added kept.on_tracks (adds.on_track named));
    }

rows_kept : (net : Net) (bids : List Bid) (rows : List Record) (lines new : List Line) (row : ℕ) → length net.track_names ≡ length net.tracks → length (bid_names bids) ≡ length bids
    → rows_from (line_row net (bid_names bids)) lines row rows ≡ Ok new → AreLines net bids lines → AreLines net bids new
unfolding rows_from
rows_kept net bids [] lines new row named same e before = subst (AreLines net bids) (from_ok lines new e) before
rows_kept net bids (fields ∷ rows) lines new row named same e before =
    let more = from_bind (line_row net (bid_names bids) lines row fields) _ new e in
    rows_kept net bids rows more.0 new (row + 1) named same more.2 (lines_more net bids lines more.0 named same (line_adds net (bid_names bids) lines more.0 row fields more.1) before)

no_lines : (net : Net) (bids : List Bid) → AreLines net bids []
no_lines net bids = record { few = omega arith; of_bids = All-nil (λ (line : Line). line.bid < length bids); on_tracks = All-nil (λ (line : Line). IsTrack net line.leg.track) }

-- What all lines keep that a table means.
pub lines_kept : (net : Net) (bids : List Bid) (bytes : List ℕ) (lines : List Line) → length net.track_names ≡ length net.tracks → length (bid_names bids) ≡ length bids → lines_of net (bid_names bids) bytes ≡ Ok lines → AreLines net bids lines
unfolding lines_of table_of
lines_kept net bids bytes lines named same e =
    let rows = from_bind (rows_under (fault 1 kinds.Header) times_header (table_records bytes)) _ lines e in
    rows_kept net bids rows.0 [] lines 2 named same rows.2 (no_lines net bids)
