-- Tables of version 1 give no crossing and no limit of a station.
use Rattle.std.proofs.Common.{◌≡◌, ℕ, List, Option, Some, None, Ok, Err, OnOk, IfOk, refl, subst, sym, unwrap_or}
use Rattle.std.specs.Option.{option_and_then, option_map}
use Rattle.std.specs.Prelude.{Result}
use Rattle.optra_network.specs.Names.{place_of}
use Rattle.optra_network.specs.Net.{Net, empty_net}
use Rattle.optra_network.specs.Refusals.{after_headway, after_running, after_track, headway_refusal, running_refusal, station_refusal, track_refusal, type_refusal}
use Rattle.optra_records.specs.Reading.{Record}
use Rattle.optra_tables.specs.Fields.{four_at, name_at, number_at, shaped}
use Rattle.optra_tables.specs.Networks.{HasHeadwaysAlone, headway_row, headways_header, running_header, running_row, station_row, stations_header, track_row, tracks_header, type_row, types_header, whole_refusal}
use Rattle.optra_tables.specs.Outcomes.{Gives, net_outcome}
use Rattle.optra_tables.specs.Rows.{table_read}
use Rattle.optra_tables.specs.declared.ReadError.{ReadError}
use Rattle.optra_tables.specs.declared.Table.TheVariants.{Headways, Running, Stations, Tracks, Types}
use Rattle.optra_tables.proofs.KeptLemmas.{table_keep}
use Rattle.optra_tables.proofs.StepLemmas.{from_bind, from_outcome}

-- ---- what each accepted record keeps

station_alone : (net : Net) (row : ℕ) (fields : Record) (new : Net) → station_row net row fields ≡ Ok new → HasHeadwaysAlone net → HasHeadwaysAlone new
unfolding station_row
station_alone net row fields new e alone =
    let form = from_bind (shaped Stations row 1 fields) _ new e in
    let name = from_bind (name_at Stations row fields 0) _ new form.2 in
    let c = from_outcome Stations row (station_refusal net name.0) _ new name.2 in
    subst (λ (n : Net). HasHeadwaysAlone n) c.1 (record { crossings = alone.crossings; limits = alone.limits })

type_alone : (net : Net) (row : ℕ) (fields : Record) (new : Net) → type_row net row fields ≡ Ok new → HasHeadwaysAlone net → HasHeadwaysAlone new
unfolding type_row
type_alone net row fields new e alone =
    let form = from_bind (shaped Types row 1 fields) _ new e in
    let name = from_bind (name_at Types row fields 0) _ new form.2 in
    let c = from_outcome Types row (type_refusal net name.0) _ new name.2 in
    subst (λ (n : Net). HasHeadwaysAlone n) c.1 (record { crossings = alone.crossings; limits = alone.limits })

-- what is added where places are there, or nothing
one_place : (net : Net) (f : ℕ → Net) (o : Option ℕ) → ((a : ℕ) → HasHeadwaysAlone (f a)) → HasHeadwaysAlone net → HasHeadwaysAlone (unwrap_or (option_map f o) net)
one_place net f None keeps alone = alone
one_place net f (Some a) keeps alone = keeps a

two_places : (net : Net) (f : ℕ → ℕ → Net) (o p : Option ℕ) → ((a b : ℕ) → HasHeadwaysAlone (f a b)) → HasHeadwaysAlone net
    → HasHeadwaysAlone (unwrap_or (option_and_then (λ a. option_map (f a) p) o) net)
two_places net f None p keeps alone = alone
two_places net f (Some a) p keeps alone = one_place net (f a) p (keeps a) alone

three_places : (net : Net) (f : ℕ → ℕ → ℕ → Net) (o p q : Option ℕ) → ((a b c : ℕ) → HasHeadwaysAlone (f a b c)) → HasHeadwaysAlone net
    → HasHeadwaysAlone (unwrap_or (option_and_then (λ a. option_and_then (λ b. option_map (f a b) q) p) o) net)
three_places net f None p q keeps alone = alone
three_places net f (Some a) p q keeps alone = two_places net (f a) p q (keeps a) alone

track_alone : (net : Net) (row : ℕ) (fields : Record) (new : Net) → track_row net row fields ≡ Ok new → HasHeadwaysAlone net → HasHeadwaysAlone new
unfolding track_row
track_alone net row fields new e alone =
    let form = from_bind (shaped Tracks row 3 fields) _ new e in
    let name = from_bind (name_at Tracks row fields 0) _ new form.2 in
    let from = from_bind (name_at Tracks row fields 1) _ new name.2 in
    let to = from_bind (name_at Tracks row fields 2) _ new from.2 in
    let c = from_outcome Tracks row (track_refusal net name.0 from.0 to.0) (unwrap_or (after_track net name.0 from.0 to.0) net) new to.2 in
    subst (λ (n : Net). HasHeadwaysAlone n) c.1
    (two_places net _ (place_of from.0 net.stations) (place_of to.0 net.stations) (λ a b. record { crossings = alone.crossings; limits = alone.limits }) alone)

running_alone : (net : Net) (row : ℕ) (fields : Record) (new : Net) → running_row net row fields ≡ Ok new → HasHeadwaysAlone net → HasHeadwaysAlone new
unfolding running_row
running_alone net row fields new e alone =
    let form = from_bind (shaped Running row 6 fields) _ new e in
    let track = from_bind (name_at Running row fields 0) _ new form.2 in
    let kind = from_bind (name_at Running row fields 1) _ new track.2 in
    let times = from_bind (four_at Running row fields 2) _ new kind.2 in
    let c = from_outcome Running row (running_refusal net track.0 kind.0 times.0) (unwrap_or (after_running net track.0 kind.0 times.0) net) new times.2 in
    subst (λ (n : Net). HasHeadwaysAlone n) c.1
    (two_places net _ (place_of track.0 net.track_names) (place_of kind.0 net.types) (λ a b. record { crossings = alone.crossings; limits = alone.limits }) alone)

headway_alone : (net : Net) (row : ℕ) (fields : Record) (new : Net) → headway_row net row fields ≡ Ok new → HasHeadwaysAlone net → HasHeadwaysAlone new
unfolding headway_row
headway_alone net row fields new e alone =
    let form = from_bind (shaped Headways row 4 fields) _ new e in
    let track = from_bind (name_at Headways row fields 0) _ new form.2 in
    let first = from_bind (name_at Headways row fields 1) _ new track.2 in
    let second = from_bind (name_at Headways row fields 2) _ new first.2 in
    let minutes = from_bind (number_at Headways row fields 3) _ new second.2 in
    let c = from_outcome Headways row (headway_refusal net track.0 first.0 second.0 minutes.0) (unwrap_or (after_headway net track.0 first.0 second.0 minutes.0) net) new minutes.2 in
    subst (λ (n : Net). HasHeadwaysAlone n) c.1
    (three_places net _ (place_of track.0 net.track_names) (place_of first.0 net.types) (place_of second.0 net.types) (λ a b d. record { crossings = alone.crossings; limits = alone.limits }) alone)

-- ---- what the tables keep

pub stations_alone : (net new : Net) (bytes : List ℕ) → table_read station_row Stations stations_header net bytes ≡ Ok new → HasHeadwaysAlone net → HasHeadwaysAlone new
stations_alone net new bytes e alone = table_keep station_row HasHeadwaysAlone station_alone Stations stations_header net bytes new e alone

pub headways_alone : (net b c d new : Net) (tracks types running headways : List ℕ) → table_read track_row Tracks tracks_header net tracks ≡ Ok b → table_read type_row Types types_header b types ≡ Ok c
    → table_read running_row Running running_header c running ≡ Ok d → table_read headway_row Headways headways_header d headways ≡ Ok new → HasHeadwaysAlone net → HasHeadwaysAlone new
headways_alone net b c d new tracks types running headways eb ec ed e alone =
    table_keep headway_row HasHeadwaysAlone headway_alone Headways headways_header d headways new e
    (table_keep running_row HasHeadwaysAlone running_alone Running running_header c running d ed
    (table_keep type_row HasHeadwaysAlone type_alone Types types_header b types c ec
    (table_keep track_row HasHeadwaysAlone track_alone Tracks tracks_header net tracks b eb alone)))

-- the same of the answer of reading the last of them
pub headways_kept : (net b c d new : Net) (tracks types running headways : List ℕ) (answer : Result (Unit {0}) ReadError) → table_read track_row Tracks tracks_header net tracks ≡ Ok b
    → table_read type_row Types types_header b types ≡ Ok c → table_read running_row Running running_header c running ≡ Ok d
    → Gives (λ _. new) answer (table_read headway_row Headways headways_header d headways) → OnOk answer (HasHeadwaysAlone net → HasHeadwaysAlone new)
headways_kept net b c d new tracks types running headways (Ok x) eb ec ed e = λ alone. headways_alone net b c d new tracks types running headways eb ec ed e alone
headways_kept net b c d new tracks types running headways (Err w) eb ec ed e = tt

-- what all tables of version 1 give has no crossing and no limit
pub first_alone : (net stations new : Net) (bytes : List ℕ) (answer : Result (Unit {0}) ReadError) → net ≡ empty_net → table_read station_row Stations stations_header net bytes ≡ Ok stations
    → OnOk answer (HasHeadwaysAlone stations → HasHeadwaysAlone new) → OnOk answer (HasHeadwaysAlone new)
first_alone net stations new bytes (Ok x) empty e keeps =
    let start : HasHeadwaysAlone net = subst (λ (n : Net). HasHeadwaysAlone n) (sym empty) (record { crossings = refl; limits = refl }) in
    keeps (stations_alone net stations bytes e start)
first_alone net stations new bytes (Err w) empty e keeps = tt

-- what was built is what was read
pub finished_alone : (net : Net) (answer : Result Net ReadError) → Gives (λ done. done) answer (net_outcome Headways 0 (whole_refusal net) net) → HasHeadwaysAlone net
    → IfOk answer (λ done. HasHeadwaysAlone done)
finished_alone net (Ok done) e alone =
    let same = from_outcome Headways 0 (whole_refusal net) net done e in
    subst (λ (n : Net). HasHeadwaysAlone n) same.1 alone
finished_alone net (Err w) e alone = tt
