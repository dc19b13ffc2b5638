-- The tables of a demo are accepted: they mean its network and its bids.
use Rattle.std.proofs.Common.{◌≡◌, ℕ, ◌+◌, ◌≤◌, List, [], ◌∷◌, map, length, nat_eq, None, Ok, Err, refl, sym, ap, ◌∙◌, subst, arith}
use Rattle.std.specs.Prelude.{codes}
use Rattle.std.specs.List.{range_with_len}
use Rattle.std.proofs.lemmas.List.FromFn.{length-map-range_with_len}
use Rattle.optra_records.specs.Reading.{Record}
use Rattle.optra_records.specs.Texts.{records_text}
use Rattle.optra_network.specs.Net.{Net}
use Rattle.optra_tables.specs.Bids as tables
use Rattle.optra_tables.specs.Networks.{Files, HasItsVersion, network_of, version_of}
use Rattle.optra_tables.specs.Stops.{bids_of}
use Rattle.optra_tables.specs.Written.{bids_table, stops_table, bid_record}
use Rattle.optra_tables.specs.declared.TableFault.{TableFault}
use Rattle.optra_tables.proofs.WrittenLaw.{read_again}
use Rattle.optra_demo.specs.Bids as bids
use Rattle.optra_demo.specs.Bids.{bid_count, bid_row, bids_from, stop_rows}
use Rattle.optra_demo.specs.Demos as demos
use Rattle.optra_demo.specs.Demos.{AreDemo, minutes_of}
use Rattle.optra_demo.specs.Draws.{after, draw, first_state}
use Rattle.optra_demo.specs.Networks.{headway_records, running_records, segment_count, station_count, station_records, track_records, type_records}
use Rattle.optra_demo.specs.declared.demo_tables.DemoTables.{DemoTables}
use Rattle.optra_top.specs.DemoCommand.{IsAcceptedDemo, demo_bids_file, demo_meaning, demo_net_files, demo_stops_file}
use Rattle.optra_top.specs.MadeTables.{made_net_files}
use Rattle.optra_top.proofs.DemoBids.{are_written, bids_table_is, minutes_fit, parts_of, stops_table_is}
use Rattle.optra_top.proofs.DemoNets.{Fits, demo_parts, demo_proper, headways_written, running_written, stations_written, tracks_written}
use Rattle.optra_top.proofs.NetsWritten.{net_of, network_means, tables_of, tables_version}
use Rattle.optra_frame.specs.declared.version.Version.TheVariants.{First}

-- the network and the bids of a demo
abbrev pub demo_net : ℕ → ℕ → Net
demo_net seed size = net_of (demo_parts (minutes_of seed size))

abbrev pub demo_bids : ℕ → ℕ → List tables.Parts
demo_bids seed size = map (parts_of (minutes_of seed size)) (demos.bids_of seed size)

-- the network's tables over segments of these minutes
net_files : List ℕ → Files
net_files minutes = record {
  stations = records_text (station_records (length minutes + 1));
  tracks = records_text (track_records (length minutes));
  types = records_text type_records;
  running = records_text (running_records minutes);
  headways = records_text (headway_records (length minutes));
  crossings = None;
}

running_head : Record
running_head = codes "track" ∷ codes "type" ∷ codes "pass_pass" ∷ codes "pass_halt" ∷ codes "halt_pass" ∷ codes "halt_halt" ∷ []

headways_head : Record
headways_head = codes "track" ∷ codes "first" ∷ codes "second" ∷ codes "minutes" ∷ []

module _ (minutes : List ℕ) (fits : Fits minutes) where
  net_means : network_of (net_files minutes) ≡ Ok (net_of (demo_parts minutes))
  unfolding net_files running_head headways_head
  net_means = ap network_of same ∙ network_means (demo_parts minutes) (demo_proper minutes fits)
    where
      same : net_files minutes ≡ tables_of (demo_parts minutes)
      same i = record {
        stations = ap (λ (rows : List Record). records_text ((codes "station" ∷ []) ∷ rows)) (stations_written (range_with_len 1 (length minutes + 1))) i;
        tracks = ap (λ (rows : List Record). records_text ((codes "track" ∷ codes "from" ∷ codes "to" ∷ []) ∷ rows)) (tracks_written (length minutes)) i;
        types = records_text type_records;
        running = ap (λ (rows : List Record). records_text (running_head ∷ rows)) (running_written minutes) i;
        headways = ap (λ (rows : List Record). records_text (headways_head ∷ rows)) (headways_written (length minutes)) i;
        crossings = None;
      }

  bids_mean : 3 ≤ length minutes → (x count : ℕ) → count ≤ 180
      → bids_of (net_of (demo_parts minutes)) (records_text (bids.bid_records minutes (bids_from (length minutes + 1) x count))) (records_text (bids.stop_records (bids_from (length minutes + 1) x count)))
      ≡ Ok (map (parts_of minutes) (bids_from (length minutes + 1) x count))
  unfolding bids_table stops_table
  bids_mean some x count few =
      let b = ap (λ (rows : List Record). records_text (bids.bids_header ∷ rows)) (bids_table_is minutes fits some x count few) in
      let s = ap (λ (rows : List Record). records_text (bids.stops_header ∷ rows)) (stops_table_is minutes fits some x count few) in
      let again = read_again (net_of (demo_parts minutes)) (map (parts_of minutes) (bids_from (length minutes + 1) x count)) (demo_proper minutes fits) (are_written minutes fits some x count few) in
      ap (λ (text : List ℕ). bids_of (net_of (demo_parts minutes)) text (records_text (bids.stop_records (bids_from (length minutes + 1) x count)))) b
      ∙ ap (λ (text : List ℕ). bids_of (net_of (demo_parts minutes)) (records_text (bids.bids_header ∷ map (bid_record (net_of (demo_parts minutes))) (map (parts_of minutes) (bids_from (length minutes + 1) x count)))) text) s
      ∙ again

module _ (seed size : ℕ) (least : 1 ≤ size) (most : size ≤ 9) where
  fits : Fits (minutes_of seed size)
  fits = minutes_fit (first_state seed) (segment_count size) (omega arith) (omega arith)

  segments_are : length (minutes_of seed size) ≡ segment_count size
  segments_are = length-map-range_with_len (λ (k : ℕ). 4 + draw (first_state seed) k 5) 0 (segment_count size)

  stations_are : length (minutes_of seed size) + 1 ≡ station_count size
  stations_are = let l = segments_are in omega arith

  net_accepted : network_of (demo_net_files seed size) ≡ Ok (demo_net seed size)
  unfolding net_files
  net_accepted = sym (ap network_of same) ∙ net_means (minutes_of seed size) fits
    where
      same : net_files (minutes_of seed size) ≡ demo_net_files seed size
      same i = record {
        stations = records_text (station_records (stations_are i));
        tracks = records_text (track_records (segments_are i));
        types = records_text type_records;
        running = records_text (running_records (minutes_of seed size));
        headways = records_text (headway_records (segments_are i));
        crossings = None;
      }

  bids_accepted : bids_of (demo_net seed size) (demo_bids_file seed size) (demo_stops_file seed size) ≡ Ok (demo_bids seed size)
  bids_accepted =
      let l = segments_are in
      subst Read stations_are (bids_mean (minutes_of seed size) fits (omega arith) (after (first_state seed) (segment_count size)) (bid_count size) (omega arith))
    where
      Read : ℕ → Type 0
      Read n =
          bids_of (demo_net seed size) (records_text (bids.bid_records (minutes_of seed size) (bids_from n (after (first_state seed) (segment_count size)) (bid_count size))))
          (records_text (bids.stop_records (bids_from n (after (first_state seed) (segment_count size)) (bid_count size))))
          ≡ Ok (map (parts_of (minutes_of seed size)) (bids_from n (after (first_state seed) (segment_count size)) (bid_count size)))

  -- the tables by the rule are accepted
  pub accepted : IsAcceptedDemo seed size
  unfolding demo_meaning
  accepted = (record { version = First; net = demo_net seed size; bids = demo_bids seed size }, rw (net_accepted, bids_accepted) refl)

  module _ (made : DemoTables) (are : AreDemo seed size made) where
    net_made : made_net_files made ≡ demo_net_files seed size
    net_made i = record {
      stations = are.stations i;
      tracks = (are.tracks ∙ ap (λ (n : ℕ). records_text (track_records n)) segments_are) i;
      types = are.types i;
      running = are.running i;
      headways = (are.headways ∙ ap (λ (n : ℕ). records_text (headway_records n)) segments_are) i;
      crossings = None;
    }

    -- they are of version 1
    pub made_version : HasItsVersion (made_net_files made)
    made_version =
        let written : version_of (records_text (station_records (length (minutes_of seed size) + 1))) ≡ 1 =
        ap (λ (rows : List Record). version_of (records_text ((codes "station" ∷ []) ∷ rows))) (stations_written (range_with_len 1 (length (minutes_of seed size) + 1)))
        ∙ tables_version (demo_parts (minutes_of seed size)) (demo_proper (minutes_of seed size) fits) in
        let is : version_of made.stations.items ≡ 1 =
        ap version_of are.stations ∙ ap (λ (n : ℕ). version_of (records_text (station_records n))) (sym stations_are) ∙ written in
        sym (ap (λ (n : ℕ). nat_eq n 2) is)

    net_is : network_of (made_net_files made) ≡ Ok (demo_net seed size)
    net_is = ap network_of net_made ∙ net_accepted

    bids_are : (net : Net) → network_of (made_net_files made) ≡ Ok net → bids_of net made.bids.items made.stops.items ≡ Ok (demo_bids seed size)
    bids_are net e =
        let same : net ≡ demo_net seed size = cc (net_is, e) in
        ap (λ (n : Net). bids_of n made.bids.items made.stops.items) same
        ∙ ap (λ (text : List ℕ). bids_of (demo_net seed size) text made.stops.items) are.bids
        ∙ ap (bids_of (demo_net seed size) (demo_bids_file seed size)) are.stops ∙ bids_accepted

    -- the network that is made has no fault
    pub net_no_fault : (fault : TableFault) → network_of (made_net_files made) ≡ Err fault → ⊥
    net_no_fault fault e = let r = net_is in absurd (cc)

    -- and its bids have none
    pub bids_no_fault : (net : Net) (fault : TableFault) → network_of (made_net_files made) ≡ Ok net → bids_of net made.bids.items made.stops.items ≡ Err fault → ⊥
    bids_no_fault net fault is e = let r = bids_are net is in absurd (cc)

    -- what was read of what was made is what the tables by the rule mean
    pub demo_read : (net : Net) (bids : List tables.Parts) → network_of (made_net_files made) ≡ Ok net → bids_of net made.bids.items made.stops.items ≡ Ok bids
        → demo_meaning seed size ≡ Ok (record { version = First; net = net; bids = bids })
    unfolding demo_meaning
    demo_read net bids is read =
        let n : network_of (demo_net_files seed size) ≡ Ok net = sym (ap network_of net_made) ∙ is in
        let b : bids_of net (demo_bids_file seed size) (demo_stops_file seed size) ≡ Ok bids =
        sym (ap (λ (text : List ℕ). bids_of net text made.stops.items) are.bids ∙ ap (bids_of net (demo_bids_file seed size)) are.stops) ∙ read in
        rw (n, b) refl
