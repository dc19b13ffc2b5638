-- The demo command: what it replies.
use Rattle.std.specs.Prelude.{◌≡◌, ℕ, List, [], length, map, None, Result, Ok}
use Rattle.optra_bid.specs.declared.bids.Bid.{Bid}
use Rattle.optra_demo.specs.Bids.{bid_records, stop_records}
use Rattle.optra_demo.specs.Demos as demos
use Rattle.optra_demo.specs.Demos.{minutes_of}
use Rattle.optra_demo.specs.Networks.{headway_records, running_records, segment_count, station_count, station_records, track_records, type_records}
use Rattle.optra_records.specs.Texts.{records_text}
use Rattle.optra_rows.specs.Headways.{KeepsHeadwayRule}
use Rattle.optra_search.specs.Planner.{Planned}
use Rattle.optra_network.specs.Net.{Net}
use Rattle.optra_tables.specs.Bids.{Parts, parts_of}
use Rattle.optra_tables.specs.Networks as networks
use Rattle.optra_tables.specs.Outcomes.{◌>>=◌}
use Rattle.optra_tables.specs.Stops.{bids_of}
use Rattle.optra_tables.specs.declared.TableFault.{TableFault}
use Rattle.optra_text.specs.DemoTexts.{demo_text_of}
use Rattle.optra_text.specs.declared.verdicts.VerdictView.TheVariants.{Yes}
use Rattle.optra_walk.specs.Families.{Entry}
use Rattle.optra_verdict.specs.Families.{headway_family}
use Rattle.optra_verdict.specs.FamilyOf.{FamilyOf}
use Rattle.optra_top.specs.PlanCommand.{IsStatusOf}
use Rattle.optra_play.specs.Plans.{IsPlanOf}
use Rattle.optra_frame.specs.Replies.{Reply, refused, answered}
use Rattle.optra_frame.specs.TableFiles.{Tables}
use Rattle.optra_frame.specs.declared.version.Version.TheVariants.{First}

-- ---- its tables

-- the network's tables by the rule
abbrev pub demo_net_files : ℕ → ℕ → networks.Files
demo_net_files seed size = record {
  stations = records_text (station_records (station_count size));
  tracks = records_text (track_records (segment_count size));
  types = records_text type_records;
  running = records_text (running_records (minutes_of seed size));
  headways = records_text (headway_records (segment_count size));
  crossings = None;
}

-- the table of the bids by the rule, and that of their stops
abbrev pub demo_bids_file : ℕ → ℕ → List ℕ
demo_bids_file seed size = records_text (bid_records (minutes_of seed size) (demos.bids_of seed size))

abbrev pub demo_stops_file : ℕ → ℕ → List ℕ
demo_stops_file seed size = records_text (stop_records (demos.bids_of seed size))

-- what the tables by the rule mean
unfoldable pub demo_meaning : ℕ → ℕ → Result Tables TableFault
demo_meaning seed size = do
  net ← networks.network_of (demo_net_files seed size)
  bids ← bids_of net (demo_bids_file seed size) (demo_stops_file seed size)
  Ok (record { version = First; net = net; bids = bids })

-- they are accepted
abbrev pub IsAcceptedDemo : ℕ → ℕ → Type 0
IsAcceptedDemo seed size = (tables : Tables) × (demo_meaning seed size ≡ Ok tables)

-- ---- the reply

-- The text and the status are those of the plan of these bids with 20 price steps and a budget of 5, by rows that state the
-- rule, and the plan's certificate is valid: the last record of the text is the verdict Yes with the plan's revenue and bound.
pub record PrintsDemo {R : Type 0} (family : FamilyOf R) (Keeps : List Entry → Type 0) (seed size : ℕ) (net : Net) (parts : List Parts) (status : ℕ) (text : List ℕ) (puts : List (List ℕ × List ℕ)) : Type 0 where
  pub bids : List Bid
  pub are_those : map parts_of bids ≡ parts
  pub plan : Planned R
  pub is_plan : IsPlanOf family.cmp net family.rows Keeps bids 20 5 plan
  pub printed : text ≡ demo_text_of seed size net (length bids) plan.revenue plan.bound plan.nodes (Yes plan.revenue plan.bound)
  pub ends : IsStatusOf plan.revenue plan.bound status
  pub put : puts ≡ []

-- by the rows of headways
abbrev pub PrintsHeadwayDemo : ℕ → ℕ → Tables → ℕ → List ℕ → List (List ℕ × List ℕ) → Type 0
PrintsHeadwayDemo seed size tables status text puts = PrintsDemo (headway_family tables.net) (KeepsHeadwayRule tables.net) seed size tables.net tables.bids status text puts

-- the reply: the tables by the rule are accepted, so it is never a refusal
abbrev pub DemoReplies : ℕ → ℕ → Reply → Type 0
DemoReplies seed size (refused status line) = ⊥
DemoReplies seed size (answered status text puts) = (tables : Tables) × (demo_meaning seed size ≡ Ok tables) × PrintsHeadwayDemo seed size tables status text puts
