-- The tables of an auction, as they were read.
use Rattle.std.specs.Prelude.{◌≡◌, map, Result, Ok, Vec}
use Rattle.std.specs.declared.alloc.Global.{Global}
use Rattle.optra_auction.specs.declared.Rules.{Rules}
use Rattle.optra_tables.specs.Bids.{parts_of}
use Rattle.optra_tables.specs.Outcomes.{Gives}
use Rattle.optra_tables.specs.declared.ReadError.{ReadError}
use Rattle.optra_tables.specs.declared.TimedAct.{TimedAct}
use Rattle.optra_top.specs.AuctionCommand as meaning
use Rattle.optra_frame.specs.Files.{Contents}
use Rattle.optra_frame.specs.TableFiles.{Tables, meaning_of}
use Rattle.optra_top.specs.declared.auction_command.AuctionTables.{AuctionTables}

-- the version, the network, the specifications, the rules and the actions that were read
abbrev pub auction_seen : AuctionTables → meaning.AuctionTables
auction_seen tables = record {
  version = tables.version;
  net = tables.net;
  specs = map parts_of tables.specs.items;
  rules = tables.rules;
  actions = tables.actions.items;
}

-- the rules and the actions of an auction, as they are read
abbrev pub Course : Type 0
Course = Rules × Vec TimedAct Global

-- a network and its bids with the rules and the actions that were read
abbrev pub auction_with : Tables → Course → meaning.AuctionTables
auction_with tables course = record {
  version = tables.version;
  net = tables.net;
  specs = tables.bids;
  rules = course.0;
  actions = course.1.items;
}

-- Beside a network and bids that have no fault, the rules and the actions complete what the files mean, or their first fault is
-- that of the files.
abbrev pub GivesCourse : Contents → Result Course ReadError → Type 0
GivesCourse contents result = (tables : Tables) → meaning_of contents ≡ Ok tables → Gives (auction_with tables) result (meaning.auction_of contents)
