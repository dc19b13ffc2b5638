-- The auction command: the files that it gets after the tables of a network and its bids, what they mean, and what it replies.
use Rattle.std.specs.Prelude.{◌≡◌, ◌+◌, ℕ, List, length, map, Option, Some, Result, Ok, nat_eq, if◌then◌else◌}
use Rattle.optra_network.specs.Net.{Net}
use Rattle.optra_bid.specs.declared.bids.Bid.{Bid}
use Rattle.optra_auction.specs.declared.Rules as declared_rules
use Rattle.optra_tables.specs.Actions.{actions_of}
use Rattle.optra_tables.specs.Bids.{Parts, parts_of}
use Rattle.optra_tables.specs.Outcomes.{◌>>=◌}
use Rattle.optra_tables.specs.Rules.{rules_of}
use Rattle.optra_tables.specs.declared.Table.TheVariants.{Rules, Actions}
use Rattle.optra_tables.specs.declared.TableFault.{TableFault}
use Rattle.optra_tables.specs.declared.TimedAct.{TimedAct}
use Rattle.optra_frame.specs.declared.files.Role.TheVariants as roles
use Rattle.optra_verdict.specs.Families.{OfVersion}
use Rattle.optra_verdict.specs.FamilyOf.{FamilyOf}
use Rattle.optra_frame.specs.Files.{Contents, File}
use Rattle.optra_play.specs.Play.{IsPlayedOut}
use Rattle.optra_frame.specs.Replies.{Reply}
use Rattle.optra_frame.specs.TableFiles.{TablesReply, all_tables, meaning_of, next_table_file, table_content}
use Rattle.optra_frame.specs.declared.version.Version.{Version}
use Rattle.optra_walk.specs.Families.{Entry}

-- ---- its files

abbrev pub rules_file : List ℕ → File
rules_file rules = record { role = roles.Table Rules; name = rules }

abbrev pub actions_file : List ℕ → File
actions_file actions = record { role = roles.Table Actions; name = actions }

-- the next file after these; none once all are got
abbrev pub next_auction_file : List ℕ → List ℕ → List ℕ → List ℕ → List ℕ → Contents → Option File
next_auction_file net bids stops rules actions contents =
    if nat_eq (length contents) (length (all_tables contents)) then Some (rules_file rules)
    else if nat_eq (length contents) (length (all_tables contents) + 1) then Some (actions_file actions)
    else next_table_file net bids stops contents

-- ---- what they mean

-- the version of the tables, a network, the specifications of an auction on it, its rules and its actions
pub record AuctionTables : Type 0 where
  pub version : Version
  pub net : Net
  pub specs : List Parts
  pub rules : declared_rules.Rules
  pub actions : List TimedAct

-- what the contents of the files mean, or their first fault
unfoldable pub auction_of : Contents → Result AuctionTables TableFault
auction_of contents = do
  tables ← meaning_of contents
  rules ← rules_of (table_content contents Rules)
  actions ← actions_of (table_content contents Actions)
  Ok (record { version = tables.version; net = tables.net; specs = tables.bids; rules = rules; actions = actions })

-- ---- the reply

-- The text is that of the play of these tables, each round's choice, revenue and bound are those of the plain planner and keep the
-- planning promise for the bids that stood in it, the files of each round are put where a prefix is given, and the status tells
-- whether each bound is its revenue.
pub record PrintsPlay {R : Type 0} (family : FamilyOf R) (Keeps : List Entry → Type 0) (certs : Option (List ℕ)) (tables : AuctionTables) (status : ℕ) (text : List ℕ) (puts : List (List ℕ × List ℕ)) : Type 0 where
  pub specs : List Bid
  pub are_those : map parts_of specs ≡ tables.specs
  pub plays : IsPlayedOut family Keeps tables.net certs specs tables.rules tables.actions status text puts

-- the play by the rows of the tables' version
abbrev pub PrintsTablesPlay : Option (List ℕ) → AuctionTables → ℕ → List ℕ → List (List ℕ × List ℕ) → Type 0
PrintsTablesPlay certs tables status text puts =
    OfVersion tables.version tables.net (λ R family Keeps. PrintsPlay family Keeps certs tables status text puts)

-- the reply to the contents of the files
abbrev pub AuctionReplies : Option (List ℕ) → Contents → Reply → Type 0
AuctionReplies certs contents reply = TablesReply (PrintsTablesPlay certs) (auction_of contents) reply
