-- What the tables of an auction mean: the first fault of a network and its bids, of the rules, or of the actions is theirs.
use Rattle.std.proofs.Common.{◌≡◌, List, Ok, refl}
use Rattle.optra_auction.specs.declared.Rules as declared_rules
use Rattle.optra_tables.specs.Actions.{actions_of}
use Rattle.optra_tables.specs.Outcomes.{Fails}
use Rattle.optra_tables.specs.Rules.{rules_of}
use Rattle.optra_tables.specs.declared.ReadError.{ReadError}
use Rattle.optra_tables.specs.declared.ReadError.TheVariants as unread
use Rattle.optra_tables.specs.declared.Table.TheVariants.{Rules, Actions}
use Rattle.optra_tables.specs.declared.TimedAct.{TimedAct}
use Rattle.optra_top.specs.AuctionCommand.{auction_of}
use Rattle.optra_frame.specs.Files.{Contents}
use Rattle.optra_frame.specs.TableFiles.{Tables, meaning_of, table_content}

-- a fault of the network or its bids
pub Fails-tables : (contents : Contents) (error : ReadError) → Fails error (meaning_of contents) → Fails error (auction_of contents)
unfolding auction_of
Fails-tables contents (unread.Fault first) fails = rw fails refl
Fails-tables contents unread.NoMemory fails = tt

-- where these have none, a fault of the rules
pub Fails-rules : (contents : Contents) (tables : Tables) (error : ReadError) → meaning_of contents ≡ Ok tables → Fails error (rules_of (table_content contents Rules)) → Fails error (auction_of contents)
unfolding auction_of
Fails-rules contents tables (unread.Fault first) is fails = rw (is, fails) refl
Fails-rules contents tables unread.NoMemory is fails = tt

-- where these have none either, a fault of the actions
pub Fails-actions : (contents : Contents) (tables : Tables) (rules : declared_rules.Rules) (error : ReadError) → meaning_of contents ≡ Ok tables → rules_of (table_content contents Rules) ≡ Ok rules → Fails error (actions_of (table_content contents Actions)) → Fails error (auction_of contents)
unfolding auction_of
Fails-actions contents tables rules (unread.Fault first) is read fails = rw (is, read, fails) refl
Fails-actions contents tables rules unread.NoMemory is read fails = tt

-- tables without a fault
pub auction-read : (contents : Contents) (tables : Tables) (rules : declared_rules.Rules) (actions : List TimedAct) → meaning_of contents ≡ Ok tables → rules_of (table_content contents Rules) ≡ Ok rules → actions_of (table_content contents Actions) ≡ Ok actions
    → auction_of contents ≡ Ok (record { version = tables.version; net = tables.net; specs = tables.bids; rules = rules; actions = actions })
unfolding auction_of
auction-read contents tables rules actions is read told = rw (is, read, told) refl
