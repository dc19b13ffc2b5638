-- What the plan command prints and puts is a function of the tables and of what is asked; by which budget a plan has no gap.
use Rattle.std.specs.Prelude.{◌≡◌, ℕ, List, map}
use Rattle.optra_network.specs.Net.{Net}
use Rattle.optra_bid.specs.declared.bids.Bid.{Bid}
use Rattle.optra_search.specs.Laws.{ArePairs}
use Rattle.optra_tables.specs.Bids.{parts_of}
use Rattle.optra_walk.specs.Families.{Entry}
use Rattle.optra_walk.specs.declared.Leg.{Leg}
use Rattle.optra_verdict.specs.Families.{OfVersion}
use Rattle.optra_verdict.specs.FamilyOf.{FamilyOf}
use Rattle.optra_top.specs.PlanCommand.{PlanAsked, PrintsPlan}
use Rattle.optra_frame.specs.TableFiles.{Tables}
use Rattle.optra_frame.specs.declared.version.Version.{Version}

-- the tables of these bids, in a version
abbrev pub tables_of : Version → Net → List Bid → Tables
tables_of version net bids = record { version = version; net = net; bids = map parts_of bids }

-- two texts that print a plan of one network and its bids by one family of rows, as it was asked for, are the same, and so are
-- their statuses and what is put
abbrev pub HasOneText : {R : Type 0} → FamilyOf R → (List Entry → Type 0) → Net → List Bid → Type 0
HasOneText family Keeps net bids =
    (asks : PlanAsked) (status status' : ℕ) (text text' : List ℕ) (puts puts' : List (List ℕ × List ℕ))
    → PrintsPlan family Keeps asks net (map parts_of bids) status text puts → PrintsPlan family Keeps asks net (map parts_of bids) status' text' puts'
    → (status ≡ status') × (text ≡ text') × (puts ≡ puts')

-- so it is by the rows of each version
abbrev pub OneText : Net → List Bid → Type 0
OneText net bids = (version : Version) → OfVersion version net (λ R family Keeps. HasOneText family Keeps net bids)

-- there is a list of the different pairs of a bid and a leg of one of its walks, whose number tells a budget that suffices
abbrev pub HasPairs : Net → List Bid → Type 0
HasPairs net bids = (pairs : List (ℕ × Leg)) × ArePairs net bids pairs
