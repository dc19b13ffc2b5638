-- What the check command prints is a function of the bytes and of the tables.
use Rattle.std.specs.Prelude.{◌≡◌, ℕ, List, map}
use Rattle.optra_network.specs.Net.{Net}
use Rattle.optra_bid.specs.declared.bids.Bid.{Bid}
use Rattle.optra_tables.specs.Bids.{parts_of}
use Rattle.optra_walk.specs.Families.{Entry}
use Rattle.optra_verdict.specs.CheckCommand.{PrintsVerdict}
use Rattle.optra_verdict.specs.Families.{OfVersion}
use Rattle.optra_verdict.specs.FamilyOf.{FamilyOf}
use Rattle.optra_frame.specs.declared.version.Version.{Version}

-- two texts that print the verdict on the same bytes, of one network and its bids by one family of rows, are the same, and so are
-- their statuses and what is put
abbrev pub HasOneVerdict : {R : Type 0} → FamilyOf R → (List Entry → Type 0) → Net → List Bid → Type 0
HasOneVerdict family Keeps net bids =
    (bytes : List ℕ) (status status' : ℕ) (text text' : List ℕ) (puts puts' : List (List ℕ × List ℕ))
    → PrintsVerdict family Keeps bytes net (map parts_of bids) status text puts → PrintsVerdict family Keeps bytes net (map parts_of bids) status' text' puts'
    → (status ≡ status') × (text ≡ text') × (puts ≡ puts')

-- so it is by the rows of each version
abbrev pub OneVerdict : Net → List Bid → Type 0
OneVerdict net bids = (version : Version) → OfVersion version net (λ R family Keeps. HasOneVerdict family Keeps net bids)
