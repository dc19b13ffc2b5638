-- What the auction command prints and puts is a function of the tables and of the prefix.
use Rattle.std.specs.Prelude.{◌≡◌, ℕ, List, Option}
use Rattle.optra_top.specs.AuctionCommand.{AuctionTables, PrintsTablesPlay}

-- two texts that print a play of these tables are the same, and so are their statuses and what is put
abbrev pub OneTablesPlay : Type 0
OneTablesPlay =
    (certs : Option (List ℕ)) (tables : AuctionTables) (status status' : ℕ) (text text' : List ℕ) (puts puts' : List (List ℕ × List ℕ))
    → PrintsTablesPlay certs tables status text puts → PrintsTablesPlay certs tables status' text' puts' → (status ≡ status') × (text ≡ text') × (puts ≡ puts')
