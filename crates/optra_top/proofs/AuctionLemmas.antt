-- There is one text of an auction, since there is one play.
use Rattle.std.proofs.Common.{◌≡◌, ℕ, List, Option, sym, ◌∙◌, subst}
use Rattle.optra_bid.specs.declared.bids.Bid.{Bid}
use Rattle.optra_walk.specs.Families.{Entry}
use Rattle.optra_verdict.specs.FamilyOf.{FamilyOf}
use Rattle.optra_play.specs.Play.{IsPlayedOut}
use Rattle.optra_verdict.proofs.BidLemmas.{bids-from_offers}
use Rattle.optra_play.proofs.OnePlayLemmas.{one_played_out}
use Rattle.optra_frame.specs.declared.version.Version.{Version}
use Rattle.optra_frame.specs.declared.version.Version.TheVariants as versions
use Rattle.optra_top.specs.AuctionCommand.{AuctionTables, PrintsPlay}
use Rattle.optra_top.specs.AuctionLaws.{OneTablesPlay}
use Rattle.optra_verdict.specs.Families.{KeepsAllRules, OfVersion, all_family, headway_family}
use Rattle.optra_rows.specs.Headways.{KeepsHeadwayRule}

module _ {R : Type 0} (family : FamilyOf R) (Keeps : List Entry → Type 0) (certs : Option (List ℕ)) (tables : AuctionTables) where
  one_printed : (status status' : ℕ) (text text' : List ℕ) (puts puts' : List (List ℕ × List ℕ)) → PrintsPlay family Keeps certs tables status text puts → PrintsPlay family Keeps certs tables status' text' puts'
      → (status ≡ status') × (text ≡ text') × (puts ≡ puts')
  one_printed status status' text text' puts puts' a b =
      let specs = bids-from_offers b.specs a.specs (b.are_those ∙ sym a.are_those) in
      let plays = subst (λ (xs : List Bid). IsPlayedOut family Keeps tables.net certs xs tables.rules tables.actions status' text' puts') specs b.plays in
      one_played_out family Keeps tables.net tables.actions certs a.specs tables.rules status status' text text' puts puts' a.plays plays

pub one_tables_play : OneTablesPlay
one_tables_play certs tables status status' text text' puts puts' = by tables.version
  where
    by : (version : Version) → OfVersion version tables.net (λ R family Keeps. PrintsPlay family Keeps certs tables status text puts) → OfVersion version tables.net (λ R family Keeps. PrintsPlay family Keeps certs tables status' text' puts')
        → (status ≡ status') × (text ≡ text') × (puts ≡ puts')
    by versions.First a b = one_printed (headway_family tables.net) (KeepsHeadwayRule tables.net) certs tables status status' text text' puts puts' a b
    by versions.Second a b = one_printed (all_family tables.net) (KeepsAllRules tables.net) certs tables status status' text text' puts puts' a b
