-- A journal that is refused has no other reply.
use Rattle.std.proofs.Common.{◌≡◌, ◌∙◌, ℕ, List, Option, Some, None, Result, Ok, Err, refl, sym, ap, subst, map, true}
use Rattle.optra_outside.specs.Disk.{DiskState}
use Rattle.optra_network.specs.Net.{Net}
use Rattle.optra_bid.specs.declared.bids.Bid.{Bid}
use Rattle.optra_walk.specs.Families.{Entry}
use Rattle.optra_house.specs.Stamps.{Stamp}
use Rattle.optra_tables.specs.Bids.{parts_of}
use Rattle.optra_tables.specs.declared.TableFault.{TableFault}
use Rattle.optra_text.specs.FaultLines.{journal_line}
use Rattle.optra_frame.specs.Replies.{Reply, refused, answered}
use Rattle.optra_frame.specs.Statuses.{journal_status}
use Rattle.optra_verdict.specs.FamilyOf.{FamilyOf}
use Rattle.optra_verdict.proofs.BidLemmas.{bids-from_offers}
use Rattle.optra_verdict.proofs.FamilyLemmas.{of_version-then}
use Rattle.optra_top.specs.AuctionCommand.{AuctionTables}
use Rattle.optra_top.specs.HouseCommand.{HouseAsked, JournalReplies, PrintsHouse, RepliesOver, asked_over, journal_refusal}

two_codes : (o : Option (List ℕ)) (a b : List ℕ) → o ≡ Some a → o ≡ Some b → a ≡ b
two_codes o a b is also = let same : Some a ≡ Some b = sym is ∙ also in cc

not_refused : (o : Option (List ℕ)) (a : List ℕ) → o ≡ Some a → o ≡ None → ⊥
not_refused o a is none = let same : Some a ≡ None = sym is ∙ none in cc

pub house-refused-alone : (name : List ℕ) (stamp : Stamp) (read : Result AuctionTables TableFault) (before now now' : DiskState) (status : ℕ) (line : List ℕ) (reply : Reply)
    → (status ≡ journal_status → before.tells ≡ true) → RepliesOver name stamp read before now (refused status line) → RepliesOver name stamp read before now' reply → reply ≡ refused status line
house-refused-alone name stamp (Err fault) before now now' status line reply told refuses replies = replies ∙ sym refuses
house-refused-alone name stamp (Ok tables) before now now' status line reply told refuses replies = by reply replies.2
  where
    tells : before.tells ≡ true
    tells = told refuses.2.status_is

    -- the specifications are the same
    asked : HouseAsked
    asked = asked_over name stamp tables refuses.0

    same : asked_over name stamp tables replies.0 ≡ asked
    same = ap (asked_over name stamp tables) (bids-from_offers replies.0 refuses.0 (replies.1 ∙ sym refuses.1))

    by : (reply : Reply) → JournalReplies tables.version tables.net (asked_over name stamp tables replies.0) before now' reply → reply ≡ refused status line
    by (refused other said) again =
        let due : journal_refusal asked before.file.now.bytes ≡ Some again.code = ap (λ (a : HouseAsked). journal_refusal a before.file.now.bytes) (sym same) ∙ again.due tells in
        let codes_are = two_codes _ again.code refuses.2.code due (refuses.2.due tells) in
        let status_is = again.status_is ∙ sym refuses.2.status_is in
        let line_is = again.line_is ∙ ap journal_line codes_are ∙ sym refuses.2.line_is in
        λ i. refused (status_is i) (line_is i)
    by (answered other text puts) again =
        absurd (of_version-then (λ R family Keeps. PrintsHouse family Keeps tables.net (asked_over name stamp tables replies.0) before now' other text puts) ⊥ tables.version tables.net
        (λ R family Keeps p. not_refused _ refuses.2.code (refuses.2.due tells) (ap (λ (a : HouseAsked). journal_refusal a before.file.now.bytes) (sym same) ∙ p.accepted tells)) again)
