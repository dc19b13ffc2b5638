-- The play of an auction is one, and so is what is printed and put of it.
use Rattle.std.specs.Prelude.{◌≡◌, ℕ, List, Option}
use Rattle.optra_network.specs.Net.{Net}
use Rattle.optra_bid.specs.declared.bids.Bid.{Bid}
use Rattle.optra_walk.specs.Families.{Entry}
use Rattle.optra_auction.specs.Machine.{State}
use Rattle.optra_auction.specs.declared.Rules.{Rules}
use Rattle.optra_tables.specs.declared.TimedAct.{TimedAct}
use Rattle.optra_verdict.specs.FamilyOf.{FamilyOf}
use Rattle.optra_play.specs.Play.{IsPlay, IsPlayedOut, Played}

-- two plays of these specifications, rules and actions have the same rounds, and end in the same state
abbrev pub OnePlay : {R : Type 0} → FamilyOf R → (List Entry → Type 0) → Net → List Bid → Rules → List TimedAct → Type 0
OnePlay {R} family Keeps net specs rules actions =
    (rounds rounds' : List (Played R)) (last last' : State) → IsPlay family Keeps net specs rules actions rounds last → IsPlay family Keeps net specs rules actions rounds' last'
    → (rounds ≡ rounds') × (last ≡ last')

-- two texts that a play of these is printed as are the same, and so are their statuses and what is put
abbrev pub OnePlayedOut : {R : Type 0} → FamilyOf R → (List Entry → Type 0) → Net → Option (List ℕ) → List Bid → Rules → List TimedAct → Type 0
OnePlayedOut family Keeps net certs specs rules actions =
    (status status' : ℕ) (text text' : List ℕ) (puts puts' : List (List ℕ × List ℕ)) → IsPlayedOut family Keeps net certs specs rules actions status text puts
    → IsPlayedOut family Keeps net certs specs rules actions status' text' puts' → (status ≡ status') × (text ≡ text') × (puts ≡ puts')
