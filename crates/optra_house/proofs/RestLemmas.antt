-- What a journal is that rests, and what each moment of a post leaves of it.
use Rattle.std.proofs.Common.{◌≡◌, ◌<◌, length, ap, arith, length-append, inl, inr, ⊎_elim, List, ℕ, [], ◌∷◌, ◌++◌, Some, sym, subst}
use Rattle.optra_outside.specs.Disk.{File, Moment}
use Rattle.optra_bid.specs.declared.bids.Bid.{Bid}
use Rattle.optra_auction.specs.Machine.{State}
use Rattle.optra_auction.specs.declared.Rules.{Rules}
use Rattle.optra_house.specs.Entries.{IsLaidOut, entries}
use Rattle.optra_house.specs.Journal.{HasBeforeOrAfter, HasEntries, IsSettled}
use Rattle.optra_house.specs.Ledger.{IsAtRest, Ledger, OpensAsEither}
use Rattle.optra_outside.specs.Moments.{LeavesOnly}
use Rattle.optra_house.specs.Replay.{after_payload, opens_as}
use Rattle.optra_house.proofs.EntryLemmas.{reads_back}
use Rattle.optra_outside.proofs.Moments.{started, wider}
use Rattle.optra_house.proofs.PostLemmas.{after_one_more, opens_with}
use Rattle.optra_house.proofs.Torn.{stays}

module _ (stamp : List ℕ) (specs : List Bid) (rules : Rules) (house : Ledger) (moment : Moment) (rest : IsAtRest stamp specs rules house moment) where
  -- it opens as the house's auction
  pub rest_opens : opens_as stamp specs rules moment.bytes ≡ Some house.auction
  rest_opens = opens_with stamp specs rules rest.rounds house.auction moment.bytes rest.state (reads_back (stamp ∷ rest.rounds) moment.bytes rest.settled.laid_out)

  -- its last gate is within the file
  pub rest_inside : house.gate < length moment.bytes
  rest_inside = omega (arith, rest.settled.stands, ap length rest.settled.laid_out.is, length-append (entries (stamp ∷ rest.rounds)) (rest.settled.laid_out.gate ∷ rest.settled.laid_out.behind))

module _ (stamp : List ℕ) (specs : List Bid) (rules : Rules) (house : Ledger) (old : File) (rest : IsAtRest stamp specs rules house old.now) where
  -- before the round is appended a crash leaves the auction before it
  pub rest_leaves : (IsAfter : State → Type 0) → LeavesOnly old old (OpensAsEither stamp specs rules house.auction IsAfter)
  rest_leaves IsAfter = started old (OpensAsEither stamp specs rules house.auction IsAfter) (λ image left.
      inl (opens_with stamp specs rules rest.rounds house.auction image rest.state
      (reads_back (stamp ∷ rest.rounds) image (subst (IsLaidOut (stamp ∷ rest.rounds)) (sym (stays old.now image rest.settled.synced left)) rest.settled.laid_out))))

  module _ (payload : List ℕ) (next : State) (goes : after_payload (Some house.auction) payload ≡ Some next) where
    -- a file with the rounds and this one
    pub opens_after : (image : List ℕ) → HasEntries ((stamp ∷ rest.rounds) ++ payload ∷ []) image → opens_as stamp specs rules image ≡ Some next
    opens_after image has = opens_with stamp specs rules (rest.rounds ++ payload ∷ []) next image (after_one_more _ house.auction next rest.rounds payload rest.state goes) has

    -- while it is appended a crash leaves the auction before it or after it
    pub append_leaves : (IsAfter : State → Type 0) → IsAfter next → (new : File) → LeavesOnly old new (HasBeforeOrAfter (stamp ∷ rest.rounds) payload) → LeavesOnly old new (OpensAsEither stamp specs rules house.auction IsAfter)
    append_leaves IsAfter is_after new run = wider old new (HasBeforeOrAfter (stamp ∷ rest.rounds) payload) (OpensAsEither stamp specs rules house.auction IsAfter) run (λ image either.
        ⊎_elim (λ before. inl (opens_with stamp specs rules rest.rounds house.auction image rest.state before)) (λ after. inr (next, is_after, opens_after image after)) either)

    -- and the journal rests again
    pub rests_again : (place : ℕ) (moment : Moment) → IsSettled ((stamp ∷ rest.rounds) ++ payload ∷ []) place moment → IsAtRest stamp specs rules (record { auction = next; gate = place }) moment
    rests_again place moment settled = record { rounds = rest.rounds ++ payload ∷ []; settled = settled; state = after_one_more _ house.auction next rest.rounds payload rest.state goes }
