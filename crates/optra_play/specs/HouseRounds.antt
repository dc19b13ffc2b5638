-- A round of an auction house: its plan, and what is printed of it. An auction that is closed has no more rounds, and its close is
-- printed alone.
use Rattle.std.specs.Prelude.{◌≡◌, ◌⊎◌, ℕ, ℤ, List, [], ◌∷◌, ◌++◌, map, Option, true, if◌then◌else◌}
use Rattle.std.specs.declared.cmp.Ordering.{Ordering}
use Rattle.optra_network.specs.Net.{Net}
use Rattle.optra_bid.specs.Instances.{IsInstance}
use Rattle.optra_bid.specs.declared.bids.Bid.{Bid}
use Rattle.optra_walk.specs.Families.{Rows, Entry}
use Rattle.optra_auction.specs.Machine.{Offer, State, offer_of}
use Rattle.optra_records.specs.Texts.{records_text}
use Rattle.optra_rounds.specs.Rounds.{acts_after, awards_of, rows_of, values_of}
use Rattle.optra_search.specs.Planner.{Planned}
use Rattle.optra_search.specs.Plans.{IsCertifiedPlan}
use Rattle.optra_tables.specs.declared.TimedAct.{TimedAct}
use Rattle.optra_text.specs.RoundTexts.{close_records, round_records}
use Rattle.optra_frame.specs.Statuses.{optimal_status}
use Rattle.optra_verdict.specs.FamilyOf.{FamilyOf}
use Rattle.optra_play.specs.Play.{AreDifferent, IsPlayStatus, IsPlayed, Played, closed_by, last_text, paths_of, round_budget, round_of, round_steps}

-- ---- the plan of a round

-- The bids are an instance, this is their plan with a round's price steps and budget, and so many graphs were built for it.
pub record IsRoundPlan {R : Type 0} (cmp : R → R → Ordering) (net : Net) (rows : Rows R) (Keeps : List Entry → Type 0) (bids : List Bid) (plan : Planned R) (graphs : ℕ) : Type 0 where
  pub instance : IsInstance net bids
  pub is_plan : IsCertifiedPlan cmp net rows Keeps bids round_steps round_budget plan
  pub graphs_are : AreDifferent (paths_of bids) graphs

-- The values are those of the walks that the plan of bids with these offers has.
pub record AreRoundValues {R : Type 0} (cmp : R → R → Ordering) (net : Net) (rows : Rows R) (Keeps : List Entry → Type 0) (offers : List Offer) (values : List (Option ℤ)) : Type 0 where
  pub bids : List Bid
  pub offers_are : map offer_of bids ≡ offers
  pub plan : Planned R
  pub is_plan : IsCertifiedPlan cmp net rows Keeps bids round_steps round_budget plan
  pub values_are : values ≡ values_of net bids plan.choice

-- ---- what is printed

-- a text, and behind it the close with these rows of actions of later rounds, where the auction is closed
abbrev pub with_close : List ℕ → State → List ℕ → List ℕ
with_close text s late =
    if s.closed then text ++ records_text (close_records (record { round = s.round; late = late; awards = awards_of s.standing })) else text

-- A round was posted: the one that the auction was in. It is printed as in the text of the auction, with the graphs that were built
-- for it alone, and behind it the close, where the auction is closed then.
pub record PostsRound {R : Type 0} (family : FamilyOf R) (Keeps : List Entry → Type 0) (net : Net) (names : List (List ℕ)) (actions : List TimedAct) (before last : State) (status : ℕ) (text : List ℕ) : Type 0 where
  pub round : Played R
  pub is_played : IsPlayed family Keeps net actions [] before round
  pub last_is : last ≡ closed_by actions net round
  pub printed : text ≡ with_close (records_text (round_records net (round_of names actions round))) last (rows_of (acts_after last.round actions))
  pub ends : IsPlayStatus (round ∷ []) status

-- The auction was closed before, and its close is printed.
pub record PrintsClose (actions : List TimedAct) (before last : State) (status : ℕ) (text : List ℕ) : Type 0 where
  pub is_closed : before.closed ≡ true
  pub last_is : last ≡ before
  pub printed : text ≡ last_text actions before
  pub ends : status ≡ optimal_status

-- the next round of an auction, or the close of one that has none
abbrev pub GoesOn : {R : Type 0} → FamilyOf R → (List Entry → Type 0) → Net → List (List ℕ) → List TimedAct → State → State → ℕ → List ℕ → Type 0
GoesOn family Keeps net names actions before last status text =
    PostsRound family Keeps net names actions before last status text ⊎ PrintsClose actions before last status text
