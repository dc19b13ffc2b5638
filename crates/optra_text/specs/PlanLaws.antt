-- What the printed plan tells of the plan: all of it.
use Rattle.std.specs.Prelude.{◌≡◌, ℕ, ◌<◌, ◌^◌, ℤ, List, Option, FitsSigned}
use Rattle.std.specs.Int.{w64}
use Rattle.optra_network.specs.Net.{Net}
use Rattle.optra_bid.specs.declared.bids.Bid.{Bid}
use Rattle.optra_walk.specs.declared.Leg.{Leg}
use Rattle.optra_walk.specs.Choices.{IsChoice}
use Rattle.optra_text.specs.PlanTexts.{plan_text_of}

-- what a plan may state: a walk of its bid or none for each bid, amounts of 64 bits with a sign, and a count of 64 bits
pub record IsStated (net : Net) (bids : List Bid) (walks : List (Option (List Leg))) (revenue bound : ℤ) (nodes : ℕ) : Type 0 where
  pub choice : IsChoice net bids walks
  pub revenue_fits : FitsSigned w64 revenue
  pub bound_fits : FitsSigned w64 bound
  pub nodes_fit : nodes < 2 ^ 64

-- two plans with the same text are the same plan
abbrev pub TextTellsPlan : Net → List Bid → Type 0
TextTellsPlan net bids =
    (walks walks2 : List (Option (List Leg))) (revenue revenue2 bound bound2 : ℤ) (nodes nodes2 : ℕ)
    → IsStated net bids walks revenue bound nodes → IsStated net bids walks2 revenue2 bound2 nodes2
    → plan_text_of net bids walks revenue bound nodes ≡ plan_text_of net bids walks2 revenue2 bound2 nodes2
    → (walks ≡ walks2) × (revenue ≡ revenue2) × (bound ≡ bound2) × (nodes ≡ nodes2)
