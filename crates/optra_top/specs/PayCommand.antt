-- The pay command: what it replies to the contents of its files.
use Rattle.std.specs.Prelude.{◌≡◌, ◌⊎◌, ℕ, ℤ, List, [], map, All}
use Rattle.optra_network.specs.Net.{Net}
use Rattle.optra_bid.specs.Offers.{Offer, offer_of}
use Rattle.optra_bid.specs.declared.bids.Bid.{Bid}
use Rattle.optra_walk.specs.Families.{Entry}
use Rattle.optra_payment.specs.Parts.{bidders_of}
use Rattle.optra_payment.specs.Payments.{HoldsPayment, IsFoundInterval}
use Rattle.optra_payment.specs.declared.Interval.{Interval}
use Rattle.optra_search.specs.Planner.{Planned}
use Rattle.optra_search.specs.declared.Limits.{Limits}
use Rattle.optra_text.specs.PaymentTexts.{pay_text_of}
use Rattle.optra_frame.specs.Files.{Contents}
use Rattle.optra_frame.specs.Replies.{Reply}
use Rattle.optra_frame.specs.Statuses.{gap_status, optimal_status}
use Rattle.optra_frame.specs.TableFiles.{Tables, TablesReply, meaning_of}
use Rattle.optra_verdict.specs.FamilyOf.{FamilyOf}
use Rattle.optra_play.specs.Plans.{IsPlanOf}
use Rattle.optra_verdict.specs.Families.{OfVersion}
use Rattle.optra_top.specs.PaymentPlans.{IsPlanFound}

-- ---- what is printed

-- the bound is the revenue, and each low end is its high end
pub record IsExact (revenue bound : ℤ) (pays : List Interval) : Type 0 where
  pub met : revenue ≡ bound
  pub ends : All (λ pay. pay.low ≡ pay.high) pays

-- one status exactly where all of it is exact, and another where it isn't
abbrev pub IsPayStatus : ℤ → ℤ → List Interval → ℕ → Type 0
IsPayStatus revenue bound pays status =
    ((status ≡ optimal_status) × IsExact revenue bound pays) ⊎ ((status ≡ gap_status) × (IsExact revenue bound pays → ⊥))

-- ---- the reply

-- The text and the status are those of the plan of these bids and of an interval for each bidder, in first-seen order. Each is that of
-- the plan of the others' bids, with as many steps and the same budget, and holds the bidder's payment at the choice of the whole
-- plan. Nothing is put.
pub record PrintsPayments {R : Type 0} (family : FamilyOf R) (Keeps : List Entry → Type 0) (limits : Limits) (net : Net) (offers : List Offer) (status : ℕ) (text : List ℕ) (puts : List (List ℕ × List ℕ)) : Type 0 where
  pub bids : List Bid
  pub are_those : map offer_of bids ≡ offers
  pub plan : Planned R
  pub is_plan : IsPlanOf family.cmp net family.rows Keeps bids limits.steps limits.budget plan
  pub pays : List Interval
  pub bidders : map (λ pay. pay.bidder) pays ≡ bidders_of bids
  pub found : All (IsFoundInterval (λ others found. IsPlanFound family.cmp net family.rows Keeps others limits found) net bids plan.choice) pays
  pub payments : All (HoldsPayment net Keeps bids plan.choice) pays
  pub printed : text ≡ pay_text_of plan.revenue plan.bound plan.nodes pays
  pub ends : IsPayStatus plan.revenue plan.bound pays status
  pub put : puts ≡ []

-- the payments by the rows of the tables' version are printed
abbrev pub PrintsTablesPayments : Limits → Tables → ℕ → List ℕ → List (List ℕ × List ℕ) → Type 0
PrintsTablesPayments limits tables status text puts =
    OfVersion tables.version tables.net (λ R family Keeps. PrintsPayments family Keeps limits tables.net tables.bids status text puts)

-- the reply to the contents of the files
abbrev pub PayReplies : Limits → Contents → Reply → Type 0
PayReplies limits contents reply = TablesReply (PrintsTablesPayments limits) (meaning_of contents) reply
