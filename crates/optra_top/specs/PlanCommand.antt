-- The plan command: what it replies to the contents of its files.
use Rattle.std.specs.Prelude.{◌≡◌, ◌⊎◌, ℕ, ℤ, List, [], ◌∷◌, length, map, Option, Some, None}
use Rattle.std.specs.Prelude.{◌<ℤ◌}
use Rattle.optra_network.specs.Net.{Net}
use Rattle.optra_bid.specs.declared.bids.Bid.{Bid}
use Rattle.optra_cert.specs.CertTexts.{cert_text}
use Rattle.optra_cert.specs.Certs.{Cert, IsWritable}
use Rattle.optra_cert.specs.RowTexts.{RowTexts}
use Rattle.optra_walk.specs.Families.{Entry}
use Rattle.optra_search.specs.Planner.{Planned}
use Rattle.optra_tables.specs.Bids.{Parts, parts_of}
use Rattle.optra_text.specs.PlanTexts.{plan_text_of}
use Rattle.optra_verdict.specs.Families.{OfVersion}
use Rattle.optra_verdict.specs.FamilyOf.{FamilyOf}
use Rattle.optra_frame.specs.Files.{Contents}
use Rattle.optra_play.specs.Certificates.{certificate_of}
use Rattle.optra_play.specs.Plans.{IsPlanOf}
use Rattle.optra_frame.specs.Replies.{Reply}
use Rattle.optra_frame.specs.Statuses.{optimal_status, gap_status}
use Rattle.optra_frame.specs.TableFiles.{TablesReply, Tables, meaning_of}

-- ---- what is printed

-- one status exactly where the bound is the revenue, and another where it is above
abbrev pub IsStatusOf : ℤ → ℤ → ℕ → Type 0
IsStatusOf revenue bound status =
    ((status ≡ optimal_status) × (revenue ≡ bound)) ⊎ ((status ≡ gap_status) × (revenue <ℤ bound))

-- ---- what is put

-- the certificate's text under the name, where one is given, in the version of the family's texts
abbrev pub certificate_puts : {R : Type 0} → RowTexts R → Net → Option (List ℕ) → Cert R → List (List ℕ × List ℕ)
certificate_puts texts net None cert = []
certificate_puts texts net (Some name) cert = (name, cert_text texts net texts.version cert) ∷ []

-- ---- the reply

-- what is asked of the plan: the price steps, the budget, and the name of the certificate, if it is to be put
pub record PlanAsked : Type 0 where
  pub steps : ℕ
  pub budget : ℕ
  pub cert : Option (List ℕ)

-- The text, the status and what is put are those of the plan of these bids, by rows that state the rule. There is one
-- such plan, so all of this is a function of the tables and of what is asked. The plan is a valid certificate that can
-- be written.
pub record PrintsPlan {R : Type 0} (family : FamilyOf R) (Keeps : List Entry → Type 0) (asks : PlanAsked) (net : Net) (parts : List Parts) (status : ℕ) (text : List ℕ) (puts : List (List ℕ × List ℕ)) : Type 0 where
  pub bids : List Bid
  pub are_those : map parts_of bids ≡ parts
  pub plan : Planned R
  pub is_plan : IsPlanOf family.cmp net family.rows Keeps bids asks.steps asks.budget plan
  pub printed : text ≡ plan_text_of net bids plan.choice plan.revenue plan.bound plan.nodes
  pub ends : IsStatusOf plan.revenue plan.bound status
  pub writable : IsWritable family.cmp family.texts net (length bids) family.texts.version (certificate_of plan)
  pub put : puts ≡ certificate_puts family.texts net asks.cert (certificate_of plan)

-- the plan by the rows of the tables' version is printed and put
abbrev pub PrintsTablesPlan : PlanAsked → Tables → ℕ → List ℕ → List (List ℕ × List ℕ) → Type 0
PrintsTablesPlan asks tables status text puts =
    OfVersion tables.version tables.net (λ R family Keeps. PrintsPlan family Keeps asks tables.net tables.bids status text puts)

-- the reply to the contents of the files
abbrev pub PlanReplies : PlanAsked → Contents → Reply → Type 0
PlanReplies asks contents reply = TablesReply (PrintsTablesPlan asks) (meaning_of contents) reply
