-- What the plan command puts, the check command confirms.
use Rattle.std.specs.Prelude.{◌≡◌, ℕ, List, [], ◌∷◌, map}
use Rattle.optra_network.specs.Net.{Net}
use Rattle.optra_bid.specs.declared.bids.Bid.{Bid}
use Rattle.optra_tables.specs.Bids.{parts_of}
use Rattle.optra_text.specs.VerdictTexts.{verdict_text_of}
use Rattle.optra_text.specs.declared.verdicts.VerdictView.TheVariants.{Yes}
use Rattle.optra_walk.specs.Families.{Entry}
use Rattle.optra_verdict.specs.CheckCommand.{PrintsVerdict}
use Rattle.optra_verdict.specs.Families.{OfVersion}
use Rattle.optra_verdict.specs.FamilyOf.{FamilyOf}
use Rattle.optra_top.specs.PlanCommand.{PlanAsked, PrintsPlan}
use Rattle.optra_frame.specs.Statuses.{valid_status}
use Rattle.optra_frame.specs.declared.version.Version.{Version}

-- where a plan of a network and its bids was printed by a family of rows, and the certificate put, the verdict on what was put is
-- Yes, with the plan's revenue and bound
abbrev pub ConfirmsBy : {R : Type 0} → FamilyOf R → (List Entry → Type 0) → Net → List Bid → Type 0
ConfirmsBy family Keeps net bids =
    (asks : PlanAsked) (name bytes : List ℕ) (status status' : ℕ) (text text' : List ℕ) (puts : List (List ℕ × List ℕ))
    → (printed : PrintsPlan family Keeps asks net (map parts_of bids) status text ((name, bytes) ∷ []))
    → PrintsVerdict family Keeps bytes net (map parts_of bids) status' text' puts
    → (status' ≡ valid_status) × (text' ≡ verdict_text_of (Yes printed.plan.revenue printed.plan.bound))

-- so it is by the rows of each version
abbrev pub ConfirmsPlan : Net → List Bid → Type 0
ConfirmsPlan net bids = (version : Version) → OfVersion version net (λ R family Keeps. ConfirmsBy family Keeps net bids)
