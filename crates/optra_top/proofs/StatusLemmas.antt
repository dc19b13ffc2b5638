-- The statuses of commands that did their work.
use Rattle.std.proofs.Common.{◌≡◌, ◌⊎◌, inl, inr, ℕ, ℤ, List}
use Rattle.optra_frame.specs.Statuses.{gap_status, optimal_status}
use Rattle.optra_frame.specs.TableFiles.{Tables}
use Rattle.optra_play.specs.Play.{IsPlayStatus, Played}
use Rattle.optra_top.specs.PayCommand.{IsPayStatus, PrintsPayments, PrintsTablesPayments}
use Rattle.optra_payment.specs.declared.Interval.{Interval}
use Rattle.optra_search.specs.declared.Limits.{Limits}
use Rattle.optra_top.specs.PlanCommand.{IsStatusOf, PlanAsked, PrintsPlan, PrintsTablesPlan}
use Rattle.optra_verdict.proofs.FamilyLemmas.{of_version-then}

pub status-of_plan : (revenue bound : ℤ) (status : ℕ) → IsStatusOf revenue bound status → (status ≡ optimal_status) ⊎ (status ≡ gap_status)
status-of_plan revenue bound status (inl met) = inl met.0
status-of_plan revenue bound status (inr above) = inr above.0

pub status-of_play : {R : Type 0} (rounds : List (Played R)) (status : ℕ) → IsPlayStatus rounds status → (status ≡ optimal_status) ⊎ (status ≡ gap_status)
status-of_play rounds status (inl met) = inl met.0
status-of_play rounds status (inr above) = inr above.0

pub status-printed : (asks : PlanAsked) (tables : Tables) (status : ℕ) (text : List ℕ) (puts : List (List ℕ × List ℕ)) → PrintsTablesPlan asks tables status text puts → (status ≡ optimal_status) ⊎ (status ≡ gap_status)
status-printed asks tables status text puts says =
    of_version-then (λ R family Keeps. PrintsPlan family Keeps asks tables.net tables.bids status text puts) ((status ≡ optimal_status) ⊎ (status ≡ gap_status)) tables.version tables.net
    (λ R family Keeps p. status-of_plan p.plan.revenue p.plan.bound status p.ends) says

pub status-of_payments : (revenue bound : ℤ) (pays : List Interval) (status : ℕ) → IsPayStatus revenue bound pays status → (status ≡ optimal_status) ⊎ (status ≡ gap_status)
status-of_payments revenue bound pays status (inl exact) = inl exact.0
status-of_payments revenue bound pays status (inr apart) = inr apart.0

pub status-paid : (limits : Limits) (tables : Tables) (status : ℕ) (text : List ℕ) (puts : List (List ℕ × List ℕ)) → PrintsTablesPayments limits tables status text puts → (status ≡ optimal_status) ⊎ (status ≡ gap_status)
status-paid limits tables status text puts says =
    of_version-then (λ R family Keeps. PrintsPayments family Keeps limits tables.net tables.bids status text puts) ((status ≡ optimal_status) ⊎ (status ≡ gap_status)) tables.version tables.net
    (λ R family Keeps p. status-of_payments p.plan.revenue p.plan.bound p.pays status p.ends) says
