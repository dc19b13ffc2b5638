-- The text of a plan tells the plan.
use Rattle.std.proofs.Common.{ℕ, ◌<◌, ◌^◌, ℤ, List, [], length, get_or, drop, Option, refl, ap, arith}
use Rattle.std.proofs.lemmas.Fmt.{decimal_injective, signed_decimal_injective}
use Rattle.optra_network.specs.Net.{Net, IsProper}
use Rattle.optra_bid.specs.declared.bids.Bid.{Bid}
use Rattle.optra_walk.specs.declared.Leg.{Leg}
use Rattle.optra_records.specs.Reading.{Record}
use Rattle.optra_records.specs.Texts.{AreShown}
use Rattle.optra_records.proofs.ReadBack.{same_records}
use Rattle.optra_text.specs.PlanTexts.{plan_records, plan_text_of}
use Rattle.optra_text.specs.PlanLaws.{TextTellsPlan}
use Rattle.optra_text.proofs.TrainsTold.{trains_shown, walks_told}

-- the records of a plan can be printed
plan_shown : (net : Net) (bids : List Bid) (walks : List (Option (List Leg))) (revenue bound : ℤ) (nodes : ℕ) → AreShown (plan_records net bids walks revenue bound nodes)
plan_shown net bids walks revenue bound nodes = (refl, (refl, (refl, (refl, trains_shown net 1 bids walks))))

-- the second field of a record
second : ℕ → List Record → List ℕ
second n rows = get_or (get_or rows n []) 1 []

pub text_tells : (net : Net) (bids : List Bid) → IsProper net → length bids < 2 ^ 64 → TextTellsPlan net bids
unfolding plan_text_of second
text_tells net bids proper few walks walks2 revenue revenue2 bound bound2 nodes nodes2 a b e =
    let rows = same_records (plan_records net bids walks revenue bound nodes) (plan_records net bids walks2 revenue2 bound2 nodes2)
    (plan_shown net bids walks revenue bound nodes) (plan_shown net bids walks2 revenue2 bound2 nodes2) e in (
      walks_told net proper 1 bids walks walks2 (omega arith) a.choice b.choice (ap (λ (rs : List Record). drop 4 rs) rows),
      signed_decimal_injective revenue revenue2 a.revenue_fits.sfits b.revenue_fits.sfits (ap (second 1) rows),
      signed_decimal_injective bound bound2 a.bound_fits.sfits b.bound_fits.sfits (ap (second 2) rows),
      decimal_injective nodes nodes2 a.nodes_fit b.nodes_fit (ap (second 3) rows),
    )
