-- A plan as a certificate.
use Rattle.optra_cert.specs.Certs.{Cert}
use Rattle.optra_search.specs.Planner.{Planned}

-- the plan as a certificate
abbrev pub certificate_of : {R : Type 0} → Planned R → Cert R
certificate_of plan = record { revenue = plan.revenue; bound = plan.bound; choice = plan.choice; tree = plan.tree }
