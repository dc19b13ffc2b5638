-- The law of the verdict.
use Rattle.std.specs.Prelude.{◌≡◌, List}
use Rattle.optra_network.specs.Net.{Net}
use Rattle.optra_bid.specs.declared.bids.Bid.{Bid}
use Rattle.optra_walk.specs.Families.{Rows, Entry}
use Rattle.optra_cert.specs.Certs.{Cert}
use Rattle.optra_checker.specs.Verdicts.{IsVerdict}
use Rattle.optra_checker.specs.declared.Verdict.{Verdict}

-- a certificate has at most one verdict
abbrev pub OneVerdict : {R : Type 0} → Net → Rows R → (List Entry → Type 0) → List Bid → Type 0
OneVerdict {R} net rows Keeps bids =
    (cert : Cert R) (a b : Verdict) → IsVerdict net rows Keeps bids cert a → IsVerdict net rows Keeps bids cert b → a ≡ b
