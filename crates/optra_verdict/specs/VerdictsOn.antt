-- What the bytes of a certificate are: the text of a valid one, or why not.
use Rattle.std.specs.Prelude.{◌≡◌, ℕ, ℤ, List, length, Result, Ok, Err}
use Rattle.optra_network.specs.Net.{Net}
use Rattle.optra_bid.specs.declared.bids.Bid.{Bid}
use Rattle.optra_cert.specs.CertLaws.{IsTextOf}
use Rattle.optra_cert.specs.Certs.{Cert}
use Rattle.optra_cert.specs.Faults.{IsFirstFault}
use Rattle.optra_cert.specs.declared.CertCode.{CertCode}
use Rattle.optra_cert.specs.declared.CertCode.TheVariants as faults
use Rattle.optra_cert.specs.declared.CertFault.{CertFault}
use Rattle.optra_checker.specs.Verdicts.{IsFirstReason}
use Rattle.optra_checker.specs.declared.Reason.{Reason}
use Rattle.optra_checker.specs.declared.Reason.TheVariants as reasons
use Rattle.optra_node.specs.Certificates.{IsValid}
use Rattle.optra_text.specs.declared.verdicts.VerdictView.{VerdictView}
use Rattle.optra_text.specs.declared.verdicts.VerdictView.TheVariants.{Yes, No, Unreadable}
use Rattle.optra_walk.specs.Families.{Entry}
use Rattle.optra_verdict.specs.FamilyOf.{FamilyOf}
use Rattle.optra_verdict.specs.Promises.{KeepsPromise}

-- ---- numbers of reasons and of faults, as they are printed

-- the number of a reason, 1 to 7
abbrev pub reason_number : Reason → ℕ
reason_number reasons.Walk = 1
reason_number reasons.Conflict = 2
reason_number reasons.Revenue = 3
reason_number reasons.Decision = 4
reason_number reasons.DeadLeaf = 5
reason_number reasons.Price = 6
reason_number reasons.Bound = 7

-- the number of a fault, 1 to 6
abbrev pub fault_number : CertCode → ℕ
fault_number faults.Csv = 1
fault_number faults.Version = 2
fault_number faults.Record = 3
fault_number faults.Name = 4
fault_number faults.Number = 5
fault_number faults.Order = 6

-- ---- what the bytes are

-- The bytes are this certificate's text, and it is valid.
pub record IsTextOfValid {R : Type 0} (family : FamilyOf R) (Keeps : List Entry → Type 0) (net : Net) (bids : List Bid) (bytes : List ℕ) (cert : Cert R) : Type 0 where
  pub text : IsTextOf family.cmp family.texts net (length bids) bytes cert
  pub valid : IsValid net family.rows Keeps bids cert.revenue cert.bound cert.choice cert.tree

-- The bytes are the text of a valid certificate of these bids, with this revenue and bound. So its choice is free of
-- conflict and earns the revenue, no choice that is free of conflict earns more than the bound, and where the two meet, the
-- choice is optimal: the planning promise, whoever wrote the bytes.
pub record IsConfirmed {R : Type 0} (family : FamilyOf R) (Keeps : List Entry → Type 0) (net : Net) (bids : List Bid) (bytes : List ℕ) (revenue bound : ℤ) : Type 0 where
  pub cert : Cert R
  pub reads : IsTextOfValid family Keeps net bids bytes cert
  pub revenue_is : revenue ≡ cert.revenue
  pub bound_is : bound ≡ cert.bound
  pub promise : KeepsPromise net bids cert.choice revenue bound

-- The bytes are the text of a certificate that isn't valid, and this is the first reason why.
pub record IsDenied {R : Type 0} (family : FamilyOf R) (Keeps : List Entry → Type 0) (net : Net) (bids : List Bid) (bytes : List ℕ) (number : ℕ) : Type 0 where
  pub cert : Cert R
  pub text : IsTextOf family.cmp family.texts net (length bids) bytes cert
  pub reason : Reason
  pub fails : IsFirstReason net family.rows Keeps bids cert reason
  pub number_is : number ≡ reason_number reason

-- The bytes are no certificate's text, and this is their first fault.
pub record IsUnreadable {R : Type 0} (family : FamilyOf R) (net : Net) (bids : List Bid) (bytes : List ℕ) (row number : ℕ) : Type 0 where
  pub fault : CertFault
  pub first : IsFirstFault family.cmp family.texts net (length bids) bytes fault
  pub row_is : row ≡ fault.row
  pub number_is : number ≡ fault_number fault.code

-- the bytes are no valid certificate's text, and this says why
abbrev pub IsNoneFor : {R : Type 0} → FamilyOf R → (List Entry → Type 0) → Net → List Bid → List ℕ → VerdictView → Type 0
IsNoneFor family Keeps net bids bytes (Yes revenue bound) = ⊥
IsNoneFor family Keeps net bids bytes (No reason) = IsDenied family Keeps net bids bytes reason
IsNoneFor family Keeps net bids bytes (Unreadable row fault) = IsUnreadable family net bids bytes row fault

-- the valid certificate of the bytes, or why there is none
abbrev pub IsReadValid : {R : Type 0} → FamilyOf R → (List Entry → Type 0) → Net → List Bid → List ℕ → Result (Cert R) VerdictView → Type 0
IsReadValid family Keeps net bids bytes (Ok cert) = IsTextOfValid family Keeps net bids bytes cert
IsReadValid family Keeps net bids bytes (Err why) = IsNoneFor family Keeps net bids bytes why

-- the verdict on the bytes
abbrev pub IsVerdictOn : {R : Type 0} → FamilyOf R → (List Entry → Type 0) → Net → List Bid → List ℕ → VerdictView → Type 0
IsVerdictOn family Keeps net bids bytes (Yes revenue bound) = IsConfirmed family Keeps net bids bytes revenue bound
IsVerdictOn family Keeps net bids bytes (No reason) = IsDenied family Keeps net bids bytes reason
IsVerdictOn family Keeps net bids bytes (Unreadable row fault) = IsUnreadable family net bids bytes row fault
