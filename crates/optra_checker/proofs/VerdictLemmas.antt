-- Yes comes exactly where the certificate is valid; and a certificate has one verdict.
use Rattle.std.proofs.Common.{◌≡◌, ◌↔◌, ◌∙◌, List, refl, sym, ap}
use Rattle.std.specs.Prelude.{ℤ}
use Rattle.optra_network.specs.Net.{Net}
use Rattle.optra_bid.specs.declared.bids.Bid.{Bid}
use Rattle.optra_walk.specs.Families.{Rows, Entry}
use Rattle.optra_node.specs.Certificates.{IsValid}
use Rattle.optra_cert.specs.Certs.{Cert}
use Rattle.optra_checker.specs.VerdictLaws.{OneVerdict}
use Rattle.optra_checker.specs.Verdicts.{IsFirstReason, IsVerdict}
use Rattle.optra_checker.specs.declared.Reason.{Reason}
use Rattle.optra_checker.specs.declared.Reason.TheVariants.{Walk, Conflict, Revenue, Decision, DeadLeaf, Price, Bound}
use Rattle.optra_checker.specs.declared.Verdict.{Verdict}
use Rattle.optra_checker.specs.declared.Verdict.TheVariants.{Yes, No}

module _ {R : Type 0} (net : Net) (rows : Rows R) (Keeps : List Entry → Type 0) (bids : List Bid) (cert : Cert R) where
  -- no reason comes of a valid certificate
  pub no_reason : (reason : Reason) → IsFirstReason net rows Keeps bids cert reason → IsValid net rows Keeps bids cert.revenue cert.bound cert.choice cert.tree → ⊥
  no_reason Walk is valid = is valid.walks
  no_reason Conflict is valid = is.1 valid.rule
  no_reason Revenue is valid = is.2 valid.revenue_is
  no_reason Decision is valid = is.1 valid.splits
  no_reason DeadLeaf is valid = is.2 valid.dead
  no_reason Price is valid = is.3 valid.prices
  no_reason Bound is valid = is.4 valid.bound_is

  pub yes_is_valid : (verdict : Verdict) → IsVerdict net rows Keeps bids cert verdict → (verdict ≡ Yes cert.revenue cert.bound) ↔ IsValid net rows Keeps bids cert.revenue cert.bound cert.choice cert.tree
  yes_is_valid (Yes revenue bound) is = ((λ _. is.0), (λ _ i. Yes (is.1 i) (is.2 i)))
  yes_is_valid (No reason) is = ((λ e. absurd (clash e)), (λ valid. absurd (no_reason reason is valid)))
    where
      clash : {r b : ℤ} → No reason ≡ Yes r b → ⊥
      clash e = cc

  -- two reasons that are the first are one: an earlier one fails what a later one keeps
  one_reason : (a b : Reason) → IsFirstReason net rows Keeps bids cert a → IsFirstReason net rows Keeps bids cert b → a ≡ b
  one_reason Walk Walk x y = refl
  one_reason Walk Conflict x y = absurd (x y.0)
  one_reason Walk Revenue x y = absurd (x y.0)
  one_reason Walk Decision x y = absurd (x y.0.walks)
  one_reason Walk DeadLeaf x y = absurd (x y.0.walks)
  one_reason Walk Price x y = absurd (x y.0.walks)
  one_reason Walk Bound x y = absurd (x y.0.walks)
  one_reason Conflict Walk x y = absurd (y x.0)
  one_reason Conflict Conflict x y = refl
  one_reason Conflict Revenue x y = absurd (x.1 y.1)
  one_reason Conflict Decision x y = absurd (x.1 y.0.rule)
  one_reason Conflict DeadLeaf x y = absurd (x.1 y.0.rule)
  one_reason Conflict Price x y = absurd (x.1 y.0.rule)
  one_reason Conflict Bound x y = absurd (x.1 y.0.rule)
  one_reason Revenue Walk x y = absurd (y x.0)
  one_reason Revenue Conflict x y = absurd (y.1 x.1)
  one_reason Revenue Revenue x y = refl
  one_reason Revenue Decision x y = absurd (x.2 y.0.revenue_is)
  one_reason Revenue DeadLeaf x y = absurd (x.2 y.0.revenue_is)
  one_reason Revenue Price x y = absurd (x.2 y.0.revenue_is)
  one_reason Revenue Bound x y = absurd (x.2 y.0.revenue_is)
  one_reason Decision Walk x y = absurd (y x.0.walks)
  one_reason Decision Conflict x y = absurd (y.1 x.0.rule)
  one_reason Decision Revenue x y = absurd (y.2 x.0.revenue_is)
  one_reason Decision Decision x y = refl
  one_reason Decision DeadLeaf x y = absurd (x.1 y.1)
  one_reason Decision Price x y = absurd (x.1 y.1)
  one_reason Decision Bound x y = absurd (x.1 y.1)
  one_reason DeadLeaf Walk x y = absurd (y x.0.walks)
  one_reason DeadLeaf Conflict x y = absurd (y.1 x.0.rule)
  one_reason DeadLeaf Revenue x y = absurd (y.2 x.0.revenue_is)
  one_reason DeadLeaf Decision x y = absurd (y.1 x.1)
  one_reason DeadLeaf DeadLeaf x y = refl
  one_reason DeadLeaf Price x y = absurd (x.2 y.2)
  one_reason DeadLeaf Bound x y = absurd (x.2 y.2)
  one_reason Price Walk x y = absurd (y x.0.walks)
  one_reason Price Conflict x y = absurd (y.1 x.0.rule)
  one_reason Price Revenue x y = absurd (y.2 x.0.revenue_is)
  one_reason Price Decision x y = absurd (y.1 x.1)
  one_reason Price DeadLeaf x y = absurd (y.2 x.2)
  one_reason Price Price x y = refl
  one_reason Price Bound x y = absurd (x.3 y.3)
  one_reason Bound Walk x y = absurd (y x.0.walks)
  one_reason Bound Conflict x y = absurd (y.1 x.0.rule)
  one_reason Bound Revenue x y = absurd (y.2 x.0.revenue_is)
  one_reason Bound Decision x y = absurd (y.1 x.1)
  one_reason Bound DeadLeaf x y = absurd (y.2 x.2)
  one_reason Bound Price x y = absurd (y.3 x.3)
  one_reason Bound Bound x y = refl

  same_verdict : (a b : Verdict) → IsVerdict net rows Keeps bids cert a → IsVerdict net rows Keeps bids cert b → a ≡ b
  same_verdict (Yes r b) (Yes s d) x y = λ i. Yes ((x.1 ∙ sym y.1) i) ((x.2 ∙ sym y.2) i)
  same_verdict (Yes r b) (No reason) x y = absurd (no_reason reason y x.0)
  same_verdict (No reason) (Yes r b) x y = absurd (no_reason reason x y.0)
  same_verdict (No first) (No second) x y = ap No (one_reason first second x y)

-- A certificate has at most one verdict.
pub one_verdict : {R : Type 0} (net : Net) (rows : Rows R) (Keeps : List Entry → Type 0) (bids : List Bid) → OneVerdict net rows Keeps bids
one_verdict net rows Keeps bids = same_verdict net rows Keeps bids
