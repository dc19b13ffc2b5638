-- Bytes have at most one first fault.
use Rattle.std.proofs.Common.{◌≡◌, ◌<◌, ◌+◌, ◌⊎◌, inl, inr, ℕ, Bool, true, false, List, take, Option, Some, None, sym, ap, ◌∙◌}
use Rattle.std.specs.Prelude.{slice_get, MatchBool}
use Rattle.std.specs.declared.cmp.Ordering.{Ordering}
use Rattle.std.proofs.lemmas.Bool.{cases_order}
use Rattle.std.proofs.lemmas.Option.{slice_get_within}
use Rattle.csv.specs.Reading.{default_config, records}
use Rattle.optra_network.specs.Net.{Net}
use Rattle.optra_records.specs.Canonical.{is_canonical}
use Rattle.optra_records.specs.Reading.{Record}
use Rattle.optra_cert.specs.RowTexts.{RowTexts}
use Rattle.optra_cert.specs.CertLaws.{OneFirstFault}
use Rattle.optra_cert.specs.Faults.{EndsEarly, IsFaultBehind, IsFaultOfRecord, IsFaultOfRecords, fault_at}
use Rattle.optra_cert.specs.Forms.{version_of}
use Rattle.optra_cert.specs.declared.CertCode.{CertCode}
use Rattle.optra_cert.specs.declared.CertCode.TheVariants as code
use Rattle.optra_cert.specs.declared.CertFault.{CertFault}

module _ {R : Type 0} (cmp : R → R → Ordering) (texts : RowTexts R) (net : Net) (bids version : ℕ) (rows : List Record) where
  abbrev OfRecord : CertFault → Type 0
  OfRecord = IsFaultOfRecord cmp texts net bids version rows

  abbrev Early : CertFault → Type 0
  Early = EndsEarly cmp texts net bids version rows

  abbrev own_fault : List Record → Record → Option CertCode
  own_fault = fault_at cmp texts net bids version

  none_some : (o : Option CertCode) (c : CertCode) → o ≡ None → o ≡ Some c → ⊥
  none_some o c e f = let absent : None ≡ Some c = sym e ∙ f in cc absent

  -- no earlier record has a fault
  not_before : (a b : CertFault) (x : OfRecord a) (y : OfRecord b) → x.place < y.place → ⊥
  not_before a b x y before = none_some (own_fault (take x.place rows) x.fields) a.code (y.before x.place x.fields x.behind before x.there) x.fault_is

  -- where the records end early, none has a fault
  not_early : (a b : CertFault) → OfRecord a → Early b → ⊥
  not_early a b x y = none_some (own_fault (take x.place rows) x.fields) a.code (y.each x.place x.fields x.behind (slice_get_within rows x.place x.fields x.there) x.there) x.fault_is

  same_record : (a b : CertFault) (x : OfRecord a) (y : OfRecord b) → x.place ≡ y.place → a ≡ b
  same_record a b x y at =
      let found : ◌≡◌ {A = Option Record} (Some x.fields) (Some y.fields) = sym x.there ∙ ap (slice_get rows) at ∙ y.there in
      let fields : x.fields ≡ y.fields = cc found in
      let codes : ◌≡◌ {A = Option CertCode} (Some a.code) (Some b.code) = sym x.fault_is ∙ (λ i. own_fault (take (at i) rows) (fields i)) ∙ y.fault_is in
      let one_code : a.code ≡ b.code = cc codes in
      let one_row : a.row ≡ b.row = x.row_is ∙ ap (λ (n : ℕ). n + 1) at ∙ sym y.row_is in
      λ i. record { code = one_code i; row = one_row i }

  one_of_records : (a b : CertFault) → IsFaultOfRecords cmp texts net bids version rows a → IsFaultOfRecords cmp texts net bids version rows b → a ≡ b
  one_of_records a b (inl x) (inl y) = by (cases_order x.place y.place)
    where
      by : (x.place ≡ y.place) ⊎ ((x.place < y.place) ⊎ (y.place < x.place)) → a ≡ b
      by (inl at) = same_record a b x y at
      by (inr (inl before)) = absurd (not_before a b x y before)
      by (inr (inr before)) = absurd (not_before b a y x before)
  one_of_records a b (inl x) (inr y) = absurd (not_early a b x y)
  one_of_records a b (inr x) (inl y) = absurd (not_early b a y x)
  one_of_records a b (inr x) (inr y) = x.fault_is ∙ sym y.fault_is

module _ {R : Type 0} (cmp : R → R → Ordering) (texts : RowTexts R) (net : Net) (bids : ℕ) where
  one_behind : (rows : List Record) (o : Option ℕ) (a b : CertFault) → IsFaultBehind cmp texts net bids rows o a → IsFaultBehind cmp texts net bids rows o b → a ≡ b
  one_behind rows None a b x y = x ∙ sym y
  one_behind rows (Some version) a b x y = one_of_records cmp texts net bids version rows a b x y

  -- Bytes have at most one first fault.
  pub one_first_fault : OneFirstFault cmp texts net bids
  one_first_fault bytes a b x y = by (is_canonical bytes) x y
    where
      by : (t : Bool) → MatchBool t (IsFaultBehind cmp texts net bids (records default_config bytes) (version_of texts.version (records default_config bytes)) a) (a ≡ record { code = code.Csv; row = 0 })
          → MatchBool t (IsFaultBehind cmp texts net bids (records default_config bytes) (version_of texts.version (records default_config bytes)) b) (b ≡ record { code = code.Csv; row = 0 }) → a ≡ b
      by true x y = one_behind (records default_config bytes) (version_of texts.version (records default_config bytes)) a b x y
      by false x y = x ∙ sym y
