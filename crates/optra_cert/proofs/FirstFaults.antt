-- The fault that reading gives is the first one, and what is read has none.
use Rattle.std.proofs.Common.{◌≡◌, ◌<◌, ◌≤◌, ◌^◌, ◌+◌, ◌++◌, ◌⊎◌, inl, inr, ℕ, Bool, true, false, List, [], ◌∷◌, length, take, drop, Option, Some, None, refl, sym, ap, ◌∙◌, subst, arith, codes, append_assoc, cond}
use Rattle.std.specs.Prelude.{Result, Ok, Err, slice_get, MatchBool}
use Rattle.std.specs.Fmt.{decimal}
use Rattle.std.specs.declared.cmp.Ordering.{Ordering}
use Rattle.std.proofs.lemmas.Bool.{cases_eq, true≢false}
use Rattle.std.proofs.lemmas.List.{append-nil, length_push, take_at}
use Rattle.std.proofs.lemmas.Option.{slice_get_within}
use Rattle.csv.specs.Reading.{default_config, records}
use Rattle.optra_network.specs.Net.{Net, IsBuilt}
use Rattle.optra_records.specs.Canonical.{is_canonical}
use Rattle.optra_records.specs.Reading.{Record}
use Rattle.optra_cert.specs.RowTexts.{RowTexts, AreApart, AreTexts}
use Rattle.optra_cert.specs.Certs.{Cert}
use Rattle.optra_cert.specs.Faults.{HaveNone, IsFaultBehind, IsFaultOfRecords, IsFirstFault, fault_at, fault_of, is_whole}
use Rattle.optra_cert.specs.Forms.{version_of}
use Rattle.optra_cert.specs.Outcomes.{◌>>=◌}
use Rattle.optra_cert.specs.Steps.{State, cert_of, end_step, fault, in_row, read_behind, read_records, read_rows, read_text, started, step}
use Rattle.optra_cert.specs.Steps as steps
use Rattle.optra_cert.specs.declared.CertCode.{CertCode}
use Rattle.optra_cert.specs.declared.CertCode.TheVariants as code
use Rattle.optra_cert.specs.declared.CertFault.{CertFault}
use Rattle.optra_cert.proofs.AgreeSteps.{agrees_next, agrees_started}
use Rattle.optra_cert.proofs.FaultSteps.{Agrees, fault_is, whole_same}
use Rattle.optra_cert.proofs.ReadLemmas.{version_is}

slice_get_at : (before : List Record) (fields : Record) (rest : List Record) → slice_get (before ++ fields ∷ rest) (length before) ≡ Some fields
slice_get_at [] fields rest = refl
slice_get_at (row ∷ before) fields rest = slice_get_at before fields rest

module _ (rows before : List Record) (fields : Record) (rest : List Record) (split : before ++ fields ∷ rest ≡ rows) where
  stands_at : slice_get rows (length before) ≡ Some fields
  stands_at = ap (λ (all : List Record). slice_get all (length before)) (sym split) ∙ slice_get_at before fields rest

  before_it : take (length before) rows ≡ before
  before_it = ap (take (length before)) (sym split) ∙ take_at before (fields ∷ rest) (length before) refl

  split_next : (before ++ fields ∷ []) ++ rest ≡ rows
  split_next = append_assoc before (fields ∷ []) rest ∙ split

module _ {R : Type 0} (cmp : R → R → Ordering) (texts : RowTexts R) (apart : AreApart texts.kinds) (are : AreTexts texts) (net : Net) (built : IsBuilt net) (bids : ℕ) (few : bids < 10 ^ 18) where
  module _ (version : ℕ) where
    abbrev Agree : State R → List Record → Type 0
    Agree = Agrees cmp texts apart are net built bids few version

    abbrev own_fault : List Record → Record → Option CertCode
    own_fault = fault_at cmp texts net bids version

    abbrev None_to : List Record → ℕ → Type 0
    None_to = HaveNone cmp texts net bids version

    -- one record more without a fault
    none_more : (rows before : List Record) (fields : Record) (rest : List Record) → before ++ fields ∷ rest ≡ rows → own_fault before fields ≡ None → None_to rows (length before) → None_to rows (length (before ++ fields ∷ []))
    none_more rows before fields rest split none earlier i other behind within there = by (cases_eq i (length before))
      where
        by : (i ≡ length before) ⊎ (i ≡ length before → ⊥) → own_fault (take i rows) other ≡ None
        by (inl e) =
            let own : ◌≡◌ {A = Option Record} (Some fields) (Some other) = sym (stands_at rows before fields rest split) ∙ ap (slice_get rows) (sym e) ∙ there in
            let same : fields ≡ other = cc own in
            (λ j. own_fault (take (e j) rows) (sym same j)) ∙ ap (λ (b : List Record). own_fault b fields) (before_it rows before fields rest split) ∙ none
        by (inr n) =
            let long = length_push before fields in
            earlier i other behind (omega (arith, long, within, n)) there

    fault_kept : (f : CertFault) (c : CertCode) (row : ℕ) (all : Result (Cert R) CertFault) → in_row {A = State R} row (Err c) >>= (λ next. all) ≡ Err f → fault c row ≡ f
    fault_kept f c row all e = cc e

    abbrev go_on : ℕ → List Record → State R → Result (Cert R) CertFault
    go_on row rest next = read_rows cmp texts net bids version next (row + 1) rest

    -- the first fault of records
    module _ (rows : List Record) (f : CertFault) where
      abbrev IsFault : Type 0
      IsFault = IsFaultOfRecords cmp texts net bids version rows f

      ends : (s : State R) (before : List Record) → Agree s before → before ≡ rows → None_to rows (length before) → end_step cmp texts net bids version s (length before + 1) ≡ Err f → IsFault
      ends s before a all none e = by (steps.is_whole s.tree) refl e
        where
          by : (b : Bool) → steps.is_whole s.tree ≡ b → cond b (Ok (cert_of s)) (Err (fault code.Order (length before + 1))) ≡ Err f → IsFault
          by true whole e = absurd (cc e)
          by false open_ e =
              let same : fault code.Order (length before + 1) ≡ f = cc e in
              inr (record {
                each = subst (λ (n : ℕ). None_to rows n) (ap length all) none;
                open_ = ap is_whole (sym all) ∙ whole_same cmp texts apart are net built bids few version s before a ∙ open_;
                fault_is = sym same ∙ ap (λ (r : List Record). fault code.Order (length r + 1)) all;
              })

      stops : (s : State R) (before : List Record) (fields : Record) (rest : List Record) → Agree s before → 1 ≤ length before → before ++ fields ∷ rest ≡ rows → None_to rows (length before)
          → (c : CertCode) → step cmp texts net bids version s fields ≡ Err c → fault c (length before + 1) ≡ f → IsFault
      stops s before fields rest a behind split none c e same =
          inl (record {
            place = length before;
            fields = fields;
            there = stands_at rows before fields rest split;
            behind = behind;
            before = none;
            fault_is = ap (λ (b : List Record). own_fault b fields) (before_it rows before fields rest split) ∙ fault_is cmp texts apart are net built bids few version s before fields a ∙ ap fault_of e ∙ ap (λ (x : CertFault). Some x.code) same;
            row_is = sym (ap (λ (x : CertFault). x.row) same);
          })

      rows_err : (s : State R) (row : ℕ) (before rest : List Record) → Agree s before → 1 ≤ length before → row ≡ length before + 1 → before ++ rest ≡ rows → None_to rows (length before) → read_rows cmp texts net bids version s row rest ≡ Err f → IsFault
      unfolding read_rows
      rows_err s row before [] a behind place split none e =
          ends s before a (sym (append-nil before) ∙ split) none (ap (end_step cmp texts net bids version s) (sym place) ∙ e)
      rows_err s row before (fields ∷ rest) a behind place split none e =
          by (step cmp texts net bids version s fields) refl
          (λ next more clean. rows_err next (row + 1) (before ++ fields ∷ []) rest more (later behind) (next_row place) (split_next rows before fields rest split) clean) e
        where
          later : 1 ≤ length before → 1 ≤ length (before ++ fields ∷ [])
          later behind = let long = length_push before fields in omega (arith, long)

          next_row : row ≡ length before + 1 → row + 1 ≡ length (before ++ fields ∷ []) + 1
          next_row place = let long = length_push before fields in omega (arith, long, place)

          by : (r : Result (State R) CertCode) → step cmp texts net bids version s fields ≡ r
              → ((next : State R) → Agree next (before ++ fields ∷ []) → None_to rows (length (before ++ fields ∷ [])) → go_on row rest next ≡ Err f → IsFault)
              → in_row row r >>= go_on row rest ≡ Err f → IsFault
          by (Err c) taken more e =
              let same : fault c row ≡ f = cc e in
              stops s before fields rest a behind split none c taken (ap (fault c) (sym place) ∙ same)
          by (Ok next) taken more e =
              let clean : own_fault before fields ≡ None = fault_is cmp texts apart are net built bids few version s before fields a ∙ ap fault_of taken in
              more next (agrees_next cmp texts apart are net built bids few version s before fields next a taken) (none_more rows before fields rest split clean none) e

    -- records that are read have no fault, and their tree is whole
    abbrev IsClean : List Record → Type 0
    IsClean rows = None_to rows (length rows) × (is_whole rows ≡ true)

    module _ (rows : List Record) (cert : Cert R) where
      whole_end : (s : State R) (row : ℕ) (before : List Record) → Agree s before → before ≡ rows → None_to rows (length before) → end_step cmp texts net bids version s row ≡ Ok cert → IsClean rows
      whole_end s row before a all none e = by (steps.is_whole s.tree) refl e
        where
          by : (b : Bool) → steps.is_whole s.tree ≡ b → cond b (Ok (cert_of s)) (Err (fault code.Order row)) ≡ Ok cert → IsClean rows
          by true whole e = (subst (λ (n : ℕ). None_to rows n) (ap length all) none, ap is_whole (sym all) ∙ whole_same cmp texts apart are net built bids few version s before a ∙ whole)
          by false open_ e = absurd (cc e)

      rows_clean : (s : State R) (row : ℕ) (before rest : List Record) → Agree s before → before ++ rest ≡ rows → None_to rows (length before) → read_rows cmp texts net bids version s row rest ≡ Ok cert → IsClean rows
      unfolding read_rows
      rows_clean s row before [] a split none e = whole_end s row before a (sym (append-nil before) ∙ split) none e
      rows_clean s row before (fields ∷ rest) a split none e =
          by (step cmp texts net bids version s fields) refl
          (λ next more clean. rows_clean next (row + 1) (before ++ fields ∷ []) rest more (split_next rows before fields rest split) clean) e
        where
          by : (r : Result (State R) CertCode) → step cmp texts net bids version s fields ≡ r
              → ((next : State R) → Agree next (before ++ fields ∷ []) → None_to rows (length (before ++ fields ∷ [])) → go_on row rest next ≡ Ok cert → IsClean rows)
              → in_row row r >>= go_on row rest ≡ Ok cert → IsClean rows
          by (Err c) taken more e = absurd (cc e)
          by (Ok next) taken more e =
              let clean : own_fault before fields ≡ None = fault_is cmp texts apart are net built bids few version s before fields a ∙ ap fault_of taken in
              more next (agrees_next cmp texts apart are net built bids few version s before fields next a taken) (none_more rows before fields rest split clean none) e

    clean_rows : (rows : List Record) (f : CertFault) → IsClean rows → IsFaultOfRecords cmp texts net bids version rows f → ⊥
    clean_rows rows f clean (inl is) =
        let none : own_fault (take is.place rows) is.fields ≡ None = clean.0 is.place is.fields is.behind (slice_get_within rows is.place is.fields is.there) is.there in
        let some : None ≡ Some f.code = sym none ∙ is.fault_is in
        cc some
    clean_rows rows f clean (inr early) = true≢false (sym clean.1 ∙ early.open_)

  -- none before the second record
  none_first : (version : ℕ) (rows : List Record) → None_to version rows 1
  none_first version rows i fields behind within there = absurd (omega (arith, behind, within))

  -- The fault that reading records gives is their first.
  abbrev BehindFirst : ℕ → List Record → Type 0
  BehindFirst version rows = (codes "optra-certificate" ∷ decimal version ∷ []) ∷ drop 1 rows ≡ rows

  pub records_err : (known : texts.version < 10 ^ 18) (rows : List Record) (f : CertFault) → read_records cmp texts net bids rows ≡ Err f → IsFaultBehind cmp texts net bids rows (version_of texts.version rows) f
  unfolding read_records
  records_err known rows f e = by (version_of texts.version rows) refl e
    where
      by : (o : Option ℕ) → version_of texts.version rows ≡ o → read_behind cmp texts net bids o (drop 1 rows) ≡ Err f → IsFaultBehind cmp texts net bids rows o f
      by None stated e = let same : fault code.Version 1 ≡ f = cc e in sym same
      by (Some version) stated e =
          let first = version_is texts.version rows version known stated in
          rows_err version rows f (started bids) 2 ((codes "optra-certificate" ∷ decimal version ∷ []) ∷ []) (drop 1 rows)
          (agrees_started cmp texts apart are net built bids few version) (omega arith) refl (sym first.0) (none_first version rows) e

  pub records_clean : (known : texts.version < 10 ^ 18) (rows : List Record) (cert : Cert R) (f : CertFault) → read_records cmp texts net bids rows ≡ Ok cert → IsFaultBehind cmp texts net bids rows (version_of texts.version rows) f → ⊥
  unfolding read_records
  records_clean known rows cert f e = by (version_of texts.version rows) refl e
    where
      by : (o : Option ℕ) → version_of texts.version rows ≡ o → read_behind cmp texts net bids o (drop 1 rows) ≡ Ok cert → IsFaultBehind cmp texts net bids rows o f → ⊥
      by None stated e is = absurd (cc e)
      by (Some version) stated e is =
          let first = version_is texts.version rows version known stated in
          clean_rows version rows f
          (rows_clean version rows cert (started bids) 2 ((codes "optra-certificate" ∷ decimal version ∷ []) ∷ []) (drop 1 rows)
          (agrees_started cmp texts apart are net built bids few version) (sym first.0) (none_first version rows) e) is

  -- The fault that reading gives is the first of the bytes.
  pub read_err : (known : texts.version < 10 ^ 18) (bytes : List ℕ) (f : CertFault) → read_text cmp texts net bids bytes ≡ Err f → IsFirstFault cmp texts net bids bytes f
  unfolding read_text
  read_err known bytes f e = by (is_canonical bytes) e
    where
      by : (b : Bool) → cond b (read_records cmp texts net bids (records default_config bytes)) (Err (fault code.Csv 0)) ≡ Err f
          → MatchBool b (IsFaultBehind cmp texts net bids (records default_config bytes) (version_of texts.version (records default_config bytes)) f) (f ≡ record { code = code.Csv; row = 0 })
      by true e = records_err known (records default_config bytes) f e
      by false e = let same : fault code.Csv 0 ≡ f = cc e in sym same

  -- What is read has no fault.
  pub read_clean : (known : texts.version < 10 ^ 18) (bytes : List ℕ) (cert : Cert R) (f : CertFault) → read_text cmp texts net bids bytes ≡ Ok cert → IsFirstFault cmp texts net bids bytes f → ⊥
  unfolding read_text
  read_clean known bytes cert f e is = by (is_canonical bytes) e is
    where
      by : (b : Bool) → cond b (read_records cmp texts net bids (records default_config bytes)) (Err (fault code.Csv 0)) ≡ Ok cert
          → MatchBool b (IsFaultBehind cmp texts net bids (records default_config bytes) (version_of texts.version (records default_config bytes)) f) (f ≡ record { code = code.Csv; row = 0 }) → ⊥
      by true e is = records_clean known (records default_config bytes) cert f e is
      by false e is = absurd (cc e)
