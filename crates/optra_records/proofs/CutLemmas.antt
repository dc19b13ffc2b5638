-- A reader of cut records reads what csv reads, cut.
use Rattle.std.proofs.Common.{◌≡◌, ◌+◌, ◌-◌, ◌<◌, ◌≤◌, ◌++◌, ℕ, zero, suc, Bool, true, false, cond, nat_lt, List, [], ◌∷◌, length, map, take, drop, get_or, Option, Some, None, refl, sym, ap, ◌∙◌, arith}
use Rattle.std.specs.Prelude.{if◌then◌else◌}
use Rattle.std.proofs.lemmas.Bool.{cond-false, cond-true, lt-ltb, ltb-true}
use Rattle.std.proofs.lemmas.List.{length-map, map-append, take_all, drop_all, drop_more, take_rest}
use Rattle.csv.specs.Machine as machine
use Rattle.csv.specs.Machine.{Read, next_record}
use Rattle.csv.specs.Reading.{default_config}
use Rattle.optra_records.specs.declared.steps.Action.{Action}
use Rattle.optra_records.specs.declared.steps.Action.TheVariants as actions
use Rattle.optra_records.specs.declared.steps.State.{State}
use Rattle.optra_records.specs.declared.steps.State.TheVariants as states
use Rattle.csv.specs.declared.parser.Action as csv_action
use Rattle.csv.specs.declared.parser.Action.TheVariants as act
use Rattle.csv.specs.declared.parser.State as csv_state
use Rattle.csv.specs.declared.parser.State.TheVariants as st
use Rattle.optra_records.specs.Reading.{Field, Record, records_after}
use Rattle.optra_records.specs.Cuts.{action_of, cut, cut_field, cut_left, cut_read, field_behind, field_with, fields_behind, fields_with, state_of}
use Rattle.optra_records.proofs.ReadLemmas.{next_left, no_left, no_records}
use Rattle.optra_records.proofs.Utf8Lemmas.{same_tests}

ltb_suc : (a b : ℕ) → nat_lt (suc a) (suc b) ≡ nat_lt a b
ltb_suc a b =
    same_tests (nat_lt (suc a) (suc b)) (nat_lt a b)
    (λ e. lt-ltb a b (omega (arith, ltb-true (suc a) (suc b) e)))
    (λ e. lt-ltb (suc a) (suc b) (omega (arith, ltb-true a b e)))

-- a list with one element more, cut
take_with : {X : Type 0} (n : ℕ) (xs : List X) (x : X) → take n (xs ++ x ∷ []) ≡ cond (nat_lt (length (take n xs)) n) (take n xs ++ x ∷ []) (take n xs)
take_with zero xs x = refl
take_with {X} (suc n) [] x = rw (lt-ltb 0 (suc n) (omega arith), take_all {A = X} n [] (omega arith)) refl
take_with (suc n) (y ∷ xs) x = rw (take_with n xs x, ltb_suc (length (take n xs)) n) (by (nat_lt (length (take n xs)) n))
  where
    by : (t : Bool) → y ∷ cond t (take n xs ++ x ∷ []) (take n xs) ≡ cond t (y ∷ (take n xs ++ x ∷ [])) (y ∷ take n xs)
    by true = refl
    by false = refl

pub cut_field_with : (field : Field) (b : ℕ) → cut_field (field ++ b ∷ []) ≡ field_with (cut_field field) b
cut_field_with field b = take_with 65 field b

pub cut_fields_with : (fields : Record) (field : Field) → cut (fields ++ field ∷ []) ≡ fields_with (cut fields) (cut_field field)
cut_fields_with fields field =
    ap (map cut_field) (take_with 40 fields field)
    ∙ by (nat_lt (length (take 40 fields)) 40)
    ∙ ap (λ n. cond (nat_lt n 40) (cut fields ++ cut_field field ∷ []) (cut fields)) (sym (length-map (take 40 fields) cut_field))
  where
    by : (t : Bool) → map cut_field (cond t (take 40 fields ++ field ∷ []) (take 40 fields)) ≡ cond t (cut fields ++ cut_field field ∷ []) (cut fields)
    by true = map-append cut_field (take 40 fields) (field ∷ [])
    by false = refl

-- ---- csv's reader, whose fields and field at hand are cut

abbrev pub field_cut_after : csv_action.Action → ℕ → Field → Field
field_cut_after act.Copy c field = field_with field c
field_cut_after act.EndField c field = []
field_cut_after act.Skip c field = field
field_cut_after act.EndRecord c field = []

abbrev pub fields_cut_after : csv_action.Action → Record → Field → Record
fields_cut_after act.EndField fields field = fields_with fields field
fields_cut_after act.Skip fields field = fields
fields_cut_after act.Copy fields field = fields
fields_cut_after act.EndRecord fields field = fields_with fields field

unfoldable pub next_cut : csv_state.State → Record → Field → List ℕ → Option Read
next_cut s fields field [] = if machine.ends_at_end s then Some (fields_with fields field, st.StartRecord, []) else None
next_cut s fields field (c ∷ rest) =
    let next = machine.step default_config s c in
    if machine.is_end next.1 then Some (fields_cut_after next.1 fields field, next.0, rest)
    else next_cut next.0 (fields_cut_after next.1 fields field) (field_cut_after next.1 c field) rest

field_alike : (a : csv_action.Action) (c : ℕ) (field : Field) → cut_field (machine.field_after a c field) ≡ field_cut_after a c (cut_field field)
field_alike act.Copy c field = cut_field_with field c
field_alike act.EndField c field = refl
field_alike act.Skip c field = refl
field_alike act.EndRecord c field = refl

fields_alike : (a : csv_action.Action) (fields : Record) (field : Field) → cut (machine.fields_after a fields field) ≡ fields_cut_after a (cut fields) (cut_field field)
fields_alike act.EndField fields field = cut_fields_with fields field
fields_alike act.Skip fields field = refl
fields_alike act.Copy fields field = refl
fields_alike act.EndRecord fields field = cut_fields_with fields field

pub next_is : (s : csv_state.State) (fields : Record) (field : Field) (text : List ℕ) → cut_read (next_record default_config s fields field text) ≡ next_cut s (cut fields) (cut_field field) text
unfolding next_record next_cut
next_is s fields field [] = by (machine.ends_at_end s)
  where
    by : (t : Bool) → cut_read (cond t (Some (fields ++ field ∷ [], st.StartRecord, [])) None) ≡ cond t (Some (fields_with (cut fields) (cut_field field), st.StartRecord, [])) None
    by true = ap (λ (f : Record). Some (f, st.StartRecord, [])) (cut_fields_with fields field)
    by false = refl
next_is s fields field (c ∷ rest) =
    let next = machine.step default_config s c in
    let a = next.1 in
    let more =
    next_is next.0 (machine.fields_after a fields field) (machine.field_after a c field) rest
    ∙ ap (λ (f : Record). next_cut next.0 f (cut_field (machine.field_after a c field)) rest) (fields_alike a fields field)
    ∙ ap (λ (f : Field). next_cut next.0 (fields_cut_after a (cut fields) (cut_field field)) f rest) (field_alike a c field) in
    by (machine.is_end a) next.0 (machine.fields_after a fields field) (fields_cut_after a (cut fields) (cut_field field)) _ _ (fields_alike a fields field) more
  where
    by : (t : Bool) (s : csv_state.State) (fs gs : Record) (m n : Option Read) → cut fs ≡ gs → cut_read m ≡ n → cut_read (cond t (Some (fs, s, rest)) m) ≡ cond t (Some (gs, s, rest)) n
    by true s fs gs m n e f = ap (λ (f : Record). Some (f, s, rest)) e
    by false s fs gs m n e f = f

-- ---- a record, byte by byte

whole : (start : csv_state.State) (text : List ℕ) → cut_read (next_record default_config start [] [] text) ≡ next_cut start [] [] text
whole start text = next_is start [] [] text

-- what a byte makes of a record, by the state behind it and what it does
abbrev turn : Record → Field → ℕ → List ℕ → csv_state.State → csv_action.Action → Option Read
turn fields field b rest s a = cond (machine.is_end a) (Some (fields_cut_after a fields field, s, rest)) (next_cut s (fields_cut_after a fields field) (field_cut_after a b field) rest)

one_turn : (s : csv_state.State) (fields : Record) (field : Field) (b : ℕ) (rest : List ℕ)
    → next_cut s fields field (b ∷ rest) ≡ turn fields field b rest (machine.step default_config s b).0 (machine.step default_config s b).1
unfolding next_cut
one_turn s fields field b rest = refl

turn_ends : (fields : Record) (field : Field) (b : ℕ) (rest : List ℕ) (s : csv_state.State) (a : Action) → machine.is_end (action_of a) ≡ true
    → turn fields field b rest s (action_of a) ≡ Some (fields_behind a fields field, s, rest)
turn_ends fields field b rest s actions.Skip e = absurd (cc e)
turn_ends fields field b rest s actions.Copy e = absurd (cc e)
turn_ends fields field b rest s actions.EndField e = absurd (cc e)
turn_ends fields field b rest s actions.EndRecord e = refl

turn_goes : (fields : Record) (field : Field) (b : ℕ) (rest : List ℕ) (s : csv_state.State) (a : Action) → machine.is_end (action_of a) ≡ false
    → turn fields field b rest s (action_of a) ≡ next_cut s (fields_behind a fields field) (field_behind a field b) rest
turn_goes fields field b rest s actions.Skip e = refl
turn_goes fields field b rest s actions.Copy e = refl
turn_goes fields field b rest s actions.EndField e = refl
turn_goes fields field b rest s actions.EndRecord e = absurd (cc e)

module _ (start s : csv_state.State) (fields : Record) (field : Field) (bytes : List ℕ) (i : ℕ) (read : next_cut s fields field (drop i bytes) ≡ next_cut start [] [] bytes) where
  module _ (d : ℕ) (within : i < length bytes) (next : State) (a : Action) (state : state_of next ≡ (machine.step default_config s (get_or bytes i d)).0)
      (action : action_of a ≡ (machine.step default_config s (get_or bytes i d)).1) where
    turned : next_cut s fields field (drop i bytes) ≡ turn fields field (get_or bytes i d) (drop (i + 1) bytes) (state_of next) (action_of a)
    turned =
        ap (next_cut s fields field) (drop_more bytes i d within)
        ∙ one_turn s fields field (get_or bytes i d) (drop (i + 1) bytes)
        ∙ ap (λ (x : csv_state.State). turn fields field (get_or bytes i d) (drop (i + 1) bytes) x (machine.step default_config s (get_or bytes i d)).1) (sym state)
        ∙ ap (λ (x : csv_action.Action). turn fields field (get_or bytes i d) (drop (i + 1) bytes) (state_of next) x) (sym action)

    -- the byte ends the record
    pub read_ends : machine.is_end (action_of a) ≡ true → (new : Record) → new ≡ fields_behind a fields field
        → cut_read (next_record default_config start [] [] bytes) ≡ Some (new, state_of next, take (length bytes - (i + 1)) (drop (i + 1) bytes))
    read_ends e new is =
        whole start bytes
        ∙ sym read
        ∙ turned
        ∙ turn_ends fields field (get_or bytes i d) (drop (i + 1) bytes) (state_of next) a e
        ∙ ap (λ (f : Record). Some (f, state_of next, drop (i + 1) bytes)) (sym is)
        ∙ ap (λ (xs : List ℕ). Some (new, state_of next, xs)) (sym (take_rest bytes (i + 1)))

    -- the record goes on
    pub read_goes : machine.is_end (action_of a) ≡ false → (new : Record) (more : Field) → new ≡ fields_behind a fields field → more ≡ field_behind a field (get_or bytes i d)
        → next_cut (state_of next) new more (drop (i + 1) bytes) ≡ next_cut start [] [] bytes
    read_goes e new more is f =
        ap (λ (x : Record). next_cut (state_of next) x more (drop (i + 1) bytes)) is
        ∙ ap (λ (x : Field). next_cut (state_of next) (fields_behind a fields field) x (drop (i + 1) bytes)) f
        ∙ sym (turn_goes fields field (get_or bytes i d) (drop (i + 1) bytes) (state_of next) a e)
        ∙ sym turned
        ∙ read

  at_end : length bytes ≤ i → cut_read (next_record default_config start [] [] bytes) ≡ next_cut s fields field []
  at_end past = whole start bytes ∙ sym read ∙ ap (next_cut s fields field) (drop_all i bytes past)

  -- the end of the text ends the record
  pub read_last : length bytes ≤ i → machine.ends_at_end s ≡ true → (new : Record) → new ≡ fields_with fields field → cut_read (next_record default_config start [] [] bytes) ≡ Some (new, st.StartRecord, [])
  unfolding next_cut
  read_last past e new is = at_end past ∙ cond-true (machine.ends_at_end s) (Some (fields_with fields field, st.StartRecord, [])) None e ∙ ap (λ (f : Record). Some (f, st.StartRecord, [])) (sym is)

  -- there is no record
  pub read_none : length bytes ≤ i → machine.ends_at_end s ≡ false → cut_read (next_record default_config start [] [] bytes) ≡ None
  unfolding next_cut
  read_none past e = at_end past ∙ cond-false (machine.ends_at_end s) (Some (fields_with fields field, st.StartRecord, [])) None e

-- ---- the records that are left

-- a read takes the first
pub left_some : (s : State) (text : List ℕ) (row : Record) (s2 : State) (rest : List ℕ) → cut_read (next_record default_config (state_of s) [] [] text) ≡ Some (row, state_of s2, rest)
    → cut_left s text ≡ row ∷ cut_left s2 rest
left_some s text row s2 rest = by (next_record default_config (state_of s) [] [] text) refl
  where
    by : (o : Option Read) → next_record default_config (state_of s) [] [] text ≡ o → cut_read o ≡ Some (row, state_of s2, rest) → cut_left s text ≡ row ∷ cut_left s2 rest
    by None e f = absurd (cc f)
    by (Some p) e f =
        let same : (cut p.0, p.1, p.2) ≡ (row, state_of s2, rest) = cc f in
        let first : cut p.0 ≡ row = ap (λ (r : Read). r.0) same in
        let state : p.1 ≡ state_of s2 = ap (λ (r : Read). r.1) same in
        let behind : p.2 ≡ rest = ap (λ (r : Read). r.2) same in
        ap (map cut) (next_left (state_of s) text p e)
        ∙ ap (λ (f : Record). f ∷ map cut (records_after p.1 (Some p.2))) first
        ∙ ap (λ (x : csv_state.State). row ∷ map cut (records_after x (Some p.2))) state
        ∙ ap (λ (xs : List ℕ). row ∷ map cut (records_after (state_of s2) (Some xs))) behind

-- or there is none
pub left_none : (s : State) (text : List ℕ) → cut_read (next_record default_config (state_of s) [] [] text) ≡ None → cut_left s text ≡ []
left_none s text = by (next_record default_config (state_of s) [] [] text) refl
  where
    by : (o : Option Read) → next_record default_config (state_of s) [] [] text ≡ o → cut_read o ≡ None → cut_left s text ≡ []
    by None e f = ap (map cut) (no_left (state_of s) text e)
    by (Some p) e f = absurd (cc f)

pub left_empty : cut_left states.StartRecord [] ≡ []
left_empty = ap (map cut) no_records
