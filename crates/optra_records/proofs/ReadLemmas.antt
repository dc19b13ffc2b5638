-- What one read takes from the records that are left.
use Rattle.std.proofs.Common.{◌≡◌, ◌<◌, ◌+◌, ◌⊎◌, ℕ, zero, suc, Bool, true, false, cond, List, [], ◌∷◌, length, Option, Some, None, IsSome, IfSome, Bor, refl, sym, ap, ◌∙◌, inl, inr, add-one, arith, subst}
use Rattle.std.proofs.lemmas.Bool.{cases_Bool}
use Rattle.csv.specs.Machine.{Read, next_record, step, is_end, fields_after, field_after, ends_at_end}
use Rattle.csv.specs.Reading.{ExplainsRead, NextIs, ReadRecord, ReadsNext, default_config, has_failed, pending_of, records, records_from, records_next, source_of, strip_bom}
use Rattle.csv.specs.declared.error.ErrorKind.{ErrorKind}
use Rattle.csv.specs.declared.error.ErrorKind.TheVariants as kind
use Rattle.csv.specs.declared.parser.Config.{Config}
use Rattle.csv.specs.declared.parser.State.{State}
use Rattle.csv.specs.declared.parser.State.TheVariants as st
use Rattle.csv.specs.declared.reader.Reader.{Reader}
use Rattle.optra_records.specs.Reading.{IsNoFault, IsSound, ReadsOne, Record, bytes_left, has_mark, records_after, records_left, table_records, without_mark}

-- csv drops nothing from a text without a mark
pub strip_none : (xs : List ℕ) → has_mark xs ≡ false → strip_bom xs ≡ xs
unfolding strip_bom
strip_none [] e = refl
strip_none (a ∷ []) e = refl
strip_none (a ∷ b ∷ []) e = refl
strip_none (a ∷ b ∷ c ∷ rest) e = ap (λ (t : Bool). cond t rest (a ∷ b ∷ c ∷ rest)) e

-- how a read of a record shortens the text
abbrev Shortens : List ℕ → Read → Type 0
Shortens xs q = (length q.2 < length xs) ⊎ ((xs ≡ []) × (q.1 ≡ st.StartRecord) × (q.2 ≡ []))

ends_now : (b : Bool) (x q : Read) → cond b (Some x) None ≡ Some q → x ≡ q
ends_now true x q e = cc e
ends_now false x q e = absurd (cc e)

one_more : (b : Bool) (c : ℕ) (rest : List ℕ) (fs : List (List ℕ)) (s : State) (more : Option Read) (q : Read)
    → cond b (Some (fs, s, rest)) more ≡ Some q → (more ≡ Some q → Shortens rest q) → Shortens (c ∷ rest) q
one_more true c rest fs s more q e ih =
    let same : (fs, s, rest) ≡ q = cc e in
    inl (subst (λ (r : Read). length r.2 < length (c ∷ rest)) same (omega arith))
one_more false c rest fs s more q e ih = elim (ih e) [
  | inl h ↦ inl (omega arith)
  | inr h ↦ let e : length q.2 ≡ 0 = ap length h.2 in inl (omega arith)
]

shortens : (cfg : Config) (s : State) (fs : List (List ℕ)) (f xs : List ℕ) (q : Read) → next_record cfg s fs f xs ≡ Some q → Shortens xs q
unfolding next_record
shortens cfg s fs f [] q e =
    let same = ends_now (ends_at_end s) _ q e in
    inr (refl, ap (λ (r : Read). r.1) (sym same), ap (λ (r : Read). r.2) (sym same))
shortens cfg s fs f (c ∷ rest) q e =
    one_more (is_end (step cfg s c).1) c rest _ _ _ q e (shortens cfg (step cfg s c).0 (fields_after (step cfg s c).1 fs f) (field_after (step cfg s c).1 c f) rest q)

-- at the start of a record an empty text has none
none_at_end : (cfg : Config) (n : ℕ) → records_from cfg n st.StartRecord [] ≡ []
unfolding records_from next_record
none_at_end cfg zero = refl
none_at_end cfg (suc n) = refl

short_of : (cfg : Config) (s : State) (xs : List ℕ) (o : Option Read) → next_record cfg s [] [] xs ≡ o → IfSome o (Shortens xs)
short_of cfg s xs None e = tt
short_of cfg s xs (Some p) e = shortens cfg s [] [] xs p e

-- what follows a read is the same with more turns
next_same : (cfg : Config) (n m : ℕ) (xs : List ℕ) → ((s : State) (ys : List ℕ) → length ys < n → length ys < m → records_from cfg n s ys ≡ records_from cfg m s ys)
    → (o : Option Read) → IfSome o (Shortens xs) → length xs < suc n → length xs < suc m → records_next (records_from cfg n) o ≡ records_next (records_from cfg m) o
next_same cfg n m xs more None short h k = refl
next_same cfg n m xs more (Some p) short h k = elim short [
  | inl less ↦ ap (λ (t : List Record). p.0 ∷ t) (more p.1 p.2 (omega arith) (omega arith))
  | inr end ↦ rw (end.1, end.2, none_at_end cfg n, none_at_end cfg m) refl
]

-- more turns than a text has bytes change nothing
enough : (cfg : Config) (n m : ℕ) (s : State) (xs : List ℕ) → length xs < n → length xs < m → records_from cfg n s xs ≡ records_from cfg m s xs
unfolding records_from
enough cfg zero m s xs h k = absurd (omega arith)
enough cfg (suc n) zero s xs h k = absurd (omega arith)
enough cfg (suc n) (suc m) s xs h k = next_same cfg n m xs (enough cfg n m) (next_record cfg s [] [] xs) (short_of cfg s xs _ refl) h k

one_turn : (s : State) (xs : List ℕ) → records_from default_config (length xs + 1) s xs ≡ records_next (records_from default_config (length xs)) (next_record default_config s [] [] xs)
unfolding records_from
one_turn s xs = rw (add-one (length xs)) refl

turns_left : (xs : List ℕ) (p : Read) → Shortens xs p → records_from default_config (length xs) p.1 p.2 ≡ records_from default_config (length p.2 + 1) p.1 p.2
turns_left xs p short = elim short [
  | inl less ↦ enough default_config (length xs) (length p.2 + 1) p.1 p.2 less (omega arith)
  | inr end ↦ rw (end.1, end.2, none_at_end default_config (length xs), none_at_end default_config (length {A = ℕ} [] + 1)) refl
]

-- a read of a record takes the first of those that are left
pub next_left : (s : State) (xs : List ℕ) (p : Read) → next_record default_config s [] [] xs ≡ Some p → records_after s (Some xs) ≡ p.0 ∷ records_after p.1 (Some p.2)
next_left s xs p e =
    one_turn s xs
    ∙ ap (records_next (records_from default_config (length xs))) e
    ∙ ap (λ (t : List Record). p.0 ∷ t) (turns_left xs p (shortens default_config s [] [] xs p e))

-- where there is no record, none are left
pub no_left : (s : State) (xs : List ℕ) → next_record default_config s [] [] xs ≡ None → records_after s (Some xs) ≡ []
no_left s xs e = one_turn s xs ∙ ap (records_next (records_from default_config (length xs))) e

some_next : (s s2 : State) (xs ys : List ℕ) (o : Option Read) (found : Bool) (fields : Record) → next_record default_config s [] [] xs ≡ o → NextIs o found fields s2 ys
    → ReadsOne found (records_after s (Some xs)) (records_after s2 (Some ys)) fields
some_next s s2 xs ys None found fields e h = rw h (no_left s xs e)
some_next s s2 xs ys (Some p) found fields e h = rw (h.0, h.1, h.2, h.3) (next_left s xs p e)

reads_one : (s s2 : State) (a b : Option (List ℕ)) (found : Bool) (fields : Record) → IsSome a → ReadsNext default_config s a b found fields s2
    → ReadsOne found (records_after s a) (records_after s2 b) fields
reads_one s s2 None b found fields some h = absurd (cc some)
reads_one s s2 (Some xs) None found fields some h = absurd h
reads_one s s2 (Some xs) (Some ys) found fields some h = some_next s s2 xs ys (next_record default_config s [] [] xs) found fields refl h

one_of : (b : Bool) (x y : List ℕ) → IsSome (cond b (Some x) (Some y))
one_of true x y = refl
one_of false x y = refl

-- a reader that has not failed knows its bytes
some_left : (reader : Reader (Bor (List ℕ))) → has_failed reader ≡ false → IsSome (source_of bytes_left reader)
some_left reader e = rw e (one_of _ _ _)

-- a read of a record takes the first of those that a reader has left
pub read_left : (old new : Reader (Bor (List ℕ))) (found : Bool) (fields : Record) → old.config ≡ default_config → has_failed old ≡ false → ReadRecord bytes_left old new found fields
    → ReadsOne found (records_left old) (records_left new) fields
read_left old new found fields config good h =
    let next = reads_one old.state new.state (source_of bytes_left old) (pending_of (bytes_left new.rdr) new) found fields (some_left old good) (rw config at h.0) in
    rw h.1 next

-- the same of a reader that may have failed, and then finds nothing
pub read_from : (old new : Reader (Bor (List ℕ))) (found : Bool) (fields : Record) (before : List Record) → IsSound old → records_left old ≡ before
    → (has_failed old ≡ true → found ≡ false) → (has_failed old ≡ false → ReadRecord bytes_left old new found fields)
    → ReadsOne found before (records_left new) fields
read_from old new found fields before sound same none one = elim (cases_Bool (has_failed old)) [
  | inl failed ↦
      let empty : records_left old ≡ [] = rw failed refl in
      rw (none failed) (sym same ∙ empty)
  | inr good ↦ subst (λ (left : List Record). ReadsOne found left (records_left new) fields) same (read_left old new found fields (sound good).config good (one good))
]

-- a reader that failed has no records left
pub none_left : (reader : Reader (Bor (List ℕ))) → has_failed reader ≡ true → records_left reader ≡ []
none_left reader failed = rw failed refl

-- a new reader has the records of its text
pub new_left : (reader : Reader (Bor (List ℕ))) (bytes : List ℕ) → reader.state ≡ st.StartRecord → source_of bytes_left reader ≡ Some (strip_bom bytes) → has_mark bytes ≡ false
    → records_left reader ≡ records default_config bytes
new_left reader bytes state source plain = rw (state, source, strip_none bytes plain) refl

-- an empty text has no records
pub no_records : records default_config [] ≡ []
no_records = none_at_end default_config 1

-- a flexible reader of bytes fails only for the reader underneath or for memory
pub no_fault : {R : Type 0} (rem : R → Option (List ℕ)) (a b : Reader R) (k : ErrorKind) → a.flexible ≡ true → ExplainsRead rem a b false k → IsNoFault k
no_fault rem a b (kind.Io e) f h = tt
no_fault rem a b kind.OutOfMemory f h = tt
no_fault rem a b (kind.UnequalLengths pos expected len) f h = let bad : true ≡ false = sym f ∙ h.0 in absurd (cc bad)
no_fault rem a b (kind.Utf8 pos err) f h = let bad : false ≡ true = h.0 in absurd (cc bad)
no_fault rem a b (kind.Serialize text) f h = h
no_fault rem a b (kind.Deserialize pos err) f h = h

-- a table with one mark or none has the records of the rest
pub marked_once : (bytes : List ℕ) → has_mark (without_mark bytes) ≡ false → table_records bytes ≡ records default_config (without_mark bytes)
unfolding table_records
marked_once bytes plain = rw plain refl

-- a table with two marks has no records
pub marked_twice : (bytes : List ℕ) → has_mark (without_mark bytes) ≡ true → table_records bytes ≡ []
unfolding table_records
marked_twice bytes marked = rw marked refl
