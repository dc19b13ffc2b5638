-- Reading fields one after another, as a loop does.
use Rattle.std.proofs.Common.{◌≡◌, ℕ, suc, ◌-◌, ◌+◌, ◌≤◌, ◌<◌, Bool, true, false, List, [], ◌∷◌, ◌++◌, Option, Some, None, refl, sym, ap, ◌∙◌, append_assoc, arith}
use Rattle.std.specs.Str.{IsUtf8, is_utf8}
use Rattle.std.proofs.lemmas.List.{append-nil}
use Rattle.std.proofs.lemmas.Str.{IsUtf8-from_is_utf8}
use Rattle.optra_house.specs.declared.fields.Unread.{Unread}
use Rattle.optra_house.specs.declared.fields.Unread.TheVariants as errors
use Rattle.optra_house.specs.Reading.{◌>>=◌, Fails, all_at}

pub utf8_not : (bytes : List ℕ) → (IsUtf8 bytes → ⊥) → is_utf8 bytes ≡ false
utf8_not bytes not = by (is_utf8 bytes) refl
  where
    by : (b : Bool) → is_utf8 bytes ≡ b → b ≡ false
    by true is = absurd (not (IsUtf8-from_is_utf8 bytes is))
    by false is = refl

-- ---- one field after another

-- what was read before, and what is still read
abbrev pub with_front : {X : Type 0} → List X → Option (List X × List ℕ) → Option (List X × List ℕ)
with_front front read = read >>= λ x. Some (front ++ x.0, x.1)

regroup : {X : Type 0} (front : List X) (n : X) (read : Option (List X × List ℕ)) → with_front front (read >>= λ x. Some (n ∷ x.0, x.1)) ≡ with_front (front ++ n ∷ []) read
regroup front n (Some x) = ap (λ ns. Some (ns, x.1)) (sym (append_assoc front (n ∷ []) x.0))
regroup front n None = refl

pub goes_on : {X : Type 0} (field : List ℕ → Option (X × List ℕ)) (front : List X) (count i : ℕ) (bytes : List ℕ) (n : X) (after : List ℕ) (total : Option (List X × List ℕ)) → i < count → field bytes ≡ Some (n, after)
    → with_front front (all_at field (count - i) bytes) ≡ total → with_front (front ++ n ∷ []) (all_at field (count - (i + 1)) after) ≡ total
unfolding all_at
goes_on field front count i bytes n after total lt h so_far =
    let k : count - i ≡ suc (count - (i + 1)) = omega arith in
    let one : with_front front (all_at field (count - i) bytes) ≡ with_front (front ++ n ∷ []) (all_at field (count - (i + 1)) after) = rw (k, h) (regroup front n (all_at field (count - (i + 1)) after)) in
    sym one ∙ so_far

pub ends : {X : Type 0} (e : Unread) (field : List ℕ → Option (X × List ℕ)) (front : List X) (count i : ℕ) (bytes : List ℕ) (total : Option (List X × List ℕ)) → i < count → Fails e (field bytes)
    → with_front front (all_at field (count - i) bytes) ≡ total → Fails e total
unfolding all_at
ends errors.NoMemory field front count i bytes total lt h so_far = tt
ends errors.Malformed field front count i bytes total lt h so_far =
    let k : count - i ≡ suc (count - (i + 1)) = omega arith in
    let one : with_front front (all_at field (count - i) bytes) ≡ None = rw (k, h) refl in
    sym so_far ∙ one

pub is_done : {X : Type 0} (field : List ℕ → Option (X × List ℕ)) (front : List X) (count i : ℕ) (bytes : List ℕ) (total : Option (List X × List ℕ)) → count ≤ i → with_front front (all_at field (count - i) bytes) ≡ total → total ≡ Some (front, bytes)
unfolding all_at
is_done field front count i bytes total le so_far =
    let k : count - i ≡ 0 = omega arith in
    let one : with_front front (all_at field (count - i) bytes) ≡ Some (front, bytes) = rw k (ap (λ ns. Some (ns, bytes)) (append-nil front)) in
    sym so_far ∙ one
