-- A file that is laid out with entries has these and no others, and a file that has entries is laid out with them.
use Rattle.std.proofs.Common.{◌≡◌, ◌≢◌, inl, inr, ℕ, zero, suc, ◌<◌, ◌≤◌, ◌^◌, Bool, List, [], ◌∷◌, ◌++◌, length, take, drop, true, false, nat_eq, nat_lt, nat_le, ◌&&◌, cond, Option, Some, None, refl, sym, ◌∙◌, ap, subst, arith, append_assoc, length-append, length-drop, ne_eqb}
use Rattle.std.specs.Prelude.{option_map}
use Rattle.std.specs.Int.{to_be_bytes, w32}
use Rattle.std.specs.List.{flat_map, starts_with}
use Rattle.std.proofs.lemmas.Bool.{and_parts, cases_eq, cases_lt, ltb-true}
use Rattle.std.proofs.lemmas.Slice.Eq.{bytes_eq-Decides}
use Rattle.std.proofs.lemmas.List.{take_at, drop_at, take-append-drop, length-take}
use Rattle.std.proofs.lemmas.Bool.Decides.{nat_tests}
use Rattle.optra_house.specs.Entries.{heading, entry, entry_at, most_bytes, payloads_within, payloads_from, payloads_of, IsLaidOut}
use Rattle.optra_house.specs.Reading.{◌>>=◌, number_at}
use Rattle.optra_house.proofs.FieldLemmas.{IsBytes, IsBytes-drop, IsBytes-rest, bind_some, guard_held, number_again, number_takes, some_is, wide32}

-- ---- what is laid out is read

-- a whole entry behind its gate, and something behind it
pub entry_again : (payload behind : List ℕ) → length payload < 2 ^ 32 → 0 < length behind → entry_at ((to_be_bytes w32 (length payload) ++ payload) ++ behind) ≡ Some (payload, behind)
unfolding entry_at
entry_again payload behind small some =
    let long : nat_lt (length payload) (length (payload ++ behind)) ≡ true = grind (arith, nat_tests, length-append payload behind) in
    ap entry_at (append_assoc (to_be_bytes w32 (length payload)) payload behind)
    ∙ rw (number_again w32 (2 ^ 32) wide32 (length payload) (payload ++ behind) small, long, take_at payload behind (length payload) refl, drop_at payload behind (length payload) refl) refl

shut_ends : (n gate : ℕ) (behind : List ℕ) → gate ≢ 1 → payloads_within (suc n) (gate ∷ behind) ≡ Some []
unfolding payloads_within
shut_ends n gate behind shut = ap (λ b. cond b (entry_at behind >>= λ first. option_map (λ others. first.0 ∷ others) (payloads_within n first.1)) (Some [])) (ne_eqb gate 1 shut)

-- an open gate, a whole entry and what its bytes behind it have
open_goes : (n : ℕ) (behind payload rest : List ℕ) → entry_at behind ≡ Some (payload, rest) → payloads_within (suc n) (1 ∷ behind) ≡ option_map (λ others. payload ∷ others) (payloads_within n rest)
unfolding payloads_within
open_goes n behind payload rest e = ap (λ o. o >>= λ first. option_map (λ others. first.0 ∷ others) (payloads_within n first.1)) e

all_read : (n : ℕ) (payloads : List (List ℕ)) (gate : ℕ) (behind : List ℕ) → gate ≢ 1 → length (flat_map entry payloads ++ gate ∷ behind) ≤ most_bytes → length payloads < n → payloads_within n (flat_map entry payloads ++ gate ∷ behind) ≡ Some payloads
all_read zero payloads gate behind shut fits enough = absurd (omega arith)
all_read (suc n) [] gate behind shut fits enough = shut_ends n gate behind shut
all_read (suc n) (payload ∷ payloads) gate behind shut fits enough =
    let rest = flat_map entry payloads ++ gate ∷ behind in
    let split : flat_map entry (payload ∷ payloads) ++ gate ∷ behind ≡ entry payload ++ rest = append_assoc (entry payload) (flat_map entry payloads) (gate ∷ behind) in
    let long : length (entry payload ++ rest) ≤ 67108864 = subst (λ (l : List ℕ). length l ≤ 67108864) split fits in
    let small : length payload < 2 ^ 32 = omega (arith, long, length-append (entry payload) rest, length-append (to_be_bytes w32 (length payload)) payload) in
    let some : 0 < length rest = omega (arith, length-append (flat_map entry payloads) (gate ∷ behind)) in
    let rest_fits : length rest ≤ 67108864 = omega (arith, long, length-append (entry payload) rest) in
    ap (λ (l : List ℕ). payloads_within (suc n) l) split
    ∙ open_goes n ((to_be_bytes w32 (length payload) ++ payload) ++ rest) payload rest (entry_again payload rest small some)
    ∙ ap (option_map (λ others. payload ∷ others)) (all_read n payloads gate behind shut rest_fits (omega arith))

at_least : (payloads : List (List ℕ)) → length payloads ≤ length (flat_map entry payloads)
at_least [] = omega arith
at_least (payload ∷ payloads) = omega (arith, at_least payloads, length-append (entry payload) (flat_map entry payloads))

-- from the first gate on
pub read_from : (payloads : List (List ℕ)) (gate : ℕ) (behind : List ℕ) → gate ≢ 1 → length (flat_map entry payloads ++ gate ∷ behind) ≤ most_bytes → payloads_from (flat_map entry payloads ++ gate ∷ behind) ≡ Some payloads
read_from payloads gate behind shut fits =
    all_read (length (flat_map entry payloads ++ gate ∷ behind)) payloads gate behind shut fits (omega (arith, at_least payloads, length-append (flat_map entry payloads) (gate ∷ behind)))

-- a file of at most 9 bytes has no entry
pub short_none : (file : List ℕ) → length file ≤ 9 → payloads_of file ≡ Some []
unfolding payloads_of
short_none file short =
    let test : nat_le (length file) 9 ≡ true = grind (arith, nat_tests) in
    ap (λ b. cond b (Some []) (cond (nat_le (length file) most_bytes && starts_with nat_eq file heading) (payloads_from (drop 8 file)) None)) test

long_is : (rest : List ℕ) → 9 < length (heading ++ rest) → length (heading ++ rest) ≤ most_bytes → payloads_of (heading ++ rest) ≡ payloads_from rest
unfolding payloads_of
long_is rest long fits =
    let over : nat_le (length (heading ++ rest)) 9 ≡ false = grind (arith, nat_tests) in
    let under : nat_le (length (heading ++ rest)) 67108864 ≡ true = grind (arith, nat_tests) in
    ap (λ b. cond b (Some []) (cond (nat_le (length (heading ++ rest)) most_bytes && starts_with nat_eq (heading ++ rest) heading) (payloads_from rest) None)) over
    ∙ ap (λ b. cond (b && starts_with nat_eq (heading ++ rest) heading) (payloads_from rest) None) under

no_bytes : (payloads : List (List ℕ)) → length (flat_map entry payloads) ≤ 0 → payloads ≡ []
no_bytes [] short = refl
no_bytes (payload ∷ payloads) short = absurd (omega (arith, length-append (entry payload) (flat_map entry payloads)))

-- a file that is laid out has its entries
pub reads_back : (payloads : List (List ℕ)) (file : List ℕ) → IsLaidOut payloads file → payloads_of file ≡ Some payloads
reads_back payloads file laid =
    let rest = flat_map entry payloads ++ laid.gate ∷ laid.behind in
    let whole : file ≡ heading ++ rest = laid.is ∙ append_assoc heading (flat_map entry payloads) (laid.gate ∷ laid.behind) in
    let fits : length (heading ++ rest) ≤ 67108864 = subst (λ (l : List ℕ). length l ≤ 67108864) whole laid.fits in
    elim (cases_lt 9 (length (heading ++ rest))) [
      | inl long ↦ ap payloads_of whole ∙ long_is rest long fits ∙ read_from payloads laid.gate laid.behind laid.shut (omega (arith, fits))
      | inr short ↦
          let none : payloads ≡ [] = no_bytes payloads (omega (arith, short, length-append (flat_map entry payloads) (laid.gate ∷ laid.behind))) in
          ap payloads_of whole ∙ short_none (heading ++ rest) short ∙ ap (λ (ps : List (List ℕ)). Some ps) (sym none)
    ]

-- ---- what is read is laid out

-- an entry behind its gate, and what stands behind it
pub record IsEntry (bytes payload rest : List ℕ) : Type 0 where
  pub parts : bytes ≡ (to_be_bytes w32 (length payload) ++ payload) ++ rest
  pub some : 0 < length rest
  pub fits : IsBytes rest

pub entry_takes : (bytes payload rest : List ℕ) → IsBytes bytes → entry_at bytes ≡ Some (payload, rest) → IsEntry bytes payload rest
unfolding entry_at
entry_takes bytes payload rest fits e =
    let b = bind_some (number_at w32 bytes) (λ len. cond (nat_lt len.0 (length len.1)) (Some (take len.0 len.1, drop len.0 len.1)) None) (payload, rest) e in
    let n = b.0 in
    let t = number_takes w32 (2 ^ 32) wide32 bytes n.0 n.1 fits b.1 in
    let g = guard_held (nat_lt n.0 (length n.1)) (take n.0 n.1, drop n.0 n.1) (payload, rest) b.2 in
    let long : n.0 < length n.1 = ltb-true _ _ g.0 in
    let len : n.0 ≡ length (take n.0 n.1) = omega (arith, length-take n.0 n.1) in
    let made : IsEntry bytes (take n.0 n.1) (drop n.0 n.1) = record {
      parts = t.0.parts ∙ ap (λ (k : ℕ). to_be_bytes w32 k ++ n.1) len
          ∙ ap (λ (l : List ℕ). to_be_bytes w32 (length (take n.0 n.1)) ++ l) (sym (take-append-drop n.0 n.1))
          ∙ sym (append_assoc (to_be_bytes w32 (length (take n.0 n.1))) (take n.0 n.1) (drop n.0 n.1));
      some = omega (arith, length-drop n.0 n.1);
      fits = IsBytes-drop n.0 n.1 t.0.rest_fits;
    } in
    subst (λ (p : List ℕ × List ℕ). IsEntry bytes p.0 p.1) g.1 made

map_some : {A B : Type 0} (f : A → B) (o : Option A) (y : B) → option_map f o ≡ Some y → (x : A) × (o ≡ Some x) × (f x ≡ y)
map_some f (Some x) y e = (x, refl, some_is (f x) y e)
map_some f None y e = absurd cc

-- entries behind one another, and a gate behind them that is not open
pub record IsRun (payloads : List (List ℕ)) (bytes : List ℕ) : Type 0 where
  pub gate : ℕ
  pub behind : List ℕ
  pub shut : gate ≢ 1
  pub is : bytes ≡ flat_map entry payloads ++ gate ∷ behind

one_ahead : (behind payload rest : List ℕ) (others : List (List ℕ)) → IsEntry behind payload rest → IsRun others rest → IsRun (payload ∷ others) (1 ∷ behind)
one_ahead behind payload rest others first run = record {
  gate = run.gate;
  behind = run.behind;
  shut = run.shut;
  is = ap (λ (l : List ℕ). 1 ∷ l) (first.parts ∙ ap (λ (l : List ℕ). (to_be_bytes w32 (length payload) ++ payload) ++ l) run.is)
      ∙ sym (append_assoc (entry payload) (flat_map entry others) (run.gate ∷ run.behind));
}

pub run_within : (n : ℕ) (bytes : List ℕ) (payloads : List (List ℕ)) → IsBytes bytes → payloads_within n bytes ≡ Some payloads → IsRun payloads bytes
unfolding payloads_within
run_within zero bytes payloads fits e = absurd cc
run_within (suc n) [] payloads fits e = absurd cc
run_within (suc n) (gate ∷ behind) payloads fits e = elim (cases_eq gate 1) [
  | inr shut ↦
      let none : payloads ≡ [] = some_is payloads [] (sym e ∙ shut_ends n gate behind shut) in
      record { gate = gate; behind = behind; shut = shut; is = ap (λ (ps : List (List ℕ)). flat_map entry ps ++ gate ∷ behind) (sym none) }
  | inl is_one ↦
      let bytes_behind : IsBytes behind = IsBytes-rest gate behind fits in
      let found : (entry_at behind >>= λ first. option_map (λ others. first.0 ∷ others) (payloads_within n first.1)) ≡ Some payloads =
      sym (ap (λ (g : ℕ). payloads_within (suc n) (g ∷ behind)) is_one) ∙ e in
      let first = bind_some (entry_at behind) (λ first. option_map (λ others. first.0 ∷ others) (payloads_within n first.1)) payloads found in
      let taken = entry_takes behind first.0.0 first.0.1 bytes_behind first.1 in
      let others = map_some (λ others. first.0.0 ∷ others) (payloads_within n first.0.1) payloads first.2 in
      let run = run_within n first.0.1 others.0 taken.fits others.1 in
      subst (λ (g : ℕ). IsRun payloads (g ∷ behind)) (sym is_one)
      (subst (λ (ps : List (List ℕ)). IsRun ps (1 ∷ behind)) others.2 (one_ahead behind first.0.0 first.0.1 others.0 taken run))
]

cond_held : {A : Type 0} (b : Bool) (o : Option A) (y : A) → cond b o None ≡ Some y → (b ≡ true) × (o ≡ Some y)
cond_held true o y e = (refl, e)
cond_held false o y e = absurd cc

-- a file of 10 bytes or more that has entries is laid out with them
pub laid_out : (file : List ℕ) (payloads : List (List ℕ)) → 9 < length file → IsBytes file → payloads_of file ≡ Some payloads → IsLaidOut payloads file
unfolding payloads_of
laid_out file payloads long fits e =
    let over : nat_le (length file) 9 ≡ false = grind (arith, nat_tests) in
    let rest : Option (List (List ℕ)) = cond (nat_le (length file) most_bytes && starts_with nat_eq file heading) (payloads_from (drop 8 file)) None in
    let inner : rest ≡ Some payloads = sym (ap (λ b. cond b (Some []) rest) over) ∙ e in
    let held = cond_held (nat_le (length file) most_bytes && starts_with nat_eq file heading) (payloads_from (drop 8 file)) payloads inner in
    let tests = and_parts (nat_le (length file) most_bytes) (starts_with nat_eq file heading) held.0 in
    let few : length file ≤ 67108864 = grind (arith, nat_tests, tests.0) in
    let front : heading ≡ take 8 file = (bytes_eq-Decides heading (take 8 file)).0 tests.1 in
    let run = run_within (length (drop 8 file)) (drop 8 file) payloads (IsBytes-drop 8 file fits) held.1 in
    record {
      gate = run.gate;
      behind = run.behind;
      shut = run.shut;
      is = sym (take-append-drop 8 file) ∙ ap (λ (l : List ℕ). l ++ drop 8 file) (sym front) ∙ ap (λ (l : List ℕ). heading ++ l) run.is
          ∙ sym (append_assoc heading (flat_map entry payloads) (run.gate ∷ run.behind));
      fits = few;
    }
