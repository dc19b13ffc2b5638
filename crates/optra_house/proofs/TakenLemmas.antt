-- What is read of a payload is spelled so: the fields that were read are in range, and the bytes are theirs.
use Rattle.std.proofs.Common.{◌≡◌, ℕ, ℤ, zero, suc, ◌≤◌, ◌<◌, ◌^◌, Bool, true, false, cond, List, [], ◌∷◌, ◌++◌, length, take, drop, nat_eq, nat_lt, nat_le, ◌&&◌, Option, Some, None, refl, sym, ap, subst, ◌∙◌, append-nil, arith, take-append-drop}
use Rattle.std.specs.Prelude.{All, IsTrue, pos}
use Rattle.std.specs.Int.{to_be_bytes, w16, w32, w64}
use Rattle.std.specs.List.{flat_map, AllByRecursion}
use Rattle.std.proofs.lemmas.Bool.{and_parts, eqb-true, ltb-false}
use Rattle.std.proofs.lemmas.Bool.Decides.{nat_tests}
use Rattle.std.proofs.lemmas.Int.{ints}
use Rattle.std.proofs.lemmas.List.{length-take}
use Rattle.std.proofs.lemmas.List.Elements.{All-from_recursion, All-weaker}
use Rattle.optra_network.specs.Names.{is_name}
use Rattle.optra_bid.specs.Specs.{IsBetween}
use Rattle.optra_auction.specs.Machine.{HasAmount}
use Rattle.optra_auction.specs.declared.Act.{Act}
use Rattle.optra_auction.specs.declared.Act.TheVariants.{Opening, Raise, Amend, Withdraw}
use Rattle.optra_house.specs.Payloads.{Posting, name_bytes, cents_bytes, act_bytes, value_bytes, head_bytes, values_bytes, round_payload, IsSpelled, IsValue, IsPosting}
use Rattle.optra_house.specs.Reading.{◌>>=◌, number_at, name_in, name_at, cents_at, opening_at, raise_at, amend_at, withdraw_at, act_at, value_at, all_at, counted_at, fields_at, round_of}
use Rattle.optra_house.proofs.FieldLemmas.{IsBytes, IsBytes-rest, IsBytes-drop, Takes, Takes-then, bind_some, guard_held, number_takes, some_is, wide16, wide32, wide64}

-- a field that was read is as it may be, and its bytes stand in front
pub record IsTaken {X : Type 0} (text : X → List ℕ) (P : X → Type 0) (bytes : List ℕ) (x : X) (rest : List ℕ) : Type 0 where
  pub is : P x
  pub spelled : IsBytes bytes → Takes bytes (text x) rest

-- a test that did not fail, and what goes on
past : {A : Type 0} (b : Bool) (o : Option A) (y : A) → cond b None o ≡ Some y → (b ≡ false) × (o ≡ Some y)
past true o y e = absurd cc
past false o y e = (refl, e)

-- a byte in front
Takes-front : (b : ℕ) (bytes text rest : List ℕ) → Takes bytes text rest → Takes (b ∷ bytes) (b ∷ text) rest
Takes-front b bytes text rest t = record { parts = ap (λ (l : List ℕ). b ∷ l) t.parts; rest_fits = t.rest_fits }

abbrev pub IsName : List ℕ → Type 0
IsName name = IsTrue (is_name name)

pub name_taken : (bytes name rest : List ℕ) → name_at bytes ≡ Some (name, rest) → IsTaken name_bytes IsName bytes name rest
unfolding name_at
name_taken [] name rest e = absurd cc
name_taken (len ∷ behind) name rest e =
    let g = past (nat_lt (length behind) len) (name_in (take len behind) >>= λ name. Some (name, drop len behind)) (name, rest) e in
    let b = bind_some (name_in (take len behind)) (λ name. Some (name, drop len behind)) (name, rest) g.1 in
    let n = guard_held (is_name (take len behind)) (take len behind) b.0 b.1 in
    let s = some_is (b.0, drop len behind) (name, rest) b.2 in
    let long : len ≤ length behind = ltb-false _ _ g.0 in
    let size : len ≡ length (take len behind) = omega (arith, length-take len behind) in
    let made : IsTaken name_bytes IsName (len ∷ behind) (take len behind) (drop len behind) = record {
      is = n.0;
      spelled = λ fits. record {
        parts = ap (λ (k : ℕ). k ∷ behind) size ∙ ap (λ (l : List ℕ). length (take len behind) ∷ l) (sym (take-append-drop len behind));
        rest_fits = IsBytes-drop len behind (IsBytes-rest len behind fits);
      };
    } in
    let whole : (take len behind, drop len behind) ≡ (name, rest) = ap (λ (l : List ℕ). (l, drop len behind)) n.1 ∙ s in
    subst (λ (p : List ℕ × List ℕ). IsTaken name_bytes IsName (len ∷ behind) p.0 p.1) whole made

pub cents_taken : (least : ℕ) (bytes : List ℕ) (cents : ℤ) (rest : List ℕ) → cents_at least bytes ≡ Some (cents, rest) → IsTaken cents_bytes (IsBetween (pos least) (pos 1000000000)) bytes cents rest
unfolding cents_at
cents_taken least bytes cents rest e =
    let b = bind_some (number_at w64 bytes) (λ n. cond (nat_le least n.0 && nat_le n.0 1000000000) (Some (pos n.0, n.1)) None) (cents, rest) e in
    let n = b.0 in
    let g = guard_held (nat_le least n.0 && nat_le n.0 1000000000) (pos n.0, n.1) (cents, rest) b.2 in
    let tests = and_parts (nat_le least n.0) (nat_le n.0 1000000000) g.0 in
    let low : least ≤ n.0 = grind (arith, nat_tests, tests.0) in
    let high : n.0 ≤ 1000000000 = grind (arith, nat_tests, tests.1) in
    let within : IsBetween (pos least) (pos 1000000000) (pos n.0) = (omega (arith, ints), omega (arith, ints)) in
    let made : IsTaken cents_bytes (IsBetween (pos least) (pos 1000000000)) bytes (pos n.0) n.1 = record {
      is = within;
      spelled = λ fits. (number_takes w64 (2 ^ 64) wide64 bytes n.0 n.1 fits b.1).0;
    } in
    subst (λ (p : ℤ × List ℕ). IsTaken cents_bytes (IsBetween (pos least) (pos 1000000000)) bytes p.0 p.1) g.1 made

-- ---- actions

-- an action whose bytes stand in front
abbrev IsActTaken : List ℕ → Act × List ℕ → Type 0
IsActTaken bytes read = IsTaken act_bytes IsSpelled bytes read.0 read.1

opening_taken : (bytes : List ℕ) (read : Act × List ℕ) → opening_at bytes ≡ Some read → IsActTaken (0 ∷ bytes) read
unfolding opening_at act_bytes IsSpelled
opening_taken bytes read e =
    let a = bind_some (name_at bytes) (λ bidder. name_at bidder.1 >>= λ bid. name_at bid.1 >>= λ spec. cents_at 0 spec.1 >>= λ amount. Some (Opening bidder.0 bid.0 spec.0 amount.0, amount.1)) read e in
    let b = bind_some (name_at a.0.1) (λ bid. name_at bid.1 >>= λ spec. cents_at 0 spec.1 >>= λ amount. Some (Opening a.0.0 bid.0 spec.0 amount.0, amount.1)) read a.2 in
    let d = bind_some (name_at b.0.1) (λ spec. cents_at 0 spec.1 >>= λ amount. Some (Opening a.0.0 b.0.0 spec.0 amount.0, amount.1)) read b.2 in
    let f = bind_some (cents_at 0 d.0.1) (λ amount. Some (Opening a.0.0 b.0.0 d.0.0 amount.0, amount.1)) read d.2 in
    let first = name_taken bytes a.0.0 a.0.1 a.1 in
    let second = name_taken a.0.1 b.0.0 b.0.1 b.1 in
    let third = name_taken b.0.1 d.0.0 d.0.1 d.1 in
    let fourth = cents_taken 0 d.0.1 f.0.0 f.0.1 f.1 in
    let made : IsActTaken (0 ∷ bytes) (Opening a.0.0 b.0.0 d.0.0 f.0.0, f.0.1) = record {
      is = (first.is, second.is, third.is, fourth.is);
      spelled = λ fits.
          let one = first.spelled (IsBytes-rest 0 bytes fits) in
          let two = second.spelled one.rest_fits in
          let three = third.spelled two.rest_fits in
          let four = fourth.spelled three.rest_fits in
          Takes-front 0 bytes (name_bytes a.0.0 ++ (name_bytes b.0.0 ++ (name_bytes d.0.0 ++ cents_bytes f.0.0))) f.0.1
          (Takes-then bytes (name_bytes a.0.0) a.0.1 (name_bytes b.0.0 ++ (name_bytes d.0.0 ++ cents_bytes f.0.0)) f.0.1 one
          (Takes-then a.0.1 (name_bytes b.0.0) b.0.1 (name_bytes d.0.0 ++ cents_bytes f.0.0) f.0.1 two
          (Takes-then b.0.1 (name_bytes d.0.0) d.0.1 (cents_bytes f.0.0) f.0.1 three four)));
    } in
    subst (IsActTaken (0 ∷ bytes)) (some_is (Opening a.0.0 b.0.0 d.0.0 f.0.0, f.0.1) read f.2) made

raise_taken : (bytes : List ℕ) (read : Act × List ℕ) → raise_at bytes ≡ Some read → IsActTaken (1 ∷ bytes) read
unfolding raise_at act_bytes IsSpelled
raise_taken bytes read e =
    let a = bind_some (name_at bytes) (λ bidder. name_at bidder.1 >>= λ bid. cents_at 0 bid.1 >>= λ amount. Some (Raise bidder.0 bid.0 amount.0, amount.1)) read e in
    let b = bind_some (name_at a.0.1) (λ bid. cents_at 0 bid.1 >>= λ amount. Some (Raise a.0.0 bid.0 amount.0, amount.1)) read a.2 in
    let f = bind_some (cents_at 0 b.0.1) (λ amount. Some (Raise a.0.0 b.0.0 amount.0, amount.1)) read b.2 in
    let first = name_taken bytes a.0.0 a.0.1 a.1 in
    let second = name_taken a.0.1 b.0.0 b.0.1 b.1 in
    let third = cents_taken 0 b.0.1 f.0.0 f.0.1 f.1 in
    let made : IsActTaken (1 ∷ bytes) (Raise a.0.0 b.0.0 f.0.0, f.0.1) = record {
      is = (first.is, second.is, third.is);
      spelled = λ fits.
          let one = first.spelled (IsBytes-rest 1 bytes fits) in
          let two = second.spelled one.rest_fits in
          let three = third.spelled two.rest_fits in
          Takes-front 1 bytes (name_bytes a.0.0 ++ (name_bytes b.0.0 ++ cents_bytes f.0.0)) f.0.1
          (Takes-then bytes (name_bytes a.0.0) a.0.1 (name_bytes b.0.0 ++ cents_bytes f.0.0) f.0.1 one
          (Takes-then a.0.1 (name_bytes b.0.0) b.0.1 (cents_bytes f.0.0) f.0.1 two three));
    } in
    subst (IsActTaken (1 ∷ bytes)) (some_is (Raise a.0.0 b.0.0 f.0.0, f.0.1) read f.2) made

amend_taken : (bytes : List ℕ) (read : Act × List ℕ) → amend_at bytes ≡ Some read → IsActTaken (2 ∷ bytes) read
unfolding amend_at act_bytes IsSpelled
amend_taken bytes read e =
    let a = bind_some (name_at bytes) (λ bidder. name_at bidder.1 >>= λ bid. name_at bid.1 >>= λ spec. Some (Amend bidder.0 bid.0 spec.0, spec.1)) read e in
    let b = bind_some (name_at a.0.1) (λ bid. name_at bid.1 >>= λ spec. Some (Amend a.0.0 bid.0 spec.0, spec.1)) read a.2 in
    let d = bind_some (name_at b.0.1) (λ spec. Some (Amend a.0.0 b.0.0 spec.0, spec.1)) read b.2 in
    let first = name_taken bytes a.0.0 a.0.1 a.1 in
    let second = name_taken a.0.1 b.0.0 b.0.1 b.1 in
    let third = name_taken b.0.1 d.0.0 d.0.1 d.1 in
    let made : IsActTaken (2 ∷ bytes) (Amend a.0.0 b.0.0 d.0.0, d.0.1) = record {
      is = (first.is, second.is, third.is);
      spelled = λ fits.
          let one = first.spelled (IsBytes-rest 2 bytes fits) in
          let two = second.spelled one.rest_fits in
          let three = third.spelled two.rest_fits in
          Takes-front 2 bytes (name_bytes a.0.0 ++ (name_bytes b.0.0 ++ name_bytes d.0.0)) d.0.1
          (Takes-then bytes (name_bytes a.0.0) a.0.1 (name_bytes b.0.0 ++ name_bytes d.0.0) d.0.1 one
          (Takes-then a.0.1 (name_bytes b.0.0) b.0.1 (name_bytes d.0.0) d.0.1 two three));
    } in
    subst (IsActTaken (2 ∷ bytes)) (some_is (Amend a.0.0 b.0.0 d.0.0, d.0.1) read d.2) made

withdraw_taken : (bytes : List ℕ) (read : Act × List ℕ) → withdraw_at bytes ≡ Some read → IsActTaken (3 ∷ bytes) read
unfolding withdraw_at act_bytes IsSpelled
withdraw_taken bytes read e =
    let a = bind_some (name_at bytes) (λ bidder. name_at bidder.1 >>= λ bid. Some (Withdraw bidder.0 bid.0, bid.1)) read e in
    let b = bind_some (name_at a.0.1) (λ bid. Some (Withdraw a.0.0 bid.0, bid.1)) read a.2 in
    let first = name_taken bytes a.0.0 a.0.1 a.1 in
    let second = name_taken a.0.1 b.0.0 b.0.1 b.1 in
    let made : IsActTaken (3 ∷ bytes) (Withdraw a.0.0 b.0.0, b.0.1) = record {
      is = (first.is, second.is);
      spelled = λ fits.
          let one = first.spelled (IsBytes-rest 3 bytes fits) in
          let two = second.spelled one.rest_fits in
          Takes-front 3 bytes (name_bytes a.0.0 ++ name_bytes b.0.0) b.0.1 (Takes-then bytes (name_bytes a.0.0) a.0.1 (name_bytes b.0.0) b.0.1 one two);
    } in
    subst (IsActTaken (3 ∷ bytes)) (some_is (Withdraw a.0.0 b.0.0, b.0.1) read b.2) made

pub act_taken : (bytes : List ℕ) (act : Act) (rest : List ℕ) → act_at bytes ≡ Some (act, rest) → IsTaken act_bytes IsSpelled bytes act rest
unfolding act_at
act_taken [] act rest e = absurd cc
act_taken (zero ∷ bytes) act rest e = opening_taken bytes (act, rest) e
act_taken (suc zero ∷ bytes) act rest e = raise_taken bytes (act, rest) e
act_taken (suc (suc zero) ∷ bytes) act rest e = amend_taken bytes (act, rest) e
act_taken (suc (suc (suc zero)) ∷ bytes) act rest e = withdraw_taken bytes (act, rest) e
act_taken (suc (suc (suc (suc kind))) ∷ bytes) act rest e = absurd cc

-- ---- values

pub value_taken : (bytes : List ℕ) (value : Option ℤ) (rest : List ℕ) → value_at bytes ≡ Some (value, rest) → IsTaken value_bytes IsValue bytes value rest
unfolding value_at value_bytes
value_taken [] value rest e = absurd cc
value_taken (zero ∷ bytes) value rest e =
    let made : IsTaken value_bytes IsValue (0 ∷ bytes) None bytes = record { is = tt; spelled = λ fits. record { parts = refl; rest_fits = IsBytes-rest 0 bytes fits } } in
    subst (λ (p : Option ℤ × List ℕ). IsTaken value_bytes IsValue (0 ∷ bytes) p.0 p.1) (some_is (None, bytes) (value, rest) e) made
value_taken (suc zero ∷ bytes) value rest e =
    let b = bind_some (cents_at 1 bytes) (λ cents. Some (Some cents.0, cents.1)) (value, rest) e in
    let first = cents_taken 1 bytes b.0.0 b.0.1 b.1 in
    let made : IsTaken value_bytes IsValue (1 ∷ bytes) (Some b.0.0) b.0.1 = record {
      is = first.is;
      spelled = λ fits. Takes-front 1 bytes (cents_bytes b.0.0) b.0.1 (first.spelled (IsBytes-rest 1 bytes fits));
    } in
    subst (λ (p : Option ℤ × List ℕ). IsTaken value_bytes IsValue (1 ∷ bytes) p.0 p.1) (some_is (Some b.0.0, b.0.1) (value, rest) b.2) made
value_taken (suc (suc flag) ∷ bytes) value rest e = absurd cc

-- ---- fields of one kind

-- so many fields, whose bytes stand in front
record AreTaken {X : Type 0} (text : X → List ℕ) (P : X → Type 0) (n : ℕ) (bytes : List ℕ) (xs : List X) (rest : List ℕ) : Type 0 where
  pub count : length xs ≡ n
  pub taken : IsTaken (flat_map text) (AllByRecursion P) bytes xs rest

all_taken : {X : Type 0} (field : List ℕ → Option (X × List ℕ)) (text : X → List ℕ) (P : X → Type 0) → ((bytes : List ℕ) (x : X) (rest : List ℕ) → field bytes ≡ Some (x, rest) → IsTaken text P bytes x rest)
    → (n : ℕ) (bytes : List ℕ) (xs : List X) (rest : List ℕ) → all_at field n bytes ≡ Some (xs, rest) → AreTaken text P n bytes xs rest
unfolding all_at
all_taken {X} field text P each zero bytes xs rest e =
    let made : AreTaken text P 0 bytes [] bytes = record { count = refl; taken = record { is = tt; spelled = λ fits. record { parts = refl; rest_fits = fits } } } in
    subst (λ (p : List X × List ℕ). AreTaken text P 0 bytes p.0 p.1) (some_is ([], bytes) (xs, rest) e) made
all_taken {X} field text P each (suc n) bytes xs rest e =
    let a = bind_some (field bytes) (λ first. all_at field n first.1 >>= λ others. Some (first.0 ∷ others.0, others.1)) (xs, rest) e in
    let b = bind_some (all_at field n a.0.1) (λ others. Some (a.0.0 ∷ others.0, others.1)) (xs, rest) a.2 in
    let first = each bytes a.0.0 a.0.1 a.1 in
    let others = all_taken field text P each n a.0.1 b.0.0 b.0.1 b.1 in
    let made : AreTaken text P (suc n) bytes (a.0.0 ∷ b.0.0) b.0.1 = record {
      count = omega (arith, others.count);
      taken = record {
        is = (first.is, others.taken.is);
        spelled = λ fits.
            let one = first.spelled fits in
            Takes-then bytes (text a.0.0) a.0.1 (flat_map text b.0.0) b.0.1 one (others.taken.spelled one.rest_fits);
      };
    } in
    subst (λ (p : List X × List ℕ). AreTaken text P (suc n) bytes p.0 p.1) (some_is (a.0.0 ∷ b.0.0, b.0.1) (xs, rest) b.2) made

-- fields behind their number
abbrev pub counted_bytes : {X : Type 0} → (X → List ℕ) → List X → List ℕ
counted_bytes text xs = to_be_bytes w32 (length xs) ++ flat_map text xs

record AreCounted {X : Type 0} (text : X → List ℕ) (P : X → Type 0) (bytes : List ℕ) (xs : List X) (rest : List ℕ) : Type 0 where
  pub is : AllByRecursion P xs
  pub few : IsBytes bytes → length xs < 2 ^ 32
  pub spelled : IsBytes bytes → Takes bytes (counted_bytes text xs) rest

counted_taken : {X : Type 0} (field : List ℕ → Option (X × List ℕ)) (text : X → List ℕ) (P : X → Type 0) → ((bytes : List ℕ) (x : X) (rest : List ℕ) → field bytes ≡ Some (x, rest) → IsTaken text P bytes x rest)
    → (bytes : List ℕ) (xs : List X) (rest : List ℕ) → counted_at field bytes ≡ Some (xs, rest) → AreCounted text P bytes xs rest
unfolding counted_at
counted_taken field text P each bytes xs rest e =
    let a = bind_some (number_at w32 bytes) (λ count. all_at field count.0 count.1) (xs, rest) e in
    let all = all_taken field text P each a.0.0 a.0.1 xs rest a.2 in
    record {
      is = all.taken.is;
      few = λ fits. omega (arith, all.count, (number_takes w32 (2 ^ 32) wide32 bytes a.0.0 a.0.1 fits a.1).1);
      spelled = λ fits.
          let one = (number_takes w32 (2 ^ 32) wide32 bytes a.0.0 a.0.1 fits a.1).0 in
          let counted : Takes bytes (to_be_bytes w32 (length xs)) a.0.1 = subst (λ (k : ℕ). Takes bytes (to_be_bytes w32 k) a.0.1) (sym all.count) one in
          Takes-then bytes (to_be_bytes w32 (length xs)) a.0.1 (flat_map text xs) rest counted (all.taken.spelled one.rest_fits);
    }

spelled_amount : (act : Act) → IsSpelled act → HasAmount act
unfolding IsSpelled
spelled_amount (Opening bidder bid spec amount) is = is.3
spelled_amount (Raise bidder bid amount) is = is.2
spelled_amount (Amend bidder bid spec) is = tt
spelled_amount (Withdraw bidder bid) is = tt

-- the amounts of the actions that are read are in range
pub acts_amounts : (bytes rest : List ℕ) (acts : List Act) → counted_at act_at bytes ≡ Some (acts, rest) → All HasAmount acts
acts_amounts bytes rest acts e =
    All-weaker IsSpelled HasAmount spelled_amount acts (All-from_recursion IsSpelled acts (counted_taken act_at act_bytes IsSpelled act_taken bytes acts rest e).is)

-- ---- a round

-- the bytes are the payload of a round
pub record IsRound (bytes : List ℕ) (posting : Posting) : Type 0 where
  pub is : IsPosting posting
  pub spelled : bytes ≡ round_payload posting

none_left : (bytes : List ℕ) → length bytes ≡ 0 → bytes ≡ []
none_left [] is = refl
none_left (b ∷ bytes) is = absurd (omega arith)

fields_taken : (bytes : List ℕ) (posting : Posting) → IsBytes bytes → fields_at bytes ≡ Some posting → IsRound (1 ∷ bytes) posting
unfolding fields_at head_bytes values_bytes
fields_taken bytes posting fits e =
    let a = bind_some (number_at w16 bytes) (λ number. counted_at act_at number.1 >>= λ acts. counted_at value_at acts.1 >>= λ values. cond (nat_eq (length values.1) 0) (Some (record { number = number.0; acts = acts.0; values = values.0 })) None) posting e in
    let b = bind_some (counted_at act_at a.0.1) (λ acts. counted_at value_at acts.1 >>= λ values. cond (nat_eq (length values.1) 0) (Some (record { number = a.0.0; acts = acts.0; values = values.0 })) None) posting a.2 in
    let d = bind_some (counted_at value_at b.0.1) (λ values. cond (nat_eq (length values.1) 0) (Some (record { number = a.0.0; acts = b.0.0; values = values.0 })) None) posting b.2 in
    let found : Posting = record { number = a.0.0; acts = b.0.0; values = d.0.0 } in
    let g = guard_held (nat_eq (length d.0.1) 0) found posting d.2 in
    let none : d.0.1 ≡ [] = none_left d.0.1 (eqb-true _ _ g.0) in
    let number = number_takes w16 (2 ^ 16) wide16 bytes a.0.0 a.0.1 fits a.1 in
    let acts = counted_taken act_at act_bytes IsSpelled act_taken a.0.1 b.0.0 b.0.1 b.1 in
    let acts_front = acts.spelled number.0.rest_fits in
    let values = counted_taken value_at value_bytes IsValue value_taken b.0.1 d.0.0 d.0.1 d.1 in
    let values_front = values.spelled acts_front.rest_fits in
    let head = to_be_bytes w16 a.0.0 ++ counted_bytes act_bytes b.0.0 in
    let whole = Takes-then bytes head b.0.1 (counted_bytes value_bytes d.0.0) d.0.1 (Takes-then bytes (to_be_bytes w16 a.0.0) a.0.1 (counted_bytes act_bytes b.0.0) b.0.1 number.0 acts_front) values_front in
    let made : IsRound (1 ∷ bytes) found = record {
      is = record { number = number.1; acts_count = acts.few number.0.rest_fits; acts = All-from_recursion IsSpelled b.0.0 acts.is; values_count = values.few acts_front.rest_fits; values = All-from_recursion IsValue d.0.0 values.is };
      spelled = ap (λ (l : List ℕ). 1 ∷ l) (whole.parts ∙ ap (λ (l : List ℕ). (head ++ counted_bytes value_bytes d.0.0) ++ l) none ∙ append-nil (head ++ counted_bytes value_bytes d.0.0));
    } in
    subst (IsRound (1 ∷ bytes)) g.1 made

-- what is read as a round is the payload of that round
pub round_taken : (bytes : List ℕ) (posting : Posting) → IsBytes bytes → round_of bytes ≡ Some posting → IsRound bytes posting
unfolding round_of
round_taken [] posting fits e = absurd cc
round_taken (zero ∷ bytes) posting fits e = absurd cc
round_taken (suc zero ∷ bytes) posting fits e = fields_taken bytes posting (IsBytes-rest 1 bytes fits) e
round_taken (suc (suc kind) ∷ bytes) posting fits e = absurd cc
