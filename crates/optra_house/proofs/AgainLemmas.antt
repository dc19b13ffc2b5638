-- What was written of a round is read again.
use Rattle.std.proofs.Common.{◌≡◌, ℕ, ℤ, ◌^◌, ◌<◌, ◌≤◌, true, false, List, [], ◌∷◌, ◌++◌, length, nat_lt, nat_le, Option, Some, None, refl, sym, ap, ◌∙◌, append_assoc, append-nil, arith}
use Rattle.std.specs.Prelude.{pos, negsuc, IsTrue}
use Rattle.std.specs.Int.{w16, w32, w64, to_be_bytes}
use Rattle.std.specs.List.{flat_map, AllByRecursion}
use Rattle.std.proofs.lemmas.Bool.{le-ltb}
use Rattle.std.proofs.lemmas.Bool.Decides.{nat_tests}
use Rattle.std.proofs.lemmas.Int.{ints}
use Rattle.std.proofs.lemmas.List.{take_at, drop_at, length-append}
use Rattle.std.proofs.lemmas.List.Elements.{recursion_from_All}
use Rattle.optra_network.specs.Names.{is_name}
use Rattle.optra_bid.specs.Specs.{IsBetween}
use Rattle.optra_auction.specs.declared.Act.{Act}
use Rattle.optra_auction.specs.declared.Act.TheVariants.{Opening, Raise, Amend, Withdraw}
use Rattle.optra_house.specs.Payloads.{Posting, name_bytes, cents_bytes, act_bytes, value_bytes, head_bytes, values_bytes, round_payload, IsSpelled, IsValue, IsPosting}
use Rattle.optra_house.specs.Reading.{name_at, cents_at, opening_at, raise_at, amend_at, withdraw_at, act_at, value_at, all_at, counted_at, fields_at, round_of}
use Rattle.optra_house.proofs.FieldLemmas.{number_again, wide16, wide32, wide64}

pub name_again : (name rest : List ℕ) → IsTrue (is_name name) → name_at (name_bytes name ++ rest) ≡ Some (name, rest)
unfolding name_at
name_again name rest is =
    let long : nat_lt (length (name ++ rest)) (length name) ≡ false = le-ltb _ _ (omega (arith, length-append name rest)) in
    let whole : is_name name ≡ true = is in
    rw (long, take_at name rest (length name) refl, drop_at name rest (length name) refl, whole) refl

pub cents_again : (least : ℕ) (cents : ℤ) (rest : List ℕ) → IsBetween (pos least) (pos 1000000000) cents → cents_at least (cents_bytes cents ++ rest) ≡ Some (cents, rest)
unfolding cents_at
cents_again least (pos n) rest between =
    let low : least ≤ n = omega (arith, ints, between.0) in
    let high : n ≤ 1000000000 = omega (arith, ints, between.1) in
    let low_test : nat_le least n ≡ true = grind (arith, nat_tests) in
    let high_test : nat_le n 1000000000 ≡ true = grind (arith, nat_tests) in
    rw (number_again w64 (2 ^ 64) wide64 n rest (omega arith), low_test, high_test) refl
cents_again least (negsuc n) rest between = absurd (omega (arith, ints, between.0))

opening_again : (bidder bid spec : List ℕ) (amount : ℤ) (rest : List ℕ) → IsSpelled (Opening bidder bid spec amount)
    → opening_at (name_bytes bidder ++ (name_bytes bid ++ (name_bytes spec ++ (cents_bytes amount ++ rest)))) ≡ Some (Opening bidder bid spec amount, rest)
unfolding opening_at IsSpelled
opening_again bidder bid spec amount rest spelled =
    rw (
      name_again bidder (name_bytes bid ++ (name_bytes spec ++ (cents_bytes amount ++ rest))) spelled.0,
      name_again bid (name_bytes spec ++ (cents_bytes amount ++ rest)) spelled.1,
      name_again spec (cents_bytes amount ++ rest) spelled.2,
      cents_again 0 amount rest spelled.3,
    ) refl

raise_again : (bidder bid : List ℕ) (amount : ℤ) (rest : List ℕ) → IsSpelled (Raise bidder bid amount)
    → raise_at (name_bytes bidder ++ (name_bytes bid ++ (cents_bytes amount ++ rest))) ≡ Some (Raise bidder bid amount, rest)
unfolding raise_at IsSpelled
raise_again bidder bid amount rest spelled =
    rw (
      name_again bidder (name_bytes bid ++ (cents_bytes amount ++ rest)) spelled.0,
      name_again bid (cents_bytes amount ++ rest) spelled.1,
      cents_again 0 amount rest spelled.2,
    ) refl

amend_again : (bidder bid spec rest : List ℕ) → IsSpelled (Amend bidder bid spec)
    → amend_at (name_bytes bidder ++ (name_bytes bid ++ (name_bytes spec ++ rest))) ≡ Some (Amend bidder bid spec, rest)
unfolding amend_at IsSpelled
amend_again bidder bid spec rest spelled =
    rw (name_again bidder (name_bytes bid ++ (name_bytes spec ++ rest)) spelled.0, name_again bid (name_bytes spec ++ rest) spelled.1, name_again spec rest spelled.2) refl

withdraw_again : (bidder bid rest : List ℕ) → IsSpelled (Withdraw bidder bid)
    → withdraw_at (name_bytes bidder ++ (name_bytes bid ++ rest)) ≡ Some (Withdraw bidder bid, rest)
unfolding withdraw_at IsSpelled
withdraw_again bidder bid rest spelled = rw (name_again bidder (name_bytes bid ++ rest) spelled.0, name_again bid rest spelled.1) refl

pub act_again : (act : Act) (rest : List ℕ) → IsSpelled act → act_at (act_bytes act ++ rest) ≡ Some (act, rest)
unfolding act_at act_bytes
act_again (Opening bidder bid spec amount) rest spelled =
    ap opening_at (append_assoc (name_bytes bidder) (name_bytes bid ++ (name_bytes spec ++ cents_bytes amount)) rest
    ∙ ap (λ (l : List ℕ). name_bytes bidder ++ l) (append_assoc (name_bytes bid) (name_bytes spec ++ cents_bytes amount) rest
    ∙ ap (λ (l : List ℕ). name_bytes bid ++ l) (append_assoc (name_bytes spec) (cents_bytes amount) rest)))
    ∙ opening_again bidder bid spec amount rest spelled
act_again (Raise bidder bid amount) rest spelled =
    ap raise_at (append_assoc (name_bytes bidder) (name_bytes bid ++ cents_bytes amount) rest
    ∙ ap (λ (l : List ℕ). name_bytes bidder ++ l) (append_assoc (name_bytes bid) (cents_bytes amount) rest))
    ∙ raise_again bidder bid amount rest spelled
act_again (Amend bidder bid spec) rest spelled =
    ap amend_at (append_assoc (name_bytes bidder) (name_bytes bid ++ name_bytes spec) rest
    ∙ ap (λ (l : List ℕ). name_bytes bidder ++ l) (append_assoc (name_bytes bid) (name_bytes spec) rest))
    ∙ amend_again bidder bid spec rest spelled
act_again (Withdraw bidder bid) rest spelled =
    ap withdraw_at (append_assoc (name_bytes bidder) (name_bytes bid) rest) ∙ withdraw_again bidder bid rest spelled

pub value_again : (value : Option ℤ) (rest : List ℕ) → IsValue value → value_at (value_bytes value ++ rest) ≡ Some (value, rest)
unfolding value_at value_bytes
value_again None rest is = refl
value_again (Some cents) rest is = rw (cents_again 1 cents rest is) refl

all_again : {X : Type 0} (field : List ℕ → Option (X × List ℕ)) (bytes : X → List ℕ) (P : X → Type 0) → ((x : X) (rest : List ℕ) → P x → field (bytes x ++ rest) ≡ Some (x, rest))
    → (xs : List X) (rest : List ℕ) → AllByRecursion P xs → all_at field (length xs) (flat_map bytes xs ++ rest) ≡ Some (xs, rest)
unfolding all_at
all_again field bytes P again [] rest all = refl
all_again field bytes P again (x ∷ xs) rest all =
    rw (append_assoc (bytes x) (flat_map bytes xs) rest, again x (flat_map bytes xs ++ rest) all.0, all_again field bytes P again xs rest all.1) refl

counted_again : {X : Type 0} (field : List ℕ → Option (X × List ℕ)) (bytes : X → List ℕ) (P : X → Type 0) → ((x : X) (rest : List ℕ) → P x → field (bytes x ++ rest) ≡ Some (x, rest))
    → (xs : List X) (rest : List ℕ) → length xs < 2 ^ 32 → AllByRecursion P xs → counted_at field (to_be_bytes w32 (length xs) ++ (flat_map bytes xs ++ rest)) ≡ Some (xs, rest)
unfolding counted_at
counted_again field bytes P again xs rest few all =
    rw (number_again w32 (2 ^ 32) wide32 (length xs) (flat_map bytes xs ++ rest) few) (all_again field bytes P again xs rest all)

fields_again : (posting : Posting) → IsPosting posting
    → fields_at (to_be_bytes w16 posting.number ++ (to_be_bytes w32 (length posting.acts) ++ (flat_map act_bytes posting.acts ++ (to_be_bytes w32 (length posting.values) ++ (flat_map value_bytes posting.values ++ []))))) ≡ Some posting
unfolding fields_at
fields_again posting is =
    let values = to_be_bytes w32 (length posting.values) ++ (flat_map value_bytes posting.values ++ []) in
    rw (
      number_again w16 (2 ^ 16) wide16 posting.number (to_be_bytes w32 (length posting.acts) ++ (flat_map act_bytes posting.acts ++ values)) is.number,
      counted_again act_at act_bytes IsSpelled act_again posting.acts values is.acts_count (recursion_from_All IsSpelled posting.acts is.acts),
      counted_again value_at value_bytes IsValue value_again posting.values [] is.values_count (recursion_from_All IsValue posting.values is.values),
    ) refl

-- a round is read from its payload
pub round_again : (posting : Posting) → IsPosting posting → round_of (round_payload posting) ≡ Some posting
unfolding round_of head_bytes values_bytes
round_again posting is =
    let acts = to_be_bytes w32 (length posting.acts) ++ flat_map act_bytes posting.acts in
    let values = values_bytes posting.values in
    let regrouped : (to_be_bytes w16 posting.number ++ acts) ++ values ≡ to_be_bytes w16 posting.number ++ (to_be_bytes w32 (length posting.acts) ++ (flat_map act_bytes posting.acts ++ (to_be_bytes w32 (length posting.values) ++ (flat_map value_bytes posting.values ++ [])))) =
    append_assoc (to_be_bytes w16 posting.number) acts values
    ∙ ap (λ (l : List ℕ). to_be_bytes w16 posting.number ++ l) (append_assoc (to_be_bytes w32 (length posting.acts)) (flat_map act_bytes posting.acts) values
    ∙ ap (λ (l : List ℕ). to_be_bytes w32 (length posting.acts) ++ (flat_map act_bytes posting.acts ++ (to_be_bytes w32 (length posting.values) ++ l))) (sym (append-nil (flat_map value_bytes posting.values)))) in
    ap fields_at regrouped ∙ fields_again posting is
