-- Pieces that are put one after another are the bytes of an action or a value.
use Rattle.std.proofs.Common.{◌≡◌, ℕ, ℤ, List, [], ◌∷◌, ◌++◌, sym, ap, subst, ◌∙◌, append_assoc}
use Rattle.std.specs.Prelude.{IsTrue, Option, None, Some}
use Rattle.optra_network.specs.Names.{is_name}
use Rattle.optra_auction.specs.Machine.{HasAmount}
use Rattle.optra_auction.specs.declared.Act.{Act}
use Rattle.optra_auction.specs.declared.Act.TheVariants.{Opening, Raise, Amend, Withdraw}
use Rattle.optra_house.specs.Payloads.{IsSpelled, act_bytes, cents_bytes, name_bytes, value_bytes}

-- a first piece, and another behind it
joined : (old mid new first second : List ℕ) → mid ≡ old ++ first → new ≡ mid ++ second → new ≡ old ++ (first ++ second)
joined old mid new first second p q = q ∙ ap (λ (l : List ℕ). l ++ second) p ∙ append_assoc old first second

pub put_opening : (old a b new bidder bid spec : List ℕ) (amount : ℤ) (act : Act) → act ≡ Opening bidder bid spec amount → a ≡ old ++ (0 ∷ (name_bytes bidder ++ name_bytes bid)) → b ≡ a ++ name_bytes spec → new ≡ b ++ cents_bytes amount → new ≡ old ++ act_bytes act
unfolding act_bytes
put_opening old a b new bidder bid spec amount act is p q r =
    let all = joined old b new (0 ∷ ((name_bytes bidder ++ name_bytes bid) ++ name_bytes spec)) (cents_bytes amount) (joined old a b (0 ∷ (name_bytes bidder ++ name_bytes bid)) (name_bytes spec) p q) r in
    all
    ∙ ap (λ (l : List ℕ). old ++ 0 ∷ l) (append_assoc (name_bytes bidder ++ name_bytes bid) (name_bytes spec) (cents_bytes amount) ∙ append_assoc (name_bytes bidder) (name_bytes bid) (name_bytes spec ++ cents_bytes amount))
    ∙ ap (λ (x : Act). old ++ act_bytes x) (sym is)

pub put_raise : (old a new bidder bid : List ℕ) (amount : ℤ) (act : Act) → act ≡ Raise bidder bid amount → a ≡ old ++ (1 ∷ (name_bytes bidder ++ name_bytes bid)) → new ≡ a ++ cents_bytes amount → new ≡ old ++ act_bytes act
unfolding act_bytes
put_raise old a new bidder bid amount act is p q =
    joined old a new (1 ∷ (name_bytes bidder ++ name_bytes bid)) (cents_bytes amount) p q
    ∙ ap (λ (l : List ℕ). old ++ 1 ∷ l) (append_assoc (name_bytes bidder) (name_bytes bid) (cents_bytes amount))
    ∙ ap (λ (x : Act). old ++ act_bytes x) (sym is)

pub put_amend : (old a new bidder bid spec : List ℕ) (act : Act) → act ≡ Amend bidder bid spec → a ≡ old ++ (2 ∷ (name_bytes bidder ++ name_bytes bid)) → new ≡ a ++ name_bytes spec → new ≡ old ++ act_bytes act
unfolding act_bytes
put_amend old a new bidder bid spec act is p q =
    joined old a new (2 ∷ (name_bytes bidder ++ name_bytes bid)) (name_bytes spec) p q
    ∙ ap (λ (l : List ℕ). old ++ 2 ∷ l) (append_assoc (name_bytes bidder) (name_bytes bid) (name_bytes spec))
    ∙ ap (λ (x : Act). old ++ act_bytes x) (sym is)

pub put_withdraw : (old new bidder bid : List ℕ) (act : Act) → act ≡ Withdraw bidder bid → new ≡ old ++ (3 ∷ (name_bytes bidder ++ name_bytes bid)) → new ≡ old ++ act_bytes act
unfolding act_bytes
put_withdraw old new bidder bid act is p = p ∙ ap (λ (x : Act). old ++ act_bytes x) (sym is)

pub spelled_opening : (bidder bid spec : List ℕ) (amount : ℤ) (act : Act) → act ≡ Opening bidder bid spec amount → IsTrue (is_name bidder) → IsTrue (is_name bid) → IsTrue (is_name spec) → HasAmount act → IsSpelled act
unfolding IsSpelled
spelled_opening bidder bid spec amount act is p q r s = subst IsSpelled (sym is) (p, q, r, subst HasAmount is s)

pub spelled_raise : (bidder bid : List ℕ) (amount : ℤ) (act : Act) → act ≡ Raise bidder bid amount → IsTrue (is_name bidder) → IsTrue (is_name bid) → HasAmount act → IsSpelled act
unfolding IsSpelled
spelled_raise bidder bid amount act is p q s = subst IsSpelled (sym is) (p, q, subst HasAmount is s)

pub spelled_amend : (bidder bid spec : List ℕ) (act : Act) → act ≡ Amend bidder bid spec → IsTrue (is_name bidder) → IsTrue (is_name bid) → IsTrue (is_name spec) → IsSpelled act
unfolding IsSpelled
spelled_amend bidder bid spec act is p q r = subst IsSpelled (sym is) (p, q, r)

pub spelled_withdraw : (bidder bid : List ℕ) (act : Act) → act ≡ Withdraw bidder bid → IsTrue (is_name bidder) → IsTrue (is_name bid) → IsSpelled act
unfolding IsSpelled
spelled_withdraw bidder bid act is p q = subst IsSpelled (sym is) (p, q)

pub put_none : (old new : List ℕ) (value : Option ℤ) → value ≡ None → new ≡ old ++ 0 ∷ [] → new ≡ old ++ value_bytes value
unfolding value_bytes
put_none old new value is p = p ∙ ap (λ (v : Option ℤ). old ++ value_bytes v) (sym is)

pub put_some : (old mid new : List ℕ) (cents : ℤ) (value : Option ℤ) → value ≡ Some cents → mid ≡ old ++ 1 ∷ [] → new ≡ mid ++ cents_bytes cents → new ≡ old ++ value_bytes value
unfolding value_bytes
put_some old mid new cents value is p q = joined old mid new (1 ∷ []) (cents_bytes cents) p q ∙ ap (λ (v : Option ℤ). old ++ value_bytes v) (sym is)
