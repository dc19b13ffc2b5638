-- The first leg of the replies of which something holds, walk by walk.
use Rattle.std.proofs.Common.{◌≡◌, ℕ, zero, suc, ◌+◌, ◌-◌, ◌≤◌, ◌<◌, List, [], ◌∷◌, ◌++◌, map, length, drop, get_or, Option, None, Some, slice_get, unwrap_or, refl, sym, ap, subst, arith, add-one}
use Rattle.std.specs.Prelude.{All, Contains, ◌↔◌}
use Rattle.std.proofs.lemmas.Option.{slice_get_within}
use Rattle.std.proofs.lemmas.List.Elements.{All-nil, All-append, All-map}
use Rattle.std.specs.Prelude.{IfSome}
use Rattle.std.specs.Option.{option_map_or}
use Rattle.std.proofs.lemmas.Option.{get_or_from_slice_get}
use Rattle.optra_network.specs.Net.{Net, IsProper}
use Rattle.optra_network.specs.declared.TypeId.{TypeId}
use Rattle.optra_bid.specs.declared.bids.Bid.{Bid}
use Rattle.optra_walk.specs.Walks.{IsWalk}
use Rattle.optra_walk.specs.Choices.{IsChoice}
use Rattle.optra_walk.specs.Families.{IsUsable}
use Rattle.optra_walk.proofs.UsableLemmas.{walk_usable}
use Rattle.optra_node.specs.Nodes.{kind_at}
use Rattle.optra_node.proofs.ChildLemmas.{some_at}
use Rattle.optra_walk.proofs.EarnLemmas.{choice_long, choice_at}
use Rattle.optra_walk.specs.declared.Leg.{Leg}
use Rattle.optra_search.proofs.FirstLemmas.{contains_at}
use Rattle.optra_search.specs.Splits.{IsFirst, HoldsOfNone, IsFirstOrNone, legs_from, reply_legs}

-- the legs of a walk, each with its bid
abbrev pub legs_of : ℕ → Option (List Leg) → List (ℕ × Leg)
legs_of number None = []
legs_of number (Some legs) = map (λ leg. (number, leg)) legs

legs_from-cons : (number : ℕ) (walk : Option (List Leg)) (replies : List (Option (List Leg))) → legs_from number (walk ∷ replies) ≡ legs_of number walk ++ legs_from (number + 1) replies
legs_from-cons number None replies = refl
legs_from-cons number (Some legs) replies = refl

-- from a bid on, the legs of its walk come first
legs_at_place : (base : ℕ) (replies : List (Option (List Leg))) (i : ℕ) (walk : Option (List Leg)) → i < length replies
    → legs_from base (drop i replies) ≡ legs_of base (get_or replies i walk) ++ legs_from (base + 1) (drop (i + 1) replies)
legs_at_place base [] i walk l = absurd (omega arith)
legs_at_place base (w ∷ replies) zero walk l = legs_from-cons base w replies
legs_at_place base (w ∷ replies) (suc i) walk l = rw (legs_at_place base replies i walk (omega arith), add-one i, add-one (suc i)) refl

data Within : ℕ → ℕ → Type 0 where
  within : {m n : ℕ} → m < n → Within m n
  past : {m n : ℕ} → n ≤ m → Within m n

nat_more : (m n : ℕ) → Within m n → Within (suc m) (suc n)
nat_more m n (within l) = within (omega arith)
nat_more m n (past l) = past (omega arith)

nat : (m n : ℕ) → Within m n
nat zero zero = past (omega arith)
nat zero (suc n) = within (omega arith)
nat (suc m) zero = past (omega arith)
nat (suc m) (suc n) = nat_more m n (nat m n)

module _ {X : Type 0} (P : X → Type 0) where
  later_place : (xs ys : List X) (k : ℕ) (x : X) → slice_get ys k ≡ Some x → slice_get (xs ++ ys) (length xs + k) ≡ Some x
  later_place [] ys k x e = let z : length {A = X} [] + k ≡ k = omega arith in subst (λ (n : ℕ). slice_get ys n ≡ Some x) (sym z) e
  later_place (z ∷ xs) ys k x e = let s : suc (length xs + k) ≡ length (z ∷ xs) + k = omega arith in subst (λ (n : ℕ). slice_get (z ∷ (xs ++ ys)) n ≡ Some x) s (later_place xs ys k x e)

  -- what stands at a place stands in the first list or in the second one
  places_of : (xs ys : List X) (k : ℕ) (x : X) → slice_get (xs ++ ys) k ≡ Some x → (k < length xs → slice_get xs k ≡ Some x) × (length xs ≤ k → slice_get ys (k - length xs) ≡ Some x)
  places_of [] ys k x e = ((λ l. absurd (omega arith)), (λ l. let z : k ≡ k - length {A = X} [] = omega arith in subst (λ (n : ℕ). slice_get ys n ≡ Some x) z e))
  places_of (z ∷ xs) ys zero x e = ((λ l. e), (λ l. absurd (omega arith)))
  places_of (z ∷ xs) ys (suc k) x e =
      let t = places_of xs ys k x e in
      ((λ l. t.0 (omega arith)), (λ l. let s : k - length xs ≡ suc k - length (z ∷ xs) = omega arith in subst (λ (n : ℕ). slice_get ys n ≡ Some x) s (t.1 (omega arith))))

  none_here : (xs : List X) (k : ℕ) (x : X) → HoldsOfNone P xs → slice_get xs k ≡ Some x → P x → ⊥
  none_here [] k x none e = cc
  none_here (z ∷ xs) zero x none e = let s : z ≡ x = cc in λ p. none zero z (omega arith) (subst P (sym s) p)
  none_here (z ∷ xs) (suc k) x none e = none_here xs k x (λ j d l. none (suc j) d (omega arith)) e

  -- the first of the second list, where it holds of none of the first one
  pub first_later : (xs ys : List X) (answer : Option X) → HoldsOfNone P xs → IsFirstOrNone P ys answer → IsFirstOrNone P (xs ++ ys) answer
  first_later xs ys None none rest = All-append (λ x. P x → ⊥) xs ys none rest
  first_later xs ys (Some x) none rest = record {
    place = length xs + rest.place;
    at = later_place xs ys rest.place x rest.at;
    is = rest.is;
    first = λ k earlier l e p. by k earlier l (places_of xs ys k earlier e) (nat k (length xs)) p;
  }
    where
      by : (k : ℕ) (earlier : X) → k < length xs + rest.place → (k < length xs → slice_get xs k ≡ Some earlier) × (length xs ≤ k → slice_get ys (k - length xs) ≡ Some earlier) → Within k (length xs) → P earlier → ⊥
      by k earlier l e (within m) p = none_here xs k earlier none (e.0 m) p
      by k earlier l e (past m) p = rest.first (k - length xs) earlier (omega arith) (e.1 m) p

  -- the first of the first list
  pub first_here : (xs ys : List X) (x : X) → IsFirst P xs x → IsFirst P (xs ++ ys) x
  first_here xs ys x is = record { place = is.place; at = front xs is.place is.at; is = is.is; first = λ k earlier l e p. is.first k earlier l ((places_of xs ys k earlier e).0 (before k l)) p }
    where
      before : (k : ℕ) → k < is.place → k < length xs
      before k l = let w = slice_get_within xs is.place x is.at in omega arith

      front : (xs : List X) (k : ℕ) → slice_get xs k ≡ Some x → slice_get (xs ++ ys) k ≡ Some x
      front [] k e = cc
      front (z ∷ xs) zero e = e
      front (z ∷ xs) (suc k) e = front xs k e

module _ (P : ℕ × Leg → Type 0) where
  at_map : (number : ℕ) (legs : List Leg) (k : ℕ) (x : ℕ × Leg) → slice_get (map (λ leg. (number, leg)) legs) k ≡ Some x → (leg : Leg) × (slice_get legs k ≡ Some leg) × (x ≡ (number, leg))
  at_map number [] k x e = cc
  at_map number (l ∷ legs) zero x e = (l, refl, sym (inside e))
    where
      inside : {y : ℕ × Leg} → Some y ≡ Some x → y ≡ x
      inside e = cc
  at_map number (l ∷ legs) (suc k) x e = at_map number legs k x e

  map_at : (number : ℕ) (legs : List Leg) (k : ℕ) (leg : Leg) → slice_get legs k ≡ Some leg → slice_get {X = ℕ × Leg} (map (λ leg. (number, leg)) legs) k ≡ Some (number, leg)
  map_at number [] k leg e = cc
  map_at number (l ∷ legs) zero leg e = let s : l ≡ leg = cc in ap (λ (x : Leg). Some (number, x)) s
  map_at number (l ∷ legs) (suc k) leg e = map_at number legs k leg e

  -- the first leg of a walk
  pub first_in_walk : (number : ℕ) (legs : List Leg) (leg : Leg) → IsFirst (λ leg. P (number, leg)) legs leg → IsFirst P (legs_of number (Some legs)) (number, leg)
  first_in_walk number legs leg is = record {
    place = is.place;
    at = map_at number legs is.place leg is.at;
    is = is.is;
    first = λ k earlier l e p. let t = at_map number legs k earlier e in is.first k t.0 l t.1 (subst P t.2 p);
  }

  pub none_in_walk : (number : ℕ) (legs : List Leg) → HoldsOfNone (λ leg. P (number, leg)) legs → HoldsOfNone P (legs_of number (Some legs))
  none_in_walk number legs none = All-map (λ e. P e → ⊥) (λ (leg : Leg). (number, leg)) legs none

  -- what is the answer for the rest is the answer for all, where it holds of no leg of the next walk
  pub next_reply : (replies : List (Option (List Leg))) (i : ℕ) (walk : Option (List Leg)) (answer : Option (ℕ × Leg)) → i < length replies → HoldsOfNone P (legs_of i (get_or replies i walk))
      → IsFirstOrNone P (legs_from (i + 1) (drop (i + 1) replies)) answer → IsFirstOrNone P (legs_from i (drop i replies)) answer
  next_reply replies i walk answer l none rest =
      subst (λ (legs : List (ℕ × Leg)). IsFirstOrNone P legs answer) (sym (legs_at_place i replies i walk l))
      (first_later P (legs_of i (get_or replies i walk)) (legs_from (i + 1) (drop (i + 1) replies)) answer none rest)

  -- the first leg of the next walk is the answer for the rest
  pub this_reply : (replies : List (Option (List Leg))) (i : ℕ) (walk : Option (List Leg)) (x : ℕ × Leg) → i < length replies → IsFirst P (legs_of i (get_or replies i walk)) x → IsFirstOrNone P (legs_from i (drop i replies)) (Some x)
  this_reply replies i walk x l is =
      subst (λ (legs : List (ℕ × Leg)). IsFirst P legs x) (sym (legs_at_place i replies i walk l))
      (first_here P (legs_of i (get_or replies i walk)) (legs_from (i + 1) (drop (i + 1) replies)) x is)

  pub past_replies : (base : ℕ) (replies : List (Option (List Leg))) (i : ℕ) → length replies ≤ i → HoldsOfNone P (legs_from base (drop i replies))
  past_replies base [] i l = nothing i
    where
      nothing : (i : ℕ) → HoldsOfNone P (legs_from base (drop i []))
      nothing zero = All-nil (λ e. P e → ⊥)
      nothing (suc i) = All-nil (λ e. P e → ⊥)
  past_replies base (w ∷ replies) zero l = absurd (omega arith)
  past_replies base (w ∷ replies) (suc i) l = past_replies base replies i (omega arith)

  -- the first leg of a reply, or of none
  pub first_in_reply : (number : ℕ) (reply : Option (List Leg)) (leg : Leg) → IsFirst (λ leg. P (number, leg)) (unwrap_or reply []) leg → IsFirst P (legs_of number reply) (number, leg)
  first_in_reply number None leg is = absurd (clash is.at)
    where
      clash : {x : Leg} → None ≡ Some x → ⊥
      clash e = cc
  first_in_reply number (Some legs) leg is = first_in_walk number legs leg is

  pub none_in_reply : (number : ℕ) (reply : Option (List Leg)) → HoldsOfNone (λ leg. P (number, leg)) (unwrap_or reply []) → HoldsOfNone P (legs_of number reply)
  none_in_reply number None none = All-nil (λ e. P e → ⊥)
  none_in_reply number (Some legs) none = none_in_walk number legs none

module _ (P : ℕ × Leg → Type 0) (replies : List (Option (List Leg))) (i : ℕ) (reply : Option (List Leg)) (l : i < length replies) (at : reply ≡ get_or replies i reply)
    (so_far : (answer : Option (ℕ × Leg)) → IsFirstOrNone P (legs_from i (drop i replies)) answer → IsFirstOrNone P (reply_legs replies) answer) where
  -- the leg that is found in this reply is the answer
  pub reply_hit : (leg : Leg) → IsFirst (λ leg. P (i, leg)) (unwrap_or reply []) leg → IsFirst P (reply_legs replies) (i, leg)
  reply_hit leg is =
      so_far (Some (i, leg)) (this_reply P replies i reply (i, leg) l (subst (λ (w : Option (List Leg)). IsFirst P (legs_of i w) (i, leg)) at (first_in_reply P i reply leg is)))

  -- where none is found in this reply, the answer for the rest is the answer
  pub reply_miss : HoldsOfNone (λ leg. P (i, leg)) (unwrap_or reply []) → (answer : Option (ℕ × Leg)) → IsFirstOrNone P (legs_from (i + 1) (drop (i + 1) replies)) answer → IsFirstOrNone P (reply_legs replies) answer
  reply_miss none answer rest =
      so_far answer (next_reply P replies i reply answer l (subst (λ (w : Option (List Leg)). HoldsOfNone P (legs_of i w)) at (none_in_reply P i reply none)) rest)

pub refl_at : {X : Type 0} (xs : List X) (k : ℕ) (d : X) → k < length xs → get_or xs k (get_or xs k d) ≡ get_or xs k d
refl_at [] k d l = absurd (omega arith)
refl_at (x ∷ xs) zero d l = refl
refl_at (x ∷ xs) (suc k) d l = refl_at xs k d (omega arith)

-- the answer is the same for what means the same of each element
pub none_alike : {X : Type 0} (P Q : X → Type 0) (xs : List X) → ((x : X) → Contains xs x → P x ↔ Q x) → HoldsOfNone P xs → HoldsOfNone Q xs
none_alike P Q xs alike none k d l q = none k d l ((alike (get_or xs k d) (k, l, refl_at xs k d l)).1 q)

pub first_alike : {X : Type 0} (P Q : X → Type 0) (xs : List X) (answer : Option X) → ((x : X) → Contains xs x → P x ↔ Q x) → IsFirstOrNone P xs answer → IsFirstOrNone Q xs answer
first_alike P Q xs None alike none = none_alike P Q xs alike none
first_alike P Q xs (Some x) alike is = record {
  place = is.place;
  at = is.at;
  is = (alike x (contains_at xs is.place x is.at)).0 is.is;
  first = λ k earlier l e q. is.first k earlier l e ((alike earlier (contains_at xs k earlier e)).1 q);
}

-- the legs of a reply are usable by the bid's type
pub reply_usable : (net : Net) → IsProper net → (bids : List Bid) (replies : List (Option (List Leg))) (i : ℕ) (reply : Option (List Leg)) → IsChoice net bids replies → i < length replies → reply ≡ get_or replies i reply
    → All (IsUsable net (kind_at bids i)) (unwrap_or reply [])
reply_usable net proper bids replies i reply choice l at =
    let long = choice_long net bids replies choice in
    let b = some_at bids i (length bids) refl (omega arith) in
    let is : b.0 ≡ get_or bids i b.0 = sym (get_or_from_slice_get bids i b.0 b.0 b.1) in
    let walk = choice_at net bids replies i b.0 reply choice (omega arith) is at in
    let kind : kind_at bids i ≡ b.0.path.kind = ap (λ (o : Option Bid). option_map_or (λ b. b.path.kind) o (record { 0 = 0 })) b.1 in
    subst (λ (k : TypeId). All (IsUsable net k) (unwrap_or reply [])) (sym kind) (by b.0 reply walk)
  where
    by : (b : Bid) (reply : Option (List Leg)) → IfSome reply (IsWalk net b.path) → All (IsUsable net b.path.kind) (unwrap_or reply [])
    by b None walk = All-nil (IsUsable net b.path.kind)
    by b (Some legs) walk = walk_usable net proper b legs walk
