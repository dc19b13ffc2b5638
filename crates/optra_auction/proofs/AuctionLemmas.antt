-- What every auction keeps, through each action and through the close of a round.
use Rattle.std.proofs.Common.{◌≡◌, ◌<◌, ◌≤◌, ◌+◌, ◌++◌, ℕ, zero, suc, Bool, true, false, List, [], ◌∷◌, length, map, take, drop, set, get_or, slice_get, Option, Some, None, option_map, is_some, refl, sym, ap, ◌∙◌, subst, arith, ℤ, pos, All, remove, IsTrue, bytes_eq}
use Rattle.std.specs.Prelude.{nat_le, if◌then◌else◌, int_lt, ◌+ℤ◌, ◌≤ℤ◌, Contains}
use Rattle.std.proofs.lemmas.Bool.{leb-false}
use Rattle.std.proofs.lemmas.Int.{ints}
use Rattle.std.proofs.lemmas.List.{get_or-map, length-append, length-map, map_push, take_more}
use Rattle.std.proofs.lemmas.List.Edits.{length-remove}
use Rattle.std.proofs.lemmas.List.Elements.{All-append, All-cons, All-contains, All-contains_itself, All-drop, All-head, All-map, All-nil, All-push, All-set, All-tail, All-take, All-weaker}
use Rattle.std.proofs.lemmas.List.Quantifiers.{all_pairs_remove, position-Some}
use Rattle.std.proofs.lemmas.Option.{get_or_from_slice_get, none-some, same_Some, slice_get-map}
use Rattle.std.specs.Option.{option_and_then, option_map_or}
use Rattle.optra_bid.specs.Specs.{Path}
use Rattle.optra_network.specs.Names.{AreNames, is_name, place_of}
use Rattle.optra_network.specs.Refusals.{first_of}
use Rattle.optra_network.proofs.NamesLemmas.{AreNames-push}
use Rattle.optra_bid.specs.declared.bids.Bid.{Bid}
use Rattle.optra_auction.specs.declared.Refusal.TheVariants.{A2, A3, A6, A10}
use Rattle.optra_bid.specs.Offers.{Offer, offer_of}
use Rattle.optra_auction.specs.Machine.{ArePathsOfSpecs, offer_on, planned_of, IsAmount, IsAuction, IsOn, Standing, State, amend_refusal, amend_table, amended_bid, is_below, is_below_raise, is_full, is_last_round, least_raise_of, opened_bid, opening_refusal, opening_table, paths_of, place_named, raise_refusal, raise_table, raised_bid, reserve_at, reserve_named, rested, spec_named, spec_names, standing_is, standing_names, state_of, valued, with_change, with_values}
use Rattle.optra_auction.proofs.MachineLemmas.{All-slice_get, IsAmount-least_raise_of, IsAmount-share_of, some_at, with_change-at}
use Rattle.optra_auction.proofs.KeptLemmas.{map-remove}
use Rattle.optra_auction.proofs.RefusalLemmas.{standing-named}

-- ---- the tests that hold where nothing refuses

-- where nothing refuses, no test holds
unrefused : {R : Type 0} (ts : List (Bool × R)) (i : ℕ) (t : Bool) (r : R) → first_of ts ≡ None → slice_get ts i ≡ Some (t, r) → t ≡ false
unrefused [] i t r due at = cc
unrefused ((true, q) ∷ ts) i t r due at = cc
unrefused ((false, q) ∷ ts) zero t r due at = sym (ap (λ x. x.0) (same_Some (false, q) (t, r) at))
unrefused ((false, q) ∷ ts) (suc i) t r due at = unrefused ts i t r due at

-- an accepted raise is not below the least
raise-enough : (s : State) (bidder bid : List ℕ) (amount : ℤ) → raise_refusal s bidder bid amount ≡ None → standing_is s bid (is_below_raise s.rules amount) ≡ false
unfolding raise_refusal
raise-enough s bidder bid amount due = unrefused (raise_table s bidder bid amount) 3 (standing_is s bid (is_below_raise s.rules amount)) A6 due refl

-- an accepted amendment is not below the reserve
amend-enough : (s : State) (bidder bid spec : List ℕ) → amend_refusal s bidder bid spec ≡ None → standing_is s bid (is_below (reserve_named s spec)) ≡ false
unfolding amend_refusal
amend-enough s bidder bid spec due = unrefused (amend_table s bidder bid spec) 6 (standing_is s bid (is_below (reserve_named s spec))) A3 due refl

-- an accepted opening is under a new name, not below the reserve, and there is room for it
pub record MayOpen (s : State) (bid spec : List ℕ) (amount : ℤ) : Type 0 where
  pub new : is_some (place_named s bid) ≡ false
  pub enough : int_lt amount (reserve_named s spec) ≡ false
  pub room : is_full s.standing ≡ false

pub opening-may : (s : State) (bid spec : List ℕ) (amount : ℤ) → opening_refusal s bid spec amount ≡ None → MayOpen s bid spec amount
unfolding opening_refusal
opening-may s bid spec amount due = record {
  new = unrefused (opening_table s bid spec amount) 2 (is_some (place_named s bid)) A2 due refl;
  enough = unrefused (opening_table s bid spec amount) 3 (int_lt amount (reserve_named s spec)) A3 due refl;
  room = unrefused (opening_table s bid spec amount) 4 (is_full s.standing) A10 due refl;
}

-- ---- places and amounts

-- a place by name lies within the list
place-within : {X : Type 0} (name : X → List ℕ) (xs : List X) (text : List ℕ) (i : ℕ) → place_of text (map name xs) ≡ Some i → i < length xs
place-within name xs text i at = let found = position-Some (bytes_eq text) (map name xs) i text at in omega (arith, found.0, length-map xs name)

is_some-within : {X : Type 0} (xs : List X) (i : ℕ) → i < length xs → is_some (slice_get xs i) ≡ true
is_some-within xs i within = let there = some_at xs i within in ap is_some there.1

not_below : (a b : ℤ) → int_lt a b ≡ false → b ≤ℤ a
not_below a b h = grind (arith, ints)

-- the reserve of a specification by its place
reserve-at : (s : State) (spec : List ℕ) (k : ℕ) → spec_named s spec ≡ Some k → reserve_named s spec ≡ reserve_at s.specs k
reserve-at s spec k known = ap (λ (o : Option ℕ). option_map_or (reserve_at s.specs) o (pos 0)) known

-- ---- the lists that an auction may have next

-- other bids with the same names, each on its specification
pub IsAuction-next : (s : State) → IsAuction s → (round : ℕ) (standing : List Standing) (moved closed : Bool) → 1 ≤ round → round ≤ s.rules.rounds
    → standing_names standing ≡ standing_names s.standing → All (IsOn s.specs) standing → IsAuction (state_of s.specs s.rules round standing moved closed)
IsAuction-next s is round standing moved closed first last names on =
    let count = ap length names in
    record {
      specs = is.specs;
      rules = is.rules;
      round = first;
      round_max = last;
      few = omega (arith, is.few, count, length-map standing (λ (b : Standing). b.name), length-map s.standing (λ (b : Standing). b.name));
      names = subst AreNames (sym names) is.names;
      standing = on;
    }

standing_names-set : (bids : List Standing) (i : ℕ) (b new : Standing) → slice_get bids i ≡ Some b → new.name ≡ b.name → standing_names (set bids i new) ≡ standing_names bids
standing_names-set [] i b new at same = refl
standing_names-set (x ∷ bids) zero b new at same = ap (λ (n : List ℕ). n ∷ standing_names bids) (same ∙ sym (ap (λ (y : Standing). y.name) (same_Some x b at)))
standing_names-set (x ∷ bids) (suc i) b new at same = ap (λ (l : List (List ℕ)). x.name ∷ l) (standing_names-set bids i b new at same)

-- one bid changed, under its name
IsAuction-changed : (s : State) → IsAuction s → (i : ℕ) (b : Standing) (change : Standing → Standing) → slice_get s.standing i ≡ Some b → (change b).name ≡ b.name → IsOn s.specs (change b)
    → IsAuction (state_of s.specs s.rules s.round (with_change s.standing i change) true s.closed)
IsAuction-changed s is i b change at same on =
    subst (λ (l : List Standing). IsAuction (state_of s.specs s.rules s.round l true s.closed)) (sym (with_change-at s.standing i change b at))
    (IsAuction-next s is s.round (set s.standing i (change b)) true s.closed is.round is.round_max (standing_names-set s.standing i b (change b) at same)
    (All-set (IsOn s.specs) s.standing i (change b) on is.standing))

-- ---- the actions

pub IsAuction-raise : (s : State) → IsAuction s → (bidder bid : List ℕ) (amount : ℤ) (i : ℕ) → IsAmount amount → raise_refusal s bidder bid amount ≡ None → place_named s bid ≡ Some i
    → IsAuction (state_of s.specs s.rules s.round (with_change s.standing i (raised_bid amount)) true s.closed)
IsAuction-raise s is bidder bid amount i range due place =
    let there = some_at s.standing i (place-within (λ (b : Standing). b.name) s.standing bid i place) in
    let b = there.0 in
    let on = All-slice_get (IsOn s.specs) s.standing i b is.standing there.1 in
    let enough = not_below amount (b.amount +ℤ least_raise_of s.rules b.amount)
    (ap (λ (o : Option Standing). option_map_or (is_below_raise s.rules amount) o false) (sym (standing-named s bid i b place there.1)) ∙ raise-enough s bidder bid amount due) in
    let raise = (IsAmount-least_raise_of s.rules b.amount is.rules (IsAmount-share_of b.amount s.rules.permille on.amount is.rules.permille)).0 in
    let reserve = on.reserve in
    IsAuction-changed s is i b (raised_bid amount) there.1 refl (record { spec = on.spec; reserve = omega (arith, ints); amount = range })

pub IsAuction-amend : (s : State) → IsAuction s → (bidder bid spec : List ℕ) (i k : ℕ) → amend_refusal s bidder bid spec ≡ None → place_named s bid ≡ Some i → spec_named s spec ≡ Some k
    → IsAuction (state_of s.specs s.rules s.round (with_change s.standing i (amended_bid k)) true s.closed)
IsAuction-amend s is bidder bid spec i k due place known =
    let there = some_at s.standing i (place-within (λ (b : Standing). b.name) s.standing bid i place) in
    let b = there.0 in
    let on = All-slice_get (IsOn s.specs) s.standing i b is.standing there.1 in
    let enough = not_below b.amount (reserve_named s spec)
    (ap (λ (o : Option Standing). option_map_or (is_below (reserve_named s spec)) o false) (sym (standing-named s bid i b place there.1)) ∙ amend-enough s bidder bid spec due) in
    IsAuction-changed s is i b (amended_bid k) there.1 refl (record {
      spec = is_some-within s.specs k (place-within (λ (x : Bid). x.name) s.specs spec k known);
      reserve = subst (λ (r : ℤ). r ≤ℤ b.amount) (reserve-at s spec k known) enough;
      amount = on.amount;
    })

pub IsAuction-open : (s : State) → IsAuction s → (bidder bid spec : List ℕ) (amount : ℤ) (k : ℕ) → IsTrue (is_name bid) → IsAmount amount → MayOpen s bid spec amount → place_named s bid ≡ None → spec_named s spec ≡ Some k
    → IsAuction (state_of s.specs s.rules s.round (s.standing ++ opened_bid bidder bid k amount ∷ []) true s.closed)
IsAuction-open s is bidder bid spec amount k name range may new known =
    let enough = not_below amount (reserve_named s spec) may.enough in
    let bids = s.standing ++ opened_bid bidder bid k amount ∷ [] in
    record {
      specs = is.specs;
      rules = is.rules;
      round = is.round;
      round_max = is.round_max;
      few = omega (arith, leb-false 500 (length s.standing) may.room, length-append s.standing (opened_bid bidder bid k amount ∷ []));
      names = subst AreNames (sym (map_push (λ (b : Standing). b.name) s.standing (opened_bid bidder bid k amount))) (AreNames-push (standing_names s.standing) bid is.names name new);
      standing = All-push (IsOn s.specs) s.standing (opened_bid bidder bid k amount) is.standing (record {
        spec = is_some-within s.specs k (place-within (λ (x : Bid). x.name) s.specs spec k known);
        reserve = subst (λ (r : ℤ). r ≤ℤ amount) (reserve-at s spec k known) enough;
        amount = range;
      });
    }

All-remove : {X : Type 0} (P : X → Type 0) (xs : List X) (i : ℕ) → All P xs → All P (remove xs i)
All-remove P xs i all = All-append P (take i xs) (drop (suc i) xs) (All-take P i xs all) (All-drop P (suc i) xs all)

pub IsAuction-withdraw : (s : State) → IsAuction s → (bid : List ℕ) (i : ℕ) → place_named s bid ≡ Some i
    → IsAuction (state_of s.specs s.rules s.round (remove s.standing i) true s.closed)
IsAuction-withdraw s is bid i place =
    let within = place-within (λ (b : Standing). b.name) s.standing bid i place in
    let names = map-remove (λ (b : Standing). b.name) s.standing i in
    let inside : i < length (standing_names s.standing) = omega (arith, within, length-map s.standing (λ (b : Standing). b.name)) in
    record {
      specs = is.specs;
      rules = is.rules;
      round = is.round;
      round_max = is.round_max;
      few = omega (arith, is.few, length-remove s.standing i within);
      names = subst AreNames (sym names) (record {
        each = All-remove (λ (n : List ℕ). IsTrue (is_name n)) (standing_names s.standing) i is.names.each;
        differ = all_pairs_remove (λ (x y : List ℕ). x ≡ y → ⊥) (standing_names s.standing) i inside is.names.differ;
      });
      standing = All-remove (IsOn s.specs) s.standing i is.standing;
    }

-- ---- the close of a round

names-with_values : (bids : List Standing) (values : List (Option ℤ)) → standing_names (with_values bids values) ≡ standing_names bids
names-with_values [] values = refl
names-with_values (b ∷ bids) [] = refl
names-with_values (b ∷ bids) (v ∷ values) = ap (λ (l : List (List ℕ)). b.name ∷ l) (names-with_values bids values)

names-rested : (bids : List Standing) → standing_names (map rested bids) ≡ standing_names bids
names-rested [] = refl
names-rested (b ∷ bids) = ap (λ (l : List (List ℕ)). b.name ∷ l) (names-rested bids)

on-with_values : (specs : List Bid) (bids : List Standing) (values : List (Option ℤ)) → All (IsOn specs) bids → All (IsOn specs) (with_values bids values)
on-with_values specs [] values all = all
on-with_values specs (b ∷ bids) [] all = all
on-with_values specs (b ∷ bids) (v ∷ values) all =
    let head = All-head (IsOn specs) b bids all in
    All-cons (IsOn specs) (valued v b) (with_values bids values) (record { spec = head.spec; reserve = head.reserve; amount = head.amount })
    (on-with_values specs bids values (All-tail (IsOn specs) b bids all))

-- the auction with the values of a round
pub IsAuction-with_values : (s : State) → IsAuction s → (values : List (Option ℤ)) (moved closed : Bool) → IsAuction (state_of s.specs s.rules s.round (with_values s.standing values) moved closed)
IsAuction-with_values s is values moved closed =
    IsAuction-next s is s.round (with_values s.standing values) moved closed is.round is.round_max (names-with_values s.standing values) (on-with_values s.specs s.standing values is.standing)

-- the next round
pub IsAuction-rested : (s : State) → IsAuction s → (values : List (Option ℤ)) (moved closed : Bool) → s.round < s.rules.rounds
    → IsAuction (state_of s.specs s.rules (s.round + 1) (map rested (with_values s.standing values)) moved closed)
IsAuction-rested s is values moved closed more =
    let bids = with_values s.standing values in
    IsAuction-next s is (s.round + 1) (map rested bids) moved closed (omega arith) (omega (arith, more)) (names-rested bids ∙ names-with_values s.standing values)
    (All-map (IsOn s.specs) rested bids
    (All-weaker (IsOn s.specs) (λ (b : Standing). IsOn s.specs (rested b)) (λ b on. record { spec = on.spec; reserve = on.reserve; amount = on.amount }) bids
    (on-with_values s.specs s.standing values is.standing)))

-- a round that is not the last one is below the most rounds
pub not_last : (s : State) → is_last_round s ≡ false → s.round < s.rules.rounds
not_last s more = by s.moved s.rules.rounds s.round more
  where
    by : (moved : Bool) (rounds round : ℕ) → (if moved then nat_le rounds round else true) ≡ false → round < rounds
    by true rounds round h = leb-false rounds round h
    by false rounds round h = cc

-- ---- the bids that are planned

-- the offer of a planned bid is on its specification
planned-on : (specs : List Bid) (b : Standing) (offer : Offer) → Some offer ≡ planned_of specs b → (spec : Bid) × ((slice_get specs b.spec ≡ Some spec) × (offer ≡ offer_on spec b))
planned-on specs b offer e = by (slice_get specs b.spec) refl
  where
    by : (o : Option Bid) → slice_get specs b.spec ≡ o → (spec : Bid) × ((slice_get specs b.spec ≡ Some spec) × (offer ≡ offer_on spec b))
    by None at = absurd (none-some offer (sym (e ∙ ap (option_map (λ (spec : Bid). offer_on spec b)) at)))
    by (Some spec) at = (spec, (at, same_Some offer (offer_on spec b) (e ∙ ap (option_map (λ (x : Bid). offer_on x b)) at)))

-- planned bids have the names of the standing ones
pub planned-names : (specs : List Bid) (standing : List Standing) (bids : List Bid) → map (λ (bid : Bid). Some (offer_of bid)) bids ≡ map (planned_of specs) standing → spec_names bids ≡ standing_names standing
planned-names specs [] [] e = refl
planned-names specs [] (x ∷ bids) e = cc
planned-names specs (b ∷ standing) [] e = cc
planned-names specs (b ∷ standing) (x ∷ bids) e =
    let head : Some (offer_of x) ≡ planned_of specs b = cc in
    let tail : map (λ (bid : Bid). Some (offer_of bid)) bids ≡ map (planned_of specs) standing = cc in
    let on = planned-on specs b (offer_of x) head in
    let same = planned-names specs standing bids tail in
    let name = ap (λ (o : Offer). o.name) on.1.1 in
    λ j. name j ∷ same j

-- planned bids are for paths of the specifications
pub planned-paths : (specs : List Bid) (standing : List Standing) (bids : List Bid) → map (λ (bid : Bid). Some (offer_of bid)) bids ≡ map (planned_of specs) standing → ArePathsOfSpecs specs bids
planned-paths specs [] [] e = All-nil (Contains (paths_of specs))
planned-paths specs [] (x ∷ bids) e = cc
planned-paths specs (b ∷ standing) [] e = cc
planned-paths specs (b ∷ standing) (x ∷ bids) e =
    let head : Some (offer_of x) ≡ planned_of specs b = cc in
    let tail : map (λ (bid : Bid). Some (offer_of bid)) bids ≡ map (planned_of specs) standing = cc in
    let on = planned-on specs b (offer_of x) head in
    let same : on.0.path ≡ x.path = sym (ap (λ (o : Offer). o.path) on.1.1) in
    let path : slice_get (paths_of specs) b.spec ≡ Some x.path =
    slice_get-map (λ (spec : Bid). spec.path) specs b.spec ∙ ap (option_map (λ (spec : Bid). spec.path)) on.1.0 ∙ ap (λ (p : Path). Some p) same in
    All-cons (Contains (paths_of specs)) x.path (paths_of bids)
    (All-slice_get (Contains (paths_of specs)) (paths_of specs) b.spec x.path (All-contains_itself (paths_of specs)) path)
    (planned-paths specs standing bids tail)

-- what the path of each specification has, that of each bid has
pub paths_hold : (P : Path → Type 0) (specs bids : List Bid) → ArePathsOfSpecs specs bids → All (λ (spec : Bid). P spec.path) specs → All (λ (bid : Bid). P bid.path) bids
paths_hold P specs bids paths all =
    let each : All P (paths_of specs) = All-map P (λ (spec : Bid). spec.path) specs all in
    λ i d within.
    let long : i < length (paths_of bids) = omega (arith, within, length-map bids (λ (bid : Bid). bid.path)) in
    subst P (get_or-map (λ (bid : Bid). bid.path) bids i d d.path within) (All-contains P (paths_of specs) (get_or (paths_of bids) i d.path) each (paths i d.path long))

-- one more planned bid
pub planned-more : (specs : List Bid) (standing : List Standing) (bids more : List Bid) (i : ℕ) (bid : Bid) → map (λ (x : Bid). Some (offer_of x)) bids ≡ map (planned_of specs) (take i standing)
    → i < length standing → option_and_then (planned_of specs) (slice_get standing i) ≡ Some (offer_of bid) → more ≡ bids ++ bid ∷ []
    → map (λ (x : Bid). Some (offer_of x)) more ≡ map (planned_of specs) (take (i + 1) standing)
planned-more specs standing bids more i bid so_far within plan e =
    let there = some_at standing i within in
    let offer = sym (ap (option_and_then (planned_of specs)) there.1) ∙ plan in
    ap (map (λ (x : Bid). Some (offer_of x))) e
    ∙ map_push (λ (x : Bid). Some (offer_of x)) bids bid
    ∙ (λ j. so_far j ++ sym offer j ∷ [])
    ∙ sym (ap (map (planned_of specs)) (take_more standing i there.0 within ∙ ap (λ (b : Standing). take i standing ++ b ∷ []) (get_or_from_slice_get standing i there.0 there.0 there.1))
    ∙ map_push (planned_of specs) (take i standing) there.0)
