-- The machine's lists of bids: changes one by one, and what every action and every close keeps.
use Rattle.std.proofs.Common.{All, String, string_bytes, ◌≡◌, ◌<◌, ◌≤◌, ◌+◌, ◌++◌, ℕ, zero, suc, List, [], ◌∷◌, length, map, take, drop, set, get_or, slice_get, Option, Some, None, option_map, refl, sym, ap, ◌∙◌, subst, arith, bytes_eq, ℤ, pos, negsuc, ◌*◌, ◌/◌}
use Rattle.std.proofs.lemmas.List.{length-append, length-drop, length-map, length-take, get_or-take, take-map, map_push}
use Rattle.std.proofs.lemmas.List.Edits.{map_over_more}
use Rattle.std.proofs.lemmas.List.Quantifiers.{position-Some}
use Rattle.std.proofs.lemmas.Option.{same_Some, get_or_from_slice_get, slice_get_within}
use Rattle.std.proofs.lemmas.Int.{clamps, ints}
use Rattle.std.proofs.Math.Nat.{mul-le-mul_left}
use Rattle.std.proofs.lemmas.Slice.Eq.{bytes_eq-Decides}
use Rattle.std.specs.Option.{option_map_or}
use Rattle.optra_network.specs.Names.{AllDiffer, place_of}
use Rattle.indexmap.specs.IndexSet.{insert_key}
use Rattle.optra_bid.specs.declared.bids.Bid.{Bid}
use Rattle.optra_network.proofs.NamesLemmas.{texts-insert_key}
use Rattle.optra_network.specs.Names.{texts}
use Rattle.std.specs.String.{string_eq}
use Rattle.std.proofs.lemmas.List.{take_more}
use Rattle.std.proofs.lemmas.Option.{slice_get-map, slice_get_read}
use Rattle.optra_auction.specs.declared.Rules.{Rules}
use Rattle.optra_auction.specs.Machine.{AreRules, IsAmount, Standing, least_raise_of, share_of, spec_names, rested, valued, with_change, with_values}

-- ---- changes

-- a change of the bid at a place
pub with_change-at : (bids : List Standing) (i : ℕ) (change : Standing → Standing) (b : Standing) → slice_get bids i ≡ Some b → with_change bids i change ≡ set bids i (change b)
with_change-at bids i change b at = ap (λ (o : Option Standing). option_map_or (λ (x : Standing). set bids i (change x)) o bids) at

pub some_at : {X : Type 0} (xs : List X) (i : ℕ) → i < length xs → (x : X) × (slice_get xs i ≡ Some x)
some_at [] i within = absurd (omega (arith, within))
some_at (x ∷ xs) zero within = (x, refl)
some_at (x ∷ xs) (suc i) within = some_at xs i (omega (arith, within))

-- without values nothing changes
pub with_values-none : (bids : List Standing) → with_values bids [] ≡ bids
with_values-none [] = refl
with_values-none (b ∷ bids) = refl

pub length-with_values : (bids : List Standing) (values : List (Option ℤ)) → length (with_values bids values) ≡ length bids
length-with_values [] values = refl
length-with_values (b ∷ bids) [] = refl
length-with_values (b ∷ bids) (v ∷ values) = ap suc (length-with_values bids values)

set-with_values : (bids : List Standing) (values : List (Option ℤ)) (i : ℕ) (b : Standing) (v : Option ℤ) → slice_get bids i ≡ Some b → slice_get values i ≡ Some v
    → (slice_get (with_values bids (take i values)) i ≡ Some b) × (set (with_values bids (take i values)) i (valued v b) ≡ with_values bids (take (suc i) values))
set-with_values [] values i b v at value = cc
set-with_values (x ∷ bids) [] i b v at value = cc
set-with_values (x ∷ bids) (w ∷ values) zero b v at value =
    let here = same_Some x b at in
    let there = same_Some w v value in
    (at, sym (λ j. valued (there j) (here j) ∷ with_values-none bids j))
set-with_values (x ∷ bids) (w ∷ values) (suc i) b v at value =
    let later = set-with_values bids values i b v at value in
    (later.0, ap (λ (l : List Standing). valued w x ∷ l) later.1)

-- one more value
pub with_values-more : (bids : List Standing) (values : List (Option ℤ)) (i : ℕ) (v : Option ℤ) → i < length bids → slice_get values i ≡ Some v
    → with_change (with_values bids (take i values)) i (valued v) ≡ with_values bids (take (i + 1) values)
with_values-more bids values i v within value =
    let b = some_at bids i within in
    let step = set-with_values bids values i b.0 v b.1 value in
    let next : suc i ≡ i + 1 = omega arith in
    with_change-at (with_values bids (take i values)) i (valued v) b.0 step.0 ∙ step.1 ∙ ap (λ (n : ℕ). with_values bids (take n values)) next

-- one more bid at rest
pub rested-more : (bids now : List Standing) (i : ℕ) → i < length bids → now ≡ map rested (take i bids) ++ drop i bids
    → with_change now i rested ≡ map rested (take (i + 1) bids) ++ drop (i + 1) bids
rested-more bids now i within so_far =
    let same = ap length so_far ∙ length-append (map rested (take i bids)) (drop i bids) in
    let long : i < length now = omega (arith, same, length-map (take i bids) rested, length-take i bids, length-drop i bids, within) in
    let b = some_at now i long in
    with_change-at now i rested b.0 b.1 ∙ map_over_more rested bids now i b.0 within so_far (sym (get_or_from_slice_get now i b.0 b.0 b.1))

pub length-rested : (bids now : List Standing) (i : ℕ) → i ≤ length bids → now ≡ map rested (take i bids) ++ drop i bids → length now ≡ length bids
length-rested bids now i within so_far =
    let same = ap length so_far ∙ length-append (map rested (take i bids)) (drop i bids) in
    omega (arith, same, length-map (take i bids) rested, length-take i bids, length-drop i bids, within)

-- ---- names

-- of different names, none stands earlier
pub place-earlier : (names : List (List ℕ)) (i : ℕ) (name : List ℕ) → AllDiffer names → slice_get names i ≡ Some name → place_of name (take i names) ≡ None
place-earlier names i name differ at = by (place_of name (take i names)) refl
  where
    by : (o : Option ℕ) → place_of name (take i names) ≡ o → o ≡ None
    by None e = refl
    by (Some k) e =
        let found = position-Some (bytes_eq name) (take i names) k name e in
        let within = slice_get_within names i name at in
        let early : k < i = omega (arith, found.0, length-take i names) in
        let same = (bytes_eq-Decides name (get_or (take i names) k name)).0 found.1 in
        absurd (differ k i name early within (sym (same ∙ get_or-take i names k name early) ∙ sym (get_or_from_slice_get names i name name at)))

-- one more name in the index of specifications
pub spec_names-more : {A : Type 0} (bids : List Bid) (i : ℕ) (bid : Bid) (names new : List (String A)) (t : String A) → AllDiffer (spec_names bids) → i < length bids → bid ≡ get_or bids i bid
    → texts names ≡ spec_names (take i bids) → new ≡ insert_key string_eq names t → string_bytes t ≡ bid.name → texts new ≡ spec_names (take (i + 1) bids)
spec_names-more bids i bid names new t differ within read so_far added same =
    let at = slice_get_read bids (length bids) i bid refl within read in
    let named = slice_get-map (λ (b : Bid). b.name) bids i ∙ ap (option_map (λ (b : Bid). b.name)) at in
    let none = ap (place_of bid.name) (so_far ∙ sym (take-map (λ (b : Bid). b.name) i bids)) ∙ place-earlier (spec_names bids) i bid.name differ named in
    texts-insert_key names new t bid.name added same none
    ∙ ap (λ (l : List (List ℕ)). l ++ bid.name ∷ []) so_far
    ∙ sym (ap spec_names (take_more bids i bid within ∙ ap (λ (b : Bid). take i bids ++ b ∷ []) (sym read)) ∙ map_push (λ (b : Bid). b.name) (take i bids) bid)

-- ---- raises

-- a share of an amount is an amount
pub IsAmount-share_of : (amount : ℤ) (permille : ℕ) → IsAmount amount → permille ≤ 1000 → IsAmount (share_of amount permille)
IsAmount-share_of (pos a) permille h few =
    let top : a ≤ 1000000000 = let u = h.1 in omega (arith, ints) in
    let product = mul-le-mul_left a few in
    let share : (a * permille + 999) / 1000 ≤ a = omega (arith, product) in
    (omega (arith, ints, clamps), omega (arith, ints, clamps))
IsAmount-share_of (negsuc a) permille h few = absurd (let low = h.0 in omega (arith, ints))

-- a least raise is an amount
pub IsAmount-least_raise_of : (rules : Rules) (amount : ℤ) → AreRules rules → IsAmount (share_of amount rules.permille) → IsAmount (least_raise_of rules amount)
IsAmount-least_raise_of rules amount are share =
    let low = share.0 in
    let high = share.1 in
    let least = are.min_increment.0 in
    let most = are.min_increment.1 in
    (omega (arith, ints, clamps), omega (arith, ints, clamps))

-- ---- what every auction keeps

-- what holds of each element holds of the one at a place
pub All-slice_get : {X : Type 0} (P : X → Type 0) (xs : List X) (i : ℕ) (x : X) → All P xs → slice_get xs i ≡ Some x → P x
All-slice_get P xs i x all at = subst P (get_or_from_slice_get xs i x x at) (all i x (slice_get_within xs i x at))
