-- The bids that stand as the first entries of a map: where a name is found, and what a write, an insert and a removal leave.
use Rattle.std.proofs.Common.{◌≡◌, ◌<◌, ◌≤◌, ◌+◌, ◌++◌, ℕ, zero, suc, Bool, true, false, cond, not, nat_lt, List, [], ◌∷◌, length, map, take, drop, set, get_or, slice_get, position, Option, Some, None, option_map, min, refl, sym, ap, ◌∙◌, true≢false, ⊎_elim, is_some, arith, string_bytes, String, bytes_eq, if◌then◌else◌, remove}
use Rattle.std.proofs.lemmas.List.{length-take, length-map, map_push, take_at, take-set-le, take_more_set, length-set, take-map, take-append-le}
use Rattle.std.proofs.lemmas.Option.{none-some, slice_get-map, same_Some, get_or_from_slice_get, slice_get_within}
use Rattle.std.proofs.lemmas.Bool.{cases_lt, le-ltb, lt-ltb, ltb-false, ltb-true}
use Rattle.std.proofs.lemmas.List.Edits.{length-remove}
use Rattle.std.proofs.lemmas.List.Quantifiers.{position-Some}
use Rattle.std.proofs.lemmas.List.Sums.{prefix_len-le-length}
use Rattle.std.specs.Option.{option_map_or}
use Rattle.std.proofs.lemmas.Slice.Eq.{bytes_eq-Decides}
use Rattle.std.specs.List.{position_or_len, swap, insert}
use Rattle.std.specs.Map.{keys_of, values_of}
use Rattle.std.specs.declared.alloc.Global.{Global}
use Rattle.indexmap.specs.IndexMap.{IndexMap, index_map_len, spare, move_index, set_value_at, with_value_at}
use Rattle.indexmap.proofs.CallerLemmas.{index_map_len-with_value_at}
use Rattle.optra_network.specs.Names.{place_of}
use Rattle.optra_network.proofs.NamesLemmas.{position-map}
use Rattle.optra_auction.specs.Machine.{Standing, standing_names, with_change}
use Rattle.optra_auction.specs.Kept.{HaveRoom, named, standing_in, standing_of}
use Rattle.optra_auction.specs.declared.terms.Terms.{Terms}

abbrev Entry : Type 0
Entry = String Global × Terms

-- ---- places

module _ {X : Type 0} (p : X → Bool) where
  -- the first place that passes, or the length, of the front of a list
  position_or_len-take : (n : ℕ) (xs : List X) → position_or_len p (take n xs) ≡ min n (position_or_len p xs)
  position_or_len-take zero xs = omega arith
  position_or_len-take (suc n) [] = omega arith
  position_or_len-take (suc n) (x ∷ xs) =
      elim (p x) as (λ b. cond (not b) (1 + position_or_len p (take n xs)) 0 ≡ min (suc n) (cond (not b) (1 + position_or_len p xs) 0)) [
        | true ↦ omega arith
        | false ↦ omega (arith, position_or_len-take n xs)
      ]

  position-at : (xs : List X) (i : ℕ) → position_or_len p xs ≡ i → i < length xs → position p xs ≡ Some i
  position-at xs i e within = (λ j. cond (nat_lt (e j) (length xs)) (Some (e j)) None) ∙ ap (λ b. cond b (Some i) None) (lt-ltb i (length xs) within)

  some-from : (xs : List X) (i : ℕ) → position p xs ≡ Some i → (position_or_len p xs ≡ i) × (i < length xs)
  some-from xs i e = by (nat_lt (position_or_len p xs) (length xs)) refl
    where
      by : (b : Bool) → nat_lt (position_or_len p xs) (length xs) ≡ b → (position_or_len p xs ≡ i) × (i < length xs)
      by true t =
          let here = same_Some _ _ (sym (ap (λ b. cond b (Some (position_or_len p xs)) None) t) ∙ e) in
          let lt = ltb-true _ _ t in
          (here, omega (arith, here, lt))
      by false t = let gone = sym (ap (λ b. cond b (Some (position_or_len p xs)) None) t) ∙ e in cc

  none-from : (xs : List X) → position p xs ≡ None → position_or_len p xs ≡ length xs
  none-from xs e = by (nat_lt (position_or_len p xs) (length xs)) refl
    where
      by : (b : Bool) → nat_lt (position_or_len p xs) (length xs) ≡ b → position_or_len p xs ≡ length xs
      by true t = let there = sym (ap (λ b. cond b (Some (position_or_len p xs)) None) t) ∙ e in cc
      by false t =
          let past = ltb-false _ _ t in
          let within = prefix_len-le-length (λ x. not (p x)) xs in
          omega (arith, past, within)

  -- a place of the whole list is one of its front where it lies there, and else the front has none
  position-front : (n : ℕ) (xs : List X) (i : ℕ) → position p xs ≡ Some i → i < n → position p (take n xs) ≡ Some i
  position-front n xs i e front =
      let found = some-from xs i e in
      position-at (take n xs) i (position_or_len-take n xs ∙ omega (arith, found.0, front)) (omega (arith, length-take n xs, found.1, front))

  none-at : (xs : List X) → length xs ≤ position_or_len p xs → position p xs ≡ None
  none-at xs past = ap (λ b. cond b (Some (position_or_len p xs)) None) (le-ltb (position_or_len p xs) (length xs) past)

  position-behind : (n : ℕ) (xs : List X) (i : ℕ) → position p xs ≡ Some i → n ≤ i → position p (take n xs) ≡ None
  position-behind n xs i e behind =
      let found = some-from xs i e in
      none-at (take n xs) (omega (arith, position_or_len-take n xs, length-take n xs, found.0, found.1, behind))

  position-nowhere : (n : ℕ) (xs : List X) → position p xs ≡ None → position p (take n xs) ≡ None
  position-nowhere n xs e = none-at (take n xs) (omega (arith, position_or_len-take n xs, length-take n xs, none-from xs e))

-- as many bids as stand
pub length-standing_in : (es : List Entry) (n : ℕ) → n ≤ length es → length (standing_in es n) ≡ n
length-standing_in es n le = omega (arith, length-map (take n es) standing_of, length-take n es, le)

-- the place of a name among the standing bids, by their entries
place-standing : (name : List ℕ) (es : List Entry) (n : ℕ) → place_of name (standing_names (standing_in es n)) ≡ position (λ (k : String Global). bytes_eq name (string_bytes k)) (take n (keys_of es))
place-standing name es n =
    position-map (λ (b : Standing). b.name) (bytes_eq name) (standing_in es n)
    ∙ position-map standing_of (λ (b : Standing). bytes_eq name b.name) (take n es)
    ∙ sym (ap (position (λ (k : String Global). bytes_eq name (string_bytes k))) (take-map (λ (e : Entry). e.0) n es) ∙ position-map (λ (e : Entry). e.0) (λ (k : String Global). bytes_eq name (string_bytes k)) (take n es))

module _ (name : List ℕ) (es : List Entry) (n : ℕ) where
  -- a place of the front is one of a standing bid
  pub place-front : (i : ℕ) → position (λ (k : String Global). bytes_eq name (string_bytes k)) (keys_of es) ≡ Some i → i < n → Some i ≡ place_of name (standing_names (standing_in es n))
  place-front i at front = sym (place-standing name es n ∙ position-front (λ (k : String Global). bytes_eq name (string_bytes k)) n (keys_of es) i at front)

  -- a place behind the front is that of a withdrawn bid
  pub place-behind : (i : ℕ) → position (λ (k : String Global). bytes_eq name (string_bytes k)) (keys_of es) ≡ Some i → n ≤ i → None ≡ place_of name (standing_names (standing_in es n))
  place-behind i at behind = sym (place-standing name es n ∙ position-behind (λ (k : String Global). bytes_eq name (string_bytes k)) n (keys_of es) i at behind)

  -- without a place no bid has the name
  pub place-nowhere : position (λ (k : String Global). bytes_eq name (string_bytes k)) (keys_of es) ≡ None → None ≡ place_of name (standing_names (standing_in es n))
  place-nowhere none = sym (place-standing name es n ∙ position-nowhere (λ (k : String Global). bytes_eq name (string_bytes k)) n (keys_of es) none)

  -- a name of no standing bid, found all the same, is that of a withdrawn bid
  pub behind-from : (i : ℕ) → position (λ (k : String Global). bytes_eq name (string_bytes k)) (keys_of es) ≡ Some i → place_of name (standing_names (standing_in es n)) ≡ None → n ≤ i
  behind-from i at none = ⊎_elim (λ (front : i < n). absurd (none-some i (sym (place-front i at front ∙ none)))) (λ (behind : n ≤ i). behind) (cases_lt i n)

-- what is not there
pub none-from_is_some : {X : Type 0} (o : Option X) → is_some o ≡ false → o ≡ None
none-from_is_some None h = refl
none-from_is_some (Some x) h = absurd (true≢false h)

-- ---- a bid behind the others

-- terms behind the front leave the bids that stand
front-behind : (es : List Entry) (n i : ℕ) (v : Terms) → n ≤ i → take n (set_value_at es i v) ≡ take n es
front-behind [] n i v le = refl
front-behind (e ∷ es) zero i v le = refl
front-behind (e ∷ es) (suc n) zero v le = absurd (omega (arith, le))
front-behind (e ∷ es) (suc n) (suc i) v le = ap (λ (l : List Entry). e ∷ l) (front-behind es n i v (omega (arith, le)))

pub standing-behind : (es : List Entry) (n i : ℕ) (v : Terms) → n ≤ i → standing_in (set_value_at es i v) n ≡ standing_in es n
standing-behind es n i v le = ap (map standing_of) (front-behind es n i v le)

-- the terms of a withdrawn bid of the name are replaced
replaced : (name : List ℕ) (es : List Entry) (i : ℕ) (v : Terms) → i < length es → ((d : String Global) → bytes_eq name (string_bytes (get_or (keys_of es) i d)) ≡ true)
    → option_map standing_of (slice_get (set_value_at es i v) i) ≡ Some (named name v)
replaced name [] i v within same = absurd (omega (arith, within))
replaced name (e ∷ es) zero v within same = ap (λ (bytes : List ℕ). Some (named bytes v)) (sym ((bytes_eq-Decides name (string_bytes e.0)).0 (same e.0)))
replaced name (e ∷ es) (suc i) v within same = replaced name es i v (omega (arith, within)) same

pub replaced-at : (name : List ℕ) (es : List Entry) (i : ℕ) (v : Terms) → position (λ (k : String Global). bytes_eq name (string_bytes k)) (keys_of es) ≡ Some i
    → option_map standing_of (slice_get (set_value_at es i v) i) ≡ Some (named name v)
replaced-at name es i v at =
    let found = some-from (λ (k : String Global). bytes_eq name (string_bytes k)) (keys_of es) i at in
    replaced name es i v (omega (arith, found.1, length-map es (λ (e : Entry). e.0)))
    (λ d. (position-Some (λ (k : String Global). bytes_eq name (string_bytes k)) (keys_of es) i d at).1)

-- a new entry takes one place of the room
pub HaveRoom-insert : {S X : Type 0} (terms more : IndexMap (String Global) Terms S) (count : ℕ) (old : Option X) → HaveRoom terms count
    → index_map_len more ≡ index_map_len terms + (if is_some old then 0 else 1) → is_some old ≡ false → spare terms ≤ spare more + 1 → HaveRoom more count
HaveRoom-insert terms more count old room len absent kept =
    let grown : index_map_len more ≡ index_map_len terms + 1 = len ∙ ap (λ (b : Bool). index_map_len terms + (if b then 0 else 1)) absent in
    record { within = omega (arith, grown, room.within); few = room.few; room = omega (arith, grown, room.room, kept) }

-- a new entry leaves the bids that stand
pub standing-more : (es : List Entry) (n : ℕ) (e : Entry) → n ≤ length es → standing_in (es ++ e ∷ []) n ≡ standing_in es n
standing-more es n e le = ap (map standing_of) (take-append-le n es (e ∷ []) le)

slice_get-push : {X : Type 0} (xs : List X) (x : X) → slice_get (xs ++ x ∷ []) (length xs) ≡ Some x
slice_get-push [] x = refl
slice_get-push (y ∷ xs) x = slice_get-push xs x

-- the terms of a new entry
pub more-at : (name : List ℕ) (es : List Entry) (k : String Global) (v : Terms) → string_bytes k ≡ name → option_map standing_of (slice_get (es ++ (k, v) ∷ []) (length es)) ≡ Some (named name v)
more-at name es k v same = ap (option_map standing_of) (slice_get-push es (k, v)) ∙ ap (λ (bytes : List ℕ). Some (named bytes v)) same

-- an entry from behind the front is swapped to its end
front-swap : {X : Type 0} (xs : List X) (n i : ℕ) (x : X) → slice_get xs i ≡ Some x → n ≤ i → take (n + 1) (swap xs i n) ≡ take n xs ++ x ∷ []
front-swap [] n i x at le = cc
front-swap (d ∷ ys) n i x at le =
    let within = slice_get_within (d ∷ ys) i x at in
    let first = set (d ∷ ys) i (get_or (d ∷ ys) n d) in
    let long : n < length first = omega (arith, length-set (d ∷ ys) i (get_or (d ∷ ys) n d), within, le) in
    take_more_set first n (get_or (d ∷ ys) i d) long
    ∙ (λ j. take-set-le n (d ∷ ys) i (get_or (d ∷ ys) n d) le j ++ get_or_from_slice_get (d ∷ ys) i x d at j ∷ [])

some_entry : (o : Option Entry) (b : Standing) → option_map standing_of o ≡ Some b → (e : Entry) × ((o ≡ Some e) × (standing_of e ≡ b))
some_entry None b h = cc
some_entry (Some e) b h = (e, (refl, same_Some (standing_of e) b h))

-- an entry from behind the front, swapped to its end, is the last of the standing bids
pub standing-swap : (es : List Entry) (n i : ℕ) (b : Standing) → n ≤ i → option_map standing_of (slice_get es i) ≡ Some b → standing_in (swap es i n) (n + 1) ≡ standing_in es n ++ b ∷ []
standing-swap es n i b le at =
    let entry = some_entry (slice_get es i) b at in
    ap (map standing_of) (front-swap es n i entry.0 entry.1.0 le)
    ∙ map_push standing_of (take n es) entry.0
    ∙ ap (λ (last : Standing). standing_in es n ++ last ∷ []) entry.1.1

-- an entry that is there lies within
pub entry-within : (es : List Entry) (i : ℕ) (b : Standing) → option_map standing_of (slice_get es i) ≡ Some b → i < length es
entry-within es i b at = let entry = some_entry (slice_get es i) b at in slice_get_within es i entry.0 entry.1.0

-- ---- a write

-- another value of an entry of the front
front-set_value : (es : List Entry) (n i : ℕ) (k : String Global) (old new : Terms) → slice_get es i ≡ Some (k, old) → i < n
    → standing_in (set_value_at es i new) n ≡ set (standing_in es n) i (named (string_bytes k) new)
front-set_value [] n i k old new at within = cc
front-set_value (e ∷ es) zero i k old new at within = absurd (omega (arith, within))
front-set_value (e ∷ es) (suc n) zero k old new at within =
    ap (λ (x : Entry). named (string_bytes x.0) new ∷ standing_in es n) (same_Some e (k, old) at)
front-set_value (e ∷ es) (suc n) (suc i) k old new at within = ap (λ (l : List Standing). standing_of e ∷ l) (front-set_value es n i k old new at (omega (arith, within)))

entry_at_value : (es : List Entry) (i : ℕ) (v : Terms) → slice_get (values_of es) i ≡ Some v → (k : String Global) × (slice_get es i ≡ Some (k, v))
entry_at_value [] i v at = cc
entry_at_value (e ∷ es) zero v at = (e.0, ap (λ (w : Terms). Some (e.0, w)) (same_Some e.1 v at))
entry_at_value (e ∷ es) (suc i) v at = entry_at_value es i v at

slice_get-front : {X : Type 0} (xs : List X) (n i : ℕ) → i < n → slice_get (take n xs) i ≡ slice_get xs i
slice_get-front [] zero i within = refl
slice_get-front [] (suc n) i within = refl
slice_get-front (x ∷ xs) zero i within = absurd (omega (arith, within))
slice_get-front (x ∷ xs) (suc n) zero within = refl
slice_get-front (x ∷ xs) (suc n) (suc i) within = slice_get-front xs n i (omega (arith, within))

-- a bid of the front is what its entry says
pub standing-at : (es : List Entry) (n i : ℕ) (e : Entry) → i < n → slice_get es i ≡ Some e → slice_get (standing_in es n) i ≡ Some (standing_of e)
standing-at es n i e within at = slice_get-map standing_of (take n es) i ∙ ap (option_map standing_of) (slice_get-front es n i within ∙ at)

-- a write of other terms changes the bid at its place
pub standing-set_value : (es : List Entry) (n i : ℕ) (old new : Terms) (change : Standing → Standing) → slice_get (values_of es) i ≡ Some old → i < n
    → ((name : List ℕ) → named name new ≡ change (named name old)) → standing_in (set_value_at es i new) n ≡ with_change (standing_in es n) i change
standing-set_value es n i old new change at within changed =
    let entry = entry_at_value es i old at in
    front-set_value es n i entry.0 old new entry.1 within
    ∙ ap (set (standing_in es n) i) (changed (string_bytes entry.0))
    ∙ sym (ap (λ (o : Option Standing). option_map_or (λ (b : Standing). set (standing_in es n) i (change b)) o (standing_in es n)) (standing-at es n i (entry.0, old) within entry.1))

-- a write leaves the room as it is
pub HaveRoom-with_value_at : {S : Type 0} (terms : IndexMap (String Global) Terms S) (count i : ℕ) (w : Terms) → HaveRoom terms count → HaveRoom (with_value_at terms i w) count
HaveRoom-with_value_at terms count i w room =
    let len = index_map_len-with_value_at terms i w in
    record { within = omega (arith, len, room.within); few = room.few; room = omega (arith, len, room.room) }

-- ---- a removal

slice_get-get_or_some : {X : Type 0} (xs : List X) (i : ℕ) → i < length xs → (x : X) × (slice_get xs i ≡ Some x)
slice_get-get_or_some [] i within = absurd (omega (arith, within))
slice_get-get_or_some (x ∷ xs) zero within = (x, refl)
slice_get-get_or_some (x ∷ xs) (suc i) within = slice_get-get_or_some xs i (omega (arith, within))

front-remove : {X : Type 0} (xs : List X) (p t : ℕ) → p ≤ t → take t (remove xs p) ≡ remove (take (suc t) xs) p
front-remove [] zero zero le = refl
front-remove [] zero (suc t) le = refl
front-remove [] (suc p) zero le = refl
front-remove [] (suc p) (suc t) le = refl
front-remove (x ∷ xs) zero t le = refl
front-remove (x ∷ xs) (suc p) zero le = absurd (omega (arith, le))
front-remove (x ∷ xs) (suc p) (suc t) le = ap (λ l. x ∷ l) (front-remove xs p t (omega (arith, le)))

pub map-remove : {X Y : Type 0} (f : X → Y) (xs : List X) (p : ℕ) → map f (remove xs p) ≡ remove (map f xs) p
map-remove f [] zero = refl
map-remove f [] (suc p) = refl
map-remove f (x ∷ xs) zero = refl
map-remove f (x ∷ xs) (suc p) = ap (λ l. f x ∷ l) (map-remove f xs p)

-- the bid at a place goes behind the others
pub standing-remove : (es : List Entry) (n t p : ℕ) → n ≤ length es → t + 1 ≡ n → p < n → standing_in (move_index es p t) t ≡ remove (standing_in es n) p
standing-remove es n t p le more within =
    let same : suc t ≡ n = omega (arith, more) in
    let here = slice_get-get_or_some es p (omega (arith, le, within)) in
    let long : length (take t (remove es p)) ≡ t = omega (arith, length-take t (remove es p), length-remove es p (omega (arith, le, within)), le, more) in
    ap (map standing_of)
    (ap (λ (o : Option Entry). take t (option_map_or (λ (x : Entry). insert (remove es p) t x) o es)) here.1
    ∙ take_at (take t (remove es p)) (here.0 ∷ drop t (remove es p)) t long
    ∙ front-remove es p t (omega (arith, more, within)))
    ∙ map-remove standing_of (take (suc t) es) p
    ∙ ap (λ (m : ℕ). remove (standing_in es m) p) same
