-- Room by the numbers of rows: how it changes, and what it tells of legs.
use Rattle.std.proofs.Common.{◌≡◌, ℕ, ◌+◌, ◌≤◌, ◌<◌, List, [], ◌∷◌, length, map, get_or, replicate, Some, slice_get, refl, ap, ◌∙◌, subst, arith, inl, inr}
use Rattle.std.specs.Prelude.{◌↔◌, All, Contains}
use Rattle.std.specs.List.{AllZip}
use Rattle.std.specs.declared.cmp.Ordering.{Ordering}
use Rattle.std.proofs.lemmas.Bool.{cases_lt}
use Rattle.std.proofs.lemmas.List.{length-replicate, get_or-replicate}
use Rattle.std.proofs.lemmas.List.Elements.{All-nil, All-cons, All-head, All-tail, All-append, All-map, All-weaker}
use Rattle.std.proofs.lemmas.Option.{slice_get_within, slice_get-get_or, get_or_from_slice_get}
use Rattle.optra_network.specs.declared.TypeId.{TypeId}
use Rattle.optra_bid.specs.declared.bids.Bid.{Bid}
use Rattle.optra_walk.specs.declared.Leg.{Leg}
use Rattle.optra_walk.specs.Families.{Rows, ListsRows}
use Rattle.optra_node.specs.declared.Decision.{Decision}
use Rattle.optra_node.specs.Nodes.{IsBlocked, others_load}
use Rattle.optra_node.proofs.LoadLemmas.{contains_cases, contains_head, contains_later}
use Rattle.optra_prices.specs.Courses.{HaveCapacities}
use Rattle.optra_prices.specs.Loads.{RowLoads, FitEach, FitsOnce, IsUnused}
use Rattle.optra_prices.specs.NarrowTouches.{touch_of, touches_of}
use Rattle.optra_prices.specs.Rooms.{IsRoom, HasRoomFor, HasRoomForAll, HasRoomOnHeld}
use Rattle.optra_prices.specs.Tables.{IsTouch, AreTouches}
use Rattle.optra_prices.specs.Uses.{AddsUses, TakesUses}
use Rattle.optra_prices.specs.declared.touch.Touch.{Touch}
use Rattle.optra_prices.specs.declared.rooms.Room.{Room}

pub zip_all : {A B : Type 0} (P : A → B → Type 0) (Q : A → Type 0) (xs : List A) (ys : List B) → AllZip P xs ys → ((x : A) (y : B) → Contains ys y → P x y → Q x) → All Q xs
zip_all P Q [] ys h f = All-nil Q
zip_all P Q (x ∷ xs) [] h f = absurd h
zip_all {A} {B} P Q (x ∷ xs) (y ∷ ys) h f = All-cons Q x xs (f x y (contains_head y ys y refl) h.0) (zip_all P Q xs ys h.1 (λ (a : A) (b : B) has is. f a b (contains_later y ys b has) is))

pub zip_second : {A B : Type 0} (P : A → B → Type 0) (xs : List A) (ys : List B) → AllZip P xs ys → (y : B) → Contains ys y → (x : A) × Contains xs x × P x y
zip_second P xs [] h y (k, l, e) = absurd (omega arith)
zip_second P [] (y ∷ ys) h z has = absurd h
zip_second {A} {B} P (x ∷ xs) (y ∷ ys) h z has = elim (contains_cases y ys z has) as (λ _. (w : A) × Contains (x ∷ xs) w × P w z) [
  | inl e ↦ (x, contains_head x xs x refl, subst (λ (v : B). P x v) e h.0)
  | inr c ↦ let r = zip_second P xs ys h.1 z c in (r.0, contains_later x xs r.0 r.1, r.2)
]

all_has : {A : Type 0} (P : A → Type 0) (xs : List A) (x : A) → All P xs → Contains xs x → P x
all_has P xs x all (k, l, e) = subst P e (all k x l)

-- of so many zeros each is 0
pub zero_at : (count n : ℕ) → n < count → slice_get {X = ℕ} (replicate count 0) n ≡ Some 0
zero_at count n l =
    let none : ℕ = 0 in
    let within : n < length (replicate count none) = omega (arith, length-replicate count none, l) in
    slice_get-get_or (replicate count none) n none within ∙ ap Some (get_or-replicate count n none none l)

-- the room of rows of which nothing is used
pub unused_is : {R : Type 0} (rows : Rows R) (numbered : List R) (loads : RowLoads) (room : Room) → length loads.uses ≡ length numbered → HaveCapacities rows numbered loads.capacities → IsUnused loads room.loads → IsRoom rows numbered (λ row. 0) room
unused_is rows numbered loads room count have unused = record {
  uses_are = λ n row at. ap (λ (us : List ℕ). slice_get us n) unused.uses ∙ zero_at (length loads.uses) n (let l = slice_get_within numbered n row at in omega arith);
  capacities_are = λ n row at. ap (λ (cs : List ℕ). slice_get cs n) unused.capacities ∙ have n row at;
}

module _ {R : Type 0} (cmp : R → R → Ordering) (rows : Rows R) (numbered : List R) (total : R → ℕ) (room : Room) (is : IsRoom rows numbered total room)
    (touches : List Touch) (kind : TypeId) (leg : Leg) (used : List R) (are : AreTouches numbered (rows.uses kind leg) touches used) (lists : ListsRows cmp rows.is_row (rows.uses kind leg) used) where
  -- the room for a touch of a row
  abbrev fits : R → Type 0
  fits row = total row + rows.uses kind leg row ≤ rows.capacity row

  touch_fits : (touch : Touch) (row : R) → IsTouch numbered (rows.uses kind leg) touch row → HasRoomFor room touch ↔ fits row
  touch_fits touch row touched =
      let u : get_or room.loads.uses touch.row 0 ≡ total row = get_or_from_slice_get room.loads.uses touch.row (total row) 0 (is.uses_are touch.row row touched.number) in
      let c : get_or room.loads.capacities touch.row 0 ≡ rows.capacity row = get_or_from_slice_get room.loads.capacities touch.row (rows.capacity row) 0 (is.capacities_are touch.row row touched.number) in
      let by = touched.use_is in
      ((λ has. omega (arith, has, u, c, by)), (λ fit. omega (arith, fit, u, c, by)))

  -- there is room for the touches of a leg exactly where the leg and what is used come to no more than the capacity of each row that the leg uses
  pub room_tells : HasRoomForAll room touches ↔ ((row : R) → 0 < rows.uses kind leg row → total row + rows.uses kind leg row ≤ rows.capacity row)
  room_tells = (
    (λ has row some.
        let t = zip_second (IsTouch numbered (rows.uses kind leg)) touches used are row ((lists.used row).0 some) in
        (touch_fits t.0 row t.2).0 (all_has (HasRoomFor room) touches t.0 has t.1)),
    (λ free. zip_all (IsTouch numbered (rows.uses kind leg)) (HasRoomFor room) touches used are (λ touch row has touched. (touch_fits touch row touched).1 (free row ((lists.used row).1 has)))),
  )

-- beside what the others use there is room for the touches of a leg exactly where the leg is not blocked
module _ {R : Type 0} (cmp : R → R → Ordering) (rows : Rows R) (bids : List Bid) (node : List Decision) (number : ℕ) (numbered : List R) (room : Room) (is : IsRoom rows numbered (others_load rows bids node number) room)
    (touches : List Touch) (kind : TypeId) (leg : Leg) (used : List R) (are : AreTouches numbered (rows.uses kind leg) touches used) (lists : ListsRows cmp rows.is_row (rows.uses kind leg) used) where
  abbrev others : R → ℕ
  others = others_load rows bids node number

  pub room_free : HasRoomForAll room touches ↔ (IsBlocked rows bids node number kind leg → ⊥)
  room_free =
      let tells = room_tells cmp rows numbered others room is touches kind leg used are lists in (
        (λ has blocked. let free = tells.0 has blocked.0 blocked.1.used in let above = blocked.1.above in omega (arith, free, above)),
        (λ free. tells.1 (λ row some. elim (cases_lt (rows.capacity row) (rows.uses kind leg row + others row)) as (λ _. others row + rows.uses kind leg row ≤ rows.capacity row) [
          | inl l ↦ absurd (free (row, record { is_row = lists.are_rows row some; used = some; above = l }))
          | inr m ↦ omega (arith, m)
        ])),
      )

-- ---- room that is used up or given back
pub same_room : {R : Type 0} (rows : Rows R) (numbered : List R) (before after : R → ℕ) (room : Room) → ((row : R) → before row ≡ after row) → IsRoom rows numbered before room → IsRoom rows numbered after room
same_room rows numbered before after room same is = record {
  uses_are = λ n row at. is.uses_are n row at ∙ ap Some (same row);
  capacities_are = is.capacities_are;
}

module _ {R : Type 0} (rows : Rows R) (numbered : List R) (extra : ℕ → ℕ) (total more : R → ℕ) (same : (n : ℕ) (row : R) → slice_get numbered n ≡ Some row → extra n ≡ more row) (old new : Room) where
  -- more is used
  pub room_adds : IsRoom rows numbered total old → AddsUses extra old.loads.uses new.loads.uses → new.loads.capacities ≡ old.loads.capacities → IsRoom rows numbered (λ row. total row + more row) new
  room_adds is adds kept = record {
    uses_are = λ n row at.
        let before = is.uses_are n row at in
        let l : n < length old.loads.uses = slice_get_within old.loads.uses n (total row) before in
        let e : get_or old.loads.uses n 0 ≡ total row = get_or_from_slice_get old.loads.uses n (total row) 0 before in
        let a = adds.each n l in
        let u = same n row at in
        let c = adds.count in
        let m : n < length new.loads.uses = omega (arith, c, l) in
        let v : get_or new.loads.uses n 0 ≡ total row + more row = omega (arith, a, e, u) in
        slice_get-get_or new.loads.uses n 0 m ∙ ap Some v;
    capacities_are = λ n row at. ap (λ (cs : List ℕ). slice_get cs n) kept ∙ is.capacities_are n row at;
  }

  -- less is used
  pub room_takes : IsRoom rows numbered (λ row. total row + more row) old → TakesUses extra old.loads.uses new.loads.uses → new.loads.capacities ≡ old.loads.capacities → IsRoom rows numbered total new
  room_takes is takes kept = record {
    uses_are = λ n row at.
        let before = is.uses_are n row at in
        let l : n < length old.loads.uses = slice_get_within old.loads.uses n (total row + more row) before in
        let e : get_or old.loads.uses n 0 ≡ total row + more row = get_or_from_slice_get old.loads.uses n (total row + more row) 0 before in
        let a = takes.each n l in
        let u = same n row at in
        let c = takes.count in
        let m : n < length new.loads.uses = omega (arith, c, l) in
        let v : get_or new.loads.uses n 0 ≡ total row = omega (arith, a, e, u) in
        slice_get-get_or new.loads.uses n 0 m ∙ ap Some v;
    capacities_are = λ n row at. ap (λ (cs : List ℕ). slice_get cs n) kept ∙ is.capacities_are n row at;
  }

-- there is room for each of the touches where there is for the narrow ones and for the others
pub room_for_both : (room : Room) (narrow : List ℕ) (wide : List Touch) → All (FitsOnce room.loads) narrow → HasRoomForAll room wide → HasRoomForAll room (touches_of narrow wide)
room_for_both room narrow wide once others = All-append (HasRoomFor room) (map touch_of narrow) wide (All-map (HasRoomFor room) touch_of narrow once) others

-- there is room for each of the touches of which the row is held, where there is for one more use of each row and for the others
pub room_on_held : (room : Room) (narrow : List ℕ) (wide : List Touch) → FitEach room.loads → HasRoomForAll room wide → HasRoomOnHeld room (touches_of narrow wide)
room_on_held room narrow wide each others =
    let P = λ (touch : Touch). touch.row < length room.loads.uses → HasRoomFor room touch in
    All-append P (map touch_of narrow) wide (All-map P touch_of narrow (λ k d l held. each (get_or narrow k d) held)) (All-weaker (HasRoomFor room) P (λ touch has held. has) wide others)

-- and then there is room for the narrow ones
pub room_for_narrow : (room : Room) (narrow : List ℕ) (wide : List Touch) → HasRoomForAll room (touches_of narrow wide) → All (FitsOnce room.loads) narrow
room_for_narrow room [] wide all = All-nil (FitsOnce room.loads)
room_for_narrow room (row ∷ narrow) wide all = All-cons (FitsOnce room.loads) row narrow (All-head (HasRoomFor room) (touch_of row) (touches_of narrow wide) all) (room_for_narrow room narrow wide (All-tail (HasRoomFor room) (touch_of row) (touches_of narrow wide) all))

-- and for the others
pub room_for_wide : (room : Room) (narrow : List ℕ) (wide : List Touch) → HasRoomForAll room (touches_of narrow wide) → HasRoomForAll room wide
room_for_wide room [] wide all = all
room_for_wide room (row ∷ narrow) wide all = room_for_wide room narrow wide (All-tail (HasRoomFor room) (touch_of row) (touches_of narrow wide) all)
