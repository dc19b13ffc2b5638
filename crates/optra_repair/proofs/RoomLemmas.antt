-- What the totals say of what fits.
use Rattle.std.proofs.Common.{◌≡◌, ℕ, zero, suc, ◌+◌, ◌≤◌, ◌<◌, Bool, true, false, List, [], ◌∷◌, ◌++◌, map, length, take, get_or, Option, Some, None, slice_get, refl, sym, ap, ◌∙◌, subst, arith}
use Rattle.std.specs.Prelude.{◌↔◌, Contains, IfSome}
use Rattle.std.proofs.lemmas.Option.{slice_get-get_or}
use Rattle.std.proofs.lemmas.List.{take_all}
use Rattle.std.proofs.lemmas.List.Sums.{sum_by-append, sum_by-cons}
use Rattle.optra_network.specs.declared.TypeId.{TypeId}
use Rattle.optra_walk.specs.declared.Leg.{Leg}
use Rattle.optra_walk.specs.Families.{Rows, Entry, FitRows, load_of, HasRoom}
use Rattle.optra_rows.proofs.FitLemmas.{load_of-more, fits_more}
use Rattle.optra_walk.proofs.RoomLemmas.{none_past, at_contains}
use Rattle.optra_prices.specs.Parts.{IsPutIn, IsRoomIn}
use Rattle.optra_prices.specs.Repairs.{FitBeside}
use Rattle.optra_prices.specs.declared.arc_tables.ArcTables.{ArcTables}
use Rattle.optra_prices.specs.declared.rooms.Room.{Room}
use Rattle.optra_prices.proofs.RoomLemmas.{same_room}
use Rattle.optra_repair.specs.Placings.{AreTotals, AreWithin, AddsLegs, HaveRoom, IsPut, IsPutWhole, use_of_legs, use_of_walk}

module _ {R : Type 0} (rows : Rows R) where
  pub use-cons : (kind : TypeId) (leg : Leg) (legs : List Leg) (row : R) → use_of_legs rows kind (leg ∷ legs) row ≡ rows.uses kind leg row + use_of_legs rows kind legs row
  use-cons kind leg legs row = sum_by-cons (λ (e : Entry). rows.uses e.0 e.1 row) (kind, leg) (map (λ (l : Leg). (kind, l)) legs)

  pub use-none : (kind : TypeId) (row : R) → use_of_legs rows kind [] row ≡ 0
  use-none kind row = refl

  -- one more leg
  pub use-more : (kind : TypeId) (legs : List Leg) (n : ℕ) (leg : Leg) (row : R) → slice_get legs n ≡ Some leg → use_of_legs rows kind (take (n + 1) legs) row ≡ use_of_legs rows kind (take n legs) row + rows.uses kind leg row
  use-more kind [] n leg row at = absurd (none at)
    where
      none : None ≡ Some leg → ⊥
      none e = cc
  use-more kind (x ∷ legs) zero leg row at =
      let e : x ≡ leg = cc in
      let c = use-cons kind x [] row in
      let s = ap (λ (l : Leg). rows.uses kind l row) e in
      omega arith
  use-more kind (x ∷ legs) (suc n) leg row at =
      let i = use-more kind legs n leg row at in
      let more : suc n + 1 ≡ suc (n + 1) = omega arith in
      let a = ap (λ (m : ℕ). use_of_legs rows kind (take m (x ∷ legs)) row) more ∙ use-cons kind x (take (n + 1) legs) row in
      let b = use-cons kind x (take n legs) row in
      omega arith

  -- the first legs and the next one use at most what all do
  pub use-part : (kind : TypeId) (legs : List Leg) (n : ℕ) (leg : Leg) (row : R) → slice_get legs n ≡ Some leg → use_of_legs rows kind (take n legs) row + rows.uses kind leg row ≤ use_of_legs rows kind legs row
  use-part kind [] n leg row at = absurd (none at)
    where
      none : None ≡ Some leg → ⊥
      none e = cc
  use-part kind (x ∷ legs) zero leg row at =
      let e : x ≡ leg = cc in
      let c = use-cons kind x legs row in
      let s = ap (λ (l : Leg). rows.uses kind l row) e in
      omega arith
  use-part kind (x ∷ legs) (suc n) leg row at =
      let i = use-part kind legs n leg row at in
      let a = use-cons kind x legs row in
      let b = use-cons kind x (take n legs) row in
      omega arith

  -- all legs were added
  pub all_put : (before after : R → ℕ) (kind : TypeId) (legs : List Leg) (n : ℕ) → n ≡ length legs → AddsLegs rows kind (take n legs) before after → AreWithin rows after → IsPut rows kind legs true before after
  all_put before after kind legs n all adds within =
      let e : take n legs ≡ legs = take_all n legs (omega arith) in
      let whole : AddsLegs rows kind legs before after = subst (λ (xs : List Leg). AddsLegs rows kind xs before after) e adds in
      (λ row is_row. let w = within row is_row in let a = whole row in omega arith, whole)

  -- after legs with room, no total is above its capacity
  pub within_more : (before after : R → ℕ) (kind : TypeId) (leg : Leg) → ((row : R) → after row ≡ before row + rows.uses kind leg row) → AreWithin rows before → HasRoom rows before kind leg → AreWithin rows after
  within_more before after kind leg is within room row is_row = by (rows.uses kind leg row) refl
    where
      by : (n : ℕ) → rows.uses kind leg row ≡ n → after row ≤ rows.capacity row
      by zero e = let w = within row is_row in let a = is row in omega arith
      by (suc n) e = let r = room row (omega arith) in let a = is row in omega arith

  -- what legs that were added use is still there
  pub still_there : (before now : R → ℕ) (kind : TypeId) (legs : List Leg) (n : ℕ) (d : Leg) → AddsLegs rows kind (take n legs) now before → ((row : R) → use_of_legs rows kind legs row ≤ before row) → n < length legs
      → (row : R) → rows.uses kind (get_or legs n d) row ≤ now row
  still_there before now kind legs n d adds enough l row =
      let p = use-part kind legs n (get_or legs n d) row (slice_get-get_or legs n d l) in
      let a = adds row in
      let e = enough row in
      omega arith

  -- where a leg has no room after the first ones, they have none together
  pub no_whole : (before after : R → ℕ) (kind : TypeId) (legs : List Leg) (n : ℕ) (leg : Leg) → AddsLegs rows kind (take n legs) before after → slice_get legs n ≡ Some leg
      → ((row : R) → 0 < rows.uses kind leg row → rows.is_row row ≡ true) → (HasRoom rows after kind leg → ⊥) → HaveRoom rows before kind legs → ⊥
  no_whole before after kind legs n leg adds at are_rows none room =
      none (λ row used. let r = room row (are_rows row used) in let p = use-part kind legs n leg row at in let a = adds row in omega arith)

  -- so legs of which not all were added have no room together, and taking them back leaves what was there
  pub not_put : (before after left : R → ℕ) (kind : TypeId) (legs : List Leg) (n : ℕ) → AddsLegs rows kind (take n legs) before after → n ≤ length legs → (n ≡ length legs → ⊥)
      → ((leg : Leg) → Contains legs leg → (row : R) → 0 < rows.uses kind leg row → rows.is_row row ≡ true) → IfSome (slice_get legs n) (λ leg. HasRoom rows after kind leg → ⊥)
      → AddsLegs rows kind (take n legs) left after → IsPut rows kind legs false before left
  not_put before after left kind legs n adds few some are_rows stopped taken = (by (slice_get legs n) refl stopped, λ row. let a = adds row in let t = taken row in omega arith)
    where
      by : (o : Option Leg) → slice_get legs n ≡ o → IfSome o (λ leg. HasRoom rows after kind leg → ⊥) → HaveRoom rows before kind legs → ⊥
      by None e h = absurd (omega (arith, some, none_past legs n e))
      by (Some leg) e h = no_whole before after kind legs n leg adds e (are_rows leg (at_contains legs n leg e)) h

  -- the same, by equal parts
  pub put_moves : (before after : R → ℕ) (kind kind' : TypeId) (legs legs' : List Leg) (kept kept' : Bool) → kind ≡ kind' → legs ≡ legs' → kept ≡ kept' → IsPut rows kind legs kept before after → IsPut rows kind' legs' kept' before after
  put_moves before after kind kind' legs legs' kept kept' a b d put =
      subst (λ (k : TypeId). IsPut rows k legs' kept' before after) a (subst (λ (xs : List Leg). IsPut rows kind xs kept' before after) b (subst (λ (h : Bool). IsPut rows kind legs h before after) d put))

  module _ (placed : List Entry) (total : R → ℕ) (are : AreTotals rows total placed) where
    fit_rows : AreWithin rows total → FitRows rows placed
    fit_rows within row is_row = let w = within row is_row in let a = are row in omega arith

    -- a leg has room exactly where it fits with what is placed
    pub room_fits : (kind : TypeId) (leg : Leg) → AreWithin rows total → ((row : R) → 0 < rows.uses kind leg row → rows.is_row row ≡ true) → HasRoom rows total kind leg ↔ FitBeside rows placed kind (leg ∷ [])
    room_fits kind leg within are_rows = (
      fits_more rows placed (kind, leg) total are (fit_rows within),
      (λ fit row used. let f = fit row (are_rows row used) in let m = load_of-more rows row placed (kind, leg) in let a = are row in omega arith),
    )

    -- legs have room together exactly where they fit with what is placed
    pub whole_fits : (kind : TypeId) (legs : List Leg) → HaveRoom rows total kind legs ↔ FitBeside rows placed kind legs
    whole_fits kind legs = (
      (λ room row is_row. let r = room row is_row in let s = sum row in let a = are row in omega arith),
      (λ fit row is_row. let f = fit row is_row in let s = sum row in let a = are row in omega arith),
    )
      where
        sum : (row : R) → load_of rows row (placed ++ map (λ (l : Leg). (kind, l)) legs) ≡ load_of rows row placed + use_of_legs rows kind legs row
        sum row = sum_by-append (λ (e : Entry). rows.uses e.0 e.1 row) placed (map (λ (l : Leg). (kind, l)) legs)

module _ {R : Type 0} (rows : Rows R) (kept : ArcTables R) (kind : TypeId) (legs : List Leg) (total : R → ℕ) (room : Room) where
  -- a path that was not put leaves the totals, and its walk is not given
  pub put_none : (b : Bool) → b ≡ false → IsPutIn rows kept kind legs b total room → IsPutWhole rows kind legs None total (λ row. total row + use_of_walk rows kind None row)
  put_none false e put = (put.0, λ row. refl)
  put_none true e put = cc

  pub room_none : (b : Bool) → b ≡ false → IsPutIn rows kept kind legs b total room → IsRoomIn rows kept (λ row. total row + use_of_walk rows kind None row) room
  room_none false e put = same_room rows kept.numbering.rows.items total (λ row. total row + 0) room (λ row. omega arith) put.1
  room_none true e put = cc

  -- one that was put is given, and added to them
  pub put_some : (b : Bool) (walk : List Leg) → b ≡ true → walk ≡ legs → IsPutIn rows kept kind legs b total room → IsPutWhole rows kind legs (Some walk) total (λ row. total row + use_of_walk rows kind (Some walk) row)
  put_some true walk e same put = (same, (put.0, λ row. ap (λ (l : List Leg). total row + use_of_legs rows kind l row) same))
  put_some false walk e same put = cc

  pub room_some : (b : Bool) (walk : List Leg) → b ≡ true → walk ≡ legs → IsPutIn rows kept kind legs b total room → IsRoomIn rows kept (λ row. total row + use_of_walk rows kind (Some walk) row) room
  room_some true walk e same put = subst (λ (l : List Leg). IsRoomIn rows kept (λ row. total row + use_of_legs rows kind l row) room) (sym same) put.1
  room_some false walk e same put = cc
