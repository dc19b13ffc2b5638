-- The laws of the rows of platforms.
use Rattle.std.proofs.Common.{◌≡◌, ℕ, zero, suc, ◌+◌, ◌-◌, ◌<◌, ◌≤◌, ◌&&◌, ◌↔◌, min, Bool, true, false, cond, nat_eq, nat_lt, nat_le, Option, Some, None, IsSome, List, [], map, length, get_or, sum_by, refl, sym, ap, ◌∙◌, subst, arith, rules, true≢false, ◌||◌, not}
use Rattle.std.proofs.lemmas.Bool.{ltb-true, leb-true, eqb-true, lt-ltb, le-leb, eq-eqb, and_parts, and_from, false_from_ne_true}
use Rattle.std.proofs.lemmas.List.{nil_from_length}
use Rattle.std.proofs.lemmas.List.FromFn.{length-map-range_with_len}
use Rattle.std.proofs.lemmas.List.Sums.{sum_by-le}
use Rattle.std.proofs.lemmas.Map.Lookups.{exact_unsigned}
use Rattle.std.specs.List.{range_with_len}
use Rattle.std.specs.Option.{option_map, option_map_or}
use Rattle.std.specs.Cmp.{nat_cmp_is}
use Rattle.std.specs.Ordering.{nat_cmp, ordering_then}
use Rattle.std.specs.declared.cmp.Ordering.{Ordering}
use Rattle.std.specs.declared.cmp.Ordering.TheVariants.{Less, Equal, Greater}
use Rattle.optra_network.specs.Net.{Net, IsProper, MayUse, times_of, halt_max_of}
use Rattle.optra_network.specs.declared.StationId.{StationId}
use Rattle.optra_network.specs.declared.Times.{Times}
use Rattle.optra_network.specs.declared.TypeId.{TypeId}
use Rattle.optra_network.proofs.MemberLemmas.{In, in_from, contains_from, all_from_in, in_map, in_map_from, in_range, in_range_from}
use Rattle.optra_network.proofs.ReadLemmas.{halt_most}
use Rattle.optra_walk.specs.Families.{Ascends, Entry, FitRows, IsUsable, ListsRows, TellsApart, UseAlike, UsesFew}
use Rattle.optra_walk.specs.Legs.{after_action, arrival_of, dwell_of, next_depart_of}
use Rattle.optra_walk.specs.Rules.{KeepsHalts, head_of, is_standing, stands_at}
use Rattle.optra_walk.specs.declared.Action.{Action}
use Rattle.optra_walk.specs.declared.Action.TheVariants.{Pass, Halt, Wait, Finish}
use Rattle.optra_walk.specs.declared.Leg.{Leg}
use Rattle.optra_platform.specs.declared.PRow.{PRow}
use Rattle.optra_platform.specs.contracts.PRowOrd.TheImpl.{ghosts}
use Rattle.optra_platform.specs.Platforms.{count_between, is_row_of, uses_row, use_in, is_free, most_rows, platform_rows, row_at, rows_between, rows_from, rows_of_stay, standing_rows}

-- the order of rows
abbrev pub row_cmp : PRow → PRow → Ordering
row_cmp = ghosts.cmp

pub row_cmp_is : (a b : PRow) → row_cmp a b ≡ ordering_then (nat_cmp a.station.0 b.station.0) (nat_cmp a.minute b.minute)
row_cmp_is a b = refl

both_equal : (a b : Ordering) → ordering_then a b ≡ Equal → (a ≡ Equal) × (b ≡ Equal)
both_equal Less b e = absurd (cc)
both_equal Equal b e = (refl, e)
both_equal Greater b e = absurd (cc)

pub rows_told_apart : TellsApart row_cmp
rows_told_apart a b e =
    let x = both_equal (nat_cmp a.station.0 b.station.0) (nat_cmp a.minute b.minute) e in
    let station = exact_unsigned _ _ x.0 in
    let minute = exact_unsigned _ _ x.1 in
    λ i. record { station = record { 0 = station i }; minute = minute i }

later : (s : StationId) (m n : ℕ) → m < n → row_cmp (row_at s m) (row_at s n) ≡ Less
later s m n l = ap (λ o. ordering_then o (nat_cmp m n)) (sym (nat_cmp_is s.0 s.0 Equal refl)) ∙ sym (nat_cmp_is m n Less l)

between_ascends : (s : StationId) (from len : ℕ) → Ascends row_cmp (map (row_at s) (range_with_len from len))
between_ascends s from zero = tt
between_ascends s from (suc len) = (
  all_from_in (λ row. row_cmp (row_at s from) row ≡ Less) (map (row_at s) (range_with_len (from + 1) len)) (λ row i.
      let m = in_map_from (row_at s) (range_with_len (from + 1) len) row i in
      let r = in_range_from (from + 1) len m.source m.inside in
      subst (λ (x : PRow). row_cmp (row_at s from) x ≡ Less) m.is (later s from m.source (omega (arith, r)))),
  between_ascends s (from + 1) len,
)

-- ---- a stay by its parts

-- whether an action, a station, an arrival and a departure stand at a row
abbrev stays : Action → Option StationId → Option ℕ → PRow → Bool
stays action head arrival row =
    is_standing action
    && option_map_or (λ s. nat_eq s.0 row.station.0) head false
    && option_map_or (λ a. nat_le a row.minute) arrival false
    && option_map_or (λ d. nat_lt row.minute d) (after_action action arrival) false

and_false : (b c : Bool) → (b && false && c) ≡ true → ⊥
and_false true c e = true≢false (sym e)
and_false false c e = true≢false (sym e)

module _ (net : Net) where
  in_stay : (s : StationId) (a d : ℕ) (row : PRow) → is_row_of net row ≡ true → (nat_eq s.0 row.station.0 && nat_le a row.minute && nat_lt row.minute d) ≡ true → In row (rows_from net s a d)
  in_stay s a d row is h =
      let limit = and_parts _ _ is in
      let x = and_parts _ _ h in
      let y = and_parts _ _ x.0 in
      let same : s.0 ≡ row.station.0 = eqb-true _ _ y.0 in
      let station : s ≡ row.station = λ i. record { 0 = same i } in
      let low : a ≤ row.minute = leb-true _ _ y.1 in
      let high : row.minute < d = ltb-true _ _ x.1 in
      let day : row.minute ≤ 2879 = leb-true _ _ limit.1 in
      let limited : nat_lt 0 (halt_max_of net s) ≡ true = subst (λ (t : StationId). nat_lt 0 (halt_max_of net t) ≡ true) (sym station) limit.0 in
      let inside : In (row_at s row.minute) (rows_between s a d) = in_map (row_at s) (range_with_len a (min d 2880 - a)) row.minute (in_range a (min d 2880 - a) row.minute low (omega arith)) in
      let whole : In row (rows_between s a d) = subst (λ (t : StationId). In (row_at t row.minute) (rows_between s a d)) station inside in
      subst (λ b. In row (cond b (rows_between s a d) [])) (sym limited) whole

  from_stay : (s : StationId) (a d : ℕ) (row : PRow) → In row (rows_from net s a d)
      → (is_row_of net row ≡ true) × ((nat_eq s.0 row.station.0 && nat_le a row.minute && nat_lt row.minute d) ≡ true) × (a < d)
  from_stay s a d row i = go (nat_lt 0 (halt_max_of net s)) refl i
    where
      go : (b : Bool) → nat_lt 0 (halt_max_of net s) ≡ b → In row (cond b (rows_between s a d) [])
          → (is_row_of net row ≡ true) × ((nat_eq s.0 row.station.0 && nat_le a row.minute && nat_lt row.minute d) ≡ true) × (a < d)
      go false e j = absurd j
      go true e j =
          let m = in_map_from (row_at s) (range_with_len a (min d 2880 - a)) row j in
          let r = in_range_from a (min d 2880 - a) m.source m.inside in
          subst (λ (x : PRow). (is_row_of net x ≡ true) × ((nat_eq s.0 x.station.0 && nat_le a x.minute && nat_lt x.minute d) ≡ true) × (a < d)) m.is (
            and_from _ _ e (le-leb _ _ (omega (arith, r))),
            and_from _ _ (and_from _ _ (eq-eqb s.0 s.0 refl) (le-leb _ _ (omega (arith, r)))) (lt-ltb _ _ (omega (arith, r))),
            omega (arith, r),
          )

  in_rows : (action : Action) (head : Option StationId) (arrival : Option ℕ) (row : PRow) → is_row_of net row ≡ true → stays action head arrival row ≡ true
      → In row (rows_of_stay net head arrival (after_action action arrival))
  in_rows Pass head arrival row is h = absurd (true≢false (sym h))
  in_rows Finish head arrival row is h = absurd (true≢false (sym h))
  in_rows (Halt dwell) None arrival row is h = absurd (true≢false (sym h))
  in_rows (Halt dwell) (Some s) None row is h = absurd (and_false (nat_eq s.0 row.station.0) false h)
  in_rows (Halt dwell) (Some s) (Some a) row is h = in_stay s a (a + dwell) row is h
  in_rows (Wait dwell) None arrival row is h = absurd (true≢false (sym h))
  in_rows (Wait dwell) (Some s) None row is h = absurd (and_false (nat_eq s.0 row.station.0) false h)
  in_rows (Wait dwell) (Some s) (Some a) row is h = in_stay s a (a + dwell) row is h

  rows_used : (action : Action) (head : Option StationId) (arrival : Option ℕ) (row : PRow) → In row (rows_of_stay net head arrival (after_action action arrival))
      → (is_row_of net row ≡ true) × (stays action head arrival row ≡ true)
  rows_used action None arrival row i = absurd i
  rows_used action (Some s) None row i = absurd (none action i)
    where
      none : (action : Action) → In row (rows_of_stay net (Some s) None (after_action action None)) → ⊥
      none action j = j
  rows_used Pass (Some s) (Some a) row i = let u = from_stay s a a row i in absurd (omega (arith, u.2))
  rows_used Finish (Some s) (Some a) row i = absurd i
  rows_used (Halt dwell) (Some s) (Some a) row i = let u = from_stay s a (a + dwell) row i in (u.0, u.1)
  rows_used (Wait dwell) (Some s) (Some a) row i = let u = from_stay s a (a + dwell) row i in (u.0, u.1)

  -- at most as many as the dwell
  few_between : (s : StationId) (a d most : ℕ) → d ≤ a + most → length (rows_from net s a d) ≤ most
  few_between s a d most l = go (nat_lt 0 (halt_max_of net s))
    where
      go : (b : Bool) → length (cond b (rows_between s a d) []) ≤ most
      go false = omega arith
      go true = let n = length-map-range_with_len (row_at s) a (min d 2880 - a) in omega arith

  few_rows : (action : Action) (head : Option StationId) (arrival : Option ℕ) → length (rows_of_stay net head arrival (after_action action arrival)) ≤ dwell_of action
  few_rows action None arrival = omega arith
  few_rows action (Some s) None = omega arith
  few_rows Pass (Some s) (Some a) = few_between s a a 0 (omega arith)
  few_rows Finish (Some s) (Some a) = omega arith
  few_rows (Halt dwell) (Some s) (Some a) = few_between s a (a + dwell) dwell (omega arith)
  few_rows (Wait dwell) (Some s) (Some a) = few_between s a (a + dwell) dwell (omega arith)

  stay_ascends : (head : Option StationId) (arrival departure : Option ℕ) → Ascends row_cmp (rows_of_stay net head arrival departure)
  stay_ascends None arrival departure = tt
  stay_ascends (Some s) None departure = tt
  stay_ascends (Some s) (Some a) None = tt
  stay_ascends (Some s) (Some a) (Some d) = go (nat_lt 0 (halt_max_of net s))
    where
      go : (b : Bool) → Ascends row_cmp (cond b (rows_between s a d) [])
      go false = tt
      go true = between_ascends s a (min d 2880 - a)

-- ---- the laws

use_one : (b : Bool) → cond b 1 0 ≤ 1
use_one true = omega arith
use_one false = omega arith

use_true : (b : Bool) → 0 < cond b 1 0 → b ≡ true
use_true true h = refl
use_true false h = absurd (omega arith)

-- a usable leg uses at most 240 rows, each once
few_standing : (net : Net) (kind : TypeId) (leg : Leg) → IsUsable net kind leg → length (standing_rows net kind leg) ≤ 240
few_standing net kind leg usable =
    let few = few_rows net leg.action (head_of net leg.track) (arrival_of net kind leg) in
    let dwell = usable.dwell in
    omega arith

little_standing : (net : Net) (kind : TypeId) (leg : Leg) → IsUsable net kind leg → sum_by (use_in net kind leg) (standing_rows net kind leg) ≤ 240
little_standing net kind leg usable =
    let few = few_standing net kind leg usable in
    let t = sum_by-le (use_in net kind leg) 1 (standing_rows net kind leg) (λ k d l. use_one (uses_row net kind leg (get_or (standing_rows net kind leg) k d))) in
    omega arith

pub few_halts : (net : Net) (kind : TypeId) (leg : Leg) → IsUsable net kind leg → UsesFew most_rows (use_in net kind leg) (standing_rows net kind leg)
few_halts net kind leg usable = record { few = few_standing net kind leg usable; total = little_standing net kind leg usable }

pub standing_rows_listed : (net : Net) (kind : TypeId) (leg : Leg) → IsProper net → IsUsable net kind leg
    → ListsRows row_cmp (is_row_of net) (use_in net kind leg) (standing_rows net kind leg)
standing_rows_listed net kind leg proper usable =
    let head = head_of net leg.track in
    let arrival = arrival_of net kind leg in
    let few = few_standing net kind leg usable in
    let little = little_standing net kind leg usable in
    record {
      ascending = stay_ascends net head arrival (next_depart_of net kind leg);
      used = λ row. (
        (λ h. let u = and_parts _ _ (use_true (uses_row net kind leg row) h) in contains_from (standing_rows net kind leg) row (in_rows net leg.action head arrival row u.0 u.1)),
        (λ c.
            let u = rows_used net leg.action head arrival row (in_from (standing_rows net kind leg) row c) in
            let one : use_in net kind leg row ≡ 1 = ap (λ b. cond b 1 0) (and_from _ _ u.0 u.1) in omega arith),
      );
      are_rows = λ row h. (and_parts _ _ (use_true (uses_row net kind leg row) h)).0;
      few = omega arith;
      total = omega arith;
    }

pub capacity_low : (net : Net) (row : PRow) → IsProper net → halt_max_of net row.station ≤ 65535
capacity_low net row proper = let most = halt_most net proper.built row.station in omega arith

no_arrival : (o : Option Times) (f : Times → ℕ) → (IsSome o → ⊥) → option_map f o ≡ None
no_arrival None f none = refl
no_arrival (Some times) f none = absurd (none (search rules))

-- without an arrival there is no stay
never_stays : (action : Action) (head : Option StationId) (row : PRow) → stays action head None row ≡ true → ⊥
never_stays Pass head row e = true≢false (sym e)
never_stays Finish head row e = true≢false (sym e)
never_stays (Halt dwell) None row e = true≢false (sym e)
never_stays (Halt dwell) (Some s) row e = and_false (nat_eq s.0 row.station.0) false e
never_stays (Wait dwell) None row e = true≢false (sym e)
never_stays (Wait dwell) (Some s) row e = and_false (nat_eq s.0 row.station.0) false e

-- a leg whose type may not use its track stands nowhere
pub unusable_none : (net : Net) (kind : TypeId) (leg : Leg) (row : PRow) → (MayUse net leg.track kind → ⊥) → use_in net kind leg row ≡ 0
unusable_none net kind leg row may_not =
    let none : arrival_of net kind leg ≡ None = no_arrival (times_of net leg.track kind) _ may_not in
    ap (λ b. cond b 1 0) (false_from_ne_true (uses_row net kind leg row) (λ e.
    never_stays leg.action (head_of net leg.track) row
    (subst (λ (o : Option ℕ). stays leg.action (head_of net leg.track) o row ≡ true) none (and_parts (is_row_of net row) (stands_at net kind leg row.station row.minute) e).1)))

-- ---- how many rows a leg uses

-- at a station with a limit, one for each minute of the stay
pub count_stay : (net : Net) (s : StationId) (arrival departure : Option ℕ) → 0 < halt_max_of net s → length (rows_of_stay net (Some s) arrival departure) ≡ count_between arrival departure
count_stay net s None departure limit = refl
count_stay net s (Some a) None limit = refl
count_stay net s (Some a) (Some d) limit =
    ap (λ b. length (cond b (rows_between s a d) [])) (lt-ltb 0 (halt_max_of net s) limit)
    ∙ length-map-range_with_len (row_at s) a (min d 2880 - a)

-- ---- legs that use no row

free_stay : (net : Net) (action : Action) (head : Option StationId) (arrival : Option ℕ)
    → (not (is_standing action) || option_map_or (λ s. nat_eq (halt_max_of net s) 0) head true) ≡ true → rows_of_stay net head arrival (after_action action arrival) ≡ []
free_stay net Pass head arrival h = nil_from_length _ (let f = few_rows net Pass head arrival in omega arith)
free_stay net Finish head arrival h = nil_from_length _ (let f = few_rows net Finish head arrival in omega arith)
free_stay net (Halt dwell) None arrival h = refl
free_stay net (Halt dwell) (Some s) None h = refl
free_stay net (Halt dwell) (Some s) (Some a) h = ap (λ n. cond (nat_lt 0 n) (rows_between s a (a + dwell)) []) (eqb-true _ _ h)
free_stay net (Wait dwell) None arrival h = refl
free_stay net (Wait dwell) (Some s) None h = refl
free_stay net (Wait dwell) (Some s) (Some a) h = ap (λ n. cond (nat_lt 0 n) (rows_between s a (a + dwell)) []) (eqb-true _ _ h)

pub free_rows : (net : Net) (kind : TypeId) (leg : Leg) → is_free net leg ≡ true → standing_rows net kind leg ≡ []
free_rows net kind leg h = free_stay net leg.action (head_of net leg.track) (arrival_of net kind leg) h

pub free_uses : (net : Net) (kind : TypeId) (leg : Leg) (row : PRow) → is_free net leg ≡ true → use_in net kind leg row ≡ 0
free_uses net kind leg row h =
    ap (λ b. cond b 1 0) (false_from_ne_true (uses_row net kind leg row) (λ e.
    let u = and_parts (is_row_of net row) (stands_at net kind leg row.station row.minute) e in
    let inside : In row (standing_rows net kind leg) = in_rows net leg.action (head_of net leg.track) (arrival_of net kind leg) row u.0 u.1 in
    subst (λ (rows : List PRow). In row rows) (free_rows net kind leg h) inside))

-- two legs that use none use alike
pub free_alike : (net : Net) (kind : TypeId) (first second : Leg) → is_free net first ≡ true → is_free net second ≡ true
    → UseAlike (platform_rows net) (standing_rows net) kind first second
free_alike net kind first second f s =
    ((λ row. free_uses net kind first row f ∙ sym (free_uses net kind second row s)), free_rows net kind first f ∙ sym (free_rows net kind second s))

-- legs keep the halt rule exactly where they use no row above its capacity
pub halts_by_rows : (net : Net) (entries : List Entry) → KeepsHalts net entries ↔ FitRows (platform_rows net) entries
halts_by_rows net entries = (
  (λ rule row is.
      let x = and_parts _ _ is in
      subst (λ b. sum_by (λ (e : Entry). cond (b && stands_at net e.0 e.1 row.station row.minute) 1 0) entries ≤ halt_max_of net row.station) (sym is)
      (rule row.station row.minute (ltb-true _ _ x.0) (leb-true _ _ x.1))),
  (λ fits station minute limited day.
      let is : is_row_of net (row_at station minute) ≡ true = and_from _ _ (lt-ltb _ _ limited) (le-leb _ _ day) in
      subst (λ b. sum_by (λ (e : Entry). cond (b && stands_at net e.0 e.1 station minute) 1 0) entries ≤ halt_max_of net station) is
      (fits (row_at station minute) is)),
)
