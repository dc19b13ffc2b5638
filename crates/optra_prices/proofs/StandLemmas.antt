-- What stands of tables, one after the other.
use Rattle.std.proofs.Common.{◌≡◌, ◌≢◌, ℕ, zero, suc, ◌+◌, ◌≤◌, ◌<◌, List, [], ◌∷◌, ◌++◌, length, set, get_or, Some, slice_get, refl, sym, ap, ◌∙◌, subst, arith, inl, inr}
use Rattle.std.specs.Prelude.{All, Bool, ℤ, pos, ◌-ℤ◌, slice_index_or}
use Rattle.std.proofs.lemmas.Int.{ints}
use Rattle.std.proofs.lemmas.List.{length-append}
use Rattle.std.proofs.lemmas.Bool.{cases_eq}
use Rattle.std.proofs.lemmas.Option.{same_Some, slice_get_within, get_or_from_slice_get}
use Rattle.optra_prices.specs.Arcs.{IsFound}
use Rattle.optra_prices.specs.Tables.{allows_by, weight_by, no_arc, IsGroupPrice}
use Rattle.optra_prices.specs.Standings.{Stands, IsCopy, IsSound, AllStand, AreCopies, IsTermSize, groups_on}
use Rattle.optra_prices.specs.declared.numbering.BidTable.{BidTable}
use Rattle.optra_prices.specs.declared.numbering.Standing.{Standing}
use Rattle.optra_prices.proofs.ListLemmas.{some_at, all_at}
use Rattle.optra_prices.proofs.SizeLemmas.{term_size}
use Rattle.optra_prices.proofs.SkipLemmas.{found_stays}
use Rattle.optra_prices.proofs.NumberLemmas.{push_cases}

-- what stands of the first tables
pub record StandBelow (tables : List BidTable) (grouped : List ℤ) (n : ℕ) (standings : List Standing) : Type 0 where
  pub count_is : length standings ≡ n
  pub each : (number : ℕ) (table : BidTable) (standing : Standing) → slice_get tables number ≡ Some table → slice_get standings number ≡ Some standing → Stands table grouped standing

pub stand_push : (tables : List BidTable) (grouped : List ℤ) (n : ℕ) (standings : List Standing) (table : BidTable) (standing : Standing) → StandBelow tables grouped n standings → slice_get tables n ≡ Some table → Stands table grouped standing
    → StandBelow tables grouped (n + 1) (standings ++ standing ∷ [])
stand_push tables grouped n standings table standing below at is = record {
  count_is = let c = below.count_is in let l = length-append standings (standing ∷ []) in omega arith;
  each = λ number x y x_at y_at. elim (push_cases standings standing number y y_at) as (λ _. Stands x grouped y) [
    | inl old ↦ below.each number x y x_at old
    | inr new ↦
        let place : n ≡ number = sym (new.0 ∙ below.count_is) in
        let same : table ≡ x = same_Some table x (sym at ∙ ap (slice_get tables) place ∙ x_at) in
        subst (λ z. Stands x grouped z) new.1 (subst (λ z. Stands z grouped standing) same is)
  ];
}

-- the first ones stand by the tables and the prices that are now, and the others by those before
pub record StandMixed (before tables : List BidTable) (old grouped : List ℤ) (n : ℕ) (standings : List Standing) : Type 0 where
  pub count_is : length standings ≡ length tables
  pub done : (number : ℕ) (table : BidTable) (standing : Standing) → number < n → slice_get tables number ≡ Some table → slice_get standings number ≡ Some standing → Stands table grouped standing
  pub left : (number : ℕ) (table : BidTable) (standing : Standing) → n ≤ number → slice_get before number ≡ Some table → slice_get standings number ≡ Some standing → Stands table old standing

pub mixed_first : (before tables : List BidTable) (old grouped : List ℤ) (standings : List Standing) → length tables ≡ length before → AllStand before old standings → StandMixed before tables old grouped 0 standings
mixed_first before tables old grouped standings same stand = record { count_is = stand.count_is ∙ sym same; done = λ number table standing l t s. absurd (omega arith); left = λ number table standing l t s. stand.each number table standing t s }

pub set_same : {X : Type 0} (xs : List X) (k : ℕ) (x y : X) → k < length xs → slice_get (set xs k x) k ≡ Some y → x ≡ y
set_same [] k x y l e = absurd (omega arith)
set_same (z ∷ xs) zero x y l e = same_Some x y e
set_same (z ∷ xs) (suc k) x y l e = set_same xs k x y (omega arith) e

pub set_other : {X : Type 0} (xs : List X) (k j : ℕ) (x : X) → j ≢ k → slice_get (set xs k x) j ≡ slice_get xs j
set_other [] k j x apart = refl
set_other (z ∷ xs) zero zero x apart = absurd (apart refl)
set_other (z ∷ xs) zero (suc j) x apart = refl
set_other (z ∷ xs) (suc k) zero x apart = refl
set_other (z ∷ xs) (suc k) (suc j) x apart = set_other xs k j x (λ e. apart (ap suc e))

pub set_length : {X : Type 0} (xs : List X) (k : ℕ) (x : X) → length (set xs k x) ≡ length xs
set_length [] k x = refl
set_length (z ∷ xs) zero x = refl
set_length (z ∷ xs) (suc k) x = ap suc (set_length xs k x)

pub mixed_more : (before tables : List BidTable) (old grouped : List ℤ) (n : ℕ) (standings : List Standing) (table : BidTable) (standing : Standing) → StandMixed before tables old grouped n standings → slice_get tables n ≡ Some table → Stands table grouped standing
    → StandMixed before tables old grouped (n + 1) (set standings n standing)
mixed_more before tables old grouped n standings table standing mixed at is = record {
  count_is = set_length standings n standing ∙ mixed.count_is;
  done = λ number x y l x_at y_at. elim (cases_eq number n) as (λ _. Stands x grouped y) [
    | inl e ↦
        let here : slice_get (set standings n standing) n ≡ Some y = ap (slice_get (set standings n standing)) (sym e) ∙ y_at in
        let w = slice_get_within tables n table at in
        let c = mixed.count_is in
        let same_standing : standing ≡ y = set_same standings n standing y (omega arith) here in
        let same_table : table ≡ x = same_Some table x (sym at ∙ ap (slice_get tables) (sym e) ∙ x_at) in
        subst (λ z. Stands x grouped z) same_standing (subst (λ z. Stands z grouped standing) same_table is)
    | inr apart ↦ mixed.done number x y (omega arith) x_at (sym (set_other standings n number standing apart) ∙ y_at)
  ];
  left = λ number x y l x_at y_at.
      let apart : number ≢ n = omega arith in
      mixed.left number x y (omega arith) x_at (sym (set_other standings n number standing apart) ∙ y_at);
}

pub mixed_all : (before tables : List BidTable) (old grouped : List ℤ) (n : ℕ) (standings : List Standing) → StandMixed before tables old grouped n standings → length tables ≤ n → AllStand tables grouped standings
mixed_all before tables old grouped n standings mixed l = record {
  count_is = mixed.count_is;
  each = λ number table standing t s. mixed.done number table standing (let w = slice_get_within tables number table t in omega arith) t s;
}

-- the terms are small
pub terms_small : (tables : List BidTable) (grouped : List ℤ) (standings : List Standing) → All IsSound tables → All IsGroupPrice grouped → AllStand tables grouped standings → All (λ (standing : Standing). IsTermSize standing.term) standings
terms_small tables grouped standings sound range stand k d l =
    let c = stand.count_is in
    let t = some_at tables k (omega arith) in
    let s = some_at standings k l in
    let here = term_size t.0 grouped s.0 (all_at IsSound tables k t.0 sound t.1) range (stand.each k t.0 s.0 t.1 s.1) in
    subst (λ (x : Standing). IsTermSize x.term) (sym (get_or_from_slice_get standings k s.0 d s.1)) here

-- a copy of what stands stands
pub copy_stands : (table : BidTable) (grouped : List ℤ) (standing copy : Standing) → IsCopy standing copy → Stands table grouped standing → Stands table grouped copy
copy_stands table grouped standing copy same is =
    let found = λ (path : List ℕ) (term : ℤ) (stuck : Bool). IsFound table.graph.now.dag (allows_by table.arcs) (weight_by table.arcs grouped) table.forced path term stuck in
    record {
      found = subst (λ (b : Bool). found copy.path.items copy.term b) (sym same.stuck)
          (subst (λ (z : ℤ). found copy.path.items z standing.stuck) (sym same.term)
          (subst (λ (xs : List ℕ). found xs standing.term standing.stuck) (sym same.path) is.found));
      groups_are = same.groups ∙ is.groups_are ∙ ap (groups_on table.arcs) (sym same.path);
    }

pub copies_stand : (tables : List BidTable) (grouped : List ℤ) (standings copies : List Standing) → AreCopies standings copies → AllStand tables grouped standings → AllStand tables grouped copies
copies_stand tables grouped standings copies same stand = record {
  count_is = same.count ∙ stand.count_is;
  each = λ number table copy t c.
      let l = slice_get_within copies number copy c in
      let count = same.count in
      let standing = some_at standings number (omega arith) in
      copy_stands table grouped standing.0 copy (same.each number standing.0 copy standing.1 c) (stand.each number table standing.0 t standing.1);
}

-- copies of the first ones
pub record CopiesBelow (standings : List Standing) (n : ℕ) (copies : List Standing) : Type 0 where
  pub count_is : length copies ≡ n
  pub each : (number : ℕ) (standing copy : Standing) → slice_get standings number ≡ Some standing → slice_get copies number ≡ Some copy → IsCopy standing copy

pub copy_push : (standings : List Standing) (n : ℕ) (copies : List Standing) (standing copy : Standing) → CopiesBelow standings n copies → slice_get standings n ≡ Some standing → IsCopy standing copy → CopiesBelow standings (n + 1) (copies ++ copy ∷ [])
copy_push standings n copies standing copy below at is = record {
  count_is = let c = below.count_is in let l = length-append copies (copy ∷ []) in omega arith;
  each = λ number x y x_at y_at. elim (push_cases copies copy number y y_at) as (λ _. IsCopy x y) [
    | inl old ↦ below.each number x y x_at old
    | inr new ↦
        let place : n ≡ number = sym (new.0 ∙ below.count_is) in
        let same : standing ≡ x = same_Some standing x (sym at ∙ ap (slice_get standings) place ∙ x_at) in
        subst (λ (z : Standing). IsCopy x z) new.1 (subst (λ (z : Standing). IsCopy z copy) same is)
  ];
}

-- what stands at zero prices stands where no group costs anything
pub stand_free : (tables : List BidTable) (grouped : List ℤ) (standings : List Standing) → ((g : ℕ) → slice_index_or grouped g (pos 0) ≡ pos 0) → AllStand tables [] standings → AllStand tables grouped standings
stand_free tables grouped standings free stand = record {
  count_is = stand.count_is;
  each = λ number table standing t s.
      let same = λ (k : ℕ). ap (λ (z : ℤ). (slice_index_or table.arcs k no_arc).value -ℤ z) (free (slice_index_or table.arcs k no_arc).group) in
      let is = stand.each number table standing t s in
      record {
        found = found_stays table.graph.now.dag (allows_by table.arcs) (weight_by table.arcs []) (weight_by table.arcs grouped) (λ k l. let e = same k in omega (arith, ints)) table.forced standing.path.items standing.term standing.stuck
            (λ k d l. same (get_or standing.path.items k d)) is.found;
        groups_are = is.groups_are;
      };
}
