-- Groups of touches that stand one after the other.
use Rattle.std.proofs.Common.{◌≡◌, ℕ, ◌+◌, ◌-◌, ◌≤◌, ◌<◌, List, [], ◌∷◌, ◌++◌, length, take, drop, sum_by, refl, sym, ap, ◌∙◌, subst, arith, inl, inr}
use Rattle.std.specs.Prelude.{slice_index}
use Rattle.std.specs.List.{slice_range}
use Rattle.std.proofs.lemmas.Bool.{cases_lt}
use Rattle.std.proofs.lemmas.List.{take_all, take-append-le, drop-append-le, get_or_append_left, length-append, length-drop}
use Rattle.std.proofs.lemmas.List.Sums.{sum_by-cons}
use Rattle.std.proofs.Math.Seq.{drop-append_seam, get_or-append_seam}
use Rattle.optra_prices.specs.declared.touch.Touch.{Touch}
use Rattle.optra_prices.specs.Tables.{AreTouches, group_at, uses_in_all, AreGroups, KeepsGroups}

-- what touches use is what the rows are used
pub touches_use : {R : Type 0} (numbered : List R) (uses : R → ℕ) (touches : List Touch) (used : List R) → AreTouches numbered uses touches used → uses_in_all touches ≡ sum_by uses used
touches_use numbered uses [] [] are = refl
touches_use numbered uses [] (row ∷ used) are = absurd are
touches_use numbered uses (touch ∷ touches) [] are = absurd are
touches_use numbered uses (touch ∷ touches) (row ∷ used) are =
    let a = sum_by-cons (λ (t : Touch). t.uses) touch touches in
    let b = sum_by-cons uses row used in
    let i = touches_use numbered uses touches used are.1 in
    let u = are.0.use_is in
    omega arith

module _ (starts : List ℕ) (touches more : List Touch) (groups : AreGroups starts touches) where
  abbrev after : List ℕ
  after = starts ++ (length touches + length more) ∷ []

  start_kept : (g : ℕ) → g < length starts → slice_index after g ≡ slice_index starts g
  start_kept g l = get_or_append_left starts ((length touches + length more) ∷ []) 0 g l

  start_new : slice_index after (length starts) ≡ length touches + length more
  start_new = get_or-append_seam starts (length touches + length more) [] 0

  -- a part of the touches so far stays
  part_kept : (a b : ℕ) → a ≤ b → b ≤ length touches → slice_range (touches ++ more) a b ≡ slice_range touches a b
  part_kept a b l m =
      let e = drop-append-le a touches more (omega arith) in
      let n : b - a ≤ length (drop a touches) = omega (arith, length-drop a touches) in
      ap (take (b - a)) e ∙ take-append-le (b - a) (drop a touches) more n

  group_kept : (g : ℕ) → g + 1 < length starts → group_at after (touches ++ more) g ≡ group_at starts touches g
  group_kept g l =
      let a = start_kept g (omega arith) in
      let b = start_kept (g + 1) l in
      ap (λ (x : ℕ). slice_range (touches ++ more) x (slice_index after (g + 1))) a ∙ ap (λ (y : ℕ). slice_range (touches ++ more) (slice_index starts g) y) b
      ∙ part_kept (slice_index starts g) (slice_index starts (g + 1)) (groups.ordered g l) (groups.within (g + 1) l)

  -- the next group is what was added
  pub group_new : group_at after (touches ++ more) (length starts - 1) ≡ more
  group_new =
      let two = groups.two in
      let a = start_kept (length starts - 1) (omega arith) ∙ groups.last in
      let place : length starts - 1 + 1 ≡ length starts = omega arith in
      let b = ap (slice_index after) place ∙ start_new in
      let seam = drop-append_seam touches more in
      let n : length more ≤ length touches + length more - length touches = omega arith in
      ap (λ (x : ℕ). slice_range (touches ++ more) x (slice_index after (length starts - 1 + 1))) a ∙ ap (λ (y : ℕ). slice_range (touches ++ more) (length touches) y) b
      ∙ ap (take (length touches + length more - length touches)) seam ∙ take_all (length touches + length more - length touches) more n

  pub groups_kept : KeepsGroups starts touches after (touches ++ more)
  groups_kept = record { more = omega (arith, length-append starts ((length touches + length more) ∷ [])); same = group_kept }

  pub groups_more : uses_in_all more ≤ 8192 → AreGroups after (touches ++ more)
  groups_more small = record {
    two = let two = groups.two in omega (arith, length-append starts ((length touches + length more) ∷ []));
    first = start_kept 0 (let two = groups.two in omega arith) ∙ groups.first;
    ordered = ordered;
    within = within;
    last = last;
    few = few;
    none = group_kept 0 (let two = groups.two in omega arith) ∙ groups.none;
  }
    where
      long : length after ≡ length starts + 1
      long = length-append starts ((length touches + length more) ∷ [])

      grown : length (touches ++ more) ≡ length touches + length more
      grown = length-append touches more

      within : (g : ℕ) → g < length after → slice_index after g ≤ length (touches ++ more)
      within g l = elim (cases_lt g (length starts)) as (λ _. slice_index after g ≤ length (touches ++ more)) [
        | inl here ↦ let a = start_kept g here in let w = groups.within g here in let n = grown in omega arith
        | inr past ↦
            let n = grown in
            let m = long in
            let at : g ≡ length starts = omega arith in
            let a = ap (slice_index after) at ∙ start_new in
            omega arith
      ]

      last : slice_index after (length after - 1) ≡ length (touches ++ more)
      last =
          let m = long in
          let at : length after - 1 ≡ length starts = omega arith in
          ap (slice_index after) at ∙ start_new ∙ sym grown

      ordered : (g : ℕ) → g + 1 < length after → slice_index after g ≤ slice_index after (g + 1)
      ordered g l = elim (cases_lt (g + 1) (length starts)) as (λ _. slice_index after g ≤ slice_index after (g + 1)) [
        | inl here ↦ let a = start_kept g (omega arith) in let b = start_kept (g + 1) here in let o = groups.ordered g here in omega arith
        | inr past ↦
            let m = long in
            let here : g < length starts = omega arith in
            let a = start_kept g here in
            let w = groups.within g here in
            let at : g + 1 ≡ length starts = omega arith in
            let b = ap (slice_index after) at ∙ start_new in
            omega arith
      ]

      few : (g : ℕ) → g + 1 < length after → uses_in_all (group_at after (touches ++ more) g) ≤ 8192
      few g l = elim (cases_lt (g + 1) (length starts)) as (λ _. uses_in_all (group_at after (touches ++ more) g) ≤ 8192) [
        | inl here ↦ let e = ap uses_in_all (group_kept g here) in let f = groups.few g here in omega arith
        | inr past ↦
            let m = long in
            let at : g ≡ length starts - 1 = omega arith in
            let e = ap (λ (k : ℕ). uses_in_all (group_at after (touches ++ more) k)) at ∙ ap uses_in_all group_new in
            omega arith
      ]

-- a group is added
pub record Added (starts : List ℕ) (touches more : List Touch) (starts' : List ℕ) (touches' : List Touch) (g : ℕ) : Type 0 where
  pub groups : AreGroups starts' touches'
  pub keeps : KeepsGroups starts touches starts' touches'
  pub is : group_at starts' touches' g ≡ more
  pub within : g + 1 < length starts'

pub group_added : (starts : List ℕ) (touches more : List Touch) (starts' : List ℕ) (touches' : List Touch) (n g : ℕ) → AreGroups starts touches → uses_in_all more ≤ 8192
    → touches' ≡ touches ++ more → starts' ≡ starts ++ n ∷ [] → n ≡ length touches' → g ≡ length starts - 1 → Added starts touches more starts' touches' g
group_added starts touches more starts' touches' n g groups small e f len at =
    let count : n ≡ length touches + length more = len ∙ ap length e ∙ length-append touches more in
    let ends : starts ++ n ∷ [] ≡ starts ++ (length touches + length more) ∷ [] = ap (λ (m : ℕ). starts ++ m ∷ []) count in
    let s : after starts touches more groups ≡ starts' = sym (f ∙ ends) in
    let two = groups.two in
    let here : Added starts touches more (after starts touches more groups) (touches ++ more) (length starts - 1) = record {
      groups = groups_more starts touches more groups small;
      keeps = groups_kept starts touches more groups;
      is = group_new starts touches more groups;
      within = omega (arith, length-append starts ((length touches + length more) ∷ []));
    } in
    subst (λ (k : ℕ). Added starts touches more starts' touches' k) (sym at)
    (subst (λ (ts : List Touch). Added starts touches more starts' ts (length starts - 1)) (sym e)
    (subst (λ (ss : List ℕ). Added starts touches more ss (touches ++ more) (length starts - 1)) s here))
