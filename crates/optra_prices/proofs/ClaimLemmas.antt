-- What decisions use of rows, by the numbers of rows.
use Rattle.std.proofs.Common.{◌≡◌, ℕ, ◌+◌, ◌≤◌, ◌<◌, Bool, true, false, cond, List, [], ◌∷◌, ◌++◌, length, map, take, set, get_or, Option, Some, None, slice_get, refl, sym, ap, ◌∙◌, arith, inl, inr}
use Rattle.std.specs.Prelude.{All, nat_eq}
use Rattle.std.specs.Option.{option_map_or}
use Rattle.std.specs.Cmp.{IsTotalOrder}
use Rattle.std.specs.declared.cmp.Ordering.{Ordering}
use Rattle.std.specs.Ordering.{is_eq, eq_by_cmp}
use Rattle.std.proofs.lemmas.Bool.{cases_Bool, cases_eq}
use Rattle.std.proofs.lemmas.Bool.Decides.{eqb_tells}
use Rattle.std.proofs.lemmas.Cmp.{tied_itself}
use Rattle.std.proofs.lemmas.List.{append-nil, length-set, get_or-set_same, get_or-set_other, map_push, take_all}
use Rattle.std.proofs.lemmas.List.Elements.{All-nil, All-cons, filter_more}
use Rattle.std.proofs.lemmas.List.Sums.{sum_by-cons, sum_by_push}
use Rattle.std.proofs.lemmas.Option.{same_Some, none-some, slice_get_within, slice_get-get_or}
use Rattle.optra_bid.specs.declared.bids.Bid.{Bid}
use Rattle.optra_walk.specs.Families.{Rows, ListsRows, TellsApart}
use Rattle.optra_node.specs.declared.Decision.{Decision}
use Rattle.optra_node.specs.Nodes.{yes_uses, yes_load}
use Rattle.optra_node.specs.OwnDecisions.{decisions_for, AreAt}
use Rattle.optra_node.proofs.RowLemmas.{equal_is}
use Rattle.optra_prices.specs.Claims.{Claims, ClaimsMore, IsClaim, AreClaims, claim_uses, touches_at, placed_uses}
use Rattle.optra_prices.specs.Holdings.{part_of}
use Rattle.optra_prices.specs.Tables.{IsNumbering, number_in}
use Rattle.optra_prices.specs.Uses.{touch_use, touch_uses}
use Rattle.optra_prices.specs.declared.claims.Claim.{Claim}
use Rattle.optra_prices.specs.declared.touch.Touch.{Touch}
use Rattle.optra_prices.proofs.HoldLemmas.{part_push, part_all}
use Rattle.optra_prices.proofs.ListLemmas.{zip_at, same_first, same_rest}

-- ---- what a leg uses
-- the first rows that are used are claimed
pub record ClaimsFirst {R : Type 0} (cmp : R → R → Ordering) (numbered : List R) (uses : R → ℕ) (used : List R) (k : ℕ) (claim : Claim) : Type 0 where
  pub uses_are : (n : ℕ) (row : R) → slice_get numbered n ≡ Some row → touch_uses claim.touches.items n ≡ part_of cmp uses (take k used) row
  pub whole_is : claim.whole ≡ true → (j : ℕ) (row : R) → j < k → slice_get used j ≡ Some row → (n : ℕ) × (slice_get numbered n ≡ Some row)

module _ {R : Type 0} (cmp : R → R → Ordering) (numbered : List R) (uses : R → ℕ) (used : List R) where
  pub claims_first : (claim : Claim) → claim.touches.items ≡ [] → ClaimsFirst cmp numbered uses used 0 claim
  claims_first claim empty = record {
    uses_are = λ n row at. ap (λ (ts : List Touch). touch_uses ts n) empty;
    whole_is = λ is j row l. absurd (omega (arith, l));
  }

  module _ (order : IsTotalOrder cmp) (apart : TellsApart cmp) where
    pub claims_all : (is_row : R → Bool) → ListsRows cmp is_row uses used → (k : ℕ) (claim : Claim) → length used ≤ k → ClaimsFirst cmp numbered uses used k claim → Claims numbered uses claim
    claims_all is_row lists k claim past is = record {
      uses_are = λ n row at. is.uses_are n row at ∙ ap (λ (rs : List R). part_of cmp uses rs row) (take_all k used past) ∙ part_all cmp order apart is_row uses used lists.ascending lists.used row;
      whole_is = λ whole row some.
          let has = (lists.used row).0 some in
          is.whole_is whole has.0 row (let l = has.1 in omega (arith, l, past)) (slice_get-get_or used has.0 row has.1 ∙ ap Some has.2);
    }

    module _ (numbers : List (R × ℕ)) (numbering : IsNumbering cmp numbers numbered) (is_row : R → Bool) where
      -- a row is told from another by its number
      tied : (m n : ℕ) (row other : R) → slice_get numbered m ≡ Some row → slice_get numbered n ≡ Some other → (u : ℕ) → touch_use (record { row = m; uses = u }) n ≡ cond (eq_by_cmp cmp row other) u 0
      tied m n row other here there u = elim (eqb_tells m n) as (λ _. touch_use (record { row = m; uses = u }) n ≡ cond (eq_by_cmp cmp row other) u 0) [
        | inl (test, same) ↦
            let same_row : row ≡ other = same_Some row other (sym here ∙ ap (slice_get numbered) same ∙ there) in
            let tie : eq_by_cmp cmp row other ≡ true = ap (λ (x : R). eq_by_cmp cmp x other) same_row ∙ ap is_eq (tied_itself order other) in
            ap (λ (b : Bool). cond b u 0) test ∙ sym (ap (λ (b : Bool). cond b u 0) tie)
        | inr (test, differ) ↦ ap (λ (b : Bool). cond b u 0) test ∙ sym (ap (λ (b : Bool). cond b u 0) (untied row other (λ same.
            differ (same_Some m n (sym (numbering.known m row here) ∙ ap (number_in cmp numbers) same ∙ numbering.known n other there)))))
      ]
        where
          untied : (a b : R) → (a ≡ b → ⊥) → eq_by_cmp cmp a b ≡ false
          untied a b differ = elim (cases_Bool (eq_by_cmp cmp a b)) as (λ _. eq_by_cmp cmp a b ≡ false) [
            | inl tie ↦ absurd (differ (apart a b (equal_is (cmp a b) tie)))
            | inr none ↦ none
          ]

      -- a row without a number is no other that has one
      unnumbered : (n : ℕ) (row other : R) → number_in cmp numbers row ≡ None → slice_get numbered n ≡ Some other → (u : ℕ) → cond (eq_by_cmp cmp row other) u 0 ≡ 0
      unnumbered n row other none there u = elim (cases_Bool (eq_by_cmp cmp row other)) as (λ _. cond (eq_by_cmp cmp row other) u 0 ≡ 0) [
        | inl tie ↦ absurd (none-some n (sym none ∙ ap (number_in cmp numbers) (apart row other (equal_is (cmp row other) tie)) ∙ numbering.known n other there))
        | inr differ ↦ ap (λ (b : Bool). cond b u 0) differ
      ]

      -- one more row
      pub claims_more : (k : ℕ) (row : R) (old new : Claim) → slice_get used k ≡ Some row → ClaimsMore (number_in cmp numbers row) (uses row) old new → ClaimsFirst cmp numbered uses used k old → ClaimsFirst cmp numbered uses used (k + 1) new
      claims_more k row old new at more is = by (number_in cmp numbers row) refl more
        where
          part : (other : R) → part_of cmp uses (take k used) other + cond (eq_by_cmp cmp row other) (uses row) 0 ≡ part_of cmp uses (take (k + 1) used) other
          part other = part_push cmp order apart is_row uses used k row other at

          by : (o : Option ℕ) → number_in cmp numbers row ≡ o → ClaimsMore o (uses row) old new → ClaimsFirst cmp numbered uses used (k + 1) new
          by (Some m) e (pushed, kept) = record {
            uses_are = λ n other there.
                let touch : Touch = record { row = m; uses = uses row } in
                let sum = sum_by_push (λ (t : Touch). touch_use t n) old.touches.items touch in
                let new_is = ap (λ (ts : List Touch). touch_uses ts n) pushed in
                let before = is.uses_are n other there in
                let here = tied m n row other (numbering.found row m e) there (uses row) in
                let p = part other in
                omega (arith, sum, new_is, before, here, p);
            whole_is = λ whole j other l there. elim (cases_eq j k) as (λ _. (n : ℕ) × (slice_get numbered n ≡ Some other)) [
              | inl same ↦ (m, numbering.found row m e ∙ sym at ∙ ap (slice_get used) (sym same) ∙ there)
              | inr differ ↦ is.whole_is (sym kept ∙ whole) j other (omega (arith, l, differ)) there
            ];
          }
          by None e (same, broken) = record {
            uses_are = λ n other there.
                let new_is = ap (λ (ts : List Touch). touch_uses ts n) same in
                let before = is.uses_are n other there in
                let none = unnumbered n row other e there (uses row) in
                let p = part other in
                omega (arith, new_is, before, none, p);
            whole_is = λ whole. absurd (clash (sym whole ∙ broken));
          }
            where
              clash : true ≡ false → ⊥
              clash e = cc

-- ---- what decisions use
module _ {R : Type 0} (rows : Rows R) (bids : List Bid) (numbered : List R) (n : ℕ) (row : R) (at : slice_get numbered n ≡ Some row) where
  pub claims_load : (decisions : List Decision) (claims : List Claim) → AreClaims rows bids numbered decisions claims → claim_uses claims n ≡ yes_load rows bids decisions row
  claims_load [] [] are = refl
  claims_load [] (claim ∷ claims) are = absurd are
  claims_load (d ∷ decisions) [] are = absurd are
  claims_load (d ∷ decisions) (claim ∷ claims) are =
      let a = sum_by-cons (λ (c : Claim). touch_uses c.touches.items n) claim claims in
      let b = sum_by-cons (yes_uses rows bids row) d decisions in
      let here = are.0.uses_are n row at in
      let rest = claims_load decisions claims are.1 in
      omega (arith, a, b, here, rest)

  -- those at places use what the decisions there use
  pub placed_load : (node : List Decision) (claims : List Claim) → AreClaims rows bids numbered node claims → (places : List ℕ) (decisions : List Decision) → AreAt node places decisions → placed_uses claims places n ≡ yes_load rows bids decisions row
  placed_load node claims are [] [] ok = refl
  placed_load node claims are [] (d ∷ decisions) ok = cc
  placed_load node claims are (place ∷ places) [] ok = cc
  placed_load node claims are (place ∷ places) (d ∷ decisions) ok =
      let a = sum_by-cons (λ (p : ℕ). touch_uses (touches_at claims p) n) place places in
      let b = sum_by-cons (yes_uses rows bids row) d decisions in
      let first = same_first (slice_get node place) (Some d) (map (slice_get node) places) (map Some decisions) ok in
      let there = zip_at (IsClaim rows bids numbered) node claims are place d first in
      let here = ap (λ (o : Option Claim). touch_uses (option_map_or (λ (c : Claim). c.touches.items) o []) n) there.1 ∙ there.2.uses_are n row at in
      let rest = placed_load node claims are places decisions (same_rest (slice_get node place) (Some d) (map (slice_get node) places) (map Some decisions) ok) in
      omega (arith, a, b, here, rest)

-- the places are places of claims
pub placed_within : {R : Type 0} (rows : Rows R) (bids : List Bid) (numbered : List R) (node : List Decision) (claims : List Claim) → AreClaims rows bids numbered node claims → (places : List ℕ) (decisions : List Decision) → AreAt node places decisions
    → All (λ place. place < length claims) places
placed_within rows bids numbered node claims are [] decisions ok = All-nil (λ (p : ℕ). p < length claims)
placed_within rows bids numbered node claims are (place ∷ places) [] ok = cc
placed_within rows bids numbered node claims are (place ∷ places) (d ∷ decisions) ok =
    let first = same_first (slice_get node place) (Some d) (map (slice_get node) places) (map Some decisions) ok in
    let there = zip_at (IsClaim rows bids numbered) node claims are place d first in
    All-cons (λ (p : ℕ). p < length claims) place places (slice_get_within claims place there.0 there.1)
    (placed_within rows bids numbered node claims are places decisions (same_rest (slice_get node place) (Some d) (map (slice_get node) places) (map Some decisions) ok))
