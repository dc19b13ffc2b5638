-- The specifications of the bids that stand.
use Rattle.std.proofs.Common.{◌≡◌, ℕ, ◌+◌, ◌<◌, ◌≤◌, ◌⊎◌, inl, inr, List, [], ◌∷◌, ◌++◌, length, take, get_or, map, slice_get, Option, None, Some, option_map, is_some, unwrap_or, true, sym, ap, ◌∙◌, subst, true≢false}
use Rattle.std.proofs.lemmas.Bool.{cases_lt}
use Rattle.std.proofs.lemmas.List.{take_more, map-append}
use Rattle.std.proofs.lemmas.Option.{slice_get-get_or, slice_get_cases, slice_get_past}
use Rattle.optra_auction.specs.Machine.{IsAuction, Standing, State}
use Rattle.optra_rounds.specs.Rounds.{standing_specs}

-- the standing bid at a place, where something is told of it
pub found : {X : Type 0} (standing : List Standing) (i : ℕ) (f : Standing → X) (r : X) → option_map f (slice_get standing i) ≡ Some r → (b : Standing) × (i < length standing) × (get_or standing i b ≡ b) × (f b ≡ r)
found {X} standing i f r h = by (slice_get_cases standing i).1
  where
    by : ((x : Standing) × (i < length standing) × (slice_get standing i ≡ Some x) × (get_or standing i x ≡ x)) ⊎ ((length standing ≤ i) × (slice_get standing i ≡ None)) → (b : Standing) × (i < length standing) × (get_or standing i b ≡ b) × (f b ≡ r)
    by (inl (x, l, e, g)) = let same : Some (f x) ≡ Some r = sym (ap (option_map f) e) ∙ h in let value : f x ≡ r = cc same in (x, l, g, value)
    by (inr (l, e)) = let same : None ≡ Some r = sym (ap (option_map f) e) ∙ h in absurd (cc same)

pub spec-within : (s : State) → IsAuction s → (i k : ℕ) → option_map (λ (b : Standing). b.spec) (slice_get s.standing i) ≡ Some k → k < length s.specs
spec-within s auction i k h =
    let b = found s.standing i (λ (b : Standing). b.spec) k h in
    let on = auction.standing i b.0 b.1 in
    let there : is_some (slice_get s.specs k) ≡ true = subst (λ (n : ℕ). is_some (slice_get s.specs n) ≡ true) (ap (λ (x : Standing). x.spec) b.2 ∙ b.3) on.spec in
    elim (cases_lt k (length s.specs)) [
      | inl l ↦ l
      | inr past ↦ absurd (true≢false (sym there ∙ ap is_some (slice_get_past s.specs k past)))
    ]

-- one more name
pub next-spec : (names : List (List ℕ)) (standing : List Standing) (i spec : ℕ) (here name : List ℕ) (old new : List (List ℕ)) → option_map (λ (b : Standing). b.spec) (slice_get standing i) ≡ Some spec → spec < length names
    → here ≡ get_or names spec here → name ≡ here → new ≡ old ++ name ∷ [] → old ≡ standing_specs names (take i standing) → new ≡ standing_specs names (take (i + 1) standing)
next-spec names standing i spec here name old new h within is same pushed e =
    let b = found standing i (λ (b : Standing). b.spec) spec h in
    let name_of = λ (x : Standing). unwrap_or (slice_get names x.spec) [] in
    let told : name_of b.0 ≡ name = ap (λ (n : ℕ). unwrap_or (slice_get names n) []) b.3 ∙ ap (λ (o : Option (List ℕ)). unwrap_or o []) (slice_get-get_or names spec here within) ∙ sym is ∙ sym same in
    pushed ∙ (λ j. e j ++ sym told j ∷ [])
    ∙ sym (ap (map name_of) (take_more standing i b.0 b.1) ∙ map-append name_of (take i standing) (get_or standing i b.0 ∷ []) ∙ ap (λ (x : Standing). map name_of (take i standing) ++ name_of x ∷ []) b.2)
