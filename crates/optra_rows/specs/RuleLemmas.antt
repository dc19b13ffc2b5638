-- The headway rule holds exactly where no row is used more than once.
use Rattle.std.proofs.Common.{◌≡◌, ◌≢◌, ℕ, zero, suc, ◌+◌, ◌<◌, ◌≤◌, ◌⊎◌, ◌↔◌, inl, inr, Bool, true, false, cond, Some, None, Option, IsSomeAnd, List, [], ◌∷◌, slice_get, All, refl, sym, ap, ◌∙◌, subst, arith, count_by}
use Rattle.std.proofs.lemmas.Bool.{cases_lt, cases_eq, cases_Bool, and_parts}
use Rattle.std.proofs.lemmas.Option.{slice_get-map, slice_get_within, get_or_from_slice_get}
use Rattle.std.proofs.lemmas.List.Sums.{sum_by-cons}
use Rattle.std.specs.Option.{option_map}
use Rattle.optra_network.specs.Net.{Net, IsProper, MayUse, headway_of}
use Rattle.optra_network.specs.Headways.{headway_or_0}
use Rattle.optra_network.specs.Conflict.{AreCompatible}
use Rattle.optra_network.specs.declared.TrackId.{TrackId}
use Rattle.optra_network.specs.declared.TrackUse.{TrackUse}
use Rattle.optra_network.proofs.PartnerLemmas.{numbers_of}
use Rattle.optra_bid.specs.declared.bids.Bid.{Bid}
use Rattle.optra_walk.specs.declared.Leg.{Leg}
use Rattle.optra_walk.specs.Families.{Entry, IsUsable, FitRows, entries_of, use_of_entry}
use Rattle.optra_walk.specs.Choices.{KeepsHeadways, uses_of}
use Rattle.optra_rows.specs.declared.HRow.{HRow}
use Rattle.optra_rows.specs.Headways.{is_row_of, uses_row, headway_rows, KeepsHeadwayRule}
use Rattle.optra_rows.specs.HeartLemmas.{shares, AreNear, near_from_row}

-- ---- a test that holds at most at one place
module _ {X : Type 0} (p : X → Bool) where
  count_cons : (x : X) (xs : List X) (b : Bool) → p x ≡ b → count_by p (x ∷ xs) ≡ cond b 1 0 + count_by p xs
  count_cons x xs b e = sum_by-cons (λ y. cond (p y) 1 0) x xs ∙ ap (λ c. cond c 1 0 + count_by p xs) e

  count_none : (xs : List X) → ((j : ℕ) (y : X) → slice_get xs j ≡ Some y → p y ≡ true → ⊥) → count_by p xs ≡ 0
  count_none [] h = refl
  count_none (x ∷ xs) h = elim (cases_Bool (p x)) [
    | inl t ↦ absurd (h 0 x refl t)
    | inr f ↦
        let rest : count_by p xs ≡ 0 = count_none xs (λ j y e t. h (suc j) y e t) in
        let c : count_by p (x ∷ xs) ≡ 0 + count_by p xs = count_cons x xs false f in omega arith
  ]

  pub count-at_most_one : (xs : List X) → ((i j : ℕ) (x y : X) → i ≢ j → slice_get xs i ≡ Some x → slice_get xs j ≡ Some y → p x ≡ true → p y ≡ true → ⊥) → count_by p xs ≤ 1
  count-at_most_one [] h = omega arith
  count-at_most_one (x ∷ xs) h = elim (cases_Bool (p x)) [
    | inl t ↦
        let none : count_by p xs ≡ 0 = count_none xs (λ j y e ty. h 0 (suc j) x y (λ z. let n : 0 ≡ suc j = z in omega arith) refl e t ty) in
        let c : count_by p (x ∷ xs) ≡ 1 + count_by p xs = count_cons x xs true t in omega arith
    | inr f ↦
        let rest : count_by p xs ≤ 1 = count-at_most_one xs (λ i j a b ne ea eb ta tb. h (suc i) (suc j) a b (λ z. let n : suc i ≡ suc j = z in ne (omega arith)) ea eb ta tb) in
        let c : count_by p (x ∷ xs) ≡ 0 + count_by p xs = count_cons x xs false f in omega arith
  ]

  count-one : (xs : List X) (j : ℕ) (y : X) → slice_get xs j ≡ Some y → p y ≡ true → 1 ≤ count_by p xs
  count-one [] j y e t = absurd (cc)
  count-one (x ∷ xs) zero y e t =
      let same : x ≡ y = cc in
      let c : count_by p (x ∷ xs) ≡ 1 + count_by p xs = count_cons x xs true (subst (λ z. p z ≡ true) (sym same) t) in omega arith
  count-one (x ∷ xs) (suc j) y e t =
      let rest : 1 ≤ count_by p xs = count-one xs j y e t in
      let c : count_by p (x ∷ xs) ≡ cond (p x) 1 0 + count_by p xs = count_cons x xs (p x) refl in omega arith

  count-two : (xs : List X) (i j : ℕ) (x y : X) → i < j → slice_get xs i ≡ Some x → slice_get xs j ≡ Some y → p x ≡ true → p y ≡ true → 2 ≤ count_by p xs
  count-two [] i j x y l ex ey tx ty = absurd (cc)
  count-two (a ∷ xs) i zero x y l ex ey tx ty = absurd (omega arith)
  count-two (a ∷ xs) zero (suc j) x y l ex ey tx ty =
      let same : a ≡ x = cc in
      let rest : 1 ≤ count_by p xs = count-one xs j y ey ty in
      let c : count_by p (a ∷ xs) ≡ 1 + count_by p xs = count_cons a xs true (subst (λ z. p z ≡ true) (sym same) tx) in omega arith
  count-two (a ∷ xs) (suc i) (suc j) x y l ex ey tx ty =
      let rest : 2 ≤ count_by p xs = count-two xs i j x y (omega arith) ex ey tx ty in
      let c : count_by p (a ∷ xs) ≡ cond (p a) 1 0 + count_by p xs = count_cons a xs (p a) refl in omega arith

  pub count-two_apart : (xs : List X) (i j : ℕ) (x y : X) → i ≢ j → slice_get xs i ≡ Some x → slice_get xs j ≡ Some y → p x ≡ true → p y ≡ true → 2 ≤ count_by p xs
  count-two_apart xs i j x y ne ex ey tx ty = elim (cases_lt i j) [
    | inl l ↦ count-two xs i j x y l ex ey tx ty
    | inr l ↦ count-two xs j i y x (omega arith) ey ex ty tx
  ]

-- ---- compatible uses are not near
pub compatible_or_near : (net : Net) (a b : TrackUse) → IsProper net → MayUse net a.track a.kind → MayUse net b.track b.kind
    → AreCompatible net a b ⊎ ((a.track ≡ b.track) × AreNear net a.track a.kind a.time b.kind b.time)
compatible_or_near net a b p ma mb = elim (cases_eq a.track.0 b.track.0) [
  | inr ne ↦ inl (inl (λ e. ne (ap (λ (t : TrackId). t.0) e)))
  | inl eq ↦
      let same : a.track ≡ b.track = λ i. record { 0 = eq i } in
      let mb' : MayUse net a.track b.kind = subst (λ k. MayUse net k b.kind) (sym same) mb in
      let n = numbers_of net a.track a.kind b.kind p ma mb' in
      let m = numbers_of net a.track b.kind a.kind p mb' ma in
      elim (cases_lt b.time (a.time + headway_or_0 net a.track a.kind b.kind)) [
        | inr le ↦ inl (inr (inl (subst (λ o. IsSomeAnd o (λ h. a.time + h ≤ b.time)) (sym n.headway_is) le)))
        | inl near ↦ elim (cases_lt a.time (b.time + headway_or_0 net a.track b.kind a.kind)) [
          | inr le ↦ inl (inr (inr (subst (λ k. IsSomeAnd (headway_of net k b.kind a.kind) (λ h. b.time + h ≤ a.time)) same
              (subst (λ o. IsSomeAnd o (λ h. b.time + h ≤ a.time)) (sym m.headway_is) le))))
          | inl near' ↦ inr (same, record { after_first = near; after_second = near' })
        ]
      ]
]

pub not_both : (net : Net) (a b : TrackUse) → IsProper net → MayUse net a.track a.kind → MayUse net b.track b.kind
    → AreCompatible net a b → a.track ≡ b.track → AreNear net a.track a.kind a.time b.kind b.time → ⊥
not_both net a b p ma mb c same near =
    let mb' : MayUse net a.track b.kind = subst (λ k. MayUse net k b.kind) (sym same) mb in
    let n = numbers_of net a.track a.kind b.kind p ma mb' in
    let m = numbers_of net a.track b.kind a.kind p mb' ma in
    elim c [
      | inl apart ↦ apart same
      | inr kept ↦ elim kept [
        | inl h ↦
            let le : a.time + headway_or_0 net a.track a.kind b.kind ≤ b.time = subst (λ o. IsSomeAnd o (λ h. a.time + h ≤ b.time)) n.headway_is h in
            let l = near.after_first in omega arith
        | inr h ↦
            let le : b.time + headway_or_0 net a.track b.kind a.kind ≤ a.time =
            subst (λ o. IsSomeAnd o (λ h. b.time + h ≤ a.time)) m.headway_is (subst (λ k. IsSomeAnd (headway_of net k b.kind a.kind) (λ h. b.time + h ≤ a.time)) (sym same) h) in
            let l = near.after_second in omega arith
      ]
    ]

-- ---- the rule
abbrev uses_at : Net → HRow → Entry → Bool
uses_at net row e = uses_row net e.1.track e.0 e.1.depart row

pub usable_at : (net : Net) (entries : List Entry) (i : ℕ) (e : Entry) → All (λ e. IsUsable net e.0 e.1) entries → slice_get entries i ≡ Some e → IsUsable net e.0 e.1
usable_at net entries i e all at =
    let P : Entry → Type 0 = λ e. IsUsable net e.0 e.1 in
    subst P (get_or_from_slice_get entries i e e at) (all i e (slice_get_within entries i e at))

pub fits_from_rule : (net : Net) (entries : List Entry) → IsProper net → All (λ e. IsUsable net e.0 e.1) entries → KeepsHeadwayRule net entries
    → (row : HRow) → count_by (uses_at net row) entries ≤ 1
fits_from_rule net entries p all rule row = count-at_most_one (uses_at net row) entries (λ i j x y ne ex ey tx ty.
    let ux = usable_at net entries i x all ex in
    let uy = usable_at net entries j y all ey in
    let near = near_from_row net x.1.track x.0 x.1.depart y.1.track y.0 y.1.depart row p ux.may_use uy.may_use tx ty in
    not_both net (use_of_entry x) (use_of_entry y) p ux.may_use uy.may_use
    (rule i j (use_of_entry x) (use_of_entry y) ne (slice_get-map use_of_entry entries i ∙ ap (option_map use_of_entry) ex) (slice_get-map use_of_entry entries j ∙ ap (option_map use_of_entry) ey))
    near.0 near.1)

-- the entry behind a use
pub record Behind (entries : List Entry) (i : ℕ) (one : TrackUse) : Type 0 where
  pub entry : Entry
  pub at : slice_get entries i ≡ Some entry
  pub is : use_of_entry entry ≡ one

pub behind : (entries : List Entry) (i : ℕ) (one : TrackUse) (o : Option Entry) → slice_get entries i ≡ o → option_map use_of_entry o ≡ Some one → Behind entries i one
behind entries i one None e h = absurd (cc)
behind entries i one (Some x) e h = record { entry = x; at = e; is = cc }

pub rule_from_fits : (net : Net) (entries : List Entry) → IsProper net → All (λ e. IsUsable net e.0 e.1) entries
    → ((row : HRow) → is_row_of net row ≡ true → count_by (uses_at net row) entries ≤ 1) → KeepsHeadwayRule net entries
rule_from_fits net entries p all fits i j a b ne ea eb =
    let x = behind entries i a (slice_get entries i) refl (sym (slice_get-map use_of_entry entries i) ∙ ea) in
    let y = behind entries j b (slice_get entries j) refl (sym (slice_get-map use_of_entry entries j) ∙ eb) in
    let ux = usable_at net entries i x.entry all x.at in
    let uy = usable_at net entries j y.entry all y.at in
    subst (λ u. AreCompatible net u b) x.is (subst (λ u. AreCompatible net (use_of_entry x.entry) u) y.is
    (elim (compatible_or_near net (use_of_entry x.entry) (use_of_entry y.entry) p ux.may_use uy.may_use) [
      | inl c ↦ c
      | inr near ↦ absurd (clash x.entry y.entry ux uy x.at y.at near.0 near.1)
    ]))
  where
    clash : (x y : Entry) → IsUsable net x.0 x.1 → IsUsable net y.0 y.1 → slice_get entries i ≡ Some x → slice_get entries j ≡ Some y
        → x.1.track ≡ y.1.track → AreNear net x.1.track x.0 x.1.depart y.0 y.1.depart → ⊥
    clash x y ux uy ex ey same near =
        let my : MayUse net x.1.track y.0 = subst (λ k. MayUse net k y.0) (sym same) uy.may_use in
        let s = shares net x.1.track x.0 x.1.depart y.0 y.1.depart p ux.may_use my ux.depart uy.depart near.after_second near.after_first in
        let other : uses_at net s.row y ≡ true = subst (λ k. uses_row net k y.0 y.1.depart s.row ≡ true) same s.other in
        let is_row : is_row_of net s.row ≡ true = (and_parts _ _ s.one).0 in
        let two : 2 ≤ count_by (uses_at net s.row) entries = count-two_apart (uses_at net s.row) entries i j x y ne ex ey s.one other in
        let one : count_by (uses_at net s.row) entries ≤ 1 = fits s.row is_row in
        omega arith

-- legs of types keep the headways exactly where they use no row more than once
pub headways_by_rows : (net : Net) (entries : List Entry) → IsProper net → All (λ e. IsUsable net e.0 e.1) entries → KeepsHeadwayRule net entries ↔ FitRows (headway_rows net) entries
headways_by_rows net entries p all =
    ((λ rule row is_row. fits_from_rule net entries p all rule row), (λ fits. rule_from_fits net entries p all (λ row is_row. fits row is_row)))

-- a choice keeps the headways exactly where its legs use no row more than once
pub choice_by_rows : (net : Net) (bids : List Bid) (walks : List (Option (List Leg))) → IsProper net → All (λ e. IsUsable net e.0 e.1) (entries_of bids walks)
    → KeepsHeadways net (uses_of bids walks) ↔ FitRows (headway_rows net) (entries_of bids walks)
choice_by_rows net bids walks p all = headways_by_rows net (entries_of bids walks) p all
