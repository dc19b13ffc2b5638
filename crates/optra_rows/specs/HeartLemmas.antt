-- Two uses of tracks are in conflict exactly where some row is used by both.
use Rattle.std.proofs.Common.{◌≡◌, ℕ, ◌+◌, ◌<◌, ◌≤◌, inl, inr, true, ◌||◌, nat_eq, refl, sym, ◌∙◌, subst, arith}
use Rattle.std.proofs.lemmas.Bool.{ltb-true, leb-true, eqb-true, lt-ltb, le-leb, eq-eqb, and_parts, and_from, or_cases, or_left, or_right, cases_lt}
use Rattle.optra_network.specs.Net.{Net, IsProper, MayUse}
use Rattle.optra_network.specs.Headways.{hmin_or_0, headway_or_0}
use Rattle.optra_network.specs.Partners.{is_paired}
use Rattle.optra_network.specs.declared.TrackId.{TrackId}
use Rattle.optra_network.specs.declared.TypeId.{TypeId}
use Rattle.optra_network.proofs.HeadwayLemmas.{below_types}
use Rattle.optra_network.proofs.PartnerLemmas.{numbers_of, pair_parts, pair_from}
use Rattle.optra_rows.specs.declared.HRow.{HRow}
use Rattle.optra_rows.specs.declared.HRow.TheVariants.{Window, Pair}
use Rattle.optra_rows.specs.Headways.{is_row_of, is_in_window, is_at, uses_row}

-- ---- tests and facts

pub window_parts : (net : Net) (track : TrackId) (kind : TypeId) (time minute : ℕ) → is_in_window net track kind time minute ≡ true → (time ≤ minute) × (minute < time + hmin_or_0 net track kind)
window_parts net track kind time minute h = let x = and_parts _ _ h in (leb-true _ _ x.0, ltb-true _ _ x.1)

pub window_from : (net : Net) (track : TrackId) (kind : TypeId) (time minute : ℕ) → time ≤ minute → minute < time + hmin_or_0 net track kind → is_in_window net track kind time minute ≡ true
window_from net track kind time minute l h = and_from _ _ (le-leb _ _ l) (lt-ltb _ _ h)

pub same_type : (a b : TypeId) → a.0 ≡ b.0 → a ≡ b
same_type a b e = λ i. record { 0 = e i }

pub same_track : (a b : TrackId) → a.0 ≡ b.0 → a ≡ b
same_track a b e = λ i. record { 0 = e i }

pub at_parts : (a : TypeId) (t : ℕ) (b : TypeId) (u : ℕ) → is_at a t b u ≡ true → (a ≡ b) × (t ≡ u)
at_parts a t b u h = let x = and_parts _ _ h in (same_type a b (eqb-true _ _ x.0), eqb-true _ _ x.1)

pub at_itself : (a : TypeId) (t : ℕ) → is_at a t a t ≡ true
at_itself a t = and_from (nat_eq a.0 a.0) (nat_eq t t) (eq-eqb a.0 a.0 refl) (eq-eqb t t refl)

-- ---- two uses that are in conflict share a row
pub record SharesRow (net : Net) (track : TrackId) (a : TypeId) (t : ℕ) (b : TypeId) (u : ℕ) : Type 0 where
  pub row : HRow
  pub one : uses_row net track a t row ≡ true
  pub other : uses_row net track b u row ≡ true

-- the first departs no later
shares_in_order : (net : Net) (track : TrackId) (a : TypeId) (t : ℕ) (b : TypeId) (u : ℕ) → IsProper net → MayUse net track a → MayUse net track b
    → u ≤ 2879 → t ≤ u → u < t + headway_or_0 net track a b → SharesRow net track a t b u
shares_in_order net track a t b u p ma mb day le near =
    let n = numbers_of net track a b p ma mb in
    let m = numbers_of net track b a p mb ma in
    let inside = below_types net track a p ma in
    let itself : nat_eq track.0 track.0 ≡ true = eq-eqb _ _ refl in
    elim (cases_lt u (t + hmin_or_0 net track a)) [
      | inl within ↦
          let is_row : is_row_of net (Window track u) ≡ true = and_from _ _ (lt-ltb _ _ inside.2) (le-leb _ _ (omega arith)) in
          record {
            row = Window track u;
            one = and_from _ _ is_row (and_from _ _ itself (window_from net track a t u le within));
            other = and_from _ _ is_row (and_from _ _ itself (window_from net track b u u (omega arith) (let h = m.positive in omega arith)));
          }
      | inr apart ↦
          let is_row : is_row_of net (Pair track t a u b) ≡ true =
          and_from _ _ (pair_from net track t a u b (record { first = ma; second = mb; apart = apart; near = near })) (le-leb _ _ day) in
          record {
            row = Pair track t a u b;
            one = and_from _ _ is_row (and_from _ _ itself (or_left _ _ (at_itself a t)));
            other = and_from _ _ is_row (and_from _ _ itself (or_right _ _ (at_itself b u)));
          }
    ]

pub shares : (net : Net) (track : TrackId) (a : TypeId) (t : ℕ) (b : TypeId) (u : ℕ) → IsProper net → MayUse net track a → MayUse net track b
    → t ≤ 2879 → u ≤ 2879 → t < u + headway_or_0 net track b a → u < t + headway_or_0 net track a b → SharesRow net track a t b u
shares net track a t b u p ma mb dt du near_t near_u =
    elim (cases_lt u t) [
      | inl later ↦
          let s = shares_in_order net track b u a t p mb ma dt (omega arith) near_t in
          record { row = s.row; one = s.other; other = s.one }
      | inr le ↦ shares_in_order net track a t b u p ma mb du le near_u
    ]

-- ---- two uses that share a row are in conflict
pub record AreNear (net : Net) (track : TrackId) (a : TypeId) (t : ℕ) (b : TypeId) (u : ℕ) : Type 0 where
  pub after_first : u < t + headway_or_0 net track a b
  pub after_second : t < u + headway_or_0 net track b a

near_by_numbers : (net : Net) (track : TrackId) (a : TypeId) (t : ℕ) (b : TypeId) (u : ℕ) → IsProper net → MayUse net track a → MayUse net track b
    → t ≤ u → u < t + headway_or_0 net track a b → AreNear net track a t b u
near_by_numbers net track a t b u p ma mb le near =
    let m = numbers_of net track b a p mb ma in
    record { after_first = near; after_second = let x = m.positive in let y = m.least in omega arith }

near_in_window : (net : Net) (track : TrackId) (a : TypeId) (t : ℕ) (b : TypeId) (u minute : ℕ) → IsProper net → MayUse net track a → MayUse net track b
    → is_in_window net track a t minute ≡ true → is_in_window net track b u minute ≡ true → AreNear net track a t b u
near_in_window net track a t b u minute p ma mb ha hb =
    let n = numbers_of net track a b p ma mb in
    let m = numbers_of net track b a p mb ma in
    let x = window_parts net track a t minute ha in
    let y = window_parts net track b u minute hb in
    record { after_first = let l = n.least in omega (arith, x, y); after_second = let l = m.least in omega (arith, x, y) }

near_itself : (net : Net) (track : TrackId) (a : TypeId) (t : ℕ) → IsProper net → MayUse net track a → AreNear net track a t a t
near_itself net track a t p ma =
    let n = numbers_of net track a a p ma ma in let x = n.positive in let y = n.least in
    record { after_first = omega arith; after_second = omega arith }

near_swap : (net : Net) (track : TrackId) (a : TypeId) (t : ℕ) (b : TypeId) (u : ℕ) → AreNear net track a t b u → AreNear net track b u a t
near_swap net track a t b u n = record { after_first = n.after_second; after_second = n.after_first }

near_at : (net : Net) (track : TrackId) (a : TypeId) (t : ℕ) (b : TypeId) (u : ℕ) (a' : TypeId) (t' : ℕ) (b' : TypeId) (u' : ℕ)
    → (a ≡ a') × (t ≡ t') → (b ≡ b') × (u ≡ u') → AreNear net track a' t' b' u' → AreNear net track a t b u
near_at net track a t b u a' t' b' u' e f n =
    subst (λ x. AreNear net track x t b u) (sym e.0) (subst (λ x. AreNear net track a' x b u) (sym e.1)
    (subst (λ x. AreNear net track a' t' x u) (sym f.0) (subst (λ x. AreNear net track a' t' b' x) (sym f.1) n)))

near_in_pair : (net : Net) (track : TrackId) (a : TypeId) (t : ℕ) (b : TypeId) (u : ℕ) (x : TypeId) (v : ℕ) (y : TypeId) (w : ℕ) → IsProper net
    → is_paired net track v x w y ≡ true → (is_at a t x v || is_at a t y w) ≡ true → (is_at b u x v || is_at b u y w) ≡ true → AreNear net track a t b u
near_in_pair net track a t b u x v y w p is_p ha hb =
    let parts = pair_parts net track v x w y is_p in
    let both : AreNear net track x v y w = near_by_numbers net track x v y w p parts.first parts.second (let l = parts.apart in omega arith) parts.near in
    elim (or_cases _ _ ha) [
      | inl ea ↦ elim (or_cases _ _ hb) [
        | inl eb ↦ near_at net track a t b u x v x v (at_parts a t x v ea) (at_parts b u x v eb) (near_itself net track x v p parts.first)
        | inr eb ↦ near_at net track a t b u x v y w (at_parts a t x v ea) (at_parts b u y w eb) both
      ]
      | inr ea ↦ elim (or_cases _ _ hb) [
        | inl eb ↦ near_at net track a t b u y w x v (at_parts a t y w ea) (at_parts b u x v eb) (near_swap net track x v y w both)
        | inr eb ↦ near_at net track a t b u y w y w (at_parts a t y w ea) (at_parts b u y w eb) (near_itself net track y w p parts.second)
      ]
    ]

-- both are on the row's track, and near there
pub near_from_row : (net : Net) (one : TrackId) (a : TypeId) (t : ℕ) (two : TrackId) (b : TypeId) (u : ℕ) (row : HRow) → IsProper net → MayUse net one a → MayUse net two b
    → uses_row net one a t row ≡ true → uses_row net two b u row ≡ true → (one ≡ two) × AreNear net one a t b u
near_from_row net one a t two b u (Window track minute) p ma mb ha hb =
    let x = and_parts _ _ ((and_parts _ _ ha).1) in let y = and_parts _ _ ((and_parts _ _ hb).1) in
    let same : one ≡ two = same_track one two (eqb-true _ _ x.0 ∙ sym (eqb-true _ _ y.0)) in
    (same, near_in_window net one a t b u minute p ma (subst (λ k. MayUse net k b) (sym same) mb) x.1 (subst (λ k. is_in_window net k b u minute ≡ true) (sym same) y.1))
near_from_row net one a t two b u (Pair track v x w y) p ma mb ha hb =
    let parts_a = and_parts _ _ ha in let parts_b = and_parts _ _ hb in
    let xa = and_parts _ _ parts_a.1 in let xb = and_parts _ _ parts_b.1 in
    let at_a : one ≡ track = same_track one track (eqb-true _ _ xa.0) in
    let at_b : two ≡ track = same_track two track (eqb-true _ _ xb.0) in
    (at_a ∙ sym at_b, near_in_pair net one a t b u x v y w p (subst (λ k. is_paired net k v x w y ≡ true) (sym at_a) (and_parts _ _ parts_a.0).0) xa.1 xb.1)
