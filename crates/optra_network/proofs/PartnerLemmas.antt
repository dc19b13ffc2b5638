-- Uses that are a pair: by the rule and by arithmetic, and the partners of a use as a list.
use Rattle.std.proofs.Common.{◌≡◌, ℕ, zero, suc, ◌+◌, ◌-◌, ◌*◌, ◌/◌, ◌%◌, ◌<◌, ◌≤◌, ⊎_elim, inl, inr, ◌↔◌, Bool, true, false, cond, ◌&&◌, nat_le, nat_lt, Some, None, Option, IfSome, IsSome, IsSomeAnd, is_some, unwrap_or, List, [], ◌∷◌, ◌++◌, map, filter, length, Contains, refl, sym, ap, ◌∙◌, subst, arith, rules, append-nil}
use Rattle.std.proofs.lemmas.Bool.{ltb-true, leb-true, ltb-false, lt-ltb, le-leb, le-ltb, lt-leb, and_parts, and_from, cases_lt, false_from_ne_true}
use Rattle.std.proofs.lemmas.List.{map_push}
use Rattle.std.proofs.lemmas.List.FromFn.{filter_of_map_range_with_len_more}
use Rattle.std.specs.List.{range_with_len}
use Rattle.optra_network.specs.Net.{Net, IsBuilt, IsProper, MayUse, IsRunningRow, IsFromTo, times_of, headway_of}
use Rattle.optra_network.specs.Headways.{hmin_or_0, headway_or_0}
use Rattle.optra_network.specs.Partners.{ArePaired, is_paired, use_at, IsPartner, is_partner, partner_at, partner_places, partners_of}
use Rattle.optra_network.specs.declared.TrackId.{TrackId}
use Rattle.optra_network.specs.declared.TypeId.{TypeId}
use Rattle.optra_network.specs.declared.Partner.{Partner}
use Rattle.optra_network.specs.declared.Times.{Times}
use Rattle.optra_network.proofs.NetLemmas.{times_built}
use Rattle.optra_network.proofs.ReadLemmas.{headway_range}
use Rattle.optra_network.proofs.HeadwayLemmas.{headways_are}
use Rattle.optra_network.proofs.TableLemmas.{quotient, remainder}
use Rattle.optra_network.proofs.MemberLemmas.{In, in_from, contains_from, in_map, in_map_from, in_filter, in_filter_from, in_range}

-- ---- the arithmetic form, and its parts

pub some_true : {X : Type 0} (o : Option X) → IsSome o → is_some o ≡ true
some_true None h = absurd (grind arith)
some_true (Some v) h = refl

pub true_some : {X : Type 0} (o : Option X) → is_some o ≡ true → IsSome o
true_some None h = absurd (grind arith)
true_some (Some v) h = search rules

pub record PairParts (net : Net) (track : TrackId) (t : ℕ) (a : TypeId) (u : ℕ) (b : TypeId) : Type 0 where
  pub first : MayUse net track a
  pub second : MayUse net track b
  pub apart : t + hmin_or_0 net track a ≤ u
  pub near : u < t + headway_or_0 net track a b

pub pair_parts : (net : Net) (track : TrackId) (t : ℕ) (a : TypeId) (u : ℕ) (b : TypeId) → is_paired net track t a u b ≡ true → PairParts net track t a u b
pair_parts net track t a u b h =
    let x = and_parts _ _ h in
    let y = and_parts _ _ x.0 in
    let z = and_parts _ _ y.0 in
    record { first = true_some _ z.0; second = true_some _ z.1; apart = leb-true _ _ y.1; near = ltb-true _ _ x.1 }

pub pair_from : (net : Net) (track : TrackId) (t : ℕ) (a : TypeId) (u : ℕ) (b : TypeId) → PairParts net track t a u b → is_paired net track t a u b ≡ true
pair_from net track t a u b p =
    and_from _ _ (and_from _ _ (and_from _ _ (some_true _ p.first) (some_true _ p.second)) (le-leb _ _ p.apart)) (lt-ltb _ _ p.near)

-- ---- the code's test

pub first_may_not : (net : Net) (track : TrackId) (t : ℕ) (a : TypeId) (u : ℕ) (b : TypeId) → is_some (times_of net track a) ≡ false → false ≡ is_paired net track t a u b
first_may_not net track t a u b f = sym (ap (λ x. x && is_some (times_of net track b) && nat_le (t + hmin_or_0 net track a) u && nat_lt u (t + headway_or_0 net track a b)) f)

second_false : (x y z : Bool) → (x && false && y && z) ≡ false
second_false true y z = refl
second_false false y z = refl

pub second_may_not : (net : Net) (track : TrackId) (t : ℕ) (a : TypeId) (u : ℕ) (b : TypeId) → is_some (times_of net track b) ≡ false → false ≡ is_paired net track t a u b
second_may_not net track t a u b f =
    sym (ap (λ x. is_some (times_of net track a) && x && nat_le (t + hmin_or_0 net track a) u && nat_lt u (t + headway_or_0 net track a b)) f
    ∙ second_false (is_some (times_of net track a)) (nat_le (t + hmin_or_0 net track a) u) (nat_lt u (t + headway_or_0 net track a b)))

same_le : (t x y u : ℕ) → t + y ≡ u → nat_le x y ≡ nat_le (t + x) u
same_le t x y u e = ⊎_elim (λ l. lt-leb x y l ∙ sym (lt-leb (t + x) u (omega arith))) (λ l. le-leb x y l ∙ sym (le-leb (t + x) u (omega arith))) (cases_lt y x)

same_lt : (t x y u : ℕ) → t + y ≡ u → nat_lt y x ≡ nat_lt u (t + x)
same_lt t x y u e = ⊎_elim (λ l. lt-ltb y x l ∙ sym (lt-ltb u (t + x) (omega arith))) (λ l. le-ltb y x l ∙ sym (le-ltb u (t + x) (omega arith))) (cases_lt y x)

pub both_may : (net : Net) (track : TrackId) (t : ℕ) (a : TypeId) (u : ℕ) (b : TypeId) (least headway later : ℕ) → is_some (times_of net track a) ≡ true → is_some (times_of net track b) ≡ true
    → least ≡ hmin_or_0 net track a → headway ≡ headway_or_0 net track a b → t + later ≡ u → (nat_le least later && nat_lt later headway) ≡ is_paired net track t a u b
both_may net track t a u b least headway later ma mb el eh e =
    (λ i. same_le t (el i) later u e i && same_lt t (eh i) later u e i)
    ∙ sym (λ i. ma i && mb i && nat_le (t + hmin_or_0 net track a) u && nat_lt u (t + headway_or_0 net track a b))

-- ---- how far away a partner is

pub near_none : (net : Net) (track : TrackId) (a b : TypeId) → headway_or_0 net track a b ≤ hmin_or_0 net track a → (t u : ℕ) → is_paired net track t a u b ≡ true → u < t + 0
near_none net track a b h t u p = let parts = pair_parts net track t a u b p in let apart = parts.apart in let near = parts.near in absurd (omega arith)

pub headway_most : (net : Net) → IsBuilt net → (track : TrackId) (a b : TypeId) → headway_or_0 net track a b ≤ 120
headway_most net built track a b = from (headway_of net track a b) (headway_range net built track a b)
  where
    from : (o : Option ℕ) → IfSome o (IsFromTo 1 120) → unwrap_or o 0 ≤ 120
    from None h = omega arith
    from (Some v) h = h.1

-- a partner is paired with the type's use at minute 120, in one of the two orders
pub record IsWithin (shift reach : ℕ) : Type 0 where
  pub low : 120 < shift + reach
  pub high : shift < 120 + reach

pub within_from : (net : Net) (track : TrackId) (kind : TypeId) (partner : Partner) (before after reach : ℕ)
    → ((t u : ℕ) → is_paired net track t partner.kind u kind ≡ true → u < t + before) → ((t u : ℕ) → is_paired net track t kind u partner.kind ≡ true → u < t + after)
    → before ≤ reach → after ≤ reach → is_partner net track kind partner ≡ true → (120 < partner.shift + reach) × (partner.shift < 120 + reach)
within_from net track kind partner before after reach hb ha lb la h = go (nat_lt partner.shift 120) refl
  where
    go : (c : Bool) → nat_lt partner.shift 120 ≡ c → (120 < partner.shift + reach) × (partner.shift < 120 + reach)
    go true e =
        let p = hb partner.shift 120 (sym (ap (λ c. cond c (is_paired net track partner.shift partner.kind 120 kind) (is_paired net track 120 kind partner.shift partner.kind)) e) ∙ h) in
        let l = ltb-true _ _ e in (omega arith, omega arith)
    go false e =
        let p = ha 120 partner.shift (sym (ap (λ c. cond c (is_paired net track partner.shift partner.kind 120 kind) (is_paired net track 120 kind partner.shift partner.kind)) e) ∙ h) in
        let l = ltb-false _ _ e in (omega arith, omega arith)

-- a type that isn't there is no partner
may_not_from : (net : Net) (built : IsBuilt net) (track : TrackId) (kind : TypeId) → MayUse net track kind → kind.0 < length net.types
may_not_from net built track kind may = from (times_of net track kind) may (times_built net track kind built)
  where
    from : (o : Option Times) → IsSome o → IfSome o (λ times. IsRunningRow (length net.tracks) (length net.types) ((track.0, kind.0), times)) → kind.0 < length net.types
    from None s h = absurd (grind arith)
    from (Some v) s h = h.1

pub partner_kind : (net : Net) → IsBuilt net → (track : TrackId) (kind : TypeId) (partner : Partner) → is_partner net track kind partner ≡ true → partner.kind.0 < length net.types
partner_kind net built track kind partner h = go (nat_lt partner.shift 120) refl
  where
    go : (c : Bool) → nat_lt partner.shift 120 ≡ c → partner.kind.0 < length net.types
    go true e =
        may_not_from net built track partner.kind
        (pair_parts net track partner.shift partner.kind 120 kind (sym (ap (λ c. cond c (is_paired net track partner.shift partner.kind 120 kind) (is_paired net track 120 kind partner.shift partner.kind)) e) ∙ h)).first
    go false e =
        may_not_from net built track partner.kind
        (pair_parts net track 120 kind partner.shift partner.kind (sym (ap (λ c. cond c (is_paired net track partner.shift partner.kind 120 kind) (is_paired net track 120 kind partner.shift partner.kind)) e) ∙ h)).second

-- ---- the places of partners

map_itself : (xs : List ℕ) → map (λ n. n) xs ≡ xs
map_itself [] = refl
map_itself (x ∷ xs) = ap (λ l. x ∷ l) (map_itself xs)

pub filter-range_more : (p : ℕ → Bool) (n : ℕ) → filter p (range_with_len 0 (n + 1)) ≡ filter p (range_with_len 0 n) ++ cond (p n) (n ∷ []) []
filter-range_more p n =
    ap (filter p) (sym (map_itself (range_with_len 0 (n + 1)))) ∙ filter_of_map_range_with_len_more p (λ m. m) 0 n n (omega arith)
    ∙ ap (λ l. filter p l ++ cond (p n) (n ∷ []) []) (map_itself (range_with_len 0 n))

places_same : (p : ℕ → Bool) (n : ℕ) → p n ≡ false → filter p (range_with_len 0 (n + 1)) ≡ filter p (range_with_len 0 n)
places_same p n f = filter-range_more p n ∙ ap (λ b. filter p (range_with_len 0 n) ++ cond b (n ∷ []) []) f ∙ append-nil (filter p (range_with_len 0 n))

-- where none passes from a number on, the filter stays
pub filter-range_none : (p : ℕ → Bool) (m n : ℕ) → ((k : ℕ) → m ≤ k → k < m + n → p k ≡ false) → filter p (range_with_len 0 (m + n)) ≡ filter p (range_with_len 0 m)
filter-range_none p m zero none = ap (λ k. filter p (range_with_len 0 k)) (let e : m + 0 ≡ m = omega arith in e)
filter-range_none p m (suc n) none =
    ap (λ k. filter p (range_with_len 0 k)) (let e : m + suc n ≡ m + n + 1 = omega arith in e)
    ∙ places_same p (m + n) (none (m + n) (omega arith) (omega arith)) ∙ filter-range_none p m n (λ k l h. none k l (omega arith))

module _ (net : Net) (track : TrackId) (kind : TypeId) where
  -- whether a partner is at the place
  abbrev pub is_place : ℕ → Bool
  is_place place = is_partner net track kind (partner_at place)

  abbrev pub places_below : ℕ → List ℕ
  places_below n = filter is_place (range_with_len 0 n)

  pub partner_places-is : places_below 3840 ≡ partner_places net track kind
  unfolding partner_places
  partner_places-is = refl

  module _ (reach : ℕ) (within : (partner : Partner) → is_partner net track kind partner ≡ true → (120 < partner.shift + reach) × (partner.shift < 120 + reach)) (most : reach ≤ 120) where
    out_of_reach : (place : ℕ) → (120 < place / 16 + reach → place / 16 < 120 + reach → ⊥) → is_place place ≡ false
    out_of_reach place far = false_from_ne_true _ (λ h. let w = within (partner_at place) h in far w.0 w.1)

    -- before the first place there is none
    pub places_start : [] ≡ places_below ((120 - reach) * 16)
    places_start =
        sym (filter-range_none is_place 0 ((120 - reach) * 16) (λ k _ l. out_of_reach k (λ a b. omega arith)))
        ∙ ap places_below (let e : 0 + (120 - reach) * 16 ≡ (120 - reach) * 16 = omega arith in e)

    -- and none after the last
    pub places_end : (n : ℕ) → n ≡ (120 + reach) * 16 → places_below n ≡ partner_places net track kind
    places_end n e =
        ap places_below e
        ∙ sym (filter-range_none is_place ((120 + reach) * 16) (3840 - (120 + reach) * 16) (λ k h l. out_of_reach k (λ a b. omega arith)))
        ∙ ap places_below (let whole : (120 + reach) * 16 + (3840 - (120 + reach) * 16) ≡ 3840 = omega arith in whole) ∙ partner_places-is

  -- one more place
  pub place_passes : (n : ℕ) (xs new : List Partner) → xs ≡ map partner_at (places_below n) → is_place n ≡ true → new ≡ xs ++ partner_at n ∷ [] → new ≡ map partner_at (places_below (n + 1))
  place_passes n xs new e t made =
      made ∙ ap (λ l. l ++ partner_at n ∷ []) e ∙ sym (map_push partner_at (places_below n) n)
      ∙ ap (map partner_at) (ap (λ b. places_below n ++ cond b (n ∷ []) []) (sym t) ∙ sym (filter-range_more is_place n))

  pub place_fails : (n : ℕ) (xs : List Partner) → xs ≡ map partner_at (places_below n) → is_place n ≡ false → xs ≡ map partner_at (places_below (n + 1))
  place_fails n xs e f = e ∙ ap (map partner_at) (sym (places_same is_place n f))

-- ---- the rule's own words

-- the numbers of two types that may use a track
pub record Numbers (net : Net) (t : TrackId) (a b : TypeId) : Type 0 where
  pub positive : 1 ≤ hmin_or_0 net t a
  pub least : hmin_or_0 net t a ≤ headway_or_0 net t a b
  pub most : headway_or_0 net t a b ≤ 120
  pub headway_is : headway_of net t a b ≡ Some (headway_or_0 net t a b)

pub numbers_of : (net : Net) (t : TrackId) (a b : TypeId) → IsProper net → MayUse net t a → MayUse net t b → Numbers net t a b
numbers_of net t a b p ma mb =
    let g = headways_are net t a b p ma mb in
    let eg : headway_or_0 net t a b ≡ g.headway = ap (λ o. unwrap_or o 0) g.headway_is in
    let eh : hmin_or_0 net t a ≡ g.hmin = ap (λ o. unwrap_or o 0) g.hmin_is in
    record {
      positive = rw eh g.positive;
      least = rw (eh, eg) g.least;
      most = rw eg g.most;
      headway_is = g.headway_is ∙ ap Some (sym eg);
    }

kept_minutes : (o : Option ℕ) (h t u : ℕ) → o ≡ Some h → IsSomeAnd o (λ v. t + v ≤ u) → t + h ≤ u
kept_minutes o h t u e k = subst (λ x. IsSomeAnd x (λ v. t + v ≤ u)) e k

keeps_minutes : (o : Option ℕ) (h t u : ℕ) → o ≡ Some h → t + h ≤ u → IsSomeAnd o (λ v. t + v ≤ u)
keeps_minutes o h t u e k = subst (λ x. IsSomeAnd x (λ v. t + v ≤ u)) (sym e) k

module _ (net : Net) (p : IsProper net) (track : TrackId) (t : ℕ) (a : TypeId) (u : ℕ) (b : TypeId) where
  -- what the arithmetic says is a pair
  pub paired_rule : is_paired net track t a u b ≡ true → ArePaired net (use_at track a t) (use_at track b u)
  paired_rule h =
      let parts = pair_parts net track t a u b h in
      let n = numbers_of net track a b p parts.first parts.second in
      let m = numbers_of net track b a p parts.second parts.first in
      let apart = parts.apart in
      let near = parts.near in
      let positive = n.positive in
      let back = m.positive in
      let least = m.least in
      record {
        track = refl;
        first_may = parts.first;
        second_may = parts.second;
        smaller = inl (omega arith);
        conflict = λ compatible. elim compatible [
          | inl other ↦ other refl
          | inr keeps ↦ elim keeps [
            | inl after ↦ let k = kept_minutes _ _ t u n.headway_is after in omega arith
            | inr before ↦ let k = kept_minutes _ _ u t m.headway_is before in omega arith
          ]
        ];
        apart = λ minute x y. omega (arith, x.1, y.0);
      }

  -- a pair is what the arithmetic says
  pub paired_arithmetic : ArePaired net (use_at track a t) (use_at track b u) → is_paired net track t a u b ≡ true
  paired_arithmetic h =
      let n = numbers_of net track a b p h.first_may h.second_may in
      let m = numbers_of net track b a p h.second_may h.first_may in
      let positive = m.positive in
      let later : t ≤ u = elim h.smaller [ inl l ↦ omega arith | inr s ↦ let e = s.0 in omega arith ] in
      pair_from net track t a u b (record {
        first = h.first_may;
        second = h.second_may;
        apart = elim (cases_lt u (t + hmin_or_0 net track a)) [
          | inl within ↦ absurd (h.apart u (later, within) (let e : u ≤ u = omega arith in e, let e : u < u + hmin_or_0 net track b = omega arith in e))
          | inr apart ↦ apart
        ];
        near = elim (cases_lt u (t + headway_or_0 net track a b)) [
          | inl near ↦ near
          | inr far ↦ absurd (h.conflict (inr (inl (keeps_minutes _ _ t u n.headway_is far))))
        ];
      })

-- ---- the partners of a use are the list

module _ (net : Net) (p : IsProper net) (track : TrackId) (kind : TypeId) where
  abbrev partner_if : Partner → Bool → Bool
  partner_if partner c = cond c (is_paired net track partner.shift partner.kind 120 kind) (is_paired net track 120 kind partner.shift partner.kind)

  partner_rule : (partner : Partner) → is_partner net track kind partner ≡ true → IsPartner net track kind partner
  partner_rule partner h = go (nat_lt partner.shift 120) refl
    where
      go : (c : Bool) → nat_lt partner.shift 120 ≡ c → IsPartner net track kind partner
      go true e = inl (paired_rule net p track partner.shift partner.kind 120 kind (sym (ap (partner_if partner) e) ∙ h))
      go false e = inr (paired_rule net p track 120 kind partner.shift partner.kind (sym (ap (partner_if partner) e) ∙ h))

  partner_arithmetic : (partner : Partner) → IsPartner net track kind partner → is_partner net track kind partner ≡ true
  partner_arithmetic partner (inl h) =
      let is = paired_arithmetic net p track partner.shift partner.kind 120 kind h in
      let parts = pair_parts net track partner.shift partner.kind 120 kind is in
      let n = numbers_of net track partner.kind kind p parts.first parts.second in
      let positive = n.positive in
      let apart = parts.apart in
      ap (partner_if partner) (lt-ltb partner.shift 120 (omega arith)) ∙ is
  partner_arithmetic partner (inr h) =
      let is = paired_arithmetic net p track 120 kind partner.shift partner.kind h in
      let parts = pair_parts net track 120 kind partner.shift partner.kind is in
      let apart = parts.apart in
      ap (partner_if partner) (le-ltb partner.shift 120 (omega arith)) ∙ is

  -- a partner's type is one of sixteen, and its shift below 240
  pub record HasPlace (partner : Partner) : Type 0 where
    pub few : partner.kind.0 < 16
    pub low : partner.shift < 240

  pub has_place : (partner : Partner) → is_partner net track kind partner ≡ true → HasPlace partner
  has_place partner h = go (nat_lt partner.shift 120) refl
    where
      few : partner.kind.0 < 16
      few = let k = partner_kind net p.built track kind partner h in let most = p.built.counts.few_types in omega arith

      go : (c : Bool) → nat_lt partner.shift 120 ≡ c → HasPlace partner
      go true e = record { few = few; low = let l = ltb-true _ _ e in omega arith }
      go false e =
          let parts = pair_parts net track 120 kind partner.shift partner.kind (sym (ap (partner_if partner) e) ∙ h) in
          let near = parts.near in
          let most = headway_most net p.built track kind partner.kind in
          record { few = few; low = omega arith }

  in_partners : (partner : Partner) → is_partner net track kind partner ≡ true → In partner (partners_of net track kind)
  in_partners partner h =
      let place = has_place partner h in
      let few = place.few in
      let low = place.low in
      let n : ℕ = partner.shift * 16 + partner.kind.0 in
      let q : n / 16 ≡ partner.shift = quotient partner.shift partner.kind.0 few in
      let r : n % 16 ≡ partner.kind.0 = remainder partner.shift partner.kind.0 few in
      let is : partner_at n ≡ partner = λ i. record { shift = q i; kind = record { 0 = r i } } in
      let within : n < 0 + 3840 = omega arith in
      let places : In n (partner_places net track kind) =
      subst (In n) (partner_places-is net track kind) (in_filter (is_place net track kind) (range_with_len 0 3840) n (in_range 0 3840 n (omega arith) within) (ap (is_partner net track kind) is ∙ h)) in
      subst (λ x. In x (partners_of net track kind)) is (in_map partner_at (partner_places net track kind) n places)

  partners_in : (partner : Partner) → In partner (partners_of net track kind) → is_partner net track kind partner ≡ true
  partners_in partner i =
      let m = in_map_from partner_at (partner_places net track kind) partner i in
      let k = in_filter_from (is_place net track kind) (range_with_len 0 3840) m.source (subst (In m.source) (sym (partner_places-is net track kind)) m.inside) in
      ap (is_partner net track kind) (sym m.is) ∙ k.passes

  pub partners_are : (partner : Partner) → Contains (partners_of net track kind) partner ↔ IsPartner net track kind partner
  partners_are partner = (
    (λ c. partner_rule partner (partners_in partner (in_from (partners_of net track kind) partner c))),
    (λ h. contains_from (partners_of net track kind) partner (in_partners partner (partner_arithmetic partner h))),
  )
