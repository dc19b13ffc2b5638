-- The least headway of a type is one of its headways, and at most each of them.
use Rattle.std.proofs.Common.{◌≡◌, ℕ, zero, suc, nat_eq, ◌<◌, ◌≤◌, min, true, false, cond, Some, None, Option, IfSome, IsSome, is_some, length, refl, ap, ◌∙◌, subst, arith}
use Rattle.optra_network.specs.Net.{Net, IsProper, MayUse, times_of, headway_of, IsHeadwayRow, IsRunningRow}
use Rattle.optra_network.specs.Headways.{type_id, lesser, least_of, headway_before, hmin_of}
use Rattle.optra_network.specs.declared.TrackId.{TrackId}
use Rattle.optra_network.specs.declared.TypeId.{TypeId}
use Rattle.optra_network.specs.declared.Times.{Times}
use Rattle.optra_network.proofs.NetLemmas.{headway_built, times_built}

-- a number of at least 1 that is at most another
pub record IsLow (o : Option ℕ) (h : ℕ) : Type 0 where
  pub low : ℕ
  pub is : o ≡ Some low
  pub most : low ≤ h

lesser_left : (a b : Option ℕ) (h : ℕ) → IsLow a h → IsLow (lesser a b) h
lesser_left None b h l = absurd (let e = l.is in cc)
lesser_left (Some a) None h l = l
lesser_left (Some a) (Some b) h l = record { low = min a b; is = refl; most = let e : a ≡ l.low = cc in let m = l.most in omega arith }

lesser_right : (a b : Option ℕ) (h : ℕ) → b ≡ Some h → IsLow (lesser a b) h
lesser_right None b h e = record { low = h; is = e; most = omega arith }
lesser_right (Some a) None h e = absurd (cc)
lesser_right (Some a) (Some b) h e = record { low = min a b; is = refl; most = let q : b ≡ h = cc in omega arith }

pub least_of-low : (f : ℕ → Option ℕ) (n k h : ℕ) → k < n → f k ≡ Some h → IsLow (least_of f n) h
least_of-low f zero k h l e = absurd (omega arith)
least_of-low f (suc n) k h l e =
    elim (nat_eq k n) as (λ b. nat_eq k n ≡ b → IsLow (lesser (least_of f n) (f n)) h) [
      | true ↦ λ t. let same : k ≡ n = grind arith in lesser_right (least_of f n) (f n) h (subst (λ j. f j ≡ Some h) same e)
      | false ↦ λ t. lesser_left (least_of f n) (f n) h (least_of-low f n k h (let ne : k < n = grind arith in ne) e)
    ] refl

lesser_at-least : (a b : Option ℕ) (x : ℕ) → IfSome a (λ v. x ≤ v) → IfSome b (λ v. x ≤ v) → IfSome (lesser a b) (λ v. x ≤ v)
lesser_at-least None b x p q = q
lesser_at-least (Some a) None x p q = p
lesser_at-least (Some a) (Some b) x p q = omega arith

pub least_of-at-least : (f : ℕ → Option ℕ) (n x : ℕ) → ((k : ℕ) → IfSome (f k) (λ v. x ≤ v)) → IfSome (least_of f n) (λ v. x ≤ v)
least_of-at-least f zero x h = tt
least_of-at-least f (suc n) x h = lesser_at-least (least_of f n) (f n) x (least_of-at-least f n x h) (h n)

-- what is known of two types that may use a track
pub record AreHeadways (net : Net) (t : TrackId) (a b : TypeId) : Type 0 where
  pub headway : ℕ
  pub headway_is : headway_of net t a b ≡ Some headway
  pub hmin : ℕ
  pub hmin_is : hmin_of net t a ≡ Some hmin
  pub positive : 1 ≤ hmin
  pub least : hmin ≤ headway
  pub most : headway ≤ 120

is_some-from : (o : Option Times) → IsSome o → is_some o ≡ true
is_some-from None h = absurd (grind arith)
is_some-from (Some v) h = refl

headway_before_is : (net : Net) (t : TrackId) (a b : TypeId) → MayUse net t b → headway_before net t a b ≡ headway_of net t a b
headway_before_is net t a b may = ap (λ c. cond c (headway_of net t a b) None) (is_some-from (times_of net t b) may)

headway_before_at-least : (net : Net) (t : TrackId) (a b : TypeId) → IfSome (headway_of net t a b) (λ h. 1 ≤ h) → IfSome (headway_before net t a b) (λ v. 1 ≤ v)
headway_before_at-least net t a b h = elim (is_some (times_of net t b)) as (λ c. IfSome (cond c (headway_of net t a b) None) (λ v. 1 ≤ v)) [ true ↦ h | false ↦ tt ]

if_one : (o : Option ℕ) (tracks types t a b : ℕ) → IfSome o (λ h. IsHeadwayRow tracks types ((t, a, b), h)) → IfSome o (λ h. 1 ≤ h)
if_one None tracks types t a b h = tt
if_one (Some v) tracks types t a b h = h.3.0

pub below_types : (net : Net) (t : TrackId) (k : TypeId) → IsProper net → MayUse net t k → (k.0 < length net.types) × (k.0 < 16) × (t.0 < length net.tracks)
below_types net t k p may = from (times_of net t k) may (times_built net t k p.built)
  where
    from : (o : Option Times) → IsSome o → IfSome o (λ times. IsRunningRow (length net.tracks) (length net.types) ((t.0, k.0), times)) → (k.0 < length net.types) × (k.0 < 16) × (t.0 < length net.tracks)
    from None s h = absurd (grind arith)
    from (Some v) s h = let few = p.built.counts.few_types in (h.1, omega (arith, h.1, few), h.0)

headways_from : (net : Net) (t : TrackId) (a b : TypeId) (o : Option ℕ) → headway_of net t a b ≡ o → IsSome o → IfSome o (λ h. IsHeadwayRow (length net.tracks) (length net.types) ((t.0, a.0, b.0), h))
    → IsProper net → MayUse net t a → MayUse net t b → AreHeadways net t a b
headways_from net t a b None e s h p ma mb = absurd (grind arith)
headways_from net t a b (Some g) e s h p ma mb =
    let f : ℕ → Option ℕ = λ n. headway_before net t a (type_id n) in
    let low = least_of-low f (length net.types) b.0 g (below_types net t b p mb).0 (headway_before_is net t a b mb ∙ e) in
    let one = least_of-at-least f (length net.types) 1 (λ k. headway_before_at-least net t a (type_id k) (if_one (headway_of net t a (type_id k)) (length net.tracks) (length net.types) t.0 a.0 k (headway_built net t a (type_id k) p.built))) in
    record {
      headway = g;
      headway_is = e;
      hmin = low.low;
      hmin_is = ap (λ c. cond c (least_of f (length net.types)) None) (is_some-from (times_of net t a) ma) ∙ low.is;
      positive = subst (λ o. IfSome o (λ v. 1 ≤ v)) low.is one;
      least = low.most;
      most = h.3.1;
    }

pub headways_are : (net : Net) (t : TrackId) (a b : TypeId) → IsProper net → MayUse net t a → MayUse net t b → AreHeadways net t a b
headways_are net t a b p ma mb = headways_from net t a b (headway_of net t a b) refl (p.complete t a b ma mb) (headway_built net t a b p.built) p ma mb
