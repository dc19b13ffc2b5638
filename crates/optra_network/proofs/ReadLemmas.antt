-- What the tables of a network say of it.
use Rattle.std.proofs.Common.{◌≡◌, ℕ, ◌<◌, ◌≤◌, Bool, true, false, cond, not, ◌==◌, ◌⊎◌, ⊎_elim, Some, None, Option, IfSome, IsSome, is_some, unwrap_or, List, length, All, refl, sym, ap, ◌∙◌, arith, rules, subst, nat_eq}
use Rattle.std.proofs.lemmas.Bool.{ne_eqb}
use Rattle.std.specs.Option.{option_map}
use Rattle.std.specs.Map.{lookup}
use Rattle.optra_network.specs.Net.{Net, IsBuilt, IsFromTo, IsProper, MayUse, IsRunningRow, IsHeadwayRow, IsCrossingRow, IsLimitRow, times_of, headway_of, crossing_of, halt_max_of, same_quadruple, minutes_by, track_id}
use Rattle.optra_network.specs.Headways.{type_id, least_of, headway_before, hmin_of, hmin_or_0}
use Rattle.optra_network.specs.Tables.{no_times, found_times, found_headway, hmin_at, HoldsPairs, IsPair, IsTriple, AreRows, at_pair, at_triple}
use Rattle.optra_network.specs.declared.StationId.{StationId}
use Rattle.optra_network.specs.declared.TrackId.{TrackId}
use Rattle.optra_network.specs.declared.TypeId.{TypeId}
use Rattle.optra_network.specs.declared.Times.{Times}
use Rattle.optra_network.specs.declared.dense.Rows.{Rows}
use Rattle.optra_network.proofs.NetLemmas.{times_built, headway_built, crossing_built, limit_built}
use Rattle.optra_network.proofs.TableLemmas.{at_pair_is, at_triple_is}
use Rattle.optra_network.proofs.HeadwayLemmas.{headways_are}

-- the rows of a builder have places, and its tracks tails
pub pairs_built : (net : Net) → IsBuilt net → All (λ row. IsPair (length net.tracks) row.0) net.running
pairs_built net b k d l = let h = b.running.each k d l in let few = b.counts.few_types in (h.0, omega (arith, h.1, few))

pub triples_built : (net : Net) → IsBuilt net → All (λ row. IsTriple (length net.tracks) row.0) net.headways
triples_built net b k d l = let h = b.headways.each k d l in let few = b.counts.few_types in (h.0, omega (arith, h.1, few), omega (arith, h.2, few))

pub tails_built : (net : Net) → IsBuilt net → All (λ t. t.tail.0 < length net.stations) net.tracks
tails_built net b k d l = (b.ends k d l).0

module _ (net : Net) (built : IsBuilt net) where
  -- nothing is found past the tracks and the types
  no_times_past : (t k : ℕ) → (length net.tracks ≤ t) ⊎ (16 ≤ k) → found_times net.running t k ≡ no_times
  no_times_past t k past = from (times_of net (track_id t) (type_id k)) (times_built net (track_id t) (type_id k) built)
    where
      from : (o : Option Times) → IfSome o (λ times. IsRunningRow (length net.tracks) (length net.types) ((t, k), times)) → unwrap_or o no_times ≡ no_times
      from None h = refl
      from (Some times) h = let few = built.counts.few_types in absurd (⊎_elim (λ p. omega (arith, h.0, p)) (λ p. omega (arith, h.1, few, p)) past)

  no_headway_past : (t a b : ℕ) → (length net.tracks ≤ t) ⊎ ((16 ≤ a) ⊎ (16 ≤ b)) → found_headway net.headways t a b ≡ 0
  no_headway_past t a b past = from (headway_of net (track_id t) (type_id a) (type_id b)) (headway_built net (track_id t) (type_id a) (type_id b) built)
    where
      from : (o : Option ℕ) → IfSome o (λ h. IsHeadwayRow (length net.tracks) (length net.types) ((t, a, b), h)) → unwrap_or o 0 ≡ 0
      from None h = refl
      from (Some n) h =
          let few = built.counts.few_types in
          absurd (⊎_elim (λ p. omega (arith, h.0, p)) (λ q. ⊎_elim (λ p. omega (arith, h.1, few, p)) (λ p. omega (arith, h.2, few, p)) q) past)

  never_past : (t k : ℕ) → (length net.tracks ≤ t) ⊎ (16 ≤ k) → is_some (times_of net (track_id t) (type_id k)) ≡ false
  never_past t k past = from (times_of net (track_id t) (type_id k)) (times_built net (track_id t) (type_id k) built)
    where
      from : (o : Option Times) → IfSome o (λ times. IsRunningRow (length net.tracks) (length net.types) ((t, k), times)) → is_some o ≡ false
      from None h = refl
      from (Some times) h = let few = built.counts.few_types in absurd (⊎_elim (λ p. omega (arith, h.0, p)) (λ p. omega (arith, h.1, few, p)) past)

  -- ---- the tables of running times and headways, read at any numbers

  pub times_read : (rows : Rows) → AreRows net rows → (t k : ℕ) → at_pair no_times rows.running.items t k ≡ found_times net.running t k
  times_read rows are t k = at_pair_is (found_times net.running) (length net.tracks) no_times rows.running.items are.running no_times_past t k

  pub headway_read : (rows : Rows) → AreRows net rows → (t a b : ℕ) → at_triple 0 rows.headways.items t a b ≡ found_headway net.headways t a b
  headway_read rows are t a b = at_triple_is (found_headway net.headways) (length net.tracks) 0 rows.headways.items are.headways no_headway_past t a b

  -- ---- a value that stands for none, told from the others

  none_or_times : (o : Option Times) (tracks types t k : ℕ) → IfSome o (λ times. IsRunningRow tracks types ((t, k), times))
      → not ((unwrap_or o no_times).pass_pass == 0) ≡ is_some o
  none_or_times None tracks types t k h = refl
  none_or_times (Some times) tracks types t k h = ap not (ne_eqb times.pass_pass 0 (λ z. omega (arith, z, h.2.pass_pass.0)))

  pub may_use_is : (t : TrackId) (k : TypeId) (x : Times) → x ≡ found_times net.running t.0 k.0 → not (x.pass_pass == 0) ≡ is_some (times_of net t k)
  may_use_is t k x e = ap (λ (times : Times). not (times.pass_pass == 0)) e ∙ none_or_times (times_of net t k) (length net.tracks) (length net.types) t.0 k.0 (times_built net t k built)

  none_or_minutes : (o : Option Times) (tracks types t k : ℕ) (a b : Bool) → IfSome o (λ times. IsRunningRow tracks types ((t, k), times))
      → cond (minutes_by a b (unwrap_or o no_times) == 0) None (Some (minutes_by a b (unwrap_or o no_times))) ≡ option_map (minutes_by a b) o
  none_or_minutes None tracks types t k true true h = refl
  none_or_minutes None tracks types t k true false h = refl
  none_or_minutes None tracks types t k false true h = refl
  none_or_minutes None tracks types t k false false h = refl
  none_or_minutes (Some times) tracks types t k true true h = ap (λ c. cond c None (Some times.halt_halt)) (ne_eqb times.halt_halt 0 (λ z. omega (arith, z, h.2.halt_halt.0)))
  none_or_minutes (Some times) tracks types t k true false h = ap (λ c. cond c None (Some times.halt_pass)) (ne_eqb times.halt_pass 0 (λ z. omega (arith, z, h.2.halt_pass.0)))
  none_or_minutes (Some times) tracks types t k false true h = ap (λ c. cond c None (Some times.pass_halt)) (ne_eqb times.pass_halt 0 (λ z. omega (arith, z, h.2.pass_halt.0)))
  none_or_minutes (Some times) tracks types t k false false h = ap (λ c. cond c None (Some times.pass_pass)) (ne_eqb times.pass_pass 0 (λ z. omega (arith, z, h.2.pass_pass.0)))

  pub run_is : (t : TrackId) (k : TypeId) (a b : Bool) (x : Times) → x ≡ found_times net.running t.0 k.0
      → cond (minutes_by a b x == 0) None (Some (minutes_by a b x)) ≡ option_map (minutes_by a b) (times_of net t k)
  run_is t k a b x e =
      ap (λ (times : Times). cond (minutes_by a b times == 0) None (Some (minutes_by a b times))) e
      ∙ none_or_minutes (times_of net t k) (length net.tracks) (length net.types) t.0 k.0 a b (times_built net t k built)

  none_or_headway : (o : Option ℕ) (tracks types t a b : ℕ) → IfSome o (λ h. IsHeadwayRow tracks types ((t, a, b), h)) → cond (unwrap_or o 0 == 0) None (Some (unwrap_or o 0)) ≡ o
  none_or_headway None tracks types t a b h = refl
  none_or_headway (Some n) tracks types t a b h = ap (λ c. cond c None (Some n)) (ne_eqb n 0 (λ z. omega (arith, z, h.3.0)))

  pub headway_is : (t : TrackId) (a b : TypeId) (n : ℕ) → n ≡ found_headway net.headways t.0 a.0 b.0 → cond (n == 0) None (Some n) ≡ headway_of net t a b
  headway_is t a b n e =
      ap (λ m. cond (m == 0) None (Some m)) e ∙ none_or_headway (headway_of net t a b) (length net.tracks) (length net.types) t.0 a.0 b.0 (headway_built net t a b built)

  some_headway : (o : Option ℕ) (tracks types t a b : ℕ) → IfSome o (λ h. IsHeadwayRow tracks types ((t, a, b), h)) → not (unwrap_or o 0 == 0) ≡ is_some o
  some_headway None tracks types t a b h = refl
  some_headway (Some n) tracks types t a b h = ap not (ne_eqb n 0 (λ z. omega (arith, z, h.3.0)))

  pub has_headway_is : (t : TrackId) (a b : TypeId) (n : ℕ) → n ≡ found_headway net.headways t.0 a.0 b.0 → not (n == 0) ≡ is_some (headway_of net t a b)
  has_headway_is t a b n e =
      ap (λ m. not (m == 0)) e ∙ some_headway (headway_of net t a b) (length net.tracks) (length net.types) t.0 a.0 b.0 (headway_built net t a b built)

  -- ---- least headways

  pub hmin_or_0-none : (t : TrackId) (k : TypeId) → is_some (times_of net t k) ≡ false → hmin_or_0 net t k ≡ 0
  hmin_or_0-none t k e = ap (λ c. unwrap_or (cond c (least_of (λ n. headway_before net t k (type_id n)) (length net.types)) None) 0) e

  pub hmin_or_0-some : (t : TrackId) (k : TypeId) → is_some (times_of net t k) ≡ true
      → hmin_or_0 net t k ≡ unwrap_or (least_of (λ n. headway_before net t k (type_id n)) (length net.types)) 0
  hmin_or_0-some t k e = ap (λ c. unwrap_or (cond c (least_of (λ n. headway_before net t k (type_id n)) (length net.types)) None) 0) e

  pub least_read : (leasts : List ℕ) → HoldsPairs (hmin_at net) (length net.tracks) leasts → (t k : ℕ) → at_pair 0 leasts t k ≡ hmin_at net t k
  least_read leasts are t k = at_pair_is (hmin_at net) (length net.tracks) 0 leasts are (λ a b past. hmin_or_0-none (track_id a) (type_id b) (never_past a b past)) t k

some_is : (o : Option Times) → is_some o ≡ true → IsSome o
some_is None e = absurd (cc)
some_is (Some v) e = search rules

-- ---- the ranges

module _ (net : Net) (built : IsBuilt net) where
  minutes_from_to : (o : Option Times) (tracks types t k : ℕ) (a b : Bool) → IfSome o (λ times. IsRunningRow tracks types ((t, k), times)) → IfSome (option_map (minutes_by a b) o) (IsFromTo 1 240)
  minutes_from_to None tracks types t k a b h = tt
  minutes_from_to (Some times) tracks types t k true true h = h.2.halt_halt
  minutes_from_to (Some times) tracks types t k true false h = h.2.halt_pass
  minutes_from_to (Some times) tracks types t k false true h = h.2.pass_halt
  minutes_from_to (Some times) tracks types t k false false h = h.2.pass_pass

  pub run_range : (t : TrackId) (k : TypeId) (a b : Bool) → IfSome (option_map (minutes_by a b) (times_of net t k)) (IsFromTo 1 240)
  run_range t k a b = minutes_from_to (times_of net t k) (length net.tracks) (length net.types) t.0 k.0 a b (times_built net t k built)

  headway_from_to : (o : Option ℕ) (tracks types t a b : ℕ) → IfSome o (λ h. IsHeadwayRow tracks types ((t, a, b), h)) → IfSome o (IsFromTo 1 120)
  headway_from_to None tracks types t a b h = tt
  headway_from_to (Some n) tracks types t a b h = h.3

  pub headway_range : (t : TrackId) (a b : TypeId) → IfSome (headway_of net t a b) (IsFromTo 1 120)
  headway_range t a b = headway_from_to (headway_of net t a b) (length net.tracks) (length net.types) t.0 a.0 b.0 (headway_built net t a b built)

  crossing_from_to : (o : Option ℕ) (tracks types t u a b : ℕ) → IfSome o (λ m. IsCrossingRow tracks types ((t, u, a, b), m)) → IfSome o (IsFromTo 1 120)
  crossing_from_to None tracks types t u a b h = tt
  crossing_from_to (Some n) tracks types t u a b h = h.minutes

  pub crossing_range : (t u : TrackId) (a b : TypeId) → IfSome (crossing_of net t u a b) (IsFromTo 1 120)
  crossing_range t u a b = crossing_from_to (crossing_of net t u a b) (length net.tracks) (length net.types) t.0 u.0 a.0 b.0 (crossing_built net t u a b built)

  pub crossing_found : (t u a b m : ℕ) → lookup (same_quadruple (t, u, a, b)) net.crossings ≡ Some m → IsFromTo 1 120 m
  crossing_found t u a b m e = subst (λ o. IfSome o (IsFromTo 1 120)) e (crossing_range (track_id t) (track_id u) (type_id a) (type_id b))

  most_limit : (o : Option ℕ) (stations s : ℕ) → IfSome o (λ n. IsLimitRow stations (s, n)) → unwrap_or o 0 ≤ 1000
  most_limit None stations s h = omega arith
  most_limit (Some n) stations s h = h.1.1

  pub halt_most : (s : StationId) → halt_max_of net s ≤ 1000
  halt_most s = most_limit (lookup (nat_eq s.0) net.limits) (length net.stations) s.0 (limit_built net s built)

pub hmin_range : (net : Net) → IsProper net → (t : TrackId) (k : TypeId) → IfSome (hmin_of net t k) (IsFromTo 1 120)
hmin_range net p t k = go (is_some (times_of net t k)) refl
  where
    go : (b : Bool) → is_some (times_of net t k) ≡ b → IfSome (hmin_of net t k) (IsFromTo 1 120)
    go false f = subst (λ o. IfSome o (IsFromTo 1 120)) (sym (ap (λ c. cond c (least_of (λ n. headway_before net t k (type_id n)) (length net.types)) None) f)) tt
    go true f =
        let may : MayUse net t k = some_is (times_of net t k) f in
        let g = headways_are net t k k p may may in
        let low = g.positive in
        let least = g.least in
        let most = g.most in
        subst (λ o. IfSome o (IsFromTo 1 120)) (sym g.hmin_is) (omega arith, omega arith)

-- ---- the same of the tables

module _ (net : Net) (rows : Rows) (are : AreRows net rows) where
  pub may_use_read : (t : TrackId) (k : TypeId) → not ((at_pair no_times rows.running.items t.0 k.0).pass_pass == 0) ≡ is_some (times_of net t k)
  may_use_read t k = may_use_is net are.built t k _ (times_read net are.built rows are t.0 k.0)

  pub run_read : (t : TrackId) (k : TypeId) (a b : Bool) (x : Times) → x ≡ at_pair no_times rows.running.items t.0 k.0
      → cond (minutes_by a b x == 0) None (Some (minutes_by a b x)) ≡ option_map (minutes_by a b) (times_of net t k)
  run_read t k a b x e = run_is net are.built t k a b x (e ∙ times_read net are.built rows are t.0 k.0)

  pub minutes_read : (t : TrackId) (a b : TypeId) (n : ℕ) → n ≡ at_triple 0 rows.headways.items t.0 a.0 b.0 → cond (n == 0) None (Some n) ≡ headway_of net t a b
  minutes_read t a b n e = headway_is net are.built t a b n (e ∙ headway_read net are.built rows are t.0 a.0 b.0)

  pub has_minutes_read : (t : TrackId) (a b : TypeId) (n : ℕ) → n ≡ at_triple 0 rows.headways.items t.0 a.0 b.0 → not (n == 0) ≡ is_some (headway_of net t a b)
  has_minutes_read t a b n e = has_headway_is net are.built t a b n (e ∙ headway_read net are.built rows are t.0 a.0 b.0)

-- a least headway is at least 1, so 0 stands for none
pub hmin_is : (net : Net) → IsProper net → (t : TrackId) (k : TypeId) (n : ℕ) → n ≡ hmin_or_0 net t k → cond (n == 0) None (Some n) ≡ hmin_of net t k
hmin_is net p t k n e = go (is_some (times_of net t k)) refl
  where
    L : Option ℕ
    L = least_of (λ n. headway_before net t k (type_id n)) (length net.types)

    go : (b : Bool) → is_some (times_of net t k) ≡ b → cond (n == 0) None (Some n) ≡ hmin_of net t k
    go false f =
        let z : n ≡ 0 = e ∙ hmin_or_0-none net p.built t k f in
        ap (λ m. cond (m == 0) None (Some m)) z ∙ sym (ap (λ c. cond c L None) f)
    go true f =
        let may : MayUse net t k = some_is (times_of net t k) f in
        let g = headways_are net t k k p may may in
        let is : n ≡ g.hmin = e ∙ ap (λ o. unwrap_or o 0) g.hmin_is in
        let pos = g.positive in
        let ne : (n == 0) ≡ false = ne_eqb n 0 (λ z. omega (arith, z)) in
        ap (λ c. cond c None (Some n)) ne ∙ ap Some is ∙ sym g.hmin_is
