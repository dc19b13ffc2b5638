-- The first best ways to an end, as the arcs are gone over from last to first.
use Rattle.std.proofs.Common.{◌≡◌, ◌≢◌, ℕ, zero, suc, append_assoc, append-nil, ◌+◌, ◌-◌, ◌^◌, ◌<◌, ◌≤◌, ◌⊎◌, inl, inr, ⊎_elim, Bool, true, false, List, [], ◌∷◌, ◌++◌, length, get_or, set, map, refl, sym, ap, ◌∙◌, subst, arith, ℤ, pos, negsuc, ◌+ℤ◌, ◌≤ℤ◌, ◌<ℤ◌, get_or-set_other, get_or-set_same, length-set, le_refl, FitsSigned, nat_cmp, is_gt, Ordering, Less, Equal}
use Rattle.std.specs.Ordering.{ordering_then}
use Rattle.std.proofs.lemmas.Bool.{cases_lt, cases_eq}
use Rattle.std.proofs.Math.Nat.{eq-or-lt_of_le}
use lib.Signed.{lt_z}
use mir.Syntax.{w128}
use Rattle.optra_dag.specs.declared.Arc.{Arc}
use Rattle.std.proofs.lemmas.Int.{ints}
use Rattle.std.specs.Cmp.{nat_cmp_is}
use Rattle.std.specs.Cmp.Lexicographic.{slice_cmp}
use Rattle.optra_dag.specs.WaySums.{open_graph, plain_graph, first_sum, first_sums, StartsFrom, Follows, IsWay, IsNoBetter, IsSum, IsAlive, IsDone, AreDone, Traces}
use Rattle.optra_dag.specs.Paths.{Graph, no_arc, IsForward, IsPath, IsFirstBest, LeadsToEnd, from_of, to_of, weight_of, ComesFirst, IsWeight}

-- ---- the order of lists of arcs

pub nil_first : (q : List ℕ) → ComesFirst [] q
nil_first [] = refl
nil_first (b ∷ q) = refl

pub none_before_nil : (a : ℕ) (p : List ℕ) → ComesFirst (a ∷ p) [] → ⊥
none_before_nil a p h = cc

pub less_first : (a b : ℕ) (p q : List ℕ) → a < b → ComesFirst (a ∷ p) (b ∷ q)
less_first a b p q l = let e : Less ≡ nat_cmp a b = nat_cmp_is a b Less l in ap (λ (o : Ordering). is_gt (ordering_then o (slice_cmp nat_cmp p q))) (sym e)

pub same_first : (a : ℕ) (p q : List ℕ) → ComesFirst p q → ComesFirst (a ∷ p) (a ∷ q)
same_first a p q h = let e : Equal ≡ nat_cmp a a = nat_cmp_is a a Equal refl in ap (λ (o : Ordering). is_gt (ordering_then o (slice_cmp nat_cmp p q))) (sym e) ∙ h

int_cases : (a b : ℤ) → a ≤ℤ b → (a <ℤ b) ⊎ (a ≡ b)
int_cases a b h = by (lt_z a b) refl
  where
    by : (t : Bool) → lt_z a b ≡ t → (a <ℤ b) ⊎ (a ≡ b)
    by true e = inl (grind (arith, ints))
    by false e = inr (let l : b ≤ℤ a = grind (arith, ints) in omega (arith, ints))

sum_more : (count k : ℕ) (z : ℤ) → k < count → IsSum (count - (k + 1)) z → IsSum (count - k) z
sum_more count k z l h = record { low = omega (arith, ints, h.low); high = omega (arith, ints, h.high) }

sum_plus : (count k : ℕ) (w z : ℤ) → k < count → IsWeight w → IsSum (count - (k + 1)) z → IsSum (count - k) (w +ℤ z)
sum_plus count k w z l f h = record { low = omega (arith, ints, h.low, f.low); high = omega (arith, ints, h.high, f.high) }

sum_all : (count k : ℕ) (z : ℤ) → IsSum (count - k) z → IsSum count z
sum_all count k z h = record { low = omega (arith, ints, h.low); high = omega (arith, ints, h.high) }

less_by : (q r w s t : ℤ) → q ≡ w +ℤ r → r <ℤ s → (w +ℤ s) ≤ℤ t → q <ℤ t
less_by q r w s t e l h = omega (arith, ints)

same_less : (a b c : ℤ) → a ≡ b → b <ℤ c → a <ℤ c
same_less a b c e l = omega (arith, ints)

less_same : (a b c : ℤ) → a <ℤ b → c ≡ b → a <ℤ c
less_same a b c l e = omega (arith, ints)

less_less : (a b c : ℤ) → a <ℤ b → b <ℤ c → a <ℤ c
less_less a b c h l = omega (arith, ints)

no_less : (dead c t : ℤ) → dead <ℤ c → c ≤ℤ t → t ≡ dead → ⊥
no_less dead c t l h e = omega (arith, ints)

le_self : (a : ℤ) → a ≤ℤ a
le_self a = omega (arith, ints)

int_apart : (a b : ℤ) → a ≡ b → b <ℤ a → ⊥
int_apart a b e h = omega (arith, ints)

module _ (g : Graph) (forward : IsForward g) (allows : ℕ → Bool) (weight : ℕ → ℤ) (stop : ℕ) (dead : ℤ)
    (last : length g.arcs ≤ stop) (deep : (z : ℤ) → IsSum (length g.arcs) z → dead <ℤ z) where
  -- arcs of later nodes come later
  later : (j k : ℕ) → k < length g.arcs → j < length g.arcs → from_of g k < from_of g j → k + 1 ≤ j
  later j k lk lj h = by (cases_lt k j)
    where
      by : (k < j) ⊎ (j ≤ k) → k + 1 ≤ j
      by (inl l) = omega arith
      by (inr l) = let s = forward.sorted j k l lk in omega arith

  on_late : (k : ℕ) → k < length g.arcs → (p : List ℕ) → LeadsToEnd g allows (to_of g k) p → StartsFrom (k + 1) p
  on_late k lk [] h = tt
  on_late k lk (a ∷ p) h = let f = forward.forward k lk in let e : from_of g a ≡ to_of g k = h.2 in later a k lk h.0 (omega arith)

  abbrev IsNew : ℕ → ℕ → List ℕ → List ℕ → Type 0
  IsNew k n q r = (q ≡ k ∷ r) × (from_of g k ≡ n) × (allows k ≡ true) × IsWay g allows (k + 1) (to_of g k) r

  -- a way from k on begins with arc k or is a way from k + 1 on
  split : (k n : ℕ) → k < length g.arcs → (q : List ℕ) → IsWay g allows k n q → IsWay g allows (k + 1) n q ⊎ ((r : List ℕ) × IsNew k n q r)
  split k n lk [] h = inl (record { leads = h.leads; late = tt })
  split k n lk (a ∷ r) h = by (eq-or-lt_of_le h.late)
    where
      by : (k ≡ a) ⊎ (k < a) → IsWay g allows (k + 1) n (a ∷ r) ⊎ ((t : List ℕ) × IsNew k n (a ∷ r) t)
      by (inl e) =
          let on : LeadsToEnd g allows (to_of g k) r = subst (λ x. LeadsToEnd g allows (to_of g x) r) (sym e) h.leads.3 in
          inr (r, (ap (λ x. x ∷ r) (sym e), ap (from_of g) e ∙ h.leads.2, ap allows e ∙ h.leads.1, record { leads = on; late = on_late k lk r on }))
      by (inr l) = inl (record { leads = h.leads; late = omega arith })

  weaken : (k n : ℕ) (p : List ℕ) → IsWay g allows (k + 1) n p → IsWay g allows k n p
  weaken k n [] h = record { leads = h.leads; late = tt }
  weaken k n (a ∷ p) h = let l : k + 1 ≤ a = h.late in record { leads = h.leads; late = omega arith }

  -- a write at a node leaves the ways from later nodes
  frame : (f x : ℕ) (next : List ℕ) (n : ℕ) (p : List ℕ) → f < n → LeadsToEnd g allows n p → Follows g stop next n p → Follows g stop (set next f x) n p
  frame f x next n [] l h w = get_or-set_other next f n x stop (λ e. omega (arith, e)) ∙ w
  frame f x next n (a ∷ p) l h w =
      let up = forward.forward a h.0 in
      let e : from_of g a ≡ n = h.2 in
      (get_or-set_other next f n x stop (λ e. omega (arith, e)) ∙ w.0, frame f x next (to_of g a) p (omega arith) h.3 w.1)

  -- from the nodes before the one that arc k leaves there is only the empty way
  early : (k n : ℕ) → k < length g.arcs → n < from_of g k → (p : List ℕ) → IsWay g allows (k + 1) n p → p ≡ []
  early k n lk l [] h = refl
  early k n lk l (a ∷ p) h =
      let late : k + 1 ≤ a = h.late in
      let e : from_of g a ≡ n = h.leads.2 in
      let s = forward.sorted k a (omega arith) h.leads.0 in absurd (omega arith)

  other_follows : (k x : ℕ) (next : List ℕ) (n : ℕ) (p : List ℕ) → k < length g.arcs → (n ≡ from_of g k → ⊥)
      → IsWay g allows (k + 1) n p → Follows g stop next n p → Follows g stop (set next (from_of g k) x) n p
  other_follows k x next n p lk apart h w = by (cases_lt n (from_of g k))
    where
      empty : (q : List ℕ) → q ≡ [] → Follows g stop next n q → Follows g stop (set next (from_of g k) x) n q
      empty [] e w = get_or-set_other next (from_of g k) n x stop apart ∙ w
      empty (a ∷ q) e w = cc

      by : (n < from_of g k) ⊎ (from_of g k ≤ n) → Follows g stop (set next (from_of g k) x) n p
      by (inl l) = empty p (early k n lk l p h) w
      by (inr l) = frame (from_of g k) x next n p (omega (arith, apart)) h.leads w

  -- a node from which arc k opens no way keeps its best
  keep : (k n : ℕ) (next next' : List ℕ) (total : ℤ) → k < length g.arcs
      → ((p : List ℕ) → IsWay g allows (k + 1) n p → Follows g stop next n p → Follows g stop next' n p)
      → ((q r : List ℕ) → IsNew k n q r → ⊥)
      → IsDone g allows weight stop dead next (k + 1) n total → IsDone g allows weight stop dead next' k n total
  keep k n next next' total lk still none (inl h) = inl (h.0, λ q w. ⊎_elim (h.1 q) (λ (r : (r : List ℕ) × IsNew k n q r). none q r.0 r.1) (split k n lk q w))
  keep k n next next' total lk still none (inr h) =
      let b = h.1.1 in
      inr (
        sum_more (length g.arcs) k total lk h.0,
        (
          h.1.0,
          record {
            way = weaken k n h.1.0 b.way;
            sum = b.sum;
            best = λ q w. ⊎_elim (b.best q) (λ (r : (r : List ℕ) × IsNew k n q r). absurd (none q r.0 r.1)) (split k n lk q w);
            follows = still h.1.0 b.way b.follows;
          },
        ),
      )

  new_weight : (k n : ℕ) (q r : List ℕ) → IsNew k n q r → weight_of weight q ≡ weight k +ℤ weight_of weight r
  new_weight k n q r h = ap (weight_of weight) h.0

  stops_at : (next : List ℕ) (n : ℕ) (p : List ℕ) → LeadsToEnd g allows n p → Follows g stop next n p → get_or next n stop ≡ stop → p ≡ []
  stops_at next n [] h w e = refl
  stops_at next n (a ∷ p) h w e = let l : a < length g.arcs = h.0 in let f : get_or next n stop ≡ a = w.0 in absurd (omega arith)

  -- a node keeps its best where arc k does worse, or as well as the empty way
  lose : (k n : ℕ) (next : List ℕ) (s total : ℤ) → k < length g.arcs → IsWeight (weight k)
      → IsAlive g allows weight stop next (k + 1) (to_of g k) s
      → (weight k +ℤ s) ≤ℤ total → ((weight k +ℤ s) ≡ total → get_or next n stop ≡ stop)
      → IsDone g allows weight stop dead next (k + 1) n total → IsDone g allows weight stop dead next k n total
  lose k n next s total lk f to low tied (inl h) =
      let d = deep (weight k +ℤ s) (sum_all (length g.arcs) k (weight k +ℤ s) (sum_plus (length g.arcs) k (weight k) s lk f to.0)) in
      absurd (no_less dead (weight k +ℤ s) total d low h.0)
  lose k n next s total lk f to low tied (inr h) =
      inr (
        sum_more (length g.arcs) k total lk h.0,
        (
          h.1.0,
          record {
            way = weaken k n h.1.0 h.1.1.way;
            sum = h.1.1.sum;
            best = λ q w. ⊎_elim (h.1.1.best q) (λ (r : (r : List ℕ) × IsNew k n q r). worse q r.0 r.1) (split k n lk q w);
            follows = h.1.1.follows;
          },
        ),
      )
    where
      tie : (q : List ℕ) → weight_of weight q ≡ (weight k +ℤ s) → ((weight k +ℤ s) <ℤ total) ⊎ ((weight k +ℤ s) ≡ total) → IsNoBetter weight total h.1.0 q
      tie q e (inl l) = inl (same_less _ _ _ e l)
      tie q e (inr t) = inr (e ∙ t, subst (λ x. ComesFirst x q) (sym (stops_at next n h.1.0 h.1.1.way.leads h.1.1.follows (tied t))) (nil_first q))

      worse : (q r : List ℕ) → IsNew k n q r → IsNoBetter weight total h.1.0 q
      worse q r new = by (to.1.1.best r new.3)
        where
          by : IsNoBetter weight s to.1.0 r → IsNoBetter weight total h.1.0 q
          by (inl l) = inl (less_by _ _ _ _ _ (new_weight k n q r new) l low)
          by (inr t) = tie q (new_weight k n q r new ∙ ap (λ z. weight k +ℤ z) t.0) (int_cases (weight k +ℤ s) total low)

  -- arc k makes the best where it does better, or as well as another arc
  take : (k : ℕ) (next : List ℕ) (s total : ℤ) → k < length g.arcs → IsWeight (weight k) → allows k ≡ true → from_of g k < length next
      → IsAlive g allows weight stop next (k + 1) (to_of g k) s
      → (total <ℤ (weight k +ℤ s)) ⊎ (((weight k +ℤ s) ≡ total) × (get_or next (from_of g k) stop ≡ stop → ⊥))
      → IsDone g allows weight stop dead next (k + 1) (from_of g k) total
      → IsAlive g allows weight stop (set next (from_of g k) k) k (from_of g k) (weight k +ℤ s)
  take k next s total lk f ok room to wins old = (
    sum_plus (length g.arcs) k (weight k) s lk f to.0,
    (
      k ∷ to.1.0,
      record {
        way = record { leads = (lk, ok, refl, to.1.1.way.leads); late = le_refl k };
        sum = ap (λ z. weight k +ℤ z) to.1.1.sum;
        best = λ q w. ⊎_elim (old_one q old) (λ (t : (t : List ℕ) × IsNew k (from_of g k) q t). new_one q t.0 t.1) (split k (from_of g k) lk q w);
        follows = (get_or-set_same next (from_of g k) k stop room, frame (from_of g k) k next (to_of g k) to.1.0 (forward.forward k lk) to.1.1.way.leads to.1.1.follows);
      },
    ),
  )
    where
      new_one : (q t : List ℕ) → IsNew k (from_of g k) q t → IsNoBetter weight (weight k +ℤ s) (k ∷ to.1.0) q
      new_one q t new = by (to.1.1.best t new.3)
        where
          by : IsNoBetter weight s to.1.0 t → IsNoBetter weight (weight k +ℤ s) (k ∷ to.1.0) q
          by (inl l) = inl (less_by _ _ _ _ _ (new_weight k (from_of g k) q t new) l (le_self (weight k +ℤ s)))
          by (inr h) = inr (new_weight k (from_of g k) q t new ∙ ap (λ z. weight k +ℤ z) h.0, subst (λ x. ComesFirst (k ∷ to.1.0) x) (sym new.0) (same_first k to.1.0 t h.1))

      before : (p q : List ℕ) → Follows g stop next (from_of g k) p → (get_or next (from_of g k) stop ≡ stop → ⊥) → IsWay g allows (k + 1) (from_of g k) q → ComesFirst p q → ComesFirst (k ∷ to.1.0) q
      before [] q w off h c = absurd (off w)
      before (a ∷ p) [] w off h c = absurd (none_before_nil a p c)
      before (a ∷ p) (e ∷ q) w off h c = let l : k + 1 ≤ e = h.late in less_first k e to.1.0 q (omega arith)

      old_one : (q : List ℕ) → IsDone g allows weight stop dead next (k + 1) (from_of g k) total → IsWay g allows (k + 1) (from_of g k) q → IsNoBetter weight (weight k +ℤ s) (k ∷ to.1.0) q
      old_one q (inl h) w = absurd (h.1 q w)
      old_one q (inr h) w = by (h.1.1.best q w) wins
        where
          by : IsNoBetter weight total h.1.0 q → (total <ℤ (weight k +ℤ s)) ⊎ (((weight k +ℤ s) ≡ total) × (get_or next (from_of g k) stop ≡ stop → ⊥)) → IsNoBetter weight (weight k +ℤ s) (k ∷ to.1.0) q
          by (inl l) (inl m) = inl (less_less _ _ _ l m)
          by (inl l) (inr m) = inl (less_same _ _ _ l m.0)
          by (inr e) (inl m) = inl (same_less _ _ _ e.0 m)
          by (inr e) (inr m) = inr (e.0 ∙ sym m.0, before h.1.0 q h.1.1.follows m.1 w e.1)

  alive_at : (next : List ℕ) (k n : ℕ) (total : ℤ) → (total ≡ dead → ⊥) → IsDone g allows weight stop dead next k n total → IsAlive g allows weight stop next k n total
  alive_at next k n total apart (inl h) = absurd (apart h.0)
  alive_at next k n total apart (inr h) = h

  -- an arc that is not allowed, or leads to a node without a way, changes nothing
  pub step_skip : (k : ℕ) (next : List ℕ) (sums : List ℤ) → k < length g.arcs
      → (allows k ≡ false) ⊎ (get_or sums (to_of g k) dead ≡ dead)
      → AreDone g allows weight stop dead next sums (k + 1) → AreDone g allows weight stop dead next sums k
  step_skip k next sums lk why all n l = keep k n next next (get_or sums n dead) lk (λ p h w. w) (λ q r new. none q r new why) (all n l)
    where
      none : (q r : List ℕ) → IsNew k n q r → (allows k ≡ false) ⊎ (get_or sums (to_of g k) dead ≡ dead) → ⊥
      none q r new (inl off) = let on = new.2 in cc
      none q r new (inr off) = by (all (to_of g k) (forward.nodes k lk))
        where
          by : IsDone g allows weight stop dead next (k + 1) (to_of g k) (get_or sums (to_of g k) dead) → ⊥
          by (inl h) = h.1 r new.3
          by (inr h) = int_apart _ _ off (deep _ (sum_all (length g.arcs) (k + 1) _ h.0))

  -- an arc that does not win changes nothing
  pub step_lose : (k : ℕ) (next : List ℕ) (sums : List ℤ) → k < length g.arcs → IsWeight (weight k)
      → (get_or sums (to_of g k) dead ≡ dead → ⊥)
      → (weight k +ℤ get_or sums (to_of g k) dead) ≤ℤ get_or sums (from_of g k) dead
      → ((weight k +ℤ get_or sums (to_of g k) dead) ≡ get_or sums (from_of g k) dead → get_or next (from_of g k) stop ≡ stop)
      → AreDone g allows weight stop dead next sums (k + 1) → AreDone g allows weight stop dead next sums k
  step_lose k next sums lk f alive low tied all n l = by (cases_eq n (from_of g k))
    where
      to : IsAlive g allows weight stop next (k + 1) (to_of g k) (get_or sums (to_of g k) dead)
      to = alive_at next (k + 1) (to_of g k) (get_or sums (to_of g k) dead) alive (all (to_of g k) (forward.nodes k lk))

      by : (n ≡ from_of g k) ⊎ (n ≡ from_of g k → ⊥) → IsDone g allows weight stop dead next k n (get_or sums n dead)
      by (inl e) = subst (λ x. x < length g.ends → IsDone g allows weight stop dead next k x (get_or sums x dead)) (sym e)
          (λ m. lose k (from_of g k) next _ _ lk f to low tied (all (from_of g k) m)) l
      by (inr apart) = keep k n next next (get_or sums n dead) lk (λ p h w. w) (λ q r new. apart (sym new.1)) (all n l)

  -- an arc that wins is written
  pub step_take : (k : ℕ) (next : List ℕ) (sums : List ℤ) → k < length g.arcs → IsWeight (weight k) → allows k ≡ true
      → length next ≡ length g.ends → length sums ≡ length g.ends
      → (get_or sums (to_of g k) dead ≡ dead → ⊥)
      → (get_or sums (from_of g k) dead <ℤ (weight k +ℤ get_or sums (to_of g k) dead))
      ⊎ (((weight k +ℤ get_or sums (to_of g k) dead) ≡ get_or sums (from_of g k) dead) × (get_or next (from_of g k) stop ≡ stop → ⊥))
      → AreDone g allows weight stop dead next sums (k + 1)
      → AreDone g allows weight stop dead (set next (from_of g k) k) (set sums (from_of g k) (weight k +ℤ get_or sums (to_of g k) dead)) k
  step_take k next sums lk f ok ln ls alive wins all n l = by (cases_eq n (from_of g k))
    where
      up : from_of g k < to_of g k
      up = forward.forward k lk

      below : to_of g k < length g.ends
      below = forward.nodes k lk

      to : IsAlive g allows weight stop next (k + 1) (to_of g k) (get_or sums (to_of g k) dead)
      to = alive_at next (k + 1) (to_of g k) (get_or sums (to_of g k) dead) alive (all (to_of g k) below)

      at : IsDone g allows weight stop dead (set next (from_of g k) k) k (from_of g k) (get_or (set sums (from_of g k) (weight k +ℤ get_or sums (to_of g k) dead)) (from_of g k) dead)
      at = subst (λ z. IsDone g allows weight stop dead (set next (from_of g k) k) k (from_of g k) z) (sym (get_or-set_same sums (from_of g k) (weight k +ℤ get_or sums (to_of g k) dead) dead (omega arith)))
          (inr (take k next _ _ lk f ok (omega arith) to wins (all (from_of g k) (omega arith))))

      by : (n ≡ from_of g k) ⊎ (n ≡ from_of g k → ⊥) → IsDone g allows weight stop dead (set next (from_of g k) k) k n (get_or (set sums (from_of g k) (weight k +ℤ get_or sums (to_of g k) dead)) n dead)
      by (inl e) = subst (λ x. IsDone g allows weight stop dead (set next (from_of g k) k) k x (get_or (set sums (from_of g k) (weight k +ℤ get_or sums (to_of g k) dead)) x dead)) (sym e) at
      by (inr apart) = subst (λ z. IsDone g allows weight stop dead (set next (from_of g k) k) k n z) (sym (get_or-set_other sums (from_of g k) n (weight k +ℤ get_or sums (to_of g k) dead) dead apart))
          (keep k n next (set next (from_of g k) k) (get_or sums n dead) lk (λ p h w. other_follows k k next n p lk apart h w) (λ q r new. apart (sym new.1)) (all n l))

-- ---- the search's table

abbrev stop_arc : ℕ
stop_arc = 4294967295

abbrev no_way : ℤ
no_way = negsuc 170141183460469231731687303715884105727

pub open_forward : (arcs : List Arc) (ends : List Bool) → IsForward (plain_graph arcs ends) → IsForward (open_graph arcs ends)
open_forward arcs ends f =
    let same : length (set ends 0 false) ≡ length ends = length-set ends 0 false in
    record {
      start = omega (arith, f.start);
      few_nodes = omega (arith, f.few_nodes);
      few_arcs = f.few_arcs;
      forward = f.forward;
      nodes = λ k l. let b = f.nodes k l in omega arith;
      sorted = f.sorted;
    }

pub sum_fits : (count k : ℕ) (w z : ℤ) → count < 2 ^ 32 → k < count → IsWeight w → IsSum (count - (k + 1)) z → FitsSigned w128 (w +ℤ z)
sum_fits count k w z few l f h = omega (arith, ints, h.low, h.high, f.low, f.high)

deep_at : (count : ℕ) → count < 2 ^ 32 → (z : ℤ) → IsSum count z → negsuc 170141183460469231731687303715884105727 <ℤ z
deep_at count few z h = omega (arith, ints, h.low)

read_any : {X : Type 0} (xs : List X) (i : ℕ) (x d : X) → i < length xs → x ≡ get_or xs i x → get_or xs i d ≡ x
read_any [] i x d l e = absurd (omega arith)
read_any (y ∷ xs) zero x d l e = sym e
read_any (y ∷ xs) (suc i) x d l e = read_any xs i x d (omega arith) e

pub same_default : {X : Type 0} (xs : List X) (i : ℕ) (d e : X) → i < length xs → get_or xs i d ≡ get_or xs i e
same_default [] i d e l = absurd (omega arith)
same_default (y ∷ xs) zero d e l = refl
same_default (y ∷ xs) (suc i) d e l = same_default xs i d e (omega arith)

less_along : (a b x y : ℤ) → a ≡ x → b ≡ y → a <ℤ b → x <ℤ y
less_along a b x y e f h = omega (arith, ints)

le_by : (a b x y : ℤ) → a ≡ x → b ≡ y → (a <ℤ b → ⊥) → y ≤ℤ x
le_by a b x y e f h = by (lt_z a b) refl
  where
    by : (t : Bool) → lt_z a b ≡ t → y ≤ℤ x
    by true n = absurd (h (grind (arith, ints)))
    by false n = let l : b ≤ℤ a = grind (arith, ints) in omega (arith, ints)

le_of_less : (a b : ℤ) → a <ℤ b → a ≤ℤ b
le_of_less a b h = omega (arith, ints)

le_of_same : (a b : ℤ) → a ≡ b → a ≤ℤ b
le_of_same a b h = omega (arith, ints)

module _ (arcs : List Arc) (ends : List Bool) (allows : ℕ → Bool) (weight : ℕ → ℤ) (fwd : IsForward (plain_graph arcs ends)) where
  last_arc : length arcs ≤ stop_arc
  last_arc = omega (arith, fwd.few_arcs)

  pub skip_at : (next : List ℕ) (sums : List ℤ) (j k : ℕ) (rest : ℤ) → j ≡ k + 1 → k < length arcs → length sums ≡ length ends
      → rest ≡ get_or sums (to_of (plain_graph arcs ends) k) rest
      → (allows k ≡ false) ⊎ (rest ≡ no_way)
      → AreDone (open_graph arcs ends) allows weight stop_arc no_way next sums j → AreDone (open_graph arcs ends) allows weight stop_arc no_way next sums k
  skip_at next sums j k rest e lk ls er why all =
      let b = fwd.nodes k lk in
      let er2 = read_any sums (to_of (plain_graph arcs ends) k) rest no_way (omega arith) er in
      step_skip (open_graph arcs ends) (open_forward arcs ends fwd) allows weight stop_arc no_way last_arc (deep_at (length arcs) fwd.few_arcs) k next sums lk
      (⊎_elim (λ n. inl n) (λ n. inr (er2 ∙ n)) why)
      (subst (λ i. AreDone (open_graph arcs ends) allows weight stop_arc no_way next sums i) e all)

  pub lose_at : (next : List ℕ) (sums : List ℤ) (j k : ℕ) (w rest old : ℤ) (after : ℕ) → j ≡ k + 1 → k < length arcs → length sums ≡ length ends → length next ≡ length ends
      → IsWeight (weight k) → w ≡ weight k
      → rest ≡ get_or sums (to_of (plain_graph arcs ends) k) rest → (rest ≡ no_way → ⊥)
      → old ≡ get_or sums (from_of (plain_graph arcs ends) k) old → after ≡ get_or next (from_of (plain_graph arcs ends) k) after
      → ((old <ℤ (w +ℤ rest)) ⊎ (((w +ℤ rest) ≡ old) × (after ≡ stop_arc → ⊥)) → ⊥)
      → AreDone (open_graph arcs ends) allows weight stop_arc no_way next sums j → AreDone (open_graph arcs ends) allows weight stop_arc no_way next sums k
  lose_at next sums j k w rest old after e lk ls ln f ew er alive eo ea loses all =
      let b = fwd.nodes k lk in
      let u = fwd.forward k lk in
      let er2 = read_any sums (to_of (plain_graph arcs ends) k) rest no_way (omega arith) er in
      let eo2 = read_any sums (from_of (plain_graph arcs ends) k) old no_way (omega arith) eo in
      let ea2 = read_any next (from_of (plain_graph arcs ends) k) after stop_arc (omega arith) ea in
      let es : (weight k +ℤ get_or sums (to_of (plain_graph arcs ends) k) no_way) ≡ (w +ℤ rest) = cc (ew, er2) in
      step_lose (open_graph arcs ends) (open_forward arcs ends fwd) allows weight stop_arc no_way last_arc (deep_at (length arcs) fwd.few_arcs) k next sums lk f
      (λ n. alive (sym er2 ∙ n))
      (le_by _ _ _ _ (sym eo2) (sym es) (λ l. loses (inl l)))
      (λ t. ea2 ∙ stop_by (cases_eq after stop_arc) (sym es ∙ t ∙ eo2))
      (subst (λ i. AreDone (open_graph arcs ends) allows weight stop_arc no_way next sums i) e all)
    where
      stop_by : (after ≡ stop_arc) ⊎ (after ≡ stop_arc → ⊥) → (w +ℤ rest) ≡ old → after ≡ stop_arc
      stop_by (inl s) t = s
      stop_by (inr s) t = absurd (loses (inr (t, s)))

  pub take_at : (next : List ℕ) (sums : List ℤ) (j k : ℕ) (w rest old : ℤ) (after : ℕ) → j ≡ k + 1 → k < length arcs → length sums ≡ length ends → length next ≡ length ends
      → IsWeight (weight k) → w ≡ weight k → allows k ≡ true
      → rest ≡ get_or sums (to_of (plain_graph arcs ends) k) rest → (rest ≡ no_way → ⊥)
      → old ≡ get_or sums (from_of (plain_graph arcs ends) k) old → after ≡ get_or next (from_of (plain_graph arcs ends) k) after
      → ((old <ℤ (w +ℤ rest)) ⊎ (((w +ℤ rest) ≡ old) × (after ≡ stop_arc → ⊥)))
      → AreDone (open_graph arcs ends) allows weight stop_arc no_way next sums j
      → AreDone (open_graph arcs ends) allows weight stop_arc no_way (set next (from_of (plain_graph arcs ends) k) k) (set sums (from_of (plain_graph arcs ends) k) (w +ℤ rest)) k
  take_at next sums j k w rest old after e lk ls ln f ew ok er alive eo ea wins all =
      let b = fwd.nodes k lk in
      let u = fwd.forward k lk in
      let same : length (set ends 0 false) ≡ length ends = length-set ends 0 false in
      let er2 = read_any sums (to_of (plain_graph arcs ends) k) rest no_way (omega arith) er in
      let eo2 = read_any sums (from_of (plain_graph arcs ends) k) old no_way (omega arith) eo in
      let ea2 = read_any next (from_of (plain_graph arcs ends) k) after stop_arc (omega arith) ea in
      let es : (weight k +ℤ get_or sums (to_of (plain_graph arcs ends) k) no_way) ≡ (w +ℤ rest) = cc (ew, er2) in
      subst (λ z. AreDone (open_graph arcs ends) allows weight stop_arc no_way (set next (from_of (plain_graph arcs ends) k) k) (set sums (from_of (plain_graph arcs ends) k) z) k) es
      (step_take (open_graph arcs ends) (open_forward arcs ends fwd) allows weight stop_arc no_way last_arc (deep_at (length arcs) fwd.few_arcs) k next sums lk f ok
      (ln ∙ sym same) (ls ∙ sym same)
      (λ n. alive (sym er2 ∙ n))
      (⊎_elim (λ l. inl (less_along _ _ _ _ (sym eo2) (sym es) l)) (λ t. inr (es ∙ t.0 ∙ sym eo2, λ s. t.1 (sym ea2 ∙ s))) wins)
      (subst (λ i. AreDone (open_graph arcs ends) allows weight stop_arc no_way next sums i) e all))

  dead_start : (n : ℕ) → get_or (set ends 0 false) n false ≡ false → (q : List ℕ) → IsWay (open_graph arcs ends) allows (length arcs) n q → ⊥
  dead_start n e [] h = let l : get_or (set ends 0 false) n false ≡ true = h.leads in cc
  dead_start n e (a ∷ q) h = let l : a < length arcs = h.leads.0 in let m : length arcs ≤ a = h.late in omega arith

  at_start : (next : List ℕ) (n : ℕ) (b : Bool) (total : ℤ) → get_or next n stop_arc ≡ stop_arc → get_or (set ends 0 false) n false ≡ b → total ≡ first_sum b
      → IsDone (open_graph arcs ends) allows weight stop_arc no_way next (length arcs) n total
  at_start next n false total en e t = inl (t, dead_start n e)
  at_start next n true total en e t = inr (
    zero_sum t,
    (
      [],
      record {
        way = record { leads = e; late = tt };
        sum = sym t;
        best = λ q w. only q w;
        follows = en;
      },
    ),
  )
    where
      zero_sum : total ≡ pos 0 → IsSum (length arcs - length arcs) total
      zero_sum t = record { low = omega (arith, ints); high = omega (arith, ints) }

      only : (q : List ℕ) → IsWay (open_graph arcs ends) allows (length arcs) n q → IsNoBetter weight total [] q
      only [] w = inr (sym t, refl)
      only (a ∷ q) w = let l : a < length arcs = w.leads.0 in let m : length arcs ≤ a = w.late in absurd (omega arith)

  map_sums : (xs : List Bool) (n : ℕ) → get_or (map first_sum xs) n no_way ≡ first_sum (get_or xs n false)
  map_sums [] n = refl
  map_sums (x ∷ xs) zero = refl
  map_sums (x ∷ xs) (suc n) = map_sums xs n

  set_sums : (xs : List Bool) → set (map first_sum xs) 0 no_way ≡ map first_sum (set xs 0 false)
  set_sums [] = refl
  set_sums (x ∷ xs) = refl

  pub start_at : (next : List ℕ) (sums : List ℤ) → ((n : ℕ) → n < length ends → get_or next n stop_arc ≡ stop_arc) → sums ≡ first_sums ends
      → AreDone (open_graph arcs ends) allows weight stop_arc no_way next sums (length arcs)
  start_at next sums en es n l =
      let same : length (set ends 0 false) ≡ length ends = length-set ends 0 false in
      at_start next n (get_or (set ends 0 false) n false) (get_or sums n no_way) (en n (omega arith)) refl
      (ap (λ (xs : List ℤ). get_or xs n no_way) (es ∙ set_sums ends) ∙ map_sums (set ends 0 false) n)

  -- the sum that an arc gives fits
  pub alive_sum : (next : List ℕ) (sums : List ℤ) (j k : ℕ) (w rest : ℤ) → j ≡ k + 1 → k < length arcs → length sums ≡ length ends → IsWeight (weight k) → w ≡ weight k
      → rest ≡ get_or sums (to_of (plain_graph arcs ends) k) rest → (rest ≡ no_way → ⊥)
      → AreDone (open_graph arcs ends) allows weight stop_arc no_way next sums j → FitsSigned w128 (w +ℤ rest)
  alive_sum next sums j k w rest e lk ls f ew er alive all =
      let b = fwd.nodes k lk in
      let er2 = read_any sums (to_of (plain_graph arcs ends) k) rest no_way (omega arith) er in
      let same : length (set ends 0 false) ≡ length ends = length-set ends 0 false in
      let to = alive_at (open_graph arcs ends) (open_forward arcs ends fwd) allows weight stop_arc no_way last_arc (deep_at (length arcs) fwd.few_arcs) next (k + 1) (to_of (plain_graph arcs ends) k) _ (λ n. alive (sym er2 ∙ n))
      (subst (λ i. AreDone (open_graph arcs ends) allows weight stop_arc no_way next sums i) e all (to_of (plain_graph arcs ends) k) (omega arith)) in
      let s : IsSum (length arcs - (k + 1)) rest = subst (λ z. IsSum (length arcs - (k + 1)) z) er2 to.0 in
      let fw : IsWeight w = subst IsWeight (sym ew) f in
      sum_fits (length arcs) k w rest fwd.few_arcs lk fw s

  traces_from : (next : List ℕ) (n : ℕ) (p : List ℕ) → LeadsToEnd (open_graph arcs ends) allows n p → Follows (open_graph arcs ends) stop_arc next n p → Traces arcs stop_arc next n p
  traces_from next n [] h w = w
  traces_from next n (a ∷ p) h w = (w.0, h.0, h.2, traces_from next (to_of (open_graph arcs ends) a) p h.3 w.1)

  traces_once : (next : List ℕ) (n : ℕ) (p q : List ℕ) → Traces arcs stop_arc next n p → Traces arcs stop_arc next n q → p ≡ q
  traces_once next n [] [] h w = refl
  traces_once next n [] (b ∷ q) h w = let e : get_or next n stop_arc ≡ stop_arc = h in let f : get_or next n stop_arc ≡ b = w.0 in let l : b < length arcs = w.1 in let m = last_arc in absurd (omega arith)
  traces_once next n (a ∷ p) [] h w = let e : get_or next n stop_arc ≡ stop_arc = w in let f : get_or next n stop_arc ≡ a = h.0 in let l : a < length arcs = h.1 in let m = last_arc in absurd (omega arith)
  traces_once next n (a ∷ p) (b ∷ q) h w =
      let e : a ≡ b = sym h.0 ∙ w.0 in
      let t : Traces arcs stop_arc next (to_of (plain_graph arcs ends) a) q = subst (λ i. Traces arcs stop_arc next (to_of (plain_graph arcs ends) i) q) (sym e) w.3 in
      let r = traces_once next (to_of (plain_graph arcs ends) a) p q h.3 t in
      cc

  ends_plain : (n : ℕ) → get_or (set ends 0 false) n false ≡ true → get_or ends n false ≡ true
  ends_plain zero h = absurd (by ends h)
    where
      by : (xs : List Bool) → get_or (set xs 0 false) 0 false ≡ true → ⊥
      by [] e = cc
      by (x ∷ xs) e = cc
  ends_plain (suc n) h = let apart : suc n ≢ 0 = omega arith in sym (get_or-set_other ends 0 (suc n) false false apart) ∙ h

  pub leads_plain : (n : ℕ) (p : List ℕ) → LeadsToEnd (open_graph arcs ends) allows n p → LeadsToEnd (plain_graph arcs ends) allows n p
  leads_plain n [] h = ends_plain n h
  leads_plain n (a ∷ p) h = (h.0, h.1, h.2, leads_plain (to_of (open_graph arcs ends) a) p h.3)

  pub leads_on : (n : ℕ) (p : List ℕ) → 0 < n → LeadsToEnd (plain_graph arcs ends) allows n p → LeadsToEnd (open_graph arcs ends) allows n p
  leads_on n [] l h = get_or-set_other ends 0 n false false (λ e. omega (arith, e)) ∙ h
  leads_on n (a ∷ p) l h = let u = fwd.forward a h.0 in (h.0, h.1, h.2, leads_on (to_of (open_graph arcs ends) a) p (omega arith) h.3)

  pub way_of_path : (p : List ℕ) → IsPath (plain_graph arcs ends) allows p → IsWay (open_graph arcs ends) allows 0 0 p
  way_of_path [] h = absurd (h.some refl)
  way_of_path (a ∷ p) h =
      let u = fwd.forward a h.leads.0 in
      record { leads = (h.leads.0, h.leads.1, h.leads.2, leads_on (to_of (open_graph arcs ends) a) p (omega arith) h.leads.3); late = omega arith }

  pub path_of_way : (p : List ℕ) → IsWay (open_graph arcs ends) allows 0 0 p → IsPath (plain_graph arcs ends) allows p
  path_of_way p h = record { some = λ e. none p e h.leads; leads = leads_plain 0 p h.leads }
    where
      none : (p : List ℕ) → p ≡ [] → LeadsToEnd (open_graph arcs ends) allows 0 p → ⊥
      none [] e h = by ends h
        where
          by : (xs : List Bool) → get_or (set xs 0 false) 0 false ≡ true → ⊥
          by [] e = cc
          by (x ∷ xs) e = cc
      none (a ∷ p) e h = cc

  -- node 0 when all arcs are done
  pub none_at : (next : List ℕ) (sums : List ℤ) (total : ℤ) → length sums ≡ length ends → total ≡ get_or sums 0 total → total ≡ no_way
      → AreDone (open_graph arcs ends) allows weight stop_arc no_way next sums 0 → (p : List ℕ) → IsPath (plain_graph arcs ends) allows p → ⊥
  none_at next sums total ls et dead all p h =
      let same : length (set ends 0 false) ≡ length ends = length-set ends 0 false in
      let et2 = read_any sums 0 total no_way (omega (arith, fwd.start)) et in
      by (all 0 (omega (arith, fwd.start))) (et2 ∙ dead)
    where
      by : IsDone (open_graph arcs ends) allows weight stop_arc no_way next 0 0 (get_or sums 0 no_way) → get_or sums 0 no_way ≡ no_way → ⊥
      by (inl d) e = d.1 p (way_of_path p h)
      by (inr d) e = int_apart _ _ e (deep_at (length arcs) fwd.few_arcs _ (sum_all (length arcs) 0 _ d.0))

  alive_0 : (next : List ℕ) (sums : List ℤ) (total : ℤ) → length sums ≡ length ends → total ≡ get_or sums 0 total → (total ≡ no_way → ⊥)
      → AreDone (open_graph arcs ends) allows weight stop_arc no_way next sums 0 → IsAlive (open_graph arcs ends) allows weight stop_arc next 0 0 total
  alive_0 next sums total ls et alive all =
      let same : length (set ends 0 false) ≡ length ends = length-set ends 0 false in
      let et2 = read_any sums 0 total no_way (omega (arith, fwd.start)) et in
      alive_at (open_graph arcs ends) (open_forward arcs ends fwd) allows weight stop_arc no_way last_arc (deep_at (length arcs) fwd.few_arcs) next 0 0 total alive
      (subst (λ z. IsDone (open_graph arcs ends) allows weight stop_arc no_way next 0 0 z) et2 (all 0 (omega (arith, fwd.start))))

  pub traced_at : (next : List ℕ) (sums : List ℤ) (total : ℤ) → length sums ≡ length ends → total ≡ get_or sums 0 total → (total ≡ no_way → ⊥)
      → AreDone (open_graph arcs ends) allows weight stop_arc no_way next sums 0 → (p : List ℕ) × Traces arcs stop_arc next 0 p
  traced_at next sums total ls et alive all =
      let a = alive_0 next sums total ls et alive all in
      (a.1.0, traces_from next 0 a.1.0 a.1.1.way.leads a.1.1.follows)

  pub best_at : (next : List ℕ) (sums : List ℤ) (total : ℤ) (path : List ℕ) → length sums ≡ length ends → total ≡ get_or sums 0 total → (total ≡ no_way → ⊥)
      → AreDone (open_graph arcs ends) allows weight stop_arc no_way next sums 0 → Traces arcs stop_arc next 0 path
      → IsFirstBest (plain_graph arcs ends) allows weight total path
  best_at next sums total path ls et alive all traces =
      let a = alive_0 next sums total ls et alive all in
      let e : a.1.0 ≡ path = traces_once next 0 a.1.0 path (traces_from next 0 a.1.0 a.1.1.way.leads a.1.1.follows) traces in
      subst (λ p. IsFirstBest (plain_graph arcs ends) allows weight total p) e (record {
        path = path_of_way a.1.0 a.1.1.way;
        sum = a.1.1.sum;
        greatest = λ q h. at_most a.1.0 q (a.1.1.best q (way_of_path q h));
        first = λ q h t. before a.1.0 q t (a.1.1.best q (way_of_path q h));
      })
    where
      at_most : (p q : List ℕ) → IsNoBetter weight total p q → weight_of weight q ≤ℤ total
      at_most p q (inl l) = le_of_less _ _ l
      at_most p q (inr t) = le_of_same _ _ t.0

      before : (p q : List ℕ) → weight_of weight q ≡ total → IsNoBetter weight total p q → ComesFirst p q
      before p q e (inl l) = absurd (int_apart _ _ (sym e) l)
      before p q e (inr t) = t.1

-- ---- the path by the next arcs

pub traced_step : (arcs : List Arc) (stop : ℕ) (next path : List ℕ) (n number : ℕ) → n < length next → number ≡ get_or next n 0 → (number ≡ stop → ⊥)
    → (rest : List ℕ) × Traces arcs stop next n rest × Traces arcs stop next 0 (path ++ rest)
    → (number < length arcs) × ((get_or arcs number no_arc).from ≡ n) × ((rest : List ℕ) × Traces arcs stop next (get_or arcs number no_arc).to rest × Traces arcs stop next 0 ((path ++ number ∷ []) ++ rest))
traced_step arcs stop next path n number l e on h = by h.0 h.1 h.2
  where
    same : get_or next n stop ≡ number
    same = same_default next n stop 0 l ∙ sym e

    by : (rest : List ℕ) → Traces arcs stop next n rest → Traces arcs stop next 0 (path ++ rest)
        → (number < length arcs) × ((get_or arcs number no_arc).from ≡ n) × ((rest : List ℕ) × Traces arcs stop next (get_or arcs number no_arc).to rest × Traces arcs stop next 0 ((path ++ number ∷ []) ++ rest))
    by [] t w = absurd (on (sym same ∙ t))
    by (a ∷ r) t w =
        let f : a ≡ number = sym t.0 ∙ same in
        subst (λ i. (i < length arcs) × ((get_or arcs i no_arc).from ≡ n) × ((rest : List ℕ) × Traces arcs stop next (get_or arcs i no_arc).to rest × Traces arcs stop next 0 ((path ++ i ∷ []) ++ rest))) f
        (t.1, t.2, (r, t.3, subst (λ x. Traces arcs stop next 0 x) (sym (append_assoc path (a ∷ []) r)) w))

pub traced_end : (arcs : List Arc) (stop : ℕ) (next path : List ℕ) (n : ℕ) → length arcs ≤ stop → get_or next n stop ≡ stop
    → (rest : List ℕ) × Traces arcs stop next n rest × Traces arcs stop next 0 (path ++ rest) → Traces arcs stop next 0 path
traced_end arcs stop next path n last e h = by h.0 h.1 h.2
  where
    by : (rest : List ℕ) → Traces arcs stop next n rest → Traces arcs stop next 0 (path ++ rest) → Traces arcs stop next 0 path
    by [] t w = subst (λ x. Traces arcs stop next 0 x) (append-nil path) w
    by (a ∷ r) t w = let l : a < length arcs = t.1 in let f : get_or next n stop ≡ a = t.0 in absurd (omega arith)
