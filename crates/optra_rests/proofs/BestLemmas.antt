-- The best rest of a walk: of two kinds together, and by one leg from what is behind it.
use Rattle.std.proofs.Common.{◌≡◌, ◌⊎◌, inl, inr, Bool, true, false, List, [], ◌∷◌, Option, None, Some, IfSome, refl, sym, ap, ◌∙◌, subst, arith, true≢false}
use Rattle.std.specs.Prelude.{ℤ, pos, ◌-ℤ◌, ◌≤ℤ◌, if◌then◌else◌}
use Rattle.std.specs.Int.{int_max}
use Rattle.std.proofs.lemmas.Int.{ints, clamps}
use Rattle.std.proofs.lemmas.List.Elements.{All-cons}
use Rattle.optra_network.specs.Net.{Net}
use Rattle.optra_bid.specs.declared.bids.Bid.{Bid}
use Rattle.optra_walk.specs.declared.Action.TheVariants.{Finish}
use Rattle.optra_walk.specs.declared.Leg.{Leg}
use Rattle.optra_walk.specs.Legs.{is_finish}
use Rattle.optra_rests.specs.Weights.{Weights}
use Rattle.optra_walk.specs.declared.state.State.{State}
use Rattle.optra_walk.specs.Moves.{IsMove, IsAfter, Runs}
use Rattle.optra_walk.specs.Shares.{share_of}
use Rattle.optra_rests.specs.Rests.{IsOpenRest, IsRestWorth, IsGreatestOf, IsRestSize, IsBestRest, AnyLeg, greater_of, worth_by, rest_worth}
use Rattle.optra_rests.proofs.RestLemmas.{all_head, all_tail, not_finish}

-- ---- the greatest of numbers

pub same_greatest : (C D : ℤ → Type 0) → ((n : ℤ) → C n → D n) → ((n : ℤ) → D n → C n) → (o : Option ℤ) → IsGreatestOf C o → IsGreatestOf D o
same_greatest C D there back None h = λ n d. h n (back n d)
same_greatest C D there back (Some n) h = record { reached = there n h.reached; most = λ m d. h.most m (back m d) }

max_left : (x y : ℤ) → x ≤ℤ int_max x y
max_left x y = omega (arith, ints, clamps)

max_right : (x y : ℤ) → y ≤ℤ int_max x y
max_right x y = omega (arith, ints, clamps)

max_one : (x y : ℤ) → (int_max x y ≡ x) ⊎ (int_max x y ≡ y)
max_one x y = grind (arith, ints)

at_most : (a b c : ℤ) → a ≤ℤ b → b ≤ℤ c → a ≤ℤ c
at_most a b c h l = omega (arith, ints)

pub both_greatest : (C D : ℤ → Type 0) (a b : Option ℤ) → IsGreatestOf C a → IsGreatestOf D b → IsGreatestOf (λ n. C n ⊎ D n) (greater_of a b)
both_greatest C D None None h k = λ n. λ e. elim e [ inl c ↦ h n c | inr d ↦ k n d ]
both_greatest C D None (Some y) h k = record { reached = inr k.reached; most = λ m e. elim e [ inl c ↦ absurd (h m c) | inr d ↦ k.most m d ] }
both_greatest C D (Some x) None h k = record { reached = inl h.reached; most = λ m e. elim e [ inl c ↦ h.most m c | inr d ↦ absurd (k m d) ] }
both_greatest C D (Some x) (Some y) h k = record {
  reached = elim (max_one x y) [ inl e ↦ inl (subst C (sym e) h.reached) | inr e ↦ inr (subst D (sym e) k.reached) ];
  most = λ m e. elim e [ inl c ↦ at_most m x (int_max x y) (h.most m c) (max_left x y) | inr d ↦ at_most m y (int_max x y) (k.most m d) (max_right x y) ];
}

-- either of two numbers has what both have
pub greater_has : (P : ℤ → Type 0) (a b : Option ℤ) → IfSome a P → IfSome b P → IfSome (greater_of a b) P
greater_has P None b h k = k
greater_has P (Some x) None h k = h
greater_has P (Some x) (Some y) h k = elim (max_one x y) [ inl e ↦ subst P (sym e) h | inr e ↦ subst P (sym e) k ]

module _ (w : Weights) (net : Net) (bid : Bid) (s : State) where
  -- ---- rests whose first leg is of a kind

  move_of : (leg : Leg) (rest : List Leg) → IsOpenRest w net bid.path s (leg ∷ rest) → IsMove net bid.path s leg
  move_of leg rest h = h.rest.0

  -- two names of one kind of leg
  pub best_same : (P Q : Leg → Type 0) (o : Option ℤ) → ((leg : Leg) → IsMove net bid.path s leg → P leg → Q leg) → ((leg : Leg) → IsMove net bid.path s leg → Q leg → P leg)
      → IsBestRest w net bid s P o → IsBestRest w net bid s Q o
  best_same P Q o there back h = record {
    greatest = same_greatest (IsRestWorth w net bid s P) (IsRestWorth w net bid s Q)
        (λ n c. (c.0, c.1, there c.0 (move_of c.0 c.1 c.3) c.2, c.3, c.4)) (λ n c. (c.0, c.1, back c.0 (move_of c.0 c.1 c.3) c.2, c.3, c.4)) o h.greatest;
    size = h.size;
  }

  -- two kinds together
  pub best_both : (P Q R : Leg → Type 0) (a b : Option ℤ) → ((leg : Leg) → IsMove net bid.path s leg → R leg → P leg ⊎ Q leg)
      → ((leg : Leg) → P leg → R leg) → ((leg : Leg) → Q leg → R leg)
      → IsBestRest w net bid s P a → IsBestRest w net bid s Q b → IsBestRest w net bid s R (greater_of a b)
  best_both P Q R a b split left right h k = record {
    greatest = same_greatest (λ n. IsRestWorth w net bid s P n ⊎ IsRestWorth w net bid s Q n) (IsRestWorth w net bid s R)
        (λ n e. elim e [ inl c ↦ (c.0, c.1, left c.0 c.2, c.3, c.4) | inr c ↦ (c.0, c.1, right c.0 c.2, c.3, c.4) ])
        (λ n c. elim (split c.0 (move_of c.0 c.1 c.3) c.2) as (λ _. IsRestWorth w net bid s P n ⊎ IsRestWorth w net bid s Q n) [
          | inl p ↦ inl (c.0, c.1, p, c.3, c.4)
          | inr q ↦ inr (c.0, c.1, q, c.3, c.4)
        ])
        (greater_of a b) (both_greatest (IsRestWorth w net bid s P) (IsRestWorth w net bid s Q) a b h.greatest k.greatest);
    size = greater_has (IsRestSize s.minute) a b h.size k.size;
  }

  -- a kind of which no leg may be next
  pub best_none : (P : Leg → Type 0) → ((leg : Leg) → IsMove net bid.path s leg → P leg → ⊥) → IsBestRest w net bid s P None
  best_none P none = record { greatest = λ n c. none c.0 (move_of c.0 c.1 c.3) c.2; size = tt }

  -- ---- rests that begin with one leg

  abbrev IsTailWorth : (List Leg → Type 0) → ℤ → Type 0
  IsTailWorth Tail n = (rest : List Leg) × Tail rest × (n ≡ rest_worth w net bid rest)

  less : (m n a b : ℤ) → m ≤ℤ n → (m -ℤ a -ℤ b) ≤ℤ (n -ℤ a -ℤ b)
  less m n a b h = omega (arith, ints)

  -- by the rests behind the leg
  by_leg : (x : Leg) (share : ℤ) (Tail : List Leg → Type 0) → ((rest : List Leg) → IsOpenRest w net bid.path s (x ∷ rest) → (w.may_have x ≡ true) × Tail rest)
      → ((rest : List Leg) → w.may_have x ≡ true → Tail rest → IsOpenRest w net bid.path s (x ∷ rest)) → share ≡ share_of net bid x
      → (o : Option ℤ) → IsGreatestOf (IsTailWorth Tail) o → IsGreatestOf (IsRestWorth w net bid s (λ leg. leg ≡ x)) (worth_by w x share o)
  by_leg x share Tail there back is o h = by o (w.may_have x) refl h
    where
      moved : (n : ℤ) → IsRestWorth w net bid s (λ leg. leg ≡ x) n → (rest : List Leg) × IsOpenRest w net bid.path s (x ∷ rest) × (n ≡ rest_worth w net bid (x ∷ rest))
      moved n c = (c.1, subst (λ (leg : Leg). IsOpenRest w net bid.path s (leg ∷ c.1)) c.2 c.3, c.4 ∙ ap (λ (leg : Leg). rest_worth w net bid (leg ∷ c.1)) c.2)

      by : (o : Option ℤ) (b : Bool) → w.may_have x ≡ b → IsGreatestOf (IsTailWorth Tail) o → IsGreatestOf (IsRestWorth w net bid s (λ leg. leg ≡ x)) (worth_by w x share o)
      by None b e h = λ n c. let m = moved n c in h (rest_worth w net bid m.0) (m.0, (there m.0 m.1).1, refl)
      by (Some n) false e h = subst (λ (b : Bool). IsGreatestOf (IsRestWorth w net bid s (λ leg. leg ≡ x)) (if b then Some (n -ℤ share -ℤ w.cost_of x) else None)) (sym e)
          (λ m c. let t = moved m c in true≢false (sym (there t.0 t.1).0 ∙ e))
      by (Some n) true e h = subst (λ (b : Bool). IsGreatestOf (IsRestWorth w net bid s (λ leg. leg ≡ x)) (if b then Some (n -ℤ share -ℤ w.cost_of x) else None)) (sym e)
          (record {
            reached = (x, h.reached.0, refl, back h.reached.0 e h.reached.1, ap (λ (z : ℤ). z -ℤ share -ℤ w.cost_of x) h.reached.2 ∙ ap (λ (z : ℤ). rest_worth w net bid h.reached.0 -ℤ z -ℤ w.cost_of x) is);
            most = λ m c.
                let t = moved m c in
                let l = h.most (rest_worth w net bid t.0) (t.0, (there t.0 t.1).1, refl) in
                let g = less (rest_worth w net bid t.0) n share (w.cost_of x) l in
                let f = t.2 ∙ ap (λ (z : ℤ). rest_worth w net bid t.0 -ℤ z -ℤ w.cost_of x) (sym is) in
                subst (λ (z : ℤ). z ≤ℤ (n -ℤ share -ℤ w.cost_of x)) (sym f) g;
          })

  some_same : {A : Type 0} (o : Option A) (a b : A) → o ≡ Some a → o ≡ Some b → a ≡ b
  some_same o a b e f = cc

  after_once : (leg : Leg) (a b : State) → IsAfter net bid.path s leg a → IsAfter net bid.path s leg b → a ≡ b
  after_once leg a b h k =
      let p = some_same _ a.station b.station h.place k.place in
      let m = some_same _ a.minute b.minute h.time k.time in
      let t : a.halted ≡ b.halted = h.mode ∙ sym k.mode in
      let d : a.done ≡ b.done = h.done ∙ sym k.done in
      λ i. record { station = p i; minute = m i; halted = t i; done = d i }

  -- a leg that goes on
  pub best_on : (x : Leg) (share : ℤ) (after : State) (o : Option ℤ) → IsMove net bid.path s x → IsAfter net bid.path s x after → share ≡ share_of net bid x
      → IsBestRest w net bid after AnyLeg o → IfSome (worth_by w x share o) (IsRestSize s.minute) → IsBestRest w net bid s (λ leg. leg ≡ x) (worth_by w x share o)
  best_on x share after o move is_after is best size = record {
    greatest = by_leg x share (IsOpenRest w net bid.path after) (λ rest h. there rest h h.rest.1) back is o
        (same_greatest (IsRestWorth w net bid after AnyLeg) (IsTailWorth (IsOpenRest w net bid.path after)) (λ n c. (c.0 ∷ c.1, c.3, c.4)) (λ n c. some n c.0 c.1 c.2) o best.greatest);
    size = size;
  }
    where
      there : (rest : List Leg) → IsOpenRest w net bid.path s (x ∷ rest) → ((x.action ≡ Finish) × (rest ≡ [])) ⊎ ((a : State) × IsAfter net bid.path s x a × Runs net bid.path a rest)
          → (w.may_have x ≡ true) × IsOpenRest w net bid.path after rest
      there rest h (inl f) = absurd (true≢false (sym (ap is_finish f.0) ∙ not_finish net bid.path x after.minute is_after.time x.action refl))
      there rest h (inr f) = (
        all_head (λ (leg : Leg). w.may_have leg ≡ true) x rest h.each,
        record {
          rest = subst (λ (a : State). Runs net bid.path a rest) (after_once x f.0 after f.1 is_after) f.2;
          each = all_tail (λ (leg : Leg). w.may_have leg ≡ true) x rest h.each;
        },
      )

      back : (rest : List Leg) → w.may_have x ≡ true → IsOpenRest w net bid.path after rest → IsOpenRest w net bid.path s (x ∷ rest)
      back rest may h = record { rest = (move, inr (after, is_after, h.rest)); each = All-cons (λ (leg : Leg). w.may_have leg ≡ true) x rest may h.each }

      some : (n : ℤ) (rest : List Leg) → IsOpenRest w net bid.path after rest → n ≡ rest_worth w net bid rest → IsRestWorth w net bid after AnyLeg n
      some n [] h e = absurd h.rest
      some n (leg ∷ rest) h e = (leg, rest, tt, h, e)

  -- a leg that finishes
  pub best_end : (x : Leg) (share : ℤ) → IsMove net bid.path s x → x.action ≡ Finish → share ≡ share_of net bid x
      → IfSome (worth_by w x share (Some (pos 0))) (IsRestSize s.minute) → IsBestRest w net bid s (λ leg. leg ≡ x) (worth_by w x share (Some (pos 0)))
  best_end x share move finish is size = record {
    greatest = by_leg x share (λ rest. rest ≡ []) (λ rest h. there rest h h.rest.1) back is (Some (pos 0)) (record { reached = ([], refl, refl); most = λ m c. least m c.0 c.1 c.2 });
    size = size;
  }
    where
      there : (rest : List Leg) → IsOpenRest w net bid.path s (x ∷ rest) → ((x.action ≡ Finish) × (rest ≡ [])) ⊎ ((a : State) × IsAfter net bid.path s x a × Runs net bid.path a rest)
          → (w.may_have x ≡ true) × (rest ≡ [])
      there rest h (inl f) = (all_head (λ (leg : Leg). w.may_have leg ≡ true) x rest h.each, f.1)
      there rest h (inr f) = absurd (true≢false (sym (ap is_finish finish) ∙ not_finish net bid.path x f.0.minute f.1.time x.action refl))

      back : (rest : List Leg) → w.may_have x ≡ true → rest ≡ [] → IsOpenRest w net bid.path s (x ∷ rest)
      back [] may e = record { rest = (move, inl (finish, refl)); each = All-cons (λ (leg : Leg). w.may_have leg ≡ true) x [] may (λ k d l. absurd (omega arith)) }
      back (leg ∷ rest) may e = cc

      least : (m : ℤ) (rest : List Leg) → rest ≡ [] → m ≡ rest_worth w net bid rest → m ≤ℤ pos 0
      least m [] e f = omega (arith, ints)
      least m (leg ∷ rest) e f = cc
