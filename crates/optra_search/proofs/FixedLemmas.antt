-- Legs that are fixed, lists whose elements all differ, and entries of a choice.
use Rattle.std.proofs.Common.{◌≡◌, ℕ, zero, suc, ◌≤◌, ◌<◌, Bool, true, false, cond, List, [], ◌∷◌, ◌++◌, map, length, sum_by, Option, None, Some, slice_get, slice_set, unwrap_or, refl, sym, ap, subst, arith, inl, inr}
use Rattle.std.specs.Prelude.{Contains, ◌⊎◌, ◌&&◌, ◌||◌, nat_eq, ⊤}
use Rattle.std.specs.List.{AllPairs}
use Rattle.std.specs.declared.cmp.Ordering.TheVariants.{Equal}
use Rattle.std.specs.Ordering.{is_eq, bool_cmp, nat_cmp}
use Rattle.std.proofs.lemmas.Cmp.{ranked}
use Rattle.std.proofs.lemmas.Bool.Decides.{nat_tests}
use Rattle.std.proofs.lemmas.List.Sums.{sum_by-cons}
use Rattle.std.proofs.lemmas.List.Elements.{All-contains, Contains-append_cases}
use Rattle.optra_walk.specs.declared.Action.{Action}
use Rattle.optra_walk.specs.declared.Action.TheVariants.{Pass, Halt, Wait, Finish}
use Rattle.optra_walk.specs.declared.Leg.{Leg}
use Rattle.optra_walk.specs.Orders.{action_cmp}
use Rattle.optra_node.specs.declared.Decision.{Decision}
use Rattle.optra_node.specs.Nodes.{is_yes_for}
use Rattle.optra_node.specs.Trees.{decide}
use Rattle.optra_node.proofs.RowLemmas.{equal_is}
use Rattle.optra_node.proofs.LoadLemmas.{contains_cases, contains_head, contains_later, take_out, pairs_head, pairs_tail, tagged}
use Rattle.optra_search.specs.Splits.{same_leg, is_fixed}

both : (a b : Bool) → (a && b) ≡ true → (a ≡ true) × (b ≡ true)
both true b e = (refl, e)
both false b e = cc

same_mode : (a b : Bool) → is_eq (bool_cmp a b) ≡ true → a ≡ b
same_mode true true e = refl
same_mode true false e = cc
same_mode false true e = cc
same_mode false false e = refl

same_dwell : (m n : ℕ) → is_eq (nat_cmp m n) ≡ true → m ≡ n
same_dwell m n e = ranked m n Equal (sym (equal_is (nat_cmp m n) e))

same_action : (a b : Action) → is_eq (action_cmp a b) ≡ true → a ≡ b
same_action Pass Pass e = refl
same_action Pass (Halt n) e = cc
same_action Pass (Wait n) e = cc
same_action Pass Finish e = cc
same_action (Halt m) Pass e = cc
same_action (Halt m) (Halt n) e = ap Halt (same_dwell m n e)
same_action (Halt m) (Wait n) e = cc
same_action (Halt m) Finish e = cc
same_action (Wait m) Pass e = cc
same_action (Wait m) (Halt n) e = cc
same_action (Wait m) (Wait n) e = ap Wait (same_dwell m n e)
same_action (Wait m) Finish e = cc
same_action Finish Pass e = cc
same_action Finish (Halt n) e = cc
same_action Finish (Wait n) e = cc
same_action Finish Finish e = refl

-- legs that the test takes for the same are
pub same_is : (a b : Leg) → same_leg a b ≡ true → a ≡ b
same_is a b e =
    let p = both (nat_eq a.track.0 b.track.0 && nat_eq a.depart b.depart && is_eq (bool_cmp a.from_halt b.from_halt)) (is_eq (action_cmp a.action b.action)) e in
    let q = both (nat_eq a.track.0 b.track.0 && nat_eq a.depart b.depart) (is_eq (bool_cmp a.from_halt b.from_halt)) p.0 in
    let r = both (nat_eq a.track.0 b.track.0) (nat_eq a.depart b.depart) q.0 in
    let t : a.track.0 ≡ b.track.0 = same_number a.track.0 b.track.0 r.0 in
    let d : a.depart ≡ b.depart = same_number a.depart b.depart r.1 in
    let h = same_mode a.from_halt b.from_halt q.1 in
    let c = same_action a.action b.action p.1 in
    λ i. record { track = record { 0 = t i }; depart = d i; from_halt = h i; action = c i }
  where
    same_number : (m n : ℕ) → nat_eq m n ≡ true → m ≡ n
    same_number m n e = grind (arith, nat_tests)

-- a fixed leg is decided yes
pub fixed_has : (bid : ℕ) (leg : Leg) (node : List Decision) → is_fixed node bid leg ≡ true → Contains node (decide bid leg)
fixed_has bid leg [] e = cc
fixed_has bid leg (d ∷ node) e = by (is_yes_for bid d && same_leg d.leg leg) refl (fixed_has bid leg node)
  where
    by : (b : Bool) → (is_yes_for bid d && same_leg d.leg leg) ≡ b → (is_fixed node bid leg ≡ true → Contains node (decide bid leg)) → Contains (d ∷ node) (decide bid leg)
    by true q before =
        let p = both (is_yes_for bid d) (same_leg d.leg leg) q in
        let r = both d.yes (nat_eq d.bid bid) p.0 in
        let n : d.bid ≡ bid = grind (arith, nat_tests, r.1) in
        let l = same_is d.leg leg p.1 in
        let y = r.0 in
        contains_head d node (decide bid leg) (λ i. record { bid = n i; leg = l i; yes = y i })
    by false q before = contains_later d node (decide bid leg) (before (rest (is_yes_for bid d && same_leg d.leg leg) (is_fixed node bid leg) q e))
      where
        rest : (a b : Bool) → a ≡ false → (a || b) ≡ true → b ≡ true
        rest true b p q = cc
        rest false b p q = q

-- all elements differ
abbrev pub Differ : {X : Type 0} → List X → Type 0
Differ [] = ⊤
Differ (x ∷ xs) = (Contains xs x → ⊥) × Differ xs

pub differ_in_order : {X : Type 0} (Before : X → X → Type 0) → ((x : X) → Before x x → ⊥) → (xs : List X) → AllPairs Before xs → Differ xs
differ_in_order Before apart [] p = tt
differ_in_order Before apart (x ∷ xs) p = ((λ c. apart x (All-contains (Before x) xs x (pairs_head Before x xs p) c)), differ_in_order Before apart xs (pairs_tail Before x xs p))

pub in_map : {A B : Type 0} (g : A → B) (xs : List A) (y : B) → Contains (map g xs) y → (x : A) × Contains xs x × (g x ≡ y)
in_map g [] y c = absurd (omega (arith, c.1))
in_map g (x ∷ xs) y c = by (in_map g xs y) (contains_cases (g x) (map g xs) y c)
  where
    by : (Contains (map g xs) y → (z : _) × Contains xs z × (g z ≡ y)) → (g x ≡ y) ⊎ Contains (map g xs) y → (z : _) × Contains (x ∷ xs) z × (g z ≡ y)
    by before (inl e) = (x, contains_head x xs x refl, e)
    by before (inr h) = let t = before h in (t.0, contains_later x xs t.0 t.1, t.2)

pub differ-map : {A B : Type 0} (g : A → B) → ((x y : A) → g x ≡ g y → x ≡ y) → (xs : List A) → Differ xs → Differ (map g xs)
differ-map g one [] d = tt
differ-map g one (x ∷ xs) d =
    ((λ c. let t = in_map g xs (g x) c in d.0 (subst (Contains xs) (one t.0 x t.2) t.1)), differ-map g one xs d.1)

pub differ-append : {X : Type 0} (xs ys : List X) → Differ xs → Differ ys → ((x : X) → Contains xs x → Contains ys x → ⊥) → Differ (xs ++ ys)
differ-append [] ys d e apart = e
differ-append (x ∷ xs) ys d e apart = (
  (λ c. elim (Contains-append_cases xs ys x c) as (λ _. ⊥) [ inl h ↦ d.0 h | inr h ↦ apart x (contains_head x xs x refl) h ]),
  differ-append xs ys d.1 e (λ z c c'. apart z (contains_later x xs z c) c'),
)

-- legs that differ and are all decided yes come to no more than the yes legs
pub within_decided : (f : ℕ × Leg → ℕ) (all : List (ℕ × Leg)) (node : List Decision) → Differ all → ((number : ℕ) (leg : Leg) → Contains all (number, leg) → Contains node (decide number leg))
    → sum_by f all ≤ sum_by (λ d. cond d.yes (f (d.bid, d.leg)) 0) node
within_decided f [] node differ has = omega arith
within_decided f (e ∷ all) node differ has =
    let g : Decision → ℕ = λ d. cond d.yes (f (d.bid, d.leg)) 0 in
    let t = take_out g node (decide e.0 e.1) (has e.0 e.1 (contains_head e all e refl)) in
    let i = within_decided f all t.0 differ.1 (λ number leg c. t.1.others (decide number leg)
    (λ same. differ.0 (subst (Contains all) (λ j. ((sym same j).bid, (sym same j).leg)) c))
    (has number leg (contains_later e all (number, leg) c))) in
    let s = t.1.sum in
    let h = sum_by-cons f e all in
    omega arith

-- an entry of a choice's legs is a leg of the walk of its bid
pub tagged_legs : (walks : List (Option (List Leg))) (number : ℕ) (leg : Leg) → Contains (tagged walks) (number, leg) → (legs : List Leg) × (slice_get walks number ≡ Some (Some legs)) × Contains legs leg
tagged_legs [] number leg c = absurd (omega (arith, c.1))
tagged_legs (walk ∷ walks) number leg c =
    by (tagged_legs walks) (Contains-append_cases (map (λ leg. (zero, leg)) (unwrap_or walk [])) (map (λ e. (suc e.0, e.1)) (tagged walks)) (number, leg) c)
  where
    first : (walk : Option (List Leg)) → Contains (unwrap_or walk []) leg → (number : ℕ) → zero ≡ number → (legs : List Leg) × (slice_get (walk ∷ walks) number ≡ Some (Some legs)) × Contains legs leg
    first None c number e = absurd (omega (arith, c.1))
    first (Some legs) c zero e = (legs, refl, c)
    first (Some legs) c (suc n) e = absurd (omega arith)

    later : ((number : ℕ) (leg : Leg) → Contains (tagged walks) (number, leg) → (legs : List Leg) × (slice_get walks number ≡ Some (Some legs)) × Contains legs leg)
        → (e : ℕ × Leg) → Contains (tagged walks) e → (number : ℕ) → suc e.0 ≡ number → e.1 ≡ leg → (legs : List Leg) × (slice_get (walk ∷ walks) number ≡ Some (Some legs)) × Contains legs leg
    later before e c zero p q = absurd (omega arith)
    later before e c (suc n) p q =
        let m : e.0 ≡ n = omega arith in
        let same : ◌≡◌ {A = ℕ × Leg} e (n, leg) = λ i. (m i, q i) in
        before n leg (subst (λ (p : ℕ × Leg). Contains (tagged walks) p) same c)

    by : ((number : ℕ) (leg : Leg) → Contains (tagged walks) (number, leg) → (legs : List Leg) × (slice_get walks number ≡ Some (Some legs)) × Contains legs leg)
        → Contains {X = ℕ × Leg} (map (λ leg. (zero, leg)) (unwrap_or walk [])) (number, leg) ⊎ Contains {X = ℕ × Leg} (map (λ e. (suc e.0, e.1)) (tagged walks)) (number, leg)
        → (legs : List Leg) × (slice_get (walk ∷ walks) number ≡ Some (Some legs)) × Contains legs leg
    by before (inl h) =
        let t = in_map (λ (leg : Leg). (zero, leg)) (unwrap_or walk []) (number, leg) h in
        first walk (subst (Contains (unwrap_or walk [])) (ap (λ (p : ℕ × Leg). p.1) t.2) t.1) number (ap (λ (p : ℕ × Leg). p.0) t.2)
    by before (inr h) =
        let t = in_map (λ (e : ℕ × Leg). (suc e.0, e.1)) (tagged walks) (number, leg) h in
        later before t.0 t.1 number (ap (λ (p : ℕ × Leg). p.0) t.2) (ap (λ (p : ℕ × Leg). p.1) t.2)

-- where no walk has a leg twice, no entry of a choice's legs stands twice
pub tagged_differ : (walks : List (Option (List Leg))) → ((number : ℕ) (legs : List Leg) → slice_get walks number ≡ Some (Some legs) → Differ legs) → Differ (tagged walks)
tagged_differ [] each = tt
tagged_differ (walk ∷ walks) each =
    differ-append (map (λ leg. (zero, leg)) (unwrap_or walk [])) (map (λ e. (suc e.0, e.1)) (tagged walks))
    (differ-map (λ (leg : Leg). (zero, leg)) (λ x y e. ap (λ (p : ℕ × Leg). p.1) e) (unwrap_or walk []) (first walk (each zero)))
    (differ-map (λ (e : ℕ × Leg). (suc e.0, e.1)) (λ x y e. one x y (ap (λ (p : ℕ × Leg). p.0) e) (ap (λ (p : ℕ × Leg). p.1) e)) (tagged walks) (tagged_differ walks (λ n. each (suc n))))
    (λ z c c'.
    let t = in_map (λ (leg : Leg). (zero, leg)) (unwrap_or walk []) z c in
    let u = in_map (λ (e : ℕ × Leg). (suc e.0, e.1)) (tagged walks) z c' in
    let p = ap (λ (p : ℕ × Leg). p.0) t.2 in
    let q = ap (λ (p : ℕ × Leg). p.0) u.2 in
    omega arith)
  where
    first : (walk : Option (List Leg)) → ((legs : List Leg) → slice_get (walk ∷ walks) zero ≡ Some (Some legs) → Differ legs) → Differ (unwrap_or walk [])
    first None each = tt
    first (Some legs) each = each legs refl

    one : (x y : ℕ × Leg) → suc x.0 ≡ suc y.0 → x.1 ≡ y.1 → x ≡ y
    one x y p q = let n : x.0 ≡ y.0 = omega arith in λ i. (n i, q i)

pub at_set : {X : Type 0} (xs : List X) (k : ℕ) (x : X) → k < length xs → slice_get (slice_set xs k x) k ≡ Some x
at_set [] k x l = absurd (omega arith)
at_set (y ∷ xs) zero x l = refl
at_set (y ∷ xs) (suc k) x l = at_set xs k x (omega arith)

pub at_set_other : {X : Type 0} (xs : List X) (k n : ℕ) (x : X) → (k ≡ n → ⊥) → slice_get (slice_set xs k x) n ≡ slice_get xs n
at_set_other [] k n x apart = refl
at_set_other (y ∷ xs) zero zero x apart = absurd (apart refl)
at_set_other (y ∷ xs) zero (suc n) x apart = refl
at_set_other (y ∷ xs) (suc k) zero x apart = refl
at_set_other (y ∷ xs) (suc k) (suc n) x apart = at_set_other xs k n x (λ e. apart (ap suc e))
