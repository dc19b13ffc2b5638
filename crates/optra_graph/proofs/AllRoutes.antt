-- The list of all paths of a graph, in the lexicographic order of their arcs.
use Rattle.std.proofs.Common.{◌≡◌, ℕ, zero, suc, ◌+◌, ◌≤◌, ◌<◌, ◌⊎◌, inl, inr, Bool, true, false, cond, nat_eq, List, [], ◌∷◌, ◌++◌, length, get_or, map, refl, sym, ap, ◌∙◌, subst, arith, All, Contains, Ordering, Less, nat_cmp, length-append, eq-eqb, ◌-◌}
use Rattle.std.specs.List.{AllPairs}
use Rattle.std.specs.Ordering.{ordering_then}
use Rattle.std.specs.Cmp.Lexicographic.{slice_cmp}
use Rattle.std.proofs.lemmas.Bool.{cases_lt, cases_eq}
use Rattle.std.proofs.lemmas.List.{get_or-map, length-map, get_or_append_left, get_or-append_right}
use Rattle.std.proofs.lemmas.List.Elements.{All-append, All-map, All-nil, All-cons, Contains-append_left, Contains-append_right, Contains-get_or, All-contains}
use Rattle.optra_dag.specs.Paths.{Graph, IsForward, LeadsToEnd, from_of, to_of}
use Rattle.optra_graph.specs.Timed.{Timed, IsRoute, AreAllRoutes}
use Rattle.optra_graph.proofs.OrderLemmas.{nat_same, nat_less}

abbrev Before : List ℕ → List ℕ → Type 0
Before a b = slice_cmp nat_cmp a b ≡ Less

pairs_append : (xs ys : List (List ℕ)) → AllPairs Before xs → AllPairs Before ys → ((x y : List ℕ) → Contains xs x → Contains ys y → Before x y) → AllPairs Before (xs ++ ys)
pairs_append xs ys hx hy across i j d l m = by (cases_lt i (length xs)) (cases_lt j (length xs))
  where
    n : length (xs ++ ys) ≡ length xs + length ys
    n = length-append xs ys

    left : (k : ℕ) → k < length xs → get_or (xs ++ ys) k d ≡ get_or xs k d
    left k b = get_or_append_left xs ys d k b

    right : (k : ℕ) → length xs ≤ k → get_or (xs ++ ys) k d ≡ get_or ys (k - length xs) d
    right k b = get_or-append_right xs ys (length xs) k d refl b

    by : (i < length xs) ⊎ (length xs ≤ i) → (j < length xs) ⊎ (length xs ≤ j) → Before (get_or (xs ++ ys) i d) (get_or (xs ++ ys) j d)
    by (inl a) (inl b) = (λ t. slice_cmp nat_cmp (left i a t) (left j b t)) ∙ hx i j d l b
    by (inl a) (inr b) = (λ t. slice_cmp nat_cmp (left i a t) (right j b t)) ∙ across (get_or xs i d) (get_or ys (j - length xs) d) (Contains-get_or xs i d a) (Contains-get_or ys (j - length xs) d (omega (arith, n)))
    by (inr a) (inl b) = absurd (omega arith)
    by (inr a) (inr b) = (λ t. slice_cmp nat_cmp (right i a t) (right j b t)) ∙ hy (i - length xs) (j - length xs) d (omega arith) (omega (arith, n))

-- one arc before each of them
abbrev behind : ℕ → List (List ℕ) → List (List ℕ)
behind k xs = map (λ ks. k ∷ ks) xs

pairs_behind : (k : ℕ) (xs : List (List ℕ)) → AllPairs Before xs → AllPairs Before (behind k xs)
pairs_behind k xs h i j d l m =
    let n = length-map xs (λ (ks : List ℕ). k ∷ ks) in
    let a = get_or-map (λ (ks : List ℕ). k ∷ ks) xs i [] d (omega (arith, n)) in
    let b = get_or-map (λ (ks : List ℕ). k ∷ ks) xs j [] d (omega (arith, n)) in
    (λ t. slice_cmp nat_cmp (a t) (b t)) ∙ ap (λ (o : Ordering). ordering_then o (slice_cmp nat_cmp (get_or xs i []) (get_or xs j []))) (nat_same k) ∙ h i j [] l (omega (arith, n))

contains_behind : (k : ℕ) (xs : List (List ℕ)) (ks : List ℕ) → Contains xs ks → Contains (behind k xs) (k ∷ ks)
contains_behind k xs ks c = (c.0, omega (arith, c.1, length-map xs (λ (ks : List ℕ). k ∷ ks)), get_or-map (λ (ks : List ℕ). k ∷ ks) xs c.0 ks (k ∷ ks) c.1 ∙ ap (λ (r : List ℕ). k ∷ r) c.2)

module _ (g : Graph) (forward : IsForward g) where
  abbrev Leads : ℕ → List ℕ → Type 0
  Leads n ks = LeadsToEnd g (λ _. true) n ks

  -- the empty path, at an end
  abbrev empties : ℕ → List (List ℕ)
  empties n = cond (get_or g.ends n false) ([] ∷ []) []

  -- the nonempty paths from a node whose arcs are from arc i on, of which there are so many
  abbrev onward : ℕ → ℕ → ℕ → List (List ℕ)
  onward zero i n = []
  onward (suc f) i n = cond (nat_eq (from_of g i) n) (behind i (empties (to_of g i) ++ onward f (suc i) (to_of g i))) [] ++ onward f (suc i) n

  -- a path that begins with an arc from i on
  abbrev From : ℕ → ℕ → List ℕ → Type 0
  From i n [] = ⊥
  From i n (k ∷ ks) = (i ≤ k) × Leads n (k ∷ ks)

  from_less : (i n : ℕ) (ks : List ℕ) → From (suc i) n ks → From i n ks
  from_less i n [] h = h
  from_less i n (k ∷ ks) (l, w) = (omega arith, w)

  from_leads : (i n : ℕ) (ks : List ℕ) → From i n ks → Leads n ks
  from_leads i n [] h = absurd h
  from_leads i n (k ∷ ks) (l, w) = w

  empties_lead : (n : ℕ) → All (Leads n) (empties n)
  empties_lead n = by (get_or g.ends n false) refl
    where
      by : (b : Bool) → get_or g.ends n false ≡ b → All (Leads n) (cond b ([] ∷ []) [])
      by true e = All-cons (Leads n) [] [] e (All-nil (Leads n))
      by false e = All-nil (Leads n)

  -- each list is a path
  sound : (f i n : ℕ) → i + f ≡ length g.arcs → All (From i n) (onward f i n)
  sound zero i n e = All-nil (From i n)
  sound (suc f) i n e = All-append (From i n) (cond (nat_eq (from_of g i) n) (behind i (empties (to_of g i) ++ onward f (suc i) (to_of g i))) []) (onward f (suc i) n)
      (by (nat_eq (from_of g i) n) refl (sound f (suc i) (to_of g i) (omega arith)))
      (λ k d l. from_less i n (get_or (onward f (suc i) n) k d) (sound f (suc i) n (omega arith) k d l))
    where
      by : (b : Bool) → nat_eq (from_of g i) n ≡ b → All (From (suc i) (to_of g i)) (onward f (suc i) (to_of g i)) → All (From i n) (cond b (behind i (empties (to_of g i) ++ onward f (suc i) (to_of g i))) [])
      by true t h =
          let here : from_of g i ≡ n = grind arith in
          All-map (From i n) (λ (ks : List ℕ). i ∷ ks) (empties (to_of g i) ++ onward f (suc i) (to_of g i))
          (λ k d l. (
            omega arith,
            (
              omega arith,
              refl,
              here,
              All-append (Leads (to_of g i)) (empties (to_of g i)) (onward f (suc i) (to_of g i)) (empties_lead (to_of g i))
                  (λ j c m. from_leads (suc i) (to_of g i) (get_or (onward f (suc i) (to_of g i)) j c) (h j c m)) k d l,
            ),
          ))
      by false t h = All-nil (From i n)

  -- each path is there
  whole : (f i n k : ℕ) (ks : List ℕ) → i + f ≡ length g.arcs → i ≤ k → Leads n (k ∷ ks) → Contains (onward f i n) (k ∷ ks)
  whole zero i n k ks e l w = absurd (omega (arith, w.0))
  whole (suc f) i n k ks e l w = by (cases_eq k i) (λ j r m v. whole f (suc i) (to_of g i) j r (omega arith) m v) (λ m. whole f (suc i) n k ks (omega arith) m w)
    where
      one : Contains {X = List ℕ} ([] ∷ []) []
      one = (0, omega arith, refl)

      tail : (r : List ℕ) → Leads (to_of g i) r → ((j : ℕ) (r : List ℕ) → suc i ≤ j → Leads (to_of g i) (j ∷ r) → Contains (onward f (suc i) (to_of g i)) (j ∷ r)) → Contains (empties (to_of g i) ++ onward f (suc i) (to_of g i)) r
      tail [] v more = Contains-append_left (empties (to_of g i)) (onward f (suc i) (to_of g i)) [] (subst (λ (b : Bool). Contains {X = List ℕ} (cond b ([] ∷ []) []) []) (sym v) one)
      tail (j ∷ r) v more = Contains-append_right (empties (to_of g i)) (onward f (suc i) (to_of g i)) (j ∷ r) (more j r (later (cases_lt i j)) v)
        where
          later : (i < j) ⊎ (j ≤ i) → suc i ≤ j
          later (inl m) = m
          later (inr m) =
              let u = forward.forward i (omega arith) in
              let s = forward.sorted j i m (omega arith) in
              let z = v.2 in absurd (omega arith)

      by : (k ≡ i) ⊎ (k ≡ i → ⊥) → ((j : ℕ) (r : List ℕ) → suc i ≤ j → Leads (to_of g i) (j ∷ r) → Contains (onward f (suc i) (to_of g i)) (j ∷ r)) → (suc i ≤ k → Contains (onward f (suc i) n) (k ∷ ks))
          → Contains (onward (suc f) i n) (k ∷ ks)
      by (inl s) more on =
          let here : nat_eq (from_of g i) n ≡ true = eq-eqb (from_of g i) n (ap (from_of g) (sym s) ∙ w.2) in
          let t = tail ks (subst (λ x. Leads (to_of g x) ks) s w.3) more in
          Contains-append_left (cond (nat_eq (from_of g i) n) (behind i (empties (to_of g i) ++ onward f (suc i) (to_of g i))) []) (onward f (suc i) n) (k ∷ ks)
          (subst (λ (b : Bool). Contains (cond b (behind i (empties (to_of g i) ++ onward f (suc i) (to_of g i))) []) (k ∷ ks)) (sym here)
          (subst (λ x. Contains (behind i (empties (to_of g i) ++ onward f (suc i) (to_of g i))) (x ∷ ks)) (sym s) (contains_behind i (empties (to_of g i) ++ onward f (suc i) (to_of g i)) ks t)))
      by (inr s) more on = Contains-append_right (cond (nat_eq (from_of g i) n) (behind i (empties (to_of g i) ++ onward f (suc i) (to_of g i))) []) (onward f (suc i) n) (k ∷ ks) (on (omega (arith, s)))

  -- and they ascend
  before_from : (i n : ℕ) (a b : List ℕ) → From (suc i) n b → Before (i ∷ a) b
  before_from i n a [] h = absurd h
  before_from i n a (k ∷ ks) (l, w) = ap (λ (o : Ordering). ordering_then o (slice_cmp nat_cmp a ks)) (nat_less i k l)

  nil_from : (i n : ℕ) (b : List ℕ) → From i n b → Before [] b
  nil_from i n [] h = absurd h
  nil_from i n (k ∷ ks) h = refl

  empties_up : (n : ℕ) → AllPairs Before (empties n)
  empties_up n = by (get_or g.ends n false)
    where
      by : (b : Bool) → AllPairs Before (cond b ([] ∷ []) [])
      by true i j d l m = absurd (omega arith)
      by false i j d l m = absurd (omega arith)

  empties_nil : (n : ℕ) (x : List ℕ) → Contains (empties n) x → x ≡ []
  empties_nil n x c = by (get_or g.ends n false) c
    where
      by : (b : Bool) → Contains (cond b ([] ∷ []) []) x → x ≡ []
      by true (zero, l, e) = sym e
      by true (suc k, l, e) = absurd (omega arith)
      by false (k, l, e) = absurd (omega arith)

  ascends : (f i n : ℕ) → i + f ≡ length g.arcs → AllPairs Before (onward f i n)
  ascends zero i n e = λ a b d l m. absurd (omega arith)
  ascends (suc f) i n e = pairs_append (cond (nat_eq (from_of g i) n) (behind i (empties (to_of g i) ++ onward f (suc i) (to_of g i))) []) (onward f (suc i) n)
      (block (nat_eq (from_of g i) n) (ascends f (suc i) (to_of g i) (omega arith))) (ascends f (suc i) n (omega arith))
      (λ x y c v. first (nat_eq (from_of g i) n) x y c (All-contains (From (suc i) n) (onward f (suc i) n) y (sound f (suc i) n (omega arith)) v))
    where
      block : (b : Bool) → AllPairs Before (onward f (suc i) (to_of g i)) → AllPairs Before (cond b (behind i (empties (to_of g i) ++ onward f (suc i) (to_of g i))) [])
      block true h = pairs_behind i (empties (to_of g i) ++ onward f (suc i) (to_of g i)) (pairs_append (empties (to_of g i)) (onward f (suc i) (to_of g i)) (empties_up (to_of g i)) h
          (λ x y c v. subst (λ (a : List ℕ). Before a y) (sym (empties_nil (to_of g i) x c)) (nil_from (suc i) (to_of g i) y (All-contains (From (suc i) (to_of g i)) (onward f (suc i) (to_of g i)) y (sound f (suc i) (to_of g i) (omega arith)) v))))
      block false h = λ a b d l m. absurd (omega arith)

      first : (b : Bool) (x y : List ℕ) → Contains (cond b (behind i (empties (to_of g i) ++ onward f (suc i) (to_of g i))) []) x → From (suc i) n y → Before x y
      first true x y c w =
          let l = length-map (empties (to_of g i) ++ onward f (suc i) (to_of g i)) (λ (ks : List ℕ). i ∷ ks) in
          let s = get_or-map (λ (ks : List ℕ). i ∷ ks) (empties (to_of g i) ++ onward f (suc i) (to_of g i)) c.0 [] x (omega (arith, c.1, l)) in
          subst (λ (a : List ℕ). Before a y) (sym s ∙ c.2) (before_from i n (get_or (empties (to_of g i) ++ onward f (suc i) (to_of g i)) c.0 []) y w)
      first false x y c w = absurd (omega (arith, c.1))

-- so there is a list of all paths
pub all_routes : (t : Timed) → IsForward t.dag → (routes : List (List ℕ)) × AreAllRoutes t routes
all_routes t forward = (
  onward t.dag forward (length t.dag.arcs) 0 0,
  record {
    sound = λ k d l. route (get_or (onward t.dag forward (length t.dag.arcs) 0 0) k d) (sound t.dag forward (length t.dag.arcs) 0 0 (omega arith) k d l);
    whole = all;
    ascending = ascends t.dag forward (length t.dag.arcs) 0 0 (omega arith);
  },
)
  where
    route : (ks : List ℕ) → From t.dag forward 0 0 ks → IsRoute t ks
    route [] h = absurd h
    route (k ∷ ks) (l, w) = record { some = λ e. cc; leads = w }

    all : (arcs : List ℕ) → IsRoute t arcs → Contains (onward t.dag forward (length t.dag.arcs) 0 0) arcs
    all [] r = absurd (r.some refl)
    all (k ∷ ks) r = whole t.dag forward (length t.dag.arcs) 0 0 k ks (omega arith) (omega arith) r.leads
