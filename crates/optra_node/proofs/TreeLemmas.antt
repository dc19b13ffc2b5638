-- Tree cover: every choice that keeps the rule is of some priced leaf.
use Rattle.std.proofs.Common.{◌≡◌, ℕ, Bool, true, false, List, [], ◌∷◌, ◌++◌, Option, Some, None, slice_get, IsSomeAnd, refl, sym, ap, subst, arith, inl, inr}
use Rattle.std.specs.Prelude.{All, Contains, nat_eq, ◌⊎◌}
use Rattle.std.specs.Prelude.{ℤ, pos, ◌*ℤ◌, ◌≤ℤ◌}
use Rattle.std.proofs.lemmas.Int.{ints}
use Rattle.std.proofs.lemmas.Bool.Decides.{nat_tests}
use Rattle.std.proofs.lemmas.List.Elements.{All-nil, All-push, All-contains, Contains-append_right}
use Rattle.std.proofs.lemmas.List.Quantifiers.{all_pairs_push}
use Rattle.std.proofs.Math.IntN.{negsuc}
use Rattle.optra_network.specs.Net.{Net}
use Rattle.optra_bid.specs.declared.bids.Bid.{Bid}
use Rattle.optra_walk.specs.declared.Action.{Action}
use Rattle.optra_walk.specs.declared.Action.TheVariants.{Pass, Halt, Wait, Finish}
use Rattle.optra_walk.specs.declared.Leg.{Leg}
use Rattle.optra_walk.specs.Choices.{IsChoice, revenue_of}
use Rattle.optra_walk.specs.Families.{Rows, FitRows, entries_of}
use Rattle.optra_node.specs.declared.Decision.{Decision}
use Rattle.optra_node.specs.declared.Item.{Item}
use Rattle.optra_node.specs.declared.Item.TheVariants.{Split, NoWalk, Forced, Priced}
use Rattle.optra_node.specs.Nodes.{DecidesOnce, DecideApart, IsUndecided, Follows, IsOfNode, legs_at}
use Rattle.optra_node.specs.Duals.{PriceList, ArePrices, IsStuck, whole_cents}
use Rattle.optra_node.specs.Trees.{decide, decide_not, children, open_after, placed, root, places, IsTree}
use Rattle.optra_node.specs.Certificates.{SplitsUndecided, EndsDead, HasPrices, IsWithin, IsGreatestBound}
use Rattle.optra_node.proofs.LoadLemmas.{contains_cases, contains_head, contains_later, all_head, all_tail, forced_clash}
use Rattle.optra_node.proofs.DualLemmas.{not_stuck, weak_duality}

-- equal or not
abbrev pub Decided : {A : Type 0} → A → A → Type 0
Decided a b = (a ≡ b) ⊎ (a ≡ b → ⊥)

same_nat : (m n : ℕ) → Decided m n
same_nat m n = by (nat_eq m n) refl
  where
    by : (b : Bool) → nat_eq m n ≡ b → Decided m n
    by true e = inl (grind (arith, nat_tests))
    by false e = inr (λ q. grind (arith, nat_tests))

same_bool : (a b : Bool) → Decided a b
same_bool true true = inl refl
same_bool false false = inl refl
same_bool true false = inr (λ e. cc)
same_bool false true = inr (λ e. cc)

same_action : (a b : Action) → Decided a b
same_action Pass Pass = inl refl
same_action Pass (Halt n) = inr (λ e. cc)
same_action Pass (Wait n) = inr (λ e. cc)
same_action Pass Finish = inr (λ e. cc)
same_action (Halt m) Pass = inr (λ e. cc)
same_action (Halt m) (Halt n) = elim (same_nat m n) as (λ _. Decided (Halt m) (Halt n)) [ inl e ↦ inl (ap Halt e) | inr f ↦ inr (λ e. f cc) ]
same_action (Halt m) (Wait n) = inr (λ e. cc)
same_action (Halt m) Finish = inr (λ e. cc)
same_action (Wait m) Pass = inr (λ e. cc)
same_action (Wait m) (Halt n) = inr (λ e. cc)
same_action (Wait m) (Wait n) = elim (same_nat m n) as (λ _. Decided (Wait m) (Wait n)) [ inl e ↦ inl (ap Wait e) | inr f ↦ inr (λ e. f cc) ]
same_action (Wait m) Finish = inr (λ e. cc)
same_action Finish Pass = inr (λ e. cc)
same_action Finish (Halt n) = inr (λ e. cc)
same_action Finish (Wait n) = inr (λ e. cc)
same_action Finish Finish = inl refl

same_leg : (a b : Leg) → Decided a b
same_leg a b = by (same_nat a.track.0 b.track.0) (same_nat a.depart b.depart) (same_bool a.from_halt b.from_halt) (same_action a.action b.action)
  where
    by : Decided a.track.0 b.track.0 → Decided a.depart b.depart → Decided a.from_halt b.from_halt → Decided a.action b.action → Decided a b
    by (inl p) (inl q) (inl r) (inl s) = inl (λ i. record { track = record { 0 = p i }; depart = q i; from_halt = r i; action = s i })
    by (inr f) q r s = inr (λ e. f (ap (λ (l : Leg). l.track.0) e))
    by (inl p) (inr f) r s = inr (λ e. f (ap (λ (l : Leg). l.depart) e))
    by (inl p) (inl q) (inr f) s = inr (λ e. f (ap (λ (l : Leg). l.from_halt) e))
    by (inl p) (inl q) (inl r) (inr f) = inr (λ e. f (ap (λ (l : Leg). l.action) e))

has_leg : (legs : List Leg) (leg : Leg) → Contains legs leg ⊎ (Contains legs leg → ⊥)
has_leg [] leg = inr (λ c. omega (arith, c.1))
has_leg (l ∷ legs) leg = by (same_leg l leg) (has_leg legs leg)
  where
    by : Decided l leg → Contains legs leg ⊎ (Contains legs leg → ⊥) → Contains (l ∷ legs) leg ⊎ (Contains (l ∷ legs) leg → ⊥)
    by (inl e) t = inl (contains_head l legs leg e)
    by (inr f) (inl c) = inl (contains_later l legs leg c)
    by (inr f) (inr g) = inr (λ c. elim (contains_cases l legs leg c) as (λ _. ⊥) [ inl e ↦ f e | inr h ↦ g h ])

-- a choice that is of a node is of one of its two children
yes_child : (walks : List (Option (List Leg))) (node : List Decision) (bid : ℕ) (leg : Leg) → IsOfNode walks node → Contains (legs_at walks bid) leg → IsOfNode walks (node ++ decide bid leg ∷ [])
yes_child walks node bid leg of has = All-push (λ (d : Decision). Follows (legs_at walks d.bid) d) node (decide bid leg) of (record { yes = λ e. has; no = λ e. cc })

no_child : (walks : List (Option (List Leg))) (node : List Decision) (bid : ℕ) (leg : Leg) → IsOfNode walks node → (Contains (legs_at walks bid) leg → ⊥) → IsOfNode walks (node ++ decide_not bid leg ∷ [])
no_child walks node bid leg of has = All-push (λ (d : Decision). Follows (legs_at walks d.bid) d) node (decide_not bid leg) of (record { yes = λ e. cc; no = λ e. has })

-- and both decide each pair once
pub once_more : (node : List Decision) (d : Decision) → DecidesOnce node → IsUndecided node d.bid d.leg → DecidesOnce (node ++ d ∷ [])
once_more node d once fresh = all_pairs_push DecideApart node d once (λ k e l. fresh k e l)

-- an open node that the choice is of
pub record IsOpenFor (walks : List (Option (List Leg))) (ways : List (List Decision)) (node : List Decision) : Type 0 where
  pub among : Contains ways node
  pub once : DecidesOnce node
  pub of : IsOfNode walks node

-- a priced leaf that the choice is of
pub record IsLeafFor {R : Type 0} (walks : List (Option (List Leg))) (placed : List (List Decision × Item R)) (node : List Decision) (prices : PriceList R) : Type 0 where
  pub among : Contains placed (node, Priced prices)
  pub once : DecidesOnce node
  pub of : IsOfNode walks node

module _ {R : Type 0} (net : Net) (rows : Rows R) (bids : List Bid) (walks : List (Option (List Leg))) (choice : IsChoice net bids walks) (fit : FitRows rows (entries_of bids walks)) where
  pub covered : (ways : List (List Decision)) (tree : List (Item R)) → open_after ways tree ≡ []
      → All (λ p. SplitsUndecided p.0 p.1) (placed ways tree) → All (λ p. EndsDead net rows bids p.0 p.1) (placed ways tree)
      → (node : List Decision) → IsOpenFor walks ways node → (leaf : List Decision) × (prices : PriceList R) × IsLeafFor walks (placed ways tree) leaf prices
  covered ways [] whole splits dead node here = absurd (none ways whole here.among)
    where
      none : (ways : List (List Decision)) → ways ≡ [] → Contains ways node → ⊥
      none [] e c = omega (arith, c.1)
      none (w ∷ ways) e c = cc
  covered [] (item ∷ tree) whole splits dead node here = absurd (omega (arith, here.among.1))
  covered (way ∷ ways) (item ∷ tree) whole splits dead node here =
      by item whole (all_head (λ (p : List Decision × Item R). SplitsUndecided p.0 p.1) (way, item) (placed (children way item ++ ways) tree) splits)
      (all_head (λ (p : List Decision × Item R). EndsDead net rows bids p.0 p.1) (way, item) (placed (children way item ++ ways) tree) dead)
      (contains_cases way ways node here.among)
      (λ below open_node.
      let t = covered (children way item ++ ways) tree whole
      (all_tail (λ (p : List Decision × Item R). SplitsUndecided p.0 p.1) (way, item) (placed (children way item ++ ways) tree) splits)
      (all_tail (λ (p : List Decision × Item R). EndsDead net rows bids p.0 p.1) (way, item) (placed (children way item ++ ways) tree) dead) below open_node in
      (t.0, t.1, record { among = contains_later (way, item) (placed (children way item ++ ways) tree) (t.0, Priced t.1) t.2.among; once = t.2.once; of = t.2.of }))
    where
      by : (item : Item R) → open_after (children way item ++ ways) tree ≡ [] → SplitsUndecided way item → EndsDead net rows bids way item → (way ≡ node) ⊎ Contains ways node
          → ((below : List Decision) → IsOpenFor walks (children way item ++ ways) below
          → (leaf : List Decision) × (prices : PriceList R) × IsLeafFor walks ((way, item) ∷ placed (children way item ++ ways) tree) leaf prices)
          → (leaf : List Decision) × (prices : PriceList R) × IsLeafFor walks ((way, item) ∷ placed (children way item ++ ways) tree) leaf prices
      by item w fresh end (inr later) below = below node (record { among = Contains-append_right (children way item) ways node later; once = here.once; of = here.of })
      by (Split bid leg) w fresh end (inl e) below =
          let of_way : IsOfNode walks way = subst (IsOfNode walks) (sym e) here.of in
          let once_way : DecidesOnce way = subst DecidesOnce (sym e) here.once in
          let yes_way = way ++ decide bid leg ∷ [] in
          let no_way = way ++ decide_not bid leg ∷ [] in
          elim (has_leg (legs_at walks bid) leg) as (λ _. (leaf : List Decision) × (prices : PriceList R) × IsLeafFor walks ((way, Split bid leg) ∷ placed {R = R} (yes_way ∷ no_way ∷ ways) tree) leaf prices) [
            | inl has ↦ below yes_way (record { among = contains_head yes_way (no_way ∷ ways) yes_way refl; once = once_more way (decide bid leg) once_way fresh; of = yes_child walks way bid leg of_way has })
            | inr lacks ↦ below no_way (record { among = contains_later yes_way (no_way ∷ ways) no_way (contains_head no_way ways no_way refl); once = once_more way (decide_not bid leg) once_way fresh; of = no_child walks way bid leg of_way lacks })
          ]
      by (NoWalk bid) w fresh end (inl e) below = absurd (stuck (slice_get bids bid) refl end)
        where
          stuck : (o : Option Bid) → slice_get bids bid ≡ o → IsSomeAnd o (λ b. IsStuck net rows bids way bid b) → ⊥
          stuck None q h = h
          stuck (Some b) q h = not_stuck net rows bids walks way bid b q choice (subst DecidesOnce (sym e) here.once) (subst (IsOfNode walks) (sym e) here.of) fit h
      by (Forced row) w fresh end (inl e) below =
          absurd (forced_clash rows row bids walks way (subst DecidesOnce (sym e) here.once) (subst (IsOfNode walks) (sym e) here.of) fit end)
      by (Priced prices) w fresh end (inl e) below = (
        way,
        prices,
        record {
          among = contains_head (way, Priced prices) (placed (children way (Priced prices) ++ ways) tree) (way, Priced prices) refl;
          once = subst DecidesOnce (sym e) here.once;
          of = subst (IsOfNode walks) (sym e) here.of;
        },
      )

  -- the choice is of a priced leaf of a whole tree
  pub tree_cover : (tree : List (Item R)) → IsTree tree → All (λ p. SplitsUndecided p.0 p.1) (places tree) → All (λ p. EndsDead net rows bids p.0 p.1) (places tree)
      → (leaf : List Decision) × (prices : PriceList R) × IsLeafFor walks (places tree) leaf prices
  tree_cover tree whole splits dead =
      covered root tree whole.whole splits dead [] (record { among = contains_head [] [] [] refl; once = λ i j d l m. absurd (omega arith); of = All-nil (λ (d : Decision). Follows (legs_at walks d.bid) d) })

pub placed_in : {R : Type 0} (ways : List (List Decision)) (tree : List (Item R)) (p : List Decision × Item R) → Contains (placed ways tree) p → Contains tree p.1
placed_in ways [] p c = absurd (omega (arith, c.1))
placed_in [] (item ∷ tree) p c = absurd (omega (arith, c.1))
placed_in (way ∷ ways) (item ∷ tree) p c = elim (contains_cases (way, item) (placed (children way item ++ ways) tree) p c) as (λ _. Contains (item ∷ tree) p.1) [
  | inl e ↦ contains_head item tree p.1 (ap (λ (q : List Decision × Item _). q.1) e)
  | inr h ↦ contains_later item tree p.1 (placed_in (children way item ++ ways) tree p h)
]

-- whole cents within an amount are within what it rounds down to
pub below_whole : (cents value : ℤ) → (pos 1000 *ℤ cents) ≤ℤ value → cents ≤ℤ whole_cents value
below_whole (pos c) (pos v) h = omega (arith, ints)
below_whole (pos c) (negsuc v) h = omega (arith, ints)
below_whole (negsuc c) (pos v) h = omega (arith, ints)
below_whole (negsuc c) (negsuc v) h = omega (arith, ints)

module _ {R : Type 0} (net : Net) (rows : Rows R) (bids : List Bid) (walks : List (Option (List Leg))) (choice : IsChoice net bids walks) (fit : FitRows rows (entries_of bids walks)) where
  -- the greatest bound of the priced leaves is at least the revenue
  pub bound_above : (tree : List (Item R)) (bound : ℤ) → IsTree tree → All (λ p. SplitsUndecided p.0 p.1) (places tree) → All (λ p. EndsDead net rows bids p.0 p.1) (places tree)
      → All (HasPrices rows) tree → IsGreatestBound net rows bids tree bound → revenue_of net bids walks ≤ℤ bound
  bound_above tree bound whole splits dead prices greatest =
      let t = tree_cover net rows bids walks choice fit tree whole splits dead in
      let leaf : List Decision × Item R = (t.0, Priced t.1) in
      let within : IsWithin net rows bids bound t.0 (Priced t.1) = All-contains (λ (p : List Decision × Item R). IsWithin net rows bids bound p.0 p.1) (places tree) leaf greatest.each t.2.among in
      let are : ArePrices rows t.1 = All-contains (HasPrices rows) tree (Priced t.1) prices (placed_in root tree leaf t.2.among) in
      let b = within.1 in
      let w = weak_duality net rows bids t.0 t.1 b.terms b.value walks are t.2.once b.dual choice t.2.of fit in
      let f = below_whole (revenue_of net bids walks) b.value w in
      let e = b.cents_is in
      let l = within.2 in
      omega (arith, ints)
