-- The greatest bound of the placed leaves, with one place more.
use Rattle.std.proofs.Common.{◌≡◌, ◌↔◌, Bool, List, [], ◌∷◌, ◌++◌, Option, None, Some, refl, sym, ap, ◌∙◌, subst, arith, inl, inr}
use Rattle.std.specs.Prelude.{◌⊎◌, IsTrue}
use Rattle.std.specs.Prelude.{ℤ, pos, ◌≤ℤ◌}
use Rattle.std.specs.Int.{int_max}
use Rattle.std.proofs.lemmas.Bool.{cases_lt}
use Rattle.std.proofs.lemmas.Int.{ints, clamps}
use Rattle.std.proofs.Math.IntN.{negsuc}
use Rattle.std.proofs.lemmas.List.Elements.{All-push, All-weaker, All-contains, Contains-append_left, Contains-append_right}
use Rattle.optra_network.specs.Net.{Net}
use Rattle.optra_bid.specs.declared.bids.Bid.{Bid}
use Rattle.optra_walk.specs.Families.{Rows}
use Rattle.optra_node.specs.declared.Decision.{Decision}
use Rattle.optra_node.specs.declared.Item.{Item}
use Rattle.optra_node.specs.declared.Item.TheVariants.{Split, NoWalk, Forced, Priced}
use Rattle.optra_node.specs.Duals.{PriceList}
use Rattle.optra_node.specs.Trees.{places}
use Rattle.optra_node.specs.Certificates.{IsBoundOf, IsWithin, IsGreatestBound}
use Rattle.optra_node.proofs.LoadLemmas.{contains_head}
use Rattle.optra_node.proofs.UniqueLemmas.{bound_unique}
use Rattle.optra_checker.specs.Bounds.{IsUnpriced, IsItemBound, IsGreatestOf}
use Rattle.optra_rests.specs.Rests.{greater_of}

le_or : (a b : ℤ) → (b ≤ℤ a) ⊎ (a ≤ℤ b)
le_or (pos m) (pos n) = elim (cases_lt m n) as (λ _. (pos n ≤ℤ pos m) ⊎ (pos m ≤ℤ pos n)) [ inl l ↦ inr (omega (arith, ints)) | inr l ↦ inl (omega (arith, ints)) ]
le_or (pos m) (negsuc n) = inl (omega (arith, ints))
le_or (negsuc m) (pos n) = inr (omega (arith, ints))
le_or (negsuc m) (negsuc n) = elim (cases_lt m n) as (λ _. (negsuc n ≤ℤ negsuc m) ⊎ (negsuc m ≤ℤ negsuc n)) [ inl l ↦ inl (omega (arith, ints)) | inr l ↦ inr (omega (arith, ints)) ]

-- the greater of two numbers is the one that is not below the other
pub max_sides : (a b : ℤ) → ((b ≤ℤ a) × (int_max a b ≡ a)) ⊎ ((a ≤ℤ b) × (int_max a b ≡ b))
max_sides a b = by (le_or a b)
  where
    by : (b ≤ℤ a) ⊎ (a ≤ℤ b) → ((b ≤ℤ a) × (int_max a b ≡ a)) ⊎ ((a ≤ℤ b) × (int_max a b ≡ b))
    by (inl l) = inl (l, omega (arith, ints, clamps))
    by (inr l) = inr (l, omega (arith, ints, clamps))

module _ {R : Type 0} (net : Net) (rows : Rows R) (bids : List Bid) where
  within_more : (b c : ℤ) → b ≤ℤ c → (node : List Decision) (item : Item R) → IsWithin net rows bids b node item → IsWithin net rows bids c node item
  within_more b c l node (Split bid leg) h = tt
  within_more b c l node (NoWalk bid) h = tt
  within_more b c l node (Forced row) h = tt
  within_more b c l node (Priced prices) h = let k = h.2 in (h.0, h.1, omega (arith, ints))

  unpriced_within : (b : ℤ) (node : List Decision) (item : Item R) → IsUnpriced item → IsWithin net rows bids b node item
  unpriced_within b node (Split bid leg) h = tt
  unpriced_within b node (NoWalk bid) h = tt
  unpriced_within b node (Forced row) h = tt
  unpriced_within b node (Priced prices) h = absurd h

  -- an item without prices leaves it as it is
  same_bound : (ps : List (List Decision × Item R)) (node : List Decision) (item : Item R) (o : Option ℤ) → IsUnpriced item → IsGreatestOf net rows bids ps o → IsGreatestOf net rows bids (ps ++ (node, item) ∷ []) o
  same_bound ps node item None un all = All-push (λ (p : List Decision × Item R). IsUnpriced p.1) ps (node, item) all un
  same_bound ps node item (Some b) un is = (
    All-push (λ (p : List Decision × Item R). IsWithin net rows bids b p.0 p.1) ps (node, item) is.0 (unpriced_within b node item un),
    (let r = is.1 in (r.0, r.1, Contains-append_left ps ((node, item) ∷ []) (r.0, Priced r.1) r.2, r.3)),
  )

  -- a leaf with prices may raise it
  next_bound : (ps : List (List Decision × Item R)) (node : List Decision) (prices : PriceList R) (o : Option ℤ) (m : ℤ) → IsBoundOf net rows bids node prices m → IsGreatestOf net rows bids ps o
      → IsGreatestOf net rows bids (ps ++ (node, Priced prices) ∷ []) (greater_of o (Some m))
  next_bound ps node prices None m is all = (
    All-push (λ (p : List Decision × Item R). IsWithin net rows bids m p.0 p.1) ps (node, Priced prices)
        (All-weaker (λ (p : List Decision × Item R). IsUnpriced p.1) (λ (p : List Decision × Item R). IsWithin net rows bids m p.0 p.1) (λ p h. unpriced_within m p.0 p.1 h) ps all) (m, is, omega (arith, ints)),
    (node, prices, Contains-append_right ps ((node, Priced prices) ∷ []) (node, Priced prices) (contains_head (node, Priced prices) [] (node, Priced prices) refl), is),
  )
  next_bound ps node prices (Some b) m is so_far = by (max_sides b m)
    where
      by : ((m ≤ℤ b) × (int_max b m ≡ b)) ⊎ ((b ≤ℤ m) × (int_max b m ≡ m)) → IsGreatestOf net rows bids (ps ++ (node, Priced prices) ∷ []) (Some (int_max b m))
      by (inl (l, e)) =
          subst (λ n. IsGreatestOf net rows bids (ps ++ (node, Priced prices) ∷ []) (Some n)) (sym e) (
            All-push (λ (p : List Decision × Item R). IsWithin net rows bids b p.0 p.1) ps (node, Priced prices) so_far.0 (m, is, l),
            (let r = so_far.1 in (r.0, r.1, Contains-append_left ps ((node, Priced prices) ∷ []) (r.0, Priced r.1) r.2, r.3)),
          )
      by (inr (l, e)) =
          subst (λ n. IsGreatestOf net rows bids (ps ++ (node, Priced prices) ∷ []) (Some n)) (sym e) (
            All-push (λ (p : List Decision × Item R). IsWithin net rows bids m p.0 p.1) ps (node, Priced prices)
                (All-weaker (λ (p : List Decision × Item R). IsWithin net rows bids b p.0 p.1) (λ (p : List Decision × Item R). IsWithin net rows bids m p.0 p.1) (λ p h. within_more b m l p.0 p.1 h) ps so_far.0)
                (m, is, omega (arith, ints)),
            (node, prices, Contains-append_right ps ((node, Priced prices) ∷ []) (node, Priced prices) (contains_head (node, Priced prices) [] (node, Priced prices) refl), is),
          )

  none_more : (o : Option ℤ) → greater_of o None ≡ o
  none_more None = refl
  none_more (Some b) = refl

  pub bound_more : (ps : List (List Decision × Item R)) (node : List Decision) (item : Item R) (o cents : Option ℤ) → IsItemBound net rows bids node item cents → IsGreatestOf net rows bids ps o
      → IsGreatestOf net rows bids (ps ++ (node, item) ∷ []) (greater_of o cents)
  bound_more ps node (Split bid leg) o cents e is = subst (IsGreatestOf net rows bids (ps ++ (node, Split bid leg) ∷ [])) (sym (ap (greater_of o) e ∙ none_more o)) (same_bound ps node (Split bid leg) o tt is)
  bound_more ps node (NoWalk bid) o cents e is = subst (IsGreatestOf net rows bids (ps ++ (node, NoWalk bid) ∷ [])) (sym (ap (greater_of o) e ∙ none_more o)) (same_bound ps node (NoWalk bid) o tt is)
  bound_more ps node (Forced row) o cents e is = subst (IsGreatestOf net rows bids (ps ++ (node, Forced row) ∷ [])) (sym (ap (greater_of o) e ∙ none_more o)) (same_bound ps node (Forced row) o tt is)
  bound_more ps node (Priced prices) o None e is = absurd e
  bound_more ps node (Priced prices) o (Some m) e is = next_bound ps node prices o m e is

  -- the stated bound is the greatest exactly where it is the number that was found
  pub stated_is : (tree : List (Item R)) (o : Option ℤ) (stated : ℤ) (r : Bool) → IsGreatestOf net rows bids (places tree) o → (IsTrue r ↔ (o ≡ Some stated)) → IsTrue r ↔ IsGreatestBound net rows bids tree stated
  stated_is tree o stated r is told = ((λ t. to (subst (IsGreatestOf net rows bids (places tree)) (told.0 t) is)), (λ g. told.1 (from o is g)))
    where
      to : IsGreatestOf net rows bids (places tree) (Some stated) → IsGreatestBound net rows bids tree stated
      to s = record { each = s.0; reached = s.1 }

      from : (o : Option ℤ) → IsGreatestOf net rows bids (places tree) o → IsGreatestBound net rows bids tree stated → o ≡ Some stated
      from None all g = let r = g.reached in absurd (All-contains (λ (p : List Decision × Item R). IsUnpriced p.1) (places tree) (r.0, Priced r.1) all r.2)
      from (Some b) s g = ap Some (bound_unique net rows bids tree b stated (record { each = s.0; reached = s.1 }) g)
