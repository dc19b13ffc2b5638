-- Where two weights agree on the arcs of a graph, its first best path is the same by both.
use Rattle.std.proofs.Common.{◌≡◌, ℕ, ◌<◌, Bool, true, List, [], ◌∷◌, length, refl, ◌∙◌, sym, subst, ℤ, ◌≤ℤ◌}
use Rattle.optra_dag.specs.Agreeing.{AgreeBelow}
use Rattle.optra_dag.specs.NarrowSums.{IsWithin}
use Rattle.optra_dag.specs.Paths.{Graph, IsFirstBest, IsPath, LeadsToEnd, to_of, weight_of}

module _ (g : Graph) (allows : ℕ → Bool) (weight : ℕ → ℤ) (allows' : ℕ → Bool) (weight' : ℕ → ℤ) (same : AgreeBelow (length g.arcs) allows weight allows' weight') where
  leads_same : (n : ℕ) (p : List ℕ) → LeadsToEnd g allows n p → LeadsToEnd g allows' n p
  leads_same n [] h = h
  leads_same n (k ∷ p) h = (h.0, same.allowed k h.0 ∙ h.1, h.2, leads_same (to_of g k) p h.3)

  leads_back : (n : ℕ) (p : List ℕ) → LeadsToEnd g allows' n p → LeadsToEnd g allows n p
  leads_back n [] h = h
  leads_back n (k ∷ p) h = (h.0, sym (same.allowed k h.0) ∙ h.1, h.2, leads_back (to_of g k) p h.3)

  weighs_same : (n : ℕ) (p : List ℕ) → LeadsToEnd g allows n p → weight_of weight' p ≡ weight_of weight p
  weighs_same n [] h = refl
  weighs_same n (k ∷ p) h = let e = same.weighed k h.0 in let f = weighs_same (to_of g k) p h.3 in cc

  pub path_same : (path : List ℕ) → IsPath g allows path → IsPath g allows' path
  path_same path h = record { some = h.some; leads = leads_same 0 path h.leads }

  path_back : (path : List ℕ) → IsPath g allows' path → IsPath g allows path
  path_back path h = record { some = h.some; leads = leads_back 0 path h.leads }

  pub best_same : (sum : ℤ) (path : List ℕ) → IsFirstBest g allows' weight' sum path → IsFirstBest g allows weight sum path
  best_same sum path h = record {
    path = path_back path h.path;
    sum = sym (weighs_same 0 path (path_back path h.path).leads) ∙ h.sum;
    greatest = λ q w. subst (λ z. z ≤ℤ sum) (weighs_same 0 q w.leads) (h.greatest q (path_same q w));
    first = λ q w e. h.first q (path_same q w) (weighs_same 0 q w.leads ∙ e);
  }

  -- where the weights are no more than the most, those in 64 bits aren't
  pub within_same : (most : ℕ) → ((k : ℕ) → k < length g.arcs → allows k ≡ true → IsWithin most (weight k)) → (k : ℕ) → k < length g.arcs → allows' k ≡ true → IsWithin most (weight' k)
  within_same most h k l taken = subst (IsWithin most) (sym (same.weighed k l)) (h k l (sym (same.allowed k l) ∙ taken))
