-- The items of a tree one after the other, each with its node.
use Rattle.std.proofs.Common.{◌≡◌, ◌↔◌, ℕ, Bool, true, not, ◌+◌, ◌<◌, ◌≤◌, List, [], ◌∷◌, ◌++◌, length, get_or, take, drop, refl, sym, ap, ◌∙◌, subst, arith, inl, inr}
use Rattle.std.specs.Prelude.{All, Contains, IsTrue, false}
use Rattle.std.proofs.lemmas.Bool.{false≢true}
use Rattle.std.proofs.lemmas.List.{take-append-drop, take_more, take_all, length-append, length-take}
use Rattle.std.proofs.lemmas.List.Elements.{All-push, All-contains, Contains-append_left, Contains-append_right}
use Rattle.optra_node.specs.declared.Decision.{Decision}
use Rattle.optra_node.specs.declared.Item.{Item}
use Rattle.optra_node.specs.Trees.{children, open_after, placed, root, places, IsTree}
use Rattle.optra_node.proofs.LoadLemmas.{contains_head}
use Rattle.optra_node.proofs.PlaceLemmas.{one_more}
pub use Rattle.optra_rests.proofs.BoolLemmas.{not_both}
use Rattle.optra_open.specs.ToCome.{to_come, open_with, IsNextWay, IsAt}

placed-append : {R : Type 0} (ways : List (List Decision)) (items later : List (Item R)) → placed ways (items ++ later) ≡ placed ways items ++ placed (open_after ways items) later
placed-append ways [] later = refl
placed-append [] (item ∷ items) [] = refl
placed-append [] (item ∷ items) (x ∷ later) = refl
placed-append (way ∷ ways) (item ∷ items) later = ap (λ ps. (way, item) ∷ ps) (placed-append (children way item ++ ways) items later)

placed_short : {R : Type 0} (ways : List (List Decision)) (items : List (Item R)) → length (placed ways items) ≤ length items
placed_short ways [] = omega arith
placed_short [] (item ∷ items) = omega arith
placed_short (way ∷ ways) (item ∷ items) = let t = placed_short (children way item ++ ways) items in omega arith

none_placed : {R : Type 0} (items : List (Item R)) → placed [] items ≡ []
none_placed [] = refl
none_placed (item ∷ items) = refl

-- before each item a node is open
still_open : {R : Type 0} (tree : List (Item R)) (i : ℕ) → IsTree tree → i < length tree → open_after root (take i tree) ≡ [] → ⊥
still_open tree i whole l none =
    let whole_is : places tree ≡ placed root (take i tree) ++ placed (open_after root (take i tree)) (drop i tree) = ap places (sym (take-append-drop i tree)) ∙ placed-append root (take i tree) (drop i tree) in
    let rest : placed (open_after root (take i tree)) (drop i tree) ≡ [] = ap (λ ways. placed ways (drop i tree)) none ∙ none_placed (drop i tree) in
    let short = placed_short root (take i tree) in
    let each = whole.each in
    let count : length (places tree) ≡ length (placed root (take i tree)) + length (placed (open_after root (take i tree)) (drop i tree)) = ap length whole_is ∙ length-append (placed root (take i tree)) (placed (open_after root (take i tree)) (drop i tree)) in
    let zero_more : length (placed (open_after root (take i tree)) (drop i tree)) ≡ 0 = ap length rest in
    let n = length-take i tree in
    omega arith

module _ {R : Type 0} (tree : List (Item R)) where
  -- before the first item the root is open
  pub at_first : (node : List Decision) → node ≡ [] → IsAt tree 0 node
  at_first node is = λ _. ap open_with (sym is)

  module _ (i : ℕ) (item : Item R) (node : List Decision) (l : i < length tree) (is_item : item ≡ get_or tree i item) (at : IsAt tree i node) where
    taken : take (i + 1) tree ≡ take i tree ++ item ∷ []
    taken = take_more tree i item l ∙ ap (λ x. take i tree ++ x ∷ []) (sym is_item)

    -- the next place is of the open node
    pub place_is : placed root (take (i + 1) tree) ≡ placed root (take i tree) ++ (node, item) ∷ []
    place_is = ap (placed root) taken ∙ (one_more root (take i tree) item node (to_come node) (at l)).places

    pub place_among : Contains (places tree) (node, item)
    place_among =
        let whole_is : places tree ≡ placed root (take (i + 1) tree) ++ placed (open_after root (take (i + 1) tree)) (drop (i + 1) tree) = ap places (sym (take-append-drop (i + 1) tree)) ∙ placed-append root (take (i + 1) tree) (drop (i + 1) tree) in
        subst (λ ps. Contains ps (node, item)) (sym (whole_is ∙ ap (λ ps. ps ++ placed (open_after root (take (i + 1) tree)) (drop (i + 1) tree)) place_is))
        (Contains-append_left (placed root (take i tree) ++ (node, item) ∷ []) (placed (open_after root (take (i + 1) tree)) (drop (i + 1) tree)) (node, item)
        (Contains-append_right (placed root (take i tree)) ((node, item) ∷ []) (node, item) (contains_head (node, item) [] (node, item) refl)))

    -- and after it the next node is open
    pub at_more : IsTree tree → (next : List Decision) → IsNextWay (children node item ++ to_come node) next → IsAt tree (i + 1) next
    at_more whole next way = λ m. by m way
      where
        after : open_after root (take (i + 1) tree) ≡ children node item ++ to_come node
        after = ap (open_after root) taken ∙ (one_more root (take i tree) item node (to_come node) (at l)).after

        by : i + 1 < length tree → IsNextWay (children node item ++ to_come node) next → open_after root (take (i + 1) tree) ≡ open_with next
        by m (inl none) = absurd (still_open tree (i + 1) whole m (after ∙ none))
        by m (inr goes) = after ∙ goes

    -- what is true of each place so far and of this one is true of each place up to the next
    pub all_more : (P : List Decision × Item R → Type 0) → All P (placed root (take i tree)) → P (node, item) → All P (placed root (take (i + 1) tree))
    all_more P so_far here = subst (All P) (sym place_is) (All-push P (placed root (take i tree)) (node, item) so_far here)

    -- what is true of each place is true of this one
    pub here_of_all : (P : List Decision × Item R → Type 0) → All P (places tree) → P (node, item)
    here_of_all P all = All-contains P (places tree) (node, item) all place_among

  -- past the last item it is true of each place
  pub all_past : (P : List Decision × Item R → Type 0) (i : ℕ) → length tree ≤ i → All P (placed root (take i tree)) → All P (places tree)
  all_past P i l so_far = subst (λ items. All P (places items)) (take_all i tree l) so_far

-- false is not true
pub no_true : IsTrue false → ⊥
no_true t = false≢true t

pub is_not : (b : Bool) (P : Type 0) → (IsTrue b ↔ P) → IsTrue (not b) ↔ (P → ⊥)
is_not true P h = ((λ t. absurd (no_true t)), (λ n. absurd (n (h.0 refl))))
is_not false P h = ((λ t p. no_true (h.1 p)), (λ n. refl))
