-- Items that are added to a tree in the making, and the nodes that are then open.
use Rattle.std.proofs.Common.{◌≡◌, List, [], ◌∷◌, ◌++◌, map, refl, sym, ap, ◌∙◌}
use Rattle.std.proofs.lemmas.List.{map-append}
use Rattle.optra_node.specs.declared.Decision.{Decision}
use Rattle.optra_node.specs.declared.Item.{Item}
use Rattle.optra_node.specs.Duals.{PriceList}
use Rattle.optra_node.specs.Trees.{children, open_after, placed}
use Rattle.optra_search.specs.Planner.{OpenNode, opened, priced_open}

pub open_after-append : {R : Type 0} (ways : List (List Decision)) (xs ys : List (Item R)) → open_after ways (xs ++ ys) ≡ open_after (open_after ways xs) ys
open_after-append ways [] ys = refl
open_after-append [] (x ∷ xs) [] = refl
open_after-append [] (x ∷ xs) (y ∷ ys) = refl
open_after-append (way ∷ ways) (x ∷ xs) ys = open_after-append (children way x ++ ways) xs ys

pub placed-append : {R : Type 0} (ways : List (List Decision)) (xs ys : List (Item R)) → placed ways (xs ++ ys) ≡ placed ways xs ++ placed (open_after ways xs) ys
placed-append ways [] ys = refl
placed-append [] (x ∷ xs) [] = refl
placed-append [] (x ∷ xs) (y ∷ ys) = refl
placed-append (way ∷ ways) (x ∷ xs) ys = ap (λ ps. (way, x) ∷ ps) (placed-append (children way x ++ ways) xs ys)

-- the node of an open node
abbrev pub node_of : {R : Type 0} → OpenNode R → List Decision
node_of waiting = waiting.node

opened_nodes : {R : Type 0} (cs : List (List Decision)) (prices : PriceList R) → map node_of (map (λ child. record { node = child; start = prices }) cs) ≡ cs
opened_nodes [] prices = refl
opened_nodes (c ∷ cs) prices = ap (λ ds. c ∷ ds) (opened_nodes cs prices)

module _ {R : Type 0} (ways : List (List Decision)) (items : List (Item R)) (first : OpenNode R) (rest : List (OpenNode R)) (are : map node_of (first ∷ rest) ≡ open_after ways items) (item : Item R) where
  -- after one more item, the nodes that it opens are open before the rest
  pub open_more : (prices : PriceList R) → map node_of (opened first.node item prices ++ rest) ≡ open_after ways (items ++ item ∷ [])
  open_more prices =
      map-append node_of (opened first.node item prices) rest
      ∙ ap (λ nodes. nodes ++ map node_of rest) (opened_nodes (children first.node item) prices)
      ∙ ap (λ nodes. open_after nodes (item ∷ [])) are
      ∙ sym (open_after-append ways items (item ∷ []))

  -- and the item is placed at the first open node
  pub placed_more : placed ways (items ++ item ∷ []) ≡ placed ways items ++ (first.node, item) ∷ []
  placed_more =
      placed-append ways items (item ∷ []) ∙ ap (λ nodes. placed ways items ++ placed nodes (item ∷ [])) (sym are)

-- an open node and the priced leaf with its start prices
abbrev pub leaf_of : {R : Type 0} → OpenNode R → List Decision × Item R
leaf_of waiting = (waiting.node, priced_open waiting)

closing_placed : {R : Type 0} (waiting : List (OpenNode R)) → placed (map node_of waiting) (map priced_open waiting) ≡ map leaf_of waiting
closing_placed [] = refl
closing_placed (w ∷ waiting) = ap (λ ps. leaf_of w ∷ ps) (closing_placed waiting)

closing_open : {R : Type 0} (waiting : List (OpenNode R)) → open_after (map node_of waiting) (map priced_open waiting) ≡ []
closing_open [] = refl
closing_open (w ∷ waiting) = closing_open waiting

module _ {R : Type 0} (ways : List (List Decision)) (items : List (Item R)) (waiting : List (OpenNode R)) (are : map node_of waiting ≡ open_after ways items) where
  -- with a priced leaf for each open node, no node is open
  pub open_at_end : open_after ways (items ++ map priced_open waiting) ≡ []
  open_at_end =
      open_after-append ways items (map priced_open waiting) ∙ ap (λ nodes. open_after nodes (map priced_open waiting)) (sym are) ∙ closing_open waiting

  pub placed_at_end : placed ways (items ++ map priced_open waiting) ≡ placed ways items ++ map leaf_of waiting
  placed_at_end =
      placed-append ways items (map priced_open waiting) ∙ ap (λ nodes. placed ways items ++ placed nodes (map priced_open waiting)) (sym are)
      ∙ ap (λ ps. placed ways items ++ ps) (closing_placed waiting)
