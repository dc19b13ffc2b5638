-- Turns over the stack of waiting nodes.
use Rattle.std.proofs.Common.{◌≡◌, ℕ, zero, suc, ◌+◌, ◌-◌, ◌≤◌, ◌<◌, List, [], ◌∷◌, ◌++◌, length, take, Option, None, Some, slice_get, unwrap_or, refl, sym, ap, ◌∙◌, subst, arith}
use Rattle.std.specs.Prelude.{◌⊎◌}
use Rattle.std.specs.Option.{option_to_list}
use Rattle.std.specs.declared.cmp.Ordering.{Ordering}
use Rattle.std.proofs.lemmas.List.{length-append, length-take}
use Rattle.optra_network.specs.Net.{Net}
use Rattle.optra_bid.specs.declared.bids.Bid.{Bid}
use Rattle.optra_walk.specs.declared.Leg.{Leg}
use Rattle.optra_walk.specs.Families.{Rows}
use Rattle.optra_node.specs.declared.Decision.{Decision}
use Rattle.optra_node.specs.declared.Item.{Item}
use Rattle.optra_node.specs.declared.Item.TheVariants.{Split}
use Rattle.optra_node.specs.Duals.{PriceList}
use Rattle.optra_node.specs.Trees.{decide, decide_not}
use Rattle.optra_search.specs.declared.waiting.Waiting.{Waiting}
use Rattle.optra_search.specs.Planner.{State, IsDeadTurn, IsPricedTurn, opened, IsTurn, Turns}
use Rattle.optra_search.specs.Openings.{front, decisions_of, start_below, open_from, Nested, state_of, yes_child, no_child}

-- what is pushed stands in front
pub front-push : {X : Type 0} (xs : List X) (x : X) → front (xs ++ x ∷ []) ≡ x ∷ front xs
front-push [] x = refl
front-push (y ∷ xs) x = ap (λ zs. zs ++ y ∷ []) (front-push xs x)

-- a first part of a list is a first part of a longer one
take_short : {X : Type 0} (m n : ℕ) (xs ys : List X) → m ≤ n → n ≤ length xs → take m (take n xs ++ ys) ≡ take m xs
take_short zero n xs ys l k = refl
take_short (suc m) zero xs ys l k = absurd (omega arith)
take_short (suc m) (suc n) [] ys l k = absurd (omega arith)
take_short (suc m) (suc n) (x ∷ xs) ys l k = ap (λ zs. x ∷ zs) (take_short m n xs ys (omega arith) (omega arith))

take_self : {X : Type 0} (xs : List X) → take (length xs) xs ≡ xs
take_self [] = refl
take_self (x ∷ xs) = ap (λ zs. x ∷ zs) (take_self xs)

pub nested_more : {R : Type 0} (m n : ℕ) (ws : List (Waiting R)) → m ≤ n → Nested m ws → Nested n ws
nested_more m n [] l h = tt
nested_more m n (w ∷ ws) l h = let k = h.0 in (omega arith, h.1)

-- the nodes that share no more than so many decisions stay as they are while these stay
pub open_kept : {R : Type 0} (depth : ℕ) (path more : List Decision) (ws : List (Waiting R)) → depth ≤ length path → Nested depth ws → open_from (take depth path ++ more) ws ≡ open_from path ws
open_kept depth path more [] l h = refl
open_kept depth path more (w ∷ ws) l h =
    let t : take w.depth (take depth path ++ more) ≡ take w.depth path = take_short w.depth depth path more h.0 l in
    let i : open_from (take depth path ++ more) ws ≡ open_from path ws = open_kept depth path more ws l (nested_more w.depth depth ws h.0 h.1) in
    λ j. record { node = t j ++ option_to_list w.decision; start = unwrap_or w.start (start_below ws) } ∷ i j

module _ {R : Type 0} (path : List Decision) (rest : List (Waiting R)) (w : Waiting R) (nested : Nested (length path) (front (rest ++ w ∷ []))) where
  on_top : Nested (length path) (w ∷ front rest)
  on_top = subst (Nested (length path)) (front-push rest w) nested

  -- the top of the stack is the first open node
  pub taken_is : open_from path (front (rest ++ w ∷ [])) ≡ record { node = decisions_of path w; start = unwrap_or w.start (start_below (front rest)) } ∷ open_from path (front rest)
  taken_is = ap (open_from path) (front-push rest w)

  -- and the others stay open when it is entered
  pub rest_stays : open_from (decisions_of path w) (front rest) ≡ open_from path (front rest)
  rest_stays = open_kept w.depth path (option_to_list w.decision) (front rest) on_top.0 on_top.1

  pub rest_nested : Nested (length (decisions_of path w)) (front rest)
  rest_nested =
      let a = length-append (take w.depth path) (option_to_list w.decision) in
      let b = length-take w.depth path in
      let l = on_top.0 in
      nested_more w.depth (length (decisions_of path w)) (front rest) (omega arith) on_top.1

  -- it shares no more than there is
  pub top_within : w.depth ≤ length path
  top_within = on_top.0

module _ {R : Type 0} (path : List Decision) (rest : List (Waiting R)) (bid : ℕ) (leg : Leg) (prices : PriceList R) where
  pushed : List (Waiting R)
  pushed = (rest ++ no_child (length path) bid leg prices ∷ []) ++ yes_child (length path) bid leg ∷ []

  pushed_front : front pushed ≡ yes_child (length path) bid leg ∷ no_child (length path) bid leg prices ∷ front rest
  unfolding pushed
  pushed_front =
      front-push (rest ++ no_child (length path) bid leg prices ∷ []) (yes_child (length path) bid leg)
      ∙ ap (λ ws. yes_child (length path) bid leg ∷ ws) (front-push rest (no_child (length path) bid leg prices))

  -- a split opens its two children
  pub split_opens : open_from path (front ((rest ++ no_child (length path) bid leg prices ∷ []) ++ yes_child (length path) bid leg ∷ [])) ≡ opened path (Split bid leg) prices ++ open_from path (front rest)
  unfolding pushed
  split_opens =
      ap (open_from path) pushed_front
      ∙ (λ i. record { node = take_self path i ++ decide bid leg ∷ []; start = prices } ∷ record { node = take_self path i ++ decide_not bid leg ∷ []; start = prices } ∷ open_from path (front rest))

  pub split_nested : Nested (length path) (front rest) → Nested (length path) (front ((rest ++ no_child (length path) bid leg prices ∷ []) ++ yes_child (length path) bid leg ∷ []))
  unfolding pushed
  split_nested nested = subst (Nested (length path)) (sym pushed_front) (omega arith, (omega arith, nested))

module _ {R : Type 0} (cmp : R → R → Ordering) (net : Net) (rows : Rows R) (bids : List Bid) (steps budget : ℕ) where
  -- one turn, by what becomes of the node that is entered
  pub stack_turn : (path path' : List Decision) (rest waiting' : List (Waiting R)) (w : Waiting R) (items : List (Item R)) (item : Item R) (prices : PriceList R) (old new : List (Option (List Leg))) (count : ℕ)
      → Nested (length path) (front (rest ++ w ∷ [])) → path' ≡ decisions_of path w → count < budget
      → IsDeadTurn cmp net rows bids path' old new item ⊎ IsPricedTurn cmp net rows bids steps (record { node = path'; start = unwrap_or w.start (start_below (front rest)) }) old new item prices
      → open_from path' (front waiting') ≡ opened path' item prices ++ open_from path' (front rest)
      → IsTurn cmp net rows bids steps budget (state_of path (rest ++ w ∷ []) items old count) (state_of path' waiting' (items ++ item ∷ []) new (count + 1))
  stack_turn path path' rest waiting' w items item prices old new count nested entered below becomes opens =
      let stays : open_from path' (front rest) ≡ open_from path (front rest) = ap (λ p. open_from p (front rest)) entered ∙ rest_stays path rest w nested in
      record {
        below = below;
        first = record { node = path'; start = unwrap_or w.start (start_below (front rest)) };
        rest = open_from path (front rest);
        taken = taken_is path rest w nested ∙ (λ i. record { node = sym entered i; start = unwrap_or w.start (start_below (front rest)) } ∷ open_from path (front rest));
        item = item;
        prices = prices;
        becomes = becomes;
        opens = opens ∙ ap (λ nodes. opened path' item prices ++ nodes) stays;
        items = refl;
        count = refl;
      }

  -- one more turn after some
  pub one_turn : (n : ℕ) (a b c : State R) → Turns cmp net rows bids steps budget n a b → IsTurn cmp net rows bids steps budget b c → Turns cmp net rows bids steps budget (n + 1) a c
  one_turn zero a b c e turn =
      let z : suc zero ≡ zero + 1 = omega arith in
      subst (λ (k : ℕ). Turns cmp net rows bids steps budget k a c) z (c, subst (λ (s : State R). IsTurn cmp net rows bids steps budget s c) e turn, refl)
  one_turn (suc n) a b c (next, first, rest) turn =
      let t : Turns cmp net rows bids steps budget (n + 1) next c = one_turn n next b c rest turn in
      let e : suc (n + 1) ≡ suc n + 1 = omega arith in
      subst (λ (k : ℕ). Turns cmp net rows bids steps budget k a c) e (next, first, t)

start_below-append : {R : Type 0} (ws vs : List (Waiting R)) → 0 < length ws → start_below (ws ++ vs) ≡ start_below ws
start_below-append [] vs l = absurd (omega arith)
start_below-append (w ∷ ws) vs l = refl

-- the top of a stack is its last element
pub last_below : {R : Type 0} (ws : List (Waiting R)) (w : Waiting R) → slice_get ws (length ws - 1) ≡ Some w → start_below (front ws) ≡ unwrap_or w.start []
last_below [] w e = cc
last_below (x ∷ []) w e = let s : x ≡ w = inside e in ap (λ (v : Waiting _). unwrap_or v.start []) s
  where
    inside : Some x ≡ Some w → x ≡ w
    inside e = cc
last_below (x ∷ (y ∷ ws)) w e =
    let a = length-append (front ws) (y ∷ []) in
    let at : length (x ∷ (y ∷ ws)) - 1 ≡ suc (length (y ∷ ws) - 1) = omega arith in
    start_below-append (front (y ∷ ws)) (x ∷ []) (omega arith) ∙ last_below (y ∷ ws) w (subst (λ (n : ℕ). slice_get (x ∷ (y ∷ ws)) n ≡ Some w) at e)

pub none_below : {R : Type 0} (ws : List (Waiting R)) → slice_get ws (length ws - 1) ≡ None → start_below (front ws) ≡ []
none_below [] e = refl
none_below {R} (x ∷ ws) e = absurd (past (x ∷ ws) (length (x ∷ ws) - 1) (omega arith) e)
  where
    past : (xs : List (Waiting R)) (k : ℕ) → k < length xs → slice_get xs k ≡ None → ⊥
    past [] k l e = omega arith
    past (y ∷ xs) zero l e = cc
    past (y ∷ xs) (suc k) l e = past xs k (omega arith) e

pub last_start : {R : Type 0} (ws : List (Waiting R)) (w : Waiting R) (start : Option (PriceList R)) → Some w ≡ slice_get ws (length ws - 1) → w.start ≡ start → start_below (front ws) ≡ unwrap_or start []
last_start {R} ws w start e s = last_below ws w (sym e) ∙ ap (λ (o : Option (PriceList R)). unwrap_or o []) s
