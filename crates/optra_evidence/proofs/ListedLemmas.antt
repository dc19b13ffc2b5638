-- There are prices at nodes as a tree lists them: no two of its leaves have one node.
use Rattle.std.proofs.Common.{◌≡◌, ℕ, suc, Bool, true, false, cond, List, [], ◌∷◌, ◌++◌, length, get_or, refl, sym, ap, ◌∙◌, subst, arith, inl, inr}
use Rattle.std.specs.Prelude.{All, Contains, ◌⊎◌}
use Rattle.std.proofs.lemmas.List.Elements.{All-nil, All-cons, All-append, All-head, All-tail, All-contains}
use Rattle.optra_walk.specs.declared.Leg.{Leg}
use Rattle.optra_walk.specs.Families.{Rows}
use Rattle.optra_node.specs.declared.Decision.{Decision}
use Rattle.optra_node.specs.declared.Item.{Item}
use Rattle.optra_node.specs.declared.Item.TheVariants.{Split, NoWalk, Forced, Priced}
use Rattle.optra_node.specs.Duals.{PriceList, ArePrices}
use Rattle.optra_node.specs.Trees.{decide, decide_not, children, placed, root, places}
use Rattle.optra_node.specs.Certificates.{HasPrices}
use Rattle.optra_node.proofs.LoadLemmas.{contains_cases, contains_head, all_head, all_tail}
use Rattle.optra_node.proofs.TreeLemmas.{placed_in}
use Rattle.optra_evidence.specs.Listed.{AreListed}

-- whether two answers differ
abbrev differ : Bool → Bool → Bool
differ true true = false
differ true false = true
differ false true = true
differ false false = false

-- whether, decision by decision, two nodes part at a place where one says yes and the other no
abbrev part : List Decision → List Decision → Bool
part [] ds = false
part (d ∷ ds) [] = false
part (d ∷ ds) (e ∷ es) = cond (differ d.yes e.yes) true (part ds es)

no_part : (ds : List Decision) → part ds ds ≡ false
no_part [] = refl
no_part (d ∷ ds) = by d.yes (no_part ds)
  where
    by : (b : Bool) → part ds ds ≡ false → cond (differ b b) true (part ds ds) ≡ false
    by true h = h
    by false h = h

-- they part still with more decisions
part_more : (ds es more : List Decision) → part ds es ≡ true → part ds (es ++ more) ≡ true
part_more [] es more h = h
part_more (d ∷ ds) [] more h = cc
part_more (d ∷ ds) (e ∷ es) more h = by (differ d.yes e.yes) h (part_more ds es more)
  where
    by : (b : Bool) → cond b true (part ds es) ≡ true → (part ds es ≡ true → part ds (es ++ more) ≡ true) → cond b true (part ds (es ++ more)) ≡ true
    by true h rest = refl
    by false h rest = rest h

part_first : (ds es more : List Decision) → part ds es ≡ true → part (ds ++ more) es ≡ true
part_first [] es more h = cc
part_first (d ∷ ds) [] more h = cc
part_first (d ∷ ds) (e ∷ es) more h = by (differ d.yes e.yes) h (part_first ds es more)
  where
    by : (b : Bool) → cond b true (part ds es) ≡ true → (part ds es ≡ true → part (ds ++ more) es ≡ true) → cond b true (part (ds ++ more) es) ≡ true
    by true h rest = refl
    by false h rest = rest h

-- the two nodes below a split part
part_split : (ds : List Decision) (bid : ℕ) (leg : Leg) → part (ds ++ decide bid leg ∷ []) (ds ++ decide_not bid leg ∷ []) ≡ true
part_split [] bid leg = refl
part_split (d ∷ ds) bid leg = by d.yes (part_split ds bid leg)
  where
    by : (b : Bool) → part (ds ++ decide bid leg ∷ []) (ds ++ decide_not bid leg ∷ []) ≡ true → cond (differ b b) true (part (ds ++ decide bid leg ∷ []) (ds ++ decide_not bid leg ∷ [])) ≡ true
    by true h = h
    by false h = h

-- a node parts from each of some
abbrev PartsFrom : List (List Decision) → List Decision → Type 0
PartsFrom ways node = All (λ way. part node way ≡ true) ways

-- each node parts from all that come after it
abbrev DoPart : List (List Decision) → Type 0
DoPart [] = Unit {0}
DoPart (node ∷ ways) = PartsFrom ways node × DoPart ways

from_children : {R : Type 0} (node way : List Decision) (item : Item R) → part node way ≡ true → PartsFrom (children way item) node
from_children node way (Split bid leg) h =
    All-cons (λ w. part node w ≡ true) (way ++ decide bid leg ∷ []) ((way ++ decide_not bid leg ∷ []) ∷ []) (part_more node way (decide bid leg ∷ []) h)
    (All-cons (λ w. part node w ≡ true) (way ++ decide_not bid leg ∷ []) [] (part_more node way (decide_not bid leg ∷ []) h) (All-nil (λ w. part node w ≡ true)))
from_children node way (NoWalk bid) h = All-nil (λ w. part node w ≡ true)
from_children node way (Forced row) h = All-nil (λ w. part node w ≡ true)
from_children node way (Priced prices) h = All-nil (λ w. part node w ≡ true)

-- a node that parts from the open ways parts from all that is placed there
parts_placed : {R : Type 0} (node : List Decision) (ways : List (List Decision)) (items : List (Item R)) → PartsFrom ways node → All (λ p. part node p.0 ≡ true) (placed ways items)
parts_placed node ways [] h = All-nil (λ p. part node p.0 ≡ true)
parts_placed node [] (item ∷ items) h = All-nil (λ p. part node p.0 ≡ true)
parts_placed {R} node (way ∷ ways) (item ∷ items) h =
    let P = λ (w : List Decision). part node w ≡ true in
    All-cons (λ (p : List Decision × Item R). part node p.0 ≡ true) (way, item) (placed (children way item ++ ways) items) (All-head P way ways h)
    (parts_placed node (children way item ++ ways) items (All-append P (children way item) ways (from_children node way item (All-head P way ways h)) (All-tail P way ways h)))

do_part_children : {R : Type 0} (way : List Decision) (ways : List (List Decision)) (item : Item R) → PartsFrom ways way → DoPart ways → DoPart (children way item ++ ways)
do_part_children way ways (Split bid leg) from do_part =
    let P = λ (more : List Decision) (w : List Decision). part (way ++ more) w ≡ true in
    let each = λ (more : List Decision). All-weaker_part way ways more from in (
      All-cons (P (decide bid leg ∷ [])) (way ++ decide_not bid leg ∷ []) ways (part_split way bid leg) (each (decide bid leg ∷ [])),
      (each (decide_not bid leg ∷ []), do_part),
    )
  where
    All-weaker_part : (way : List Decision) (ways : List (List Decision)) (more : List Decision) → PartsFrom ways way → PartsFrom ways (way ++ more)
    All-weaker_part way ways more h k d l = part_first way (get_or ways k d) more (h k d l)
do_part_children way ways (NoWalk bid) from do_part = do_part
do_part_children way ways (Forced row) from do_part = do_part
do_part_children way ways (Priced prices) from do_part = do_part

-- the prices of the first leaf that doesn't part from a node
abbrev listed_in : {R : Type 0} → List (List Decision × Item R) → List Decision → PriceList R
listed_in [] node = []
listed_in ((way, Split bid leg) ∷ ps) node = listed_in ps node
listed_in ((way, NoWalk bid) ∷ ps) node = listed_in ps node
listed_in ((way, Forced row) ∷ ps) node = listed_in ps node
listed_in ((way, Priced prices) ∷ ps) node = cond (part way node) (listed_in ps node) prices

found : {R : Type 0} (ways : List (List Decision)) (items : List (Item R)) → DoPart ways → (node : List Decision) (prices : PriceList R) → Contains (placed ways items) (node, Priced prices) → listed_in (placed ways items) node ≡ prices
found ways [] do_part node prices c = absurd (omega (arith, c.1))
found [] (item ∷ items) do_part node prices c = absurd (omega (arith, c.1))
found {R} (way ∷ ways) (item ∷ items) do_part node prices c =
    by item (contains_cases (way, item) (placed (children way item ++ ways) items) (node, Priced prices) c) (found (children way item ++ ways) items (do_part_children way ways item do_part.0 do_part.1) node prices)
    (parts_placed way (children way item ++ ways) items)
  where
    by : (item : Item R) → ◌≡◌ {A = List Decision × Item R} (way, item) (node, Priced prices) ⊎ Contains (placed (children way item ++ ways) items) (node, Priced prices)
        → (Contains (placed (children way item ++ ways) items) (node, Priced prices) → listed_in (placed (children way item ++ ways) items) node ≡ prices)
        → (PartsFrom (children way item ++ ways) way → All (λ p. part way p.0 ≡ true) (placed (children way item ++ ways) items))
        → listed_in ((way, item) ∷ placed (children way item ++ ways) items) node ≡ prices
    by (Split bid leg) (inl e) later parts = let f : Split bid leg ≡ Priced prices = ap (λ (p : List Decision × Item R). p.1) e in cc
    by (NoWalk bid) (inl e) later parts = let f : NoWalk bid ≡ Priced prices = ap (λ (p : List Decision × Item R). p.1) e in cc
    by (Forced row) (inl e) later parts = let f : Forced row ≡ Priced prices = ap (λ (p : List Decision × Item R). p.1) e in cc
    by (Split bid leg) (inr h) later parts = later h
    by (NoWalk bid) (inr h) later parts = later h
    by (Forced row) (inr h) later parts = later h
    by (Priced p) (inl e) later parts =
        let f : Priced p ≡ Priced prices = ap (λ (q : List Decision × Item R). q.1) e in
        let same : p ≡ prices = cc in
        let here : way ≡ node = ap (λ (q : List Decision × Item R). q.0) e in
        let none : part way node ≡ false = subst (λ w. part way w ≡ false) here (no_part way) in
        ap (λ b. cond b (listed_in (placed ways items) node) p) none ∙ same
    by (Priced p) (inr h) later parts =
        let apart : part way node ≡ true = All-contains (λ (q : List Decision × Item R). part way q.0 ≡ true) (placed ways items) (node, Priced prices) (parts do_part.0) h in
        ap (λ b. cond b (listed_in (placed ways items) node) p) apart ∙ later h

module _ {R : Type 0} (rows : Rows R) where
  proper_in : (ps : List (List Decision × Item R)) → All (λ p. HasPrices rows p.1) ps → (node : List Decision) → ArePrices rows (listed_in ps node)
  proper_in [] h node = λ k d l. absurd (omega (arith, l))
  proper_in ((way, Split bid leg) ∷ ps) h node = proper_in ps (All-tail (λ p. HasPrices rows p.1) (way, Split bid leg) ps h) node
  proper_in ((way, NoWalk bid) ∷ ps) h node = proper_in ps (All-tail (λ p. HasPrices rows p.1) (way, NoWalk bid) ps h) node
  proper_in ((way, Forced row) ∷ ps) h node = proper_in ps (All-tail (λ p. HasPrices rows p.1) (way, Forced row) ps h) node
  proper_in ((way, Priced prices) ∷ ps) h node =
      by (part way node) (All-head (λ p. HasPrices rows p.1) (way, Priced prices) ps h) (proper_in ps (All-tail (λ p. HasPrices rows p.1) (way, Priced prices) ps h) node)
    where
      by : (b : Bool) → ArePrices rows prices → ArePrices rows (listed_in ps node) → ArePrices rows (cond b (listed_in ps node) prices)
      by true here later = later
      by false here later = here

  placed_prices : (ways : List (List Decision)) (items : List (Item R)) → All (HasPrices rows) items → All (λ p. HasPrices rows p.1) (placed ways items)
  placed_prices ways [] h = All-nil (λ (p : List Decision × Item R). HasPrices rows p.1)
  placed_prices [] (item ∷ items) h = All-nil (λ (p : List Decision × Item R). HasPrices rows p.1)
  placed_prices (way ∷ ways) (item ∷ items) h =
      All-cons (λ (p : List Decision × Item R). HasPrices rows p.1) (way, item) (placed (children way item ++ ways) items) (All-head (HasPrices rows) item items h)
      (placed_prices (children way item ++ ways) items (All-tail (HasPrices rows) item items h))

  pub listed : (tree : List (Item R)) → All (HasPrices rows) tree → (prices_at : List Decision → PriceList R) × AreListed rows tree prices_at
  listed tree h = (
    listed_in (places tree),
    record {
      at_leaves = found root tree (All-nil (λ w. part [] w ≡ true), tt);
      proper = proper_in (places tree) (placed_prices root tree h);
    },
  )
