-- Valid certificates can be written.
use Rattle.std.proofs.Common.{◌≡◌, ◌<◌, ◌≤◌, ◌^◌, ℕ, true, List, [], ◌∷◌, length, get_or, map, All, ◌++◌, arith}
use Rattle.std.specs.Prelude.{ℤ, pos, ◌≤ℤ◌, ◌<ℤ◌}
use Rattle.std.specs.declared.cmp.Ordering.{Ordering}
use Rattle.std.proofs.lemmas.List.Elements.{All-nil, All-cons, All-head, All-tail, All-contains}
use Rattle.std.proofs.lemmas.Int.{ints}
use Rattle.std.proofs.lemmas.List.{get_or-map, length-map}
use Rattle.optra_network.specs.Net.{Net}
use Rattle.optra_bid.specs.declared.bids.Bid.{Bid}
use Rattle.optra_walk.specs.Families.{Rows, Entry}
use Rattle.optra_node.specs.declared.Decision.{Decision}
use Rattle.optra_node.specs.declared.Item.{Item}
use Rattle.optra_node.specs.declared.Item.TheVariants.{Split, NoWalk, Forced, Priced}
use Rattle.optra_node.specs.Certificates.{AreAscending, EndsDead, HasPrices, IsFormed, IsFormedItem, IsValid}
use Rattle.optra_node.specs.Duals.{PriceList, IsPrice, ArePrices}
use Rattle.optra_node.specs.Trees.{children, placed, root}
use Rattle.optra_cert.specs.RowTexts.{RowTexts, AreTexts, FitsRow, IsRowOf}
use Rattle.optra_cert.specs.Certs.{Cert, IsListed, IsWritable, IsWritableItem}
use Rattle.optra_cert.specs.Writables.{AreFew}

module _ {R : Type 0} (cmp : R → R → Ordering) (texts : RowTexts R) (net : Net) (rows : Rows R) (Keeps : List Entry → Type 0) (bids : List Bid)
    (are : AreTexts texts) (fits : (row : R) → rows.is_row row ≡ true → FitsRow texts net row) (few : AreFew cmp rows) where
  -- a list of prices is as long as that of its rows
  few_prices : (prices : PriceList R) → AreAscending cmp prices → ArePrices rows prices → length prices < 10 ^ 18
  few_prices prices ascend priced =
      let first : R × ℤ → R = λ e. e.0 in
      let long : length (map first prices) ≡ length prices = length-map prices first in
      let is : (i : ℕ) (d : R) → i < length prices → get_or (map first prices) i d ≡ first (get_or prices i (d, pos 0)) =
      λ i d within. get_or-map first prices i (d, pos 0) d within in
      let below : length (map first prices) < 10 ^ 18 = few (map first prices)
      (λ i j d before within. rw (is i d (omega (arith, long, before, within)), is j d (omega (arith, long, within))) (ascend i j (d, pos 0) before (omega (arith, long, within))))
      (λ k d within. rw (is k d (omega (arith, long, within))) (priced k (d, pos 0) (omega (arith, long, within))).is_row) in
      omega (arith, long, below)

  row_of : (row : R) → rows.is_row row ≡ true → IsRowOf texts net texts.version row
  row_of row is = ((All-contains (λ kind. (1 ≤ kind.version) × (kind.version ≤ texts.version)) texts.kinds (texts.told row).0 are.versions (are.kinds row)).1, fits row is)

  listed : (entry : R × ℤ) → IsPrice rows entry → IsListed texts net texts.version entry
  listed entry price = let low = price.least in let high = price.most in (row_of entry.0 price.is_row, (omega (arith, ints, low), omega (arith, ints, high)))

  item_writable : (node : List Decision) (item : Item R) → EndsDead net rows bids node item → HasPrices rows item → IsFormedItem cmp net (length bids) item → IsWritableItem texts net texts.version item
  item_writable node (Split bid leg) dead prices formed = tt
  item_writable node (NoWalk bid) dead prices formed = tt
  item_writable node (Forced row) dead prices formed = row_of row dead.is_row
  item_writable node (Priced list) dead prices formed =
      (few_prices list formed prices, λ k d within. listed (get_or list k d) (prices k d within))

  items_writable : (ways : List (List Decision)) (tree : List (Item R)) → length (placed ways tree) ≡ length tree
      → All (λ p. EndsDead net rows bids p.0 p.1) (placed ways tree) → All (HasPrices rows) tree → All (IsFormedItem cmp net (length bids)) tree → All (IsWritableItem texts net texts.version) tree
  items_writable ways [] long dead prices formed = All-nil (IsWritableItem texts net texts.version)
  items_writable [] (item ∷ tree) long dead prices formed = absurd (omega (arith, long))
  items_writable (node ∷ ways) (item ∷ tree) long dead prices formed =
      All-cons (IsWritableItem texts net texts.version) item tree
      (item_writable node item (All-head (λ p. EndsDead net rows bids p.0 p.1) (node, item) (placed (children node item ++ ways) tree) dead) (All-head (HasPrices rows) item tree prices) (All-head (IsFormedItem cmp net (length bids)) item tree formed))
      (items_writable (children node item ++ ways) tree (omega (arith, long)) (All-tail (λ p. EndsDead net rows bids p.0 p.1) (node, item) (placed (children node item ++ ways) tree) dead) (All-tail (HasPrices rows) item tree prices) (All-tail (IsFormedItem cmp net (length bids)) item tree formed))

  pub writable : (cert : Cert R) → IsFormed cmp net (length bids) cert.choice cert.tree → IsValid net rows Keeps bids cert.revenue cert.bound cert.choice cert.tree
      → pos 0 ≤ℤ cert.revenue → cert.revenue ≤ℤ cert.bound → cert.bound <ℤ pos (10 ^ 18) → IsWritable cmp texts net (length bids) texts.version cert
  writable cert formed valid low within small = record {
    formed = formed;
    revenue = (low, omega (arith, ints, within, small));
    bound = (omega (arith, ints, low, within), small);
    items = items_writable root cert.tree formed.whole.each valid.dead valid.prices formed.items;
  }
