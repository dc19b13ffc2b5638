-- One item or price more: the records of the tree, and what a tree keeps.
use Rattle.std.proofs.Common.{◌≡◌, ◌<◌, ◌^◌, ◌+◌, ◌-◌, ◌++◌, ◌⊎◌, inl, inr, ℕ, zero, suc, Bool, true, false, List, [], ◌∷◌, length, get_or, map, flat_map, Option, Some, refl, sym, ap, ◌∙◌, subst, arith, codes, append_assoc, cond, ℤ}
use Rattle.std.specs.Prelude.{All, Ok, Err, slice_get}
use Rattle.std.specs.Option.{option_map_or}
use Rattle.std.specs.Fmt.{decimal}
use Rattle.std.specs.Ordering.{is_lt}
use Rattle.std.specs.declared.cmp.Ordering.{Ordering}
use Rattle.std.specs.declared.cmp.Ordering.TheVariants.{Less, Equal, Greater}
use Rattle.std.proofs.lemmas.Bool.{ne_eqb, cases_eq}
use Rattle.std.proofs.lemmas.List.{append-nil, length_push, map_push}
use Rattle.std.proofs.lemmas.List.Concat.{flat_map-append}
use Rattle.std.proofs.lemmas.List.Elements.{All-nil, All-push}
use Rattle.std.proofs.lemmas.List.Quantifiers.{all_pairs_push}
use Rattle.std.proofs.lemmas.Option.{slice_get-get_or}
use Rattle.optra_network.specs.Net.{Net}
use Rattle.optra_node.specs.declared.Item.{Item}
use Rattle.optra_node.specs.declared.Item.TheVariants.{Priced}
use Rattle.optra_node.specs.Certificates.{AreAscending, IsFormedItem}
use Rattle.optra_node.specs.Duals.{PriceList}
use Rattle.optra_node.specs.Trees.{arity, open_count}
use Rattle.optra_records.specs.Reading.{Record}
use Rattle.optra_cert.specs.RowTexts.{RowTexts}
use Rattle.optra_cert.specs.Certs.{IsListed, IsWritableItem}
use Rattle.optra_cert.specs.CertTexts.{item_records, price_record}
use Rattle.optra_cert.specs.Steps.{TreeSoFar, count_added, filled, is_above, no_tree, price_added}
use Rattle.optra_cert.specs.declared.CertCode.TheVariants as codes

-- ---- nodes that are open

-- an item closes the first open node and opens those below it
open_more : {R : Type 0} (n m : ℕ) (items : List (Item R)) (item : Item R) → open_count n items ≡ Some (suc m) → open_count n (items ++ item ∷ []) ≡ Some (arity item + m)
open_more n m [] item e =
    let same : n ≡ suc m = cc e in
    rw same refl
open_more zero m (x ∷ items) item e = absurd (cc e)
open_more (suc n) m (x ∷ items) item e = open_more (arity x + n) m items item e

-- a leaf whose prices are to come has an open node
abbrev pub pending : ℕ → ℕ
pending zero = 0
pending (suc due) = 1

pending_none : (due : ℕ) → due ≡ 0 → pending due ≡ 0
pending_none zero e = refl
pending_none (suc due) e = absurd (omega (arith, e))

-- one more item
items_more : {R : Type 0} (texts : RowTexts R) (net : Net) (items : List (Item R)) (item : Item R) → flat_map (item_records texts net) (items ++ item ∷ []) ≡ flat_map (item_records texts net) items ++ item_records texts net item
items_more texts net items item =
    flat_map-append (item_records texts net) items (item ∷ []) ∙ ap (λ (t : List Record). flat_map (item_records texts net) items ++ t) (append-nil (item_records texts net item))

-- ---- prices that ascend

less_from : (o : Ordering) → is_lt o ≡ true → o ≡ Less
less_from Less e = refl
less_from Equal e = absurd (cc e)
less_from Greater e = absurd (cc e)

module _ {R : Type 0} (cmp : R → R → Ordering) (trans : (x y z : R) → cmp x y ≡ Less → cmp y z ≡ Less → cmp x z ≡ Less) where
  -- the last row is below
  above_last : (prices : PriceList R) (row : R) (d : R × ℤ) → 0 < length prices → is_above cmp prices row ≡ true → cmp (get_or prices (length prices - 1) d).0 row ≡ Less
  above_last prices row d some above =
      let at : slice_get prices (length prices - 1) ≡ Some (get_or prices (length prices - 1) d) = slice_get-get_or prices (length prices - 1) d (omega (arith, some)) in
      less_from _ (subst (λ (o : Option (R × ℤ)). option_map_or (λ e. is_lt (cmp e.0 row)) o true ≡ true) at above)

  pub ascend_more : (prices : PriceList R) (entry : R × ℤ) → AreAscending cmp prices → is_above cmp prices entry.0 ≡ true → AreAscending cmp (prices ++ entry ∷ [])
  ascend_more prices entry ascend above = all_pairs_push (λ (a b : R × ℤ). cmp a.0 b.0 ≡ Less) prices entry ascend each
    where
      each : (k : ℕ) (d : R × ℤ) → k < length prices → cmp (get_or prices k d).0 entry.0 ≡ Less
      each k d within = by (cases_eq k (length prices - 1))
        where
          last : cmp (get_or prices (length prices - 1) d).0 entry.0 ≡ Less
          last = above_last prices entry.0 d (omega (arith, within)) above

          by : (k ≡ length prices - 1) ⊎ (k ≡ length prices - 1 → ⊥) → cmp (get_or prices k d).0 entry.0 ≡ Less
          by (inl e) = subst (λ (n : ℕ). cmp (get_or prices n d).0 entry.0 ≡ Less) (sym e) last
          by (inr n) = trans (get_or prices k d).0 (get_or prices (length prices - 1) d).0 entry.0 (ascend k (length prices - 1) d (omega (arith, within, n)) (omega (arith, within))) last

-- ---- what was read of a tree

-- a tree so far, by its parts
abbrev pub tree_of : {R : Type 0} → List (Item R) → ℕ → ℕ → PriceList R → TreeSoFar R
tree_of items ways due prices = record { items = items; ways = ways; due = due; prices = prices }

module _ {R : Type 0} (cmp : R → R → Ordering) (texts : RowTexts R) (net : Net) (bids version : ℕ) where
  -- the records of a leaf whose prices are to come
  abbrev pub leaf_records : ℕ → PriceList R → List Record
  leaf_records zero prices = []
  leaf_records (suc due) prices = (codes "priced" ∷ decimal (suc due + length prices) ∷ []) ∷ map (price_record texts net) prices

  abbrev pub tree_records : TreeSoFar R → List Record
  tree_records tree = flat_map (item_records texts net) tree.items ++ leaf_records tree.due tree.prices

  -- what the part of a tree that was read so far keeps
  pub record IsTreeSoFar (tree : TreeSoFar R) : Type 0 where
    pub count : open_count 1 tree.items ≡ Some (pending tree.due + tree.ways)
    pub formed : All (IsFormedItem cmp net bids) tree.items
    pub writable : All (IsWritableItem texts net version) tree.items
    pub listed : All (IsListed texts net version) tree.prices
    pub ascending : AreAscending cmp tree.prices
    pub few : tree.due + length tree.prices < 10 ^ 18
    pub none : tree.due ≡ 0 → tree.prices ≡ []

  no_prices : AreAscending cmp []
  no_prices i j d before within = absurd (omega (arith, within))

  pub no_tree_so_far : IsTreeSoFar no_tree
  no_tree_so_far = record {
    count = refl;
    formed = All-nil (IsFormedItem cmp net bids);
    writable = All-nil (IsWritableItem texts net version);
    listed = All-nil (IsListed texts net version);
    ascending = no_prices;
    few = omega arith;
    none = λ e. refl;
  }

  leaf_none : (due : ℕ) (prices : PriceList R) → due ≡ 0 → leaf_records due prices ≡ []
  leaf_none zero prices e = refl
  leaf_none (suc due) prices e = absurd (omega (arith, e))

  pub none_open : (tree : TreeSoFar R) → tree.due ≡ 0 → tree_records tree ≡ flat_map (item_records texts net) tree.items
  none_open tree e =
      let items : List Record = flat_map (item_records texts net) tree.items in
      ap (λ (t : List Record). items ++ t) (leaf_none tree.due tree.prices e) ∙ append-nil items

  -- an item is added where no price is to come
  abbrev pub with_item : TreeSoFar R → Item R → ℕ → TreeSoFar R
  with_item tree item ways = record tree { items = tree.items ++ item ∷ []; ways = ways }

  pub item_added : (tree : TreeSoFar R) (item : Item R) (ways w : ℕ) → IsTreeSoFar tree → tree.due ≡ 0 → tree.ways ≡ suc w → ways ≡ arity item + w
      → IsFormedItem cmp net bids item → IsWritableItem texts net version item → IsTreeSoFar (with_item tree item ways)
  item_added tree item ways w are due open_ next formed writable =
      let closed = pending_none tree.due due in
      record {
        count = open_more 1 w tree.items item (are.count ∙ ap Some (omega (arith, closed, open_))) ∙ ap Some (omega (arith, closed, next));
        formed = All-push (IsFormedItem cmp net bids) tree.items item are.formed formed;
        writable = All-push (IsWritableItem texts net version) tree.items item are.writable writable;
        listed = are.listed;
        ascending = are.ascending;
        few = are.few;
        none = are.none;
      }

  pub item_added_records : (tree : TreeSoFar R) (item : Item R) (ways : ℕ) → tree.due ≡ 0 → tree_records (with_item tree item ways) ≡ tree_records tree ++ item_records texts net item
  item_added_records tree item ways due =
      none_open (with_item tree item ways) due ∙ items_more texts net tree.items item ∙ ap (λ (t : List Record). t ++ item_records texts net item) (sym (none_open tree due))

  -- ---- a leaf of so many prices

  filled_none : (tree : TreeSoFar R) → tree.due ≡ 0 → filled tree ≡ record tree { items = tree.items ++ Priced tree.prices ∷ []; prices = [] }
  filled_none tree e = rw e refl

  pub filled_open : (tree : TreeSoFar R) (left : ℕ) → tree.due ≡ suc left → filled tree ≡ tree
  filled_open tree left e = rw (ne_eqb tree.due 0 (λ none. absurd (omega (arith, none, e)))) refl

  -- what a tree keeps at an end of a leaf
  closed_leaf : (items : List (Item R)) (ways : ℕ) (prices : PriceList R) → open_count 1 items ≡ Some (suc ways) → All (IsFormedItem cmp net bids) items → All (IsWritableItem texts net version) items
      → All (IsListed texts net version) prices → AreAscending cmp prices → length prices < 10 ^ 18 → IsTreeSoFar (tree_of (items ++ Priced prices ∷ []) ways 0 [])
  closed_leaf items ways prices count formed writable listed ascending few = record {
    count = open_more 1 ways items (Priced prices) count;
    formed = All-push (IsFormedItem cmp net bids) items (Priced prices) formed ascending;
    writable = All-push (IsWritableItem texts net version) items (Priced prices) writable (few, listed);
    listed = All-nil (IsListed texts net version);
    ascending = no_prices;
    few = omega arith;
    none = λ e. refl;
  }

  open_leaf : (items : List (Item R)) (ways left : ℕ) (prices : PriceList R) → open_count 1 items ≡ Some (suc ways) → All (IsFormedItem cmp net bids) items → All (IsWritableItem texts net version) items
      → All (IsListed texts net version) prices → AreAscending cmp prices → suc left + length prices < 10 ^ 18 → IsTreeSoFar (tree_of items ways (suc left) prices)
  open_leaf items ways left prices count formed writable listed ascending few = record {
    count = count ∙ ap Some (omega arith);
    formed = formed;
    writable = writable;
    listed = listed;
    ascending = ascending;
    few = few;
    none = λ e. absurd (omega (arith, e));
  }

  -- a leaf with so many prices to come
  leaf_so_far : (items : List (Item R)) (ways left : ℕ) (prices : PriceList R) → open_count 1 items ≡ Some (suc ways) → All (IsFormedItem cmp net bids) items → All (IsWritableItem texts net version) items
      → All (IsListed texts net version) prices → AreAscending cmp prices → left + length prices < 10 ^ 18 → IsTreeSoFar (filled (tree_of items ways left prices))
  leaf_so_far items ways zero prices count formed writable listed ascending few = closed_leaf items ways prices count formed writable listed ascending (omega (arith, few))
  leaf_so_far items ways (suc left) prices count formed writable listed ascending few =
      subst IsTreeSoFar (sym (filled_open (tree_of items ways (suc left) prices) left refl)) (open_leaf items ways left prices count formed writable listed ascending few)

  leaf_text : ℕ → PriceList R → List Record
  leaf_text count prices = (codes "priced" ∷ decimal count ∷ []) ∷ map (price_record texts net) prices

  leaf_so_far_records : (items : List (Item R)) (ways left : ℕ) (prices : PriceList R)
      → tree_records (filled (tree_of items ways left prices)) ≡ flat_map (item_records texts net) items ++ leaf_text (left + length prices) prices
  unfolding leaf_text
  leaf_so_far_records items ways zero prices =
      append-nil (flat_map (item_records texts net) (items ++ Priced prices ∷ []))
      ∙ items_more texts net items (Priced prices)
      ∙ ap (λ (n : ℕ). flat_map (item_records texts net) items ++ (codes "priced" ∷ decimal n ∷ []) ∷ map (price_record texts net) prices) (omega arith)
  leaf_so_far_records items ways (suc left) prices = ap tree_records (filled_open (tree_of items ways (suc left) prices) left refl)

  pub count_added_so_far : (tree : TreeSoFar R) (count w : ℕ) → IsTreeSoFar tree → tree.due ≡ 0 → tree.ways ≡ suc w → count < 10 ^ 18 → IsTreeSoFar (count_added tree count)
  count_added_so_far tree count w are due open_ few =
      let closed = pending_none tree.due due in
      let none = ap length (are.none due) in
      leaf_so_far tree.items (tree.ways - 1) count tree.prices (are.count ∙ ap Some (omega (arith, closed, open_))) are.formed are.writable are.listed are.ascending (omega (arith, none, few))

  pub count_added_records : (tree : TreeSoFar R) (count : ℕ) → IsTreeSoFar tree → tree.due ≡ 0 → tree_records (count_added tree count) ≡ tree_records tree ++ (codes "priced" ∷ decimal count ∷ []) ∷ []
  unfolding leaf_text
  count_added_records tree count are due =
      let items : List Record = flat_map (item_records texts net) tree.items in
      let all : count + 0 ≡ count = omega arith in
      leaf_so_far_records tree.items (tree.ways - 1) count tree.prices
      ∙ ap (λ (prices : PriceList R). items ++ leaf_text (count + length prices) prices) (are.none due)
      ∙ ap (λ (n : ℕ). items ++ (codes "priced" ∷ decimal n ∷ []) ∷ []) all
      ∙ ap (λ (t : List Record). t ++ (codes "priced" ∷ decimal count ∷ []) ∷ []) (sym (none_open tree due))

  -- ---- a price of a leaf

  abbrev pub with_price : TreeSoFar R → R × ℤ → TreeSoFar R
  with_price tree entry = filled (record tree { due = tree.due - 1; prices = tree.prices ++ entry ∷ [] })

  pub price_added_is : (tree : TreeSoFar R) (entry : R × ℤ) (next : TreeSoFar R) → price_added cmp tree entry ≡ Ok next → (is_above cmp tree.prices entry.0 ≡ true) × (next ≡ with_price tree entry)
  unfolding price_added
  price_added_is tree entry next e = by (is_above cmp tree.prices entry.0) refl e
    where
      by : (b : Bool) → is_above cmp tree.prices entry.0 ≡ b → cond b (Ok (with_price tree entry)) (Err codes.Order) ≡ Ok next → (is_above cmp tree.prices entry.0 ≡ true) × (next ≡ with_price tree entry)
      by true f e = let same : with_price tree entry ≡ next = cc e in (f, sym same)
      by false f e = absurd (cc e)

  pub price_add_back : (tree : TreeSoFar R) (entry : R × ℤ) → is_above cmp tree.prices entry.0 ≡ true → price_added cmp tree entry ≡ Ok (with_price tree entry)
  unfolding price_added
  price_add_back tree entry above = rw above refl

  open_pending : (due left : ℕ) → due ≡ suc left → pending due ≡ 1
  open_pending zero left e = absurd (omega (arith, e))
  open_pending (suc due) left e = refl

  pub with_price_so_far : (trans : (x y z : R) → cmp x y ≡ Less → cmp y z ≡ Less → cmp x z ≡ Less) (tree : TreeSoFar R) (entry : R × ℤ) (left : ℕ) → IsTreeSoFar tree → tree.due ≡ suc left
      → IsListed texts net version entry → is_above cmp tree.prices entry.0 ≡ true → IsTreeSoFar (with_price tree entry)
  with_price_so_far trans tree entry left are due listed above =
      let one = open_pending tree.due left due in
      let long = length_push tree.prices entry in
      let few = are.few in
      leaf_so_far tree.items tree.ways (tree.due - 1) (tree.prices ++ entry ∷ []) (are.count ∙ ap Some (omega (arith, one))) are.formed are.writable
      (All-push (IsListed texts net version) tree.prices entry are.listed listed) (ascend_more cmp trans tree.prices entry are.ascending above) (omega (arith, long, few, due))

  open_text : (due left : ℕ) (prices : PriceList R) → due ≡ suc left → leaf_records due prices ≡ leaf_text (due + length prices) prices
  unfolding leaf_text
  open_text zero left prices e = absurd (omega (arith, e))
  open_text (suc due) left prices e = refl

  leaf_push : (n m : ℕ) (prices : PriceList R) (entry : R × ℤ) → n ≡ m → leaf_text n (prices ++ entry ∷ []) ≡ leaf_text m prices ++ price_record texts net entry ∷ []
  unfolding leaf_text
  leaf_push n m prices entry same = λ i. (codes "priced" ∷ decimal (same i) ∷ []) ∷ map_push (price_record texts net) prices entry i

  pub with_price_records : (tree : TreeSoFar R) (entry : R × ℤ) (left : ℕ) → tree.due ≡ suc left → tree_records (with_price tree entry) ≡ tree_records tree ++ price_record texts net entry ∷ []
  with_price_records tree entry left due =
      let items : List Record = flat_map (item_records texts net) tree.items in
      let long = length_push tree.prices entry in
      let same : tree.due - 1 + length (tree.prices ++ entry ∷ []) ≡ tree.due + length tree.prices = omega (arith, long, due) in
      leaf_so_far_records tree.items tree.ways (tree.due - 1) (tree.prices ++ entry ∷ [])
      ∙ ap (λ (t : List Record). items ++ t)
      (leaf_push (tree.due - 1 + length (tree.prices ++ entry ∷ [])) (tree.due + length tree.prices) tree.prices entry same
      ∙ ap (λ (t : List Record). t ++ price_record texts net entry ∷ []) (sym (open_text tree.due left tree.prices due)))
      ∙ sym (append_assoc items (leaf_records tree.due tree.prices) (price_record texts net entry ∷ []))
