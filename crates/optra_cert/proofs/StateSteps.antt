-- What was read so far is what the records so far are written of.
use Rattle.std.proofs.Common.{◌≡◌, ◌<◌, ◌^◌, ◌+◌, ◌-◌, ◌++◌, ◌==◌, ◌&&◌, ℕ, suc, Bool, true, false, List, [], ◌∷◌, drop, refl, sym, ap, ◌∙◌, subst, arith, codes, append_assoc, cond, ℤ, bytes_eq}
use Rattle.std.specs.Prelude.{Result, Ok, Err}
use Rattle.std.specs.Fmt.{decimal, signed_decimal}
use Rattle.std.specs.declared.cmp.Ordering.{Ordering}
use Rattle.std.specs.declared.cmp.Ordering.TheVariants.{Less}
use Rattle.std.proofs.lemmas.Bool.{eqb-true, eqb-false, and_parts, false≢true}
use Rattle.std.proofs.lemmas.List.{append-nil}
use Rattle.std.proofs.lemmas.Slice.Eq.{bytes_eq-Decides}
use Rattle.optra_network.specs.Net.{Net, IsBuilt}
use Rattle.optra_node.specs.declared.Item.{Item}
use Rattle.optra_node.specs.declared.Item.TheVariants.{Split, NoWalk, Forced}
use Rattle.optra_records.specs.Reading.{Field, Record}
use Rattle.optra_cert.specs.RowTexts.{RowTexts, AreApart, AreTexts, read_row}
use Rattle.optra_cert.specs.Certs.{IsAmount}
use Rattle.optra_cert.specs.CertTexts.{head_records, item_records, leg_record, leg_records}
use Rattle.optra_cert.specs.Forms.{field_at}
use Rattle.optra_cert.specs.Outcomes.{◌>>=◌, row_or_fault}
use Rattle.optra_cert.specs.RecordFields.{amount_told, bid_told, count_told, leg_told, price_told}
use Rattle.optra_cert.specs.Steps.{State, TreeSoFar, WalksSoFar, body_step, bound_step, count_added, is_whole, item_step, leaf_added, leg_added, no_tree, no_walks, price_added, revenue_step, split_added, step, step_at, tree_step}
use Rattle.optra_cert.specs.declared.CertCode.{CertCode}
use Rattle.optra_cert.specs.declared.CertCode.TheVariants as code
use Rattle.optra_cert.specs.declared.read_parts.Place.{Place}
use Rattle.optra_cert.specs.declared.read_parts.Place.TheVariants as place
use Rattle.optra_cert.proofs.LegTexts.{leg_is}
use Rattle.optra_cert.proofs.RowLemmas.{row_told}
use Rattle.optra_cert.proofs.TellLemmas.{amount_is, bid_is, bind_ok, count_is, price_is, row_read}
use Rattle.optra_cert.proofs.TreeSteps.{IsTreeSoFar, count_added_records, count_added_so_far, item_added, item_added_records, price_added_is, tree_records, with_price_records, with_price_so_far, no_tree_so_far}
use Rattle.optra_cert.proofs.WalkSteps.{AreWalksSoFar, added_is, no_walks_records, no_walks_so_far, with_leg_records, with_leg_so_far}

-- a word that is another's bytes
pub same_word : (word other : Field) → bytes_eq word other ≡ true → word ≡ other
same_word word other e = (bytes_eq-Decides word other).0 e

-- a record with a word has fields behind it
pub word_first : (fields : Record) (byte : ℕ) (word : Field) → field_at fields 0 ≡ byte ∷ word → fields ≡ (byte ∷ word) ∷ drop 1 fields
word_first [] byte word e = absurd (cc e)
word_first (field ∷ fields) byte word e = ap (λ (f : Field). f ∷ fields) e

-- a tree that isn't whole, and of which no price is to come, has an open node
pub node_open : {R : Type 0} (tree : TreeSoFar R) → is_whole tree ≡ false → tree.due ≡ 0 → tree.ways ≡ suc (tree.ways - 1)
node_open tree open_ none = by (tree.ways == 0) refl
  where
    by : (b : Bool) → (tree.ways == 0) ≡ b → tree.ways ≡ suc (tree.ways - 1)
    by true e = let whole : is_whole tree ≡ true = rw (e, none) refl in absurd (false≢true (sym open_ ∙ whole))
    by false e = let some = eqb-false tree.ways 0 e in omega (arith, some)

module _ {R : Type 0} (cmp : R → R → Ordering) (trans : (x y z : R) → cmp x y ≡ Less → cmp y z ≡ Less → cmp x z ≡ Less)
    (texts : RowTexts R) (apart : AreApart texts.kinds) (are : AreTexts texts) (net : Net) (built : IsBuilt net) (bids : ℕ) (few : bids < 10 ^ 18) (version : ℕ) where
  abbrev SoFar : TreeSoFar R → Type 0
  SoFar tree = IsTreeSoFar cmp texts net bids version tree

  abbrev text_of : TreeSoFar R → List Record
  text_of tree = tree_records cmp texts net bids version tree

  -- a tree grows by a record
  abbrev pub Grows : TreeSoFar R → Field → Record → TreeSoFar R → Type 0
  Grows tree word fields next = SoFar next × (text_of next ≡ text_of tree ++ (word ∷ fields) ∷ [])

  -- by a record that is written of the item
  by_item : (tree : TreeSoFar R) (word : Field) (fields : Record) (item : Item R) (ways w : ℕ) → SoFar (record tree { items = tree.items ++ item ∷ []; ways = ways }) → tree.due ≡ 0 → item_records texts net item ≡ (word ∷ fields) ∷ []
      → Grows tree word fields (record tree { items = tree.items ++ item ∷ []; ways = ways })
  by_item tree word fields item ways w so_far none text =
      (so_far, item_added_records cmp texts net bids version tree item ways none ∙ ap (λ (t : List Record). text_of tree ++ t) text)

  module _ (tree : TreeSoFar R) (so_far : SoFar tree) (none : tree.due ≡ 0) (w : ℕ) (open_ : tree.ways ≡ suc w) (word : Field) (fields : Record) (next : TreeSoFar R) where
    split_grows : word ≡ codes "split" → (leg_told net bids fields >>= λ told. Ok (split_added tree told.0 told.1)) ≡ Ok next → Grows tree word fields next
    split_grows same e =
        let h = bind_ok (leg_told net bids fields) (λ told. Ok (split_added tree told.0 told.1)) next e in
        let is : split_added tree h.0.0 h.0.1 ≡ next = cc h.2 in
        let leg = leg_is net built bids few fields h.0 h.1 in
        let text : leg_record net (codes "split") h.0.0 h.0.1 ∷ [] ≡ (word ∷ fields) ∷ [] = λ i. (sym same i ∷ leg.2 i) ∷ [] in
        subst (Grows tree word fields) is
        (by_item tree word fields (Split h.0.0 h.0.1) (tree.ways + 1) w
        (item_added cmp texts net bids version tree (Split h.0.0 h.0.1) (tree.ways + 1) w so_far none open_ (omega (arith, open_)) (leg.0, leg.1) tt) none text)

    nowalk_grows : word ≡ codes "nowalk" → (bid_told bids fields >>= λ bid. Ok (leaf_added tree (NoWalk bid))) ≡ Ok next → Grows tree word fields next
    nowalk_grows same e =
        let h = bind_ok (bid_told bids fields) (λ bid. Ok (leaf_added tree (NoWalk bid))) next e in
        let is : leaf_added tree (NoWalk h.0) ≡ next = cc h.2 in
        let bid = bid_is bids fields h.0 few h.1 in
        let text : (codes "nowalk" ∷ decimal (h.0 + 1) ∷ []) ∷ [] ≡ (word ∷ fields) ∷ [] = λ i. (sym same i ∷ bid.1 i) ∷ [] in
        subst (Grows tree word fields) is
        (by_item tree word fields (NoWalk h.0) (tree.ways - 1) w
        (item_added cmp texts net bids version tree (NoWalk h.0) (tree.ways - 1) w so_far none open_ (omega (arith, open_)) bid.0 tt) none text)

    forced_grows : word ≡ codes "forced" → (row_or_fault (read_row texts net version fields) >>= λ row. Ok (leaf_added tree (Forced row))) ≡ Ok next → Grows tree word fields next
    forced_grows same e =
        let h = bind_ok (row_or_fault (read_row texts net version fields)) (λ row. Ok (leaf_added tree (Forced row))) next e in
        let is : leaf_added tree (Forced h.0) ≡ next = cc h.2 in
        let row = row_told texts apart are net built version fields h.0 (row_read (read_row texts net version fields) h.0 h.1) in
        let text : item_records texts net (Forced h.0) ≡ (word ∷ fields) ∷ [] = λ i. (sym same i ∷ row.1 i) ∷ [] in
        subst (Grows tree word fields) is
        (by_item tree word fields (Forced h.0) (tree.ways - 1) w
        (item_added cmp texts net bids version tree (Forced h.0) (tree.ways - 1) w so_far none open_ (omega (arith, open_)) tt row.0) none text)

    priced_grows : word ≡ codes "priced" → (count_told fields >>= λ count. Ok (count_added tree count)) ≡ Ok next → Grows tree word fields next
    priced_grows same e =
        let h = bind_ok (count_told fields) (λ count. Ok (count_added tree count)) next e in
        let is : count_added tree h.0 ≡ next = cc h.2 in
        let count = count_is fields h.0 h.1 in
        let text : (codes "priced" ∷ decimal h.0 ∷ []) ∷ [] ≡ (word ∷ fields) ∷ [] = λ i. (sym same i ∷ count.1 i) ∷ [] in
        subst (Grows tree word fields) is (
          count_added_so_far cmp texts net bids version tree h.0 w so_far none open_ count.0,
          count_added_records cmp texts net bids version tree h.0 so_far none ∙ ap (λ (t : List Record). text_of tree ++ t) text,
        )

    item_grows : item_step cmp texts net bids version tree word fields ≡ Ok next → Grows tree word fields next
    unfolding item_step
    item_grows e = by (bytes_eq word (codes "split")) refl (bytes_eq word (codes "nowalk")) refl (bytes_eq word (codes "forced")) refl (bytes_eq word (codes "priced")) refl e
      where
        by : (a : Bool) → bytes_eq word (codes "split") ≡ a → (b : Bool) → bytes_eq word (codes "nowalk") ≡ b → (c : Bool) → bytes_eq word (codes "forced") ≡ c → (d : Bool) → bytes_eq word (codes "priced") ≡ d
            → cond a (leg_told net bids fields >>= λ told. Ok (split_added tree told.0 told.1))
            (cond b (bid_told bids fields >>= λ bid. Ok (leaf_added tree (NoWalk bid)))
            (cond c (row_or_fault (read_row texts net version fields) >>= λ row. Ok (leaf_added tree (Forced row)))
            (cond d (count_told fields >>= λ count. Ok (count_added tree count)) (Err code.Record)))) ≡ Ok next
            → Grows tree word fields next
        by true p b q c r d s e = split_grows (same_word word (codes "split") p) e
        by false p true q c r d s e = nowalk_grows (same_word word (codes "nowalk") q) e
        by false p false q true r d s e = forced_grows (same_word word (codes "forced") r) e
        by false p false q false r true s e = priced_grows (same_word word (codes "priced") s) e
        by false p false q false r false s e = absurd (cc e)

  price_grows : (tree : TreeSoFar R) → SoFar tree → (left : ℕ) → tree.due ≡ suc left → (word : Field) (fields : Record) (next : TreeSoFar R)
      → word ≡ codes "price" → (price_told texts net version fields >>= price_added cmp tree) ≡ Ok next → Grows tree word fields next
  price_grows tree so_far left due word fields next same e =
      let h = bind_ok (price_told texts net version fields) (price_added cmp tree) next e in
      let entry = price_is texts apart are net built version fields h.0 h.1 in
      let added = price_added_is cmp texts net bids version tree h.0 next h.2 in
      let text = with_price_records cmp texts net bids version tree h.0 left due in
      subst (Grows tree word fields) (sym added.1) (
        with_price_so_far cmp texts net bids version trans tree h.0 left so_far due entry.0 added.0,
        text ∙ (λ i. text_of tree ++ (sym same i ∷ entry.1 i) ∷ []),
      )

  pub tree_grows : (tree : TreeSoFar R) (word : Field) (fields : Record) (next : TreeSoFar R) → SoFar tree → tree_step cmp texts net bids version tree word fields ≡ Ok next → Grows tree word fields next
  unfolding tree_step
  tree_grows tree word fields next so_far e = by (is_whole tree) refl (tree.due == 0) refl (bytes_eq word (codes "price")) refl e
    where
      by : (a : Bool) → is_whole tree ≡ a → (b : Bool) → (tree.due == 0) ≡ b → (c : Bool) → bytes_eq word (codes "price") ≡ c
          → cond a (Err code.Order) (cond b (item_step cmp texts net bids version tree word fields) (cond c (price_told texts net version fields >>= price_added cmp tree) (Err code.Record))) ≡ Ok next
          → Grows tree word fields next
      by true p b q c r e = absurd (cc e)
      by false p true q c r e =
          let none = eqb-true tree.due 0 q in
          item_grows tree so_far none (tree.ways - 1) (node_open tree p none) word fields next e
      by false p false q true r e =
          let some = eqb-false tree.due 0 q in
          price_grows tree so_far (tree.due - 1) (omega (arith, some)) word fields next (same_word word (codes "price") r) e
      by false p false q false r e = absurd (cc e)

  -- a record without fields is none of the tree
  no_empty : (tree : TreeSoFar R) (fields : Record) (next : TreeSoFar R) → tree_step cmp texts net bids version tree [] fields ≡ Ok next → ⊥
  unfolding tree_step item_step
  no_empty tree fields next e = by (is_whole tree) (tree.due == 0) e
    where
      by : (a b : Bool) → ◌≡◌ {A = Result (TreeSoFar R) CertCode} (cond a (Err code.Order) (cond b (Err code.Record) (Err code.Record))) (Ok next) → ⊥
      by true b e = cc e
      by false true e = cc e
      by false false e = cc e

  grows_by : (tree : TreeSoFar R) (fields : Record) (next : TreeSoFar R) → SoFar tree → tree_step cmp texts net bids version tree (field_at fields 0) (drop 1 fields) ≡ Ok next
      → SoFar next × (text_of next ≡ text_of tree ++ fields ∷ [])
  grows_by tree [] next so_far e = absurd (no_empty tree [] next e)
  grows_by tree (word ∷ fields) next so_far e = tree_grows tree word fields next so_far e

  -- ---- the records so far

  abbrev first_record : Record
  first_record = codes "optra-certificate" ∷ decimal version ∷ []

  abbrev revenue_record : ℤ → Record
  revenue_record amount = codes "revenue" ∷ signed_decimal amount ∷ []

  abbrev legs_text : State R → List Record
  legs_text s = head_records version s.revenue s.bound ++ leg_records net 0 s.walks.choice

  -- the records so far are written of what is known, which is formed
  abbrev pub IsSoFar : Place → State R → List Record → Type 0
  IsSoFar place.Revenue s before = (before ≡ first_record ∷ []) × (s.walks ≡ no_walks bids) × (s.tree ≡ no_tree)
  IsSoFar place.Bound s before = (before ≡ first_record ∷ revenue_record s.revenue ∷ []) × IsAmount s.revenue × (s.walks ≡ no_walks bids) × (s.tree ≡ no_tree)
  IsSoFar place.Legs s before = (before ≡ legs_text s) × (IsAmount s.revenue × IsAmount s.bound) × AreWalksSoFar net bids s.walks × (s.tree ≡ no_tree)
  IsSoFar place.Tree s before = (before ≡ legs_text s ++ text_of s.tree) × (IsAmount s.revenue × IsAmount s.bound) × AreWalksSoFar net bids s.walks × SoFar s.tree

  module _ (s : State R) (before : List Record) (fields : Record) (next : State R) where
    Next : Type 0
    Next = IsSoFar next.place next (before ++ fields ∷ [])

    abbrev word : Field
    word = field_at fields 0

    revenue_next : IsSoFar place.Revenue s before → revenue_step s word (drop 1 fields) ≡ Ok next → Next
    unfolding revenue_step Next
    revenue_next so_far e = by (bytes_eq word (codes "revenue")) refl e
      where
        by : (a : Bool) → bytes_eq word (codes "revenue") ≡ a
            → cond a (amount_told (drop 1 fields) >>= λ amount. Ok (record s { place = place.Bound; revenue = amount })) (Err code.Record) ≡ Ok next → IsSoFar next.place next (before ++ fields ∷ [])
        by true p e =
            let h = bind_ok (amount_told (drop 1 fields)) (λ amount. Ok (record s { place = place.Bound; revenue = amount })) next e in
            let is : record s { place = place.Bound; revenue = h.0 } ≡ next = cc h.2 in
            let amount = amount_is (drop 1 fields) h.0 h.1 in
            let own : fields ≡ revenue_record h.0 = word_first fields _ _ (same_word word (codes "revenue") p) ∙ ap (λ (t : Record). codes "revenue" ∷ t) (sym amount.1) in
            let text : before ++ fields ∷ [] ≡ first_record ∷ revenue_record h.0 ∷ [] = λ i. so_far.0 i ++ own i ∷ [] in
            subst (λ (n : State R). IsSoFar n.place n (before ++ fields ∷ [])) is (text, amount.0, so_far.1, so_far.2)
        by false p e = absurd (cc e)

    bound_next : IsSoFar place.Bound s before → bound_step s word (drop 1 fields) ≡ Ok next → Next
    unfolding bound_step Next
    bound_next so_far e = by (bytes_eq word (codes "bound")) refl e
      where
        by : (a : Bool) → bytes_eq word (codes "bound") ≡ a
            → cond a (amount_told (drop 1 fields) >>= λ amount. Ok (record s { place = place.Legs; bound = amount })) (Err code.Record) ≡ Ok next → IsSoFar next.place next (before ++ fields ∷ [])
        by true p e =
            let h = bind_ok (amount_told (drop 1 fields)) (λ amount. Ok (record s { place = place.Legs; bound = amount })) next e in
            let is : record s { place = place.Legs; bound = h.0 } ≡ next = cc h.2 in
            let amount = amount_is (drop 1 fields) h.0 h.1 in
            let own : fields ≡ codes "bound" ∷ signed_decimal h.0 ∷ [] = word_first fields _ _ (same_word word (codes "bound") p) ∙ ap (λ (t : Record). codes "bound" ∷ t) (sym amount.1) in
            let head : before ++ fields ∷ [] ≡ head_records version s.revenue h.0 = λ i. so_far.0 i ++ own i ∷ [] in
            let no_legs : leg_records net 0 s.walks.choice ≡ [] = ap (λ (w : WalksSoFar). leg_records net 0 w.choice) so_far.2 ∙ no_walks_records net bids in
            let text : before ++ fields ∷ [] ≡ head_records version s.revenue h.0 ++ leg_records net 0 s.walks.choice =
            head ∙ sym (append-nil (head_records version s.revenue h.0)) ∙ ap (λ (t : List Record). head_records version s.revenue h.0 ++ t) (sym no_legs) in
            let walks : AreWalksSoFar net bids s.walks = subst (AreWalksSoFar net bids) (sym so_far.2) (no_walks_so_far net bids) in
            subst (λ (n : State R). IsSoFar n.place n (before ++ fields ∷ [])) is (text, (so_far.1, amount.0), walks, so_far.3)
        by false p e = absurd (cc e)

    leg_next : s.place ≡ place.Legs → IsSoFar place.Legs s before → word ≡ codes "leg"
        → (leg_told net bids (drop 1 fields) >>= λ told. leg_added s.walks told.0 told.1 >>= λ walks. Ok (record s { walks = walks })) ≡ Ok next → Next
    unfolding Next
    leg_next at so_far same e =
        let h = bind_ok (leg_told net bids (drop 1 fields)) (λ told. leg_added s.walks told.0 told.1 >>= λ walks. Ok (record s { walks = walks })) next e in
        let k = bind_ok (leg_added s.walks h.0.0 h.0.1) (λ walks. Ok (record s { walks = walks })) next h.2 in
        let is : record s { walks = k.0 } ≡ next = cc k.2 in
        let leg = leg_is net built bids few (drop 1 fields) h.0 h.1 in
        let added = added_is net s.walks h.0.0 h.0.1 k.0 k.1 in
        let walks : AreWalksSoFar net bids k.0 = subst (AreWalksSoFar net bids) (sym added.1) (with_leg_so_far net bids s.walks h.0.0 h.0.1 so_far.2 added.0 leg.0 leg.1) in
        let own : fields ≡ leg_record net (codes "leg") h.0.0 h.0.1 = word_first fields _ _ same ∙ ap (λ (t : Record). codes "leg" ∷ t) (sym leg.2) in
        let legs : leg_records net 0 k.0.choice ≡ leg_records net 0 s.walks.choice ++ fields ∷ [] =
        ap (λ (w : WalksSoFar). leg_records net 0 w.choice) added.1 ∙ with_leg_records net bids s.walks h.0.0 h.0.1 so_far.2 added.0 leg.0 ∙ ap (λ (t : Record). leg_records net 0 s.walks.choice ++ t ∷ []) (sym own) in
        let head : List Record = head_records version s.revenue s.bound in
        let text : before ++ fields ∷ [] ≡ head ++ leg_records net 0 k.0.choice =
        ap (λ (t : List Record). t ++ fields ∷ []) so_far.0 ∙ append_assoc head (leg_records net 0 s.walks.choice) (fields ∷ []) ∙ ap (λ (t : List Record). head ++ t) (sym legs) in
        let stands : IsSoFar place.Legs (record s { walks = k.0 }) (before ++ fields ∷ []) = (text, so_far.1, walks, so_far.3) in
        subst (λ (n : State R). IsSoFar n.place n (before ++ fields ∷ [])) is (subst (λ (p : Place). IsSoFar p (record s { walks = k.0 }) (before ++ fields ∷ [])) (sym at) stands)

    tree_next : IsSoFar place.Tree s before → (tree_step cmp texts net bids version s.tree word (drop 1 fields) >>= λ tree. Ok (record s { place = place.Tree; tree = tree })) ≡ Ok next → Next
    unfolding Next
    tree_next so_far e =
        let h = bind_ok (tree_step cmp texts net bids version s.tree word (drop 1 fields)) (λ tree. Ok (record s { place = place.Tree; tree = tree })) next e in
        let is : record s { place = place.Tree; tree = h.0 } ≡ next = cc h.2 in
        let grows = grows_by s.tree fields h.0 so_far.3 h.1 in
        let text : before ++ fields ∷ [] ≡ legs_text s ++ text_of h.0 =
        ap (λ (t : List Record). t ++ fields ∷ []) so_far.0 ∙ append_assoc (legs_text s) (text_of s.tree) (fields ∷ []) ∙ ap (λ (t : List Record). legs_text s ++ t) (sym grows.1) in
        subst (λ (n : State R). IsSoFar n.place n (before ++ fields ∷ [])) is (text, so_far.1, so_far.2, grows.0)

    body_next : (legs : Bool) → (legs ≡ true → (s.place ≡ place.Legs) × IsSoFar place.Legs s before) → IsSoFar place.Tree s before → body_step cmp texts net bids version legs s word (drop 1 fields) ≡ Ok next → Next
    unfolding body_step
    body_next legs at_legs at_tree e = by (legs && bytes_eq word (codes "leg")) refl e
      where
        by : (a : Bool) → (legs && bytes_eq word (codes "leg")) ≡ a
            → cond a (leg_told net bids (drop 1 fields) >>= λ told. leg_added s.walks told.0 told.1 >>= λ walks. Ok (record s { walks = walks }))
            (tree_step cmp texts net bids version s.tree word (drop 1 fields) >>= λ tree. Ok (record s { place = place.Tree; tree = tree })) ≡ Ok next → Next
        by true p e =
            let parts = and_parts _ _ p in
            let at = at_legs parts.0 in
            leg_next at.0 at.1 (same_word word (codes "leg") parts.1) e
        by false p e = tree_next at_tree e

    -- at the legs nothing of the tree is known, so the tree may begin
    legs_or_tree : IsSoFar place.Legs s before → IsSoFar place.Tree s before
    legs_or_tree so_far =
        let none : text_of s.tree ≡ [] = ap text_of so_far.3 in
        (so_far.0 ∙ sym (append-nil (legs_text s)) ∙ ap (λ (t : List Record). legs_text s ++ t) (sym none), so_far.1, so_far.2, subst SoFar (sym so_far.3) (no_tree_so_far cmp texts net bids version))

    step_next_at : (p : Place) → s.place ≡ p → IsSoFar p s before → step_at cmp texts net bids version p s word (drop 1 fields) ≡ Ok next → Next
    step_next_at place.Revenue at so_far e = revenue_next so_far e
    step_next_at place.Bound at so_far e = bound_next so_far e
    step_next_at place.Legs at so_far e = body_next true (λ yes. (at, so_far)) (legs_or_tree so_far) e
    step_next_at place.Tree at so_far e = body_next false (λ no. absurd (false≢true no)) so_far e

    -- a record that is taken is written of what is known then
    pub step_next : IsSoFar s.place s before → step cmp texts net bids version s fields ≡ Ok next → IsSoFar next.place next (before ++ fields ∷ [])
    unfolding step Next
    step_next so_far e = step_next_at s.place refl so_far e
