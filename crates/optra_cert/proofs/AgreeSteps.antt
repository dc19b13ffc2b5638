-- Behind a record that is taken, what was read so far is still what the records tell.
use Rattle.std.proofs.Common.{◌≡◌, ◌<◌, ◌≤◌, ◌^◌, ◌+◌, ◌-◌, ◌++◌, ◌==◌, ◌&&◌, ℕ, suc, Bool, true, false, List, [], ◌∷◌, length, drop, Option, Some, refl, sym, ap, ◌∙◌, subst, arith, codes, cond, bytes_eq, ℤ}
use Rattle.std.specs.Prelude.{Ok, Err, slice_get, unwrap_or, nat_le}
use Rattle.std.specs.List.{list_any}
use Rattle.std.specs.Fmt.{decimal}
use Rattle.std.specs.Option.{option_map_or}
use Rattle.std.specs.Ordering.{is_lt}
use Rattle.std.specs.declared.cmp.Ordering.{Ordering}
use Rattle.std.proofs.lemmas.Bool.{ne_eqb, eqb-true, le-leb, lt-leb, leb-true, leb-false, and_parts, false≢true}
use Rattle.std.proofs.lemmas.List.{get_or_push, length_push}
use Rattle.std.proofs.lemmas.Option.{slice_get-get_or}
use Rattle.optra_network.specs.Net.{Net, IsBuilt}
use Rattle.optra_node.specs.declared.Item.{Item}
use Rattle.optra_node.specs.declared.Item.TheVariants.{NoWalk, Forced, Priced}
use Rattle.optra_node.specs.Duals.{PriceList}
use Rattle.optra_records.specs.Numbers.{plain_number_of}
use Rattle.optra_records.specs.Reading.{Field, Record}
use Rattle.optra_records.proofs.PlainNumbers.{plain_number_back}
use Rattle.optra_cert.specs.RowTexts.{RowTexts, AreApart, AreTexts, read_row}
use Rattle.optra_cert.specs.Faults.{is_below, is_one_of, last_of, leaf_words, number_at, row_of_price}
use Rattle.optra_cert.specs.Forms.{field_at}
use Rattle.optra_cert.specs.Outcomes.{◌>>=◌, row_or_fault}
use Rattle.optra_cert.specs.RecordFields.{amount_told, bid_told, count_told, leg_told, price_told}
use Rattle.optra_cert.specs.Steps.{State, TreeSoFar, WalksSoFar, body_step, bound_step, count_added, filled, is_above, is_whole, item_step, leaf_added, leg_added, price_added, revenue_step, split_added, started, step, step_at, tree_step}
use Rattle.optra_cert.specs.declared.CertCode.TheVariants as code
use Rattle.optra_cert.specs.declared.read_parts.Place.{Place}
use Rattle.optra_cert.specs.declared.read_parts.Place.TheVariants as place
use Rattle.optra_cert.specs.declared.row_text.RowRead.{RowRead}
use Rattle.optra_cert.specs.declared.row_text.RowRead.TheVariants as read
use Rattle.optra_cert.proofs.FaultSteps.{Agrees, AgreesAt, LegsInOrder, PricesInOrder, in_order, leg_number, price_row}
use Rattle.optra_cert.proofs.FaultWords.{count_push, due_push, has_word, last_push}
use Rattle.optra_cert.proofs.StateSteps.{node_open, same_word}
use Rattle.optra_cert.proofs.TellLemmas.{bind_ok, count_is}
use Rattle.optra_cert.proofs.TreeSteps.{price_added_is}
use Rattle.optra_cert.proofs.WalkSteps.{added_is}

-- ---- a leaf that is filled

module _ {R : Type 0} (tree : TreeSoFar R) where
  filled_ways : (filled tree).ways ≡ tree.ways
  filled_ways = by (tree.due == 0)
    where
      by : (b : Bool) → (cond b (record tree { items = tree.items ++ Priced tree.prices ∷ []; prices = [] }) tree).ways ≡ tree.ways
      by true = refl
      by false = refl

  filled_due : (filled tree).due ≡ tree.due
  filled_due = by (tree.due == 0)
    where
      by : (b : Bool) → (cond b (record tree { items = tree.items ++ Priced tree.prices ∷ []; prices = [] }) tree).due ≡ tree.due
      by true = refl
      by false = refl

  filled_none : tree.due ≡ 0 → (filled tree).prices ≡ []
  filled_none e = rw e refl

  filled_prices : (left : ℕ) → tree.due ≡ suc left → (filled tree).prices ≡ tree.prices
  filled_prices left e = rw (ne_eqb tree.due 0 (λ none. absurd (omega (arith, none, e)))) refl

-- the last price is the one that was added
above_push : {R : Type 0} (cmp : R → R → Ordering) (prices : PriceList R) (entry : R × ℤ) (row : R) → is_above cmp (prices ++ entry ∷ []) row ≡ is_lt (cmp entry.0 row)
above_push {R} cmp prices entry row =
    let long = length_push prices entry in
    let last : ℕ = length (prices ++ entry ∷ []) - 1 in
    let at : slice_get (prices ++ entry ∷ []) last ≡ Some entry =
    slice_get-get_or (prices ++ entry ∷ []) last entry (omega (arith, long)) ∙ ap Some (get_or_push prices entry entry last (omega (arith, long))) in
    ap (λ (o : Option (R × ℤ)). option_map_or (λ e. is_lt (cmp e.0 row)) o true) at

succ_le : (a b : ℕ) → nat_le (a + 1) (b + 1) ≡ nat_le a b
succ_le a b = by (nat_le a b) refl
  where
    by : (t : Bool) → nat_le a b ≡ t → nat_le (a + 1) (b + 1) ≡ t
    by true e = let le = leb-true a b e in le-leb (a + 1) (b + 1) (omega (arith, le))
    by false e = let lt = leb-false a b e in lt-leb (a + 1) (b + 1) (omega (arith, lt))

second_field : (fields : Record) (first : Field) (rest : Record) → first ∷ rest ≡ drop 1 fields → field_at fields 1 ≡ first
second_field [] first rest e = absurd (cc e)
second_field (word ∷ fields) first rest e = sym (ap (λ (fs : Record). field_at fs 0) e)

count_number : (fields : Record) (count : ℕ) → count_told (drop 1 fields) ≡ Ok count → number_at fields 1 ≡ count
count_number fields count e =
    let is = count_is (drop 1 fields) count e in
    ap (λ (f : Field). unwrap_or (plain_number_of f) 0) (second_field fields (decimal count) [] is.1) ∙ ap (λ (o : Option ℕ). unwrap_or o 0) (plain_number_back count is.0)

module _ {R : Type 0} (cmp : R → R → Ordering) (texts : RowTexts R) (apart : AreApart texts.kinds) (are : AreTexts texts) (net : Net) (built : IsBuilt net) (bids : ℕ) (few : bids < 10 ^ 18) (version : ℕ) where
  abbrev order : Record → Record → Bool
  order = in_order cmp texts apart are net built bids few version

  abbrev row_at : Record → RowRead R
  row_at = row_of_price cmp texts net bids version

  -- behind what is neither a leg nor a price all is in order
  first_order : (last fields : Record) (word : Field) → field_at last 0 ≡ word → list_any (bytes_eq word) (codes "leg" ∷ []) ≡ false → list_any (bytes_eq word) (codes "price" ∷ []) ≡ false → order last fields ≡ true
  first_order last fields word same no_leg no_price =
      λ i. cond (has_word last word (codes "leg" ∷ []) false same no_leg i && is_one_of (codes "leg" ∷ []) fields) (nat_le (number_at last 1) (number_at fields 1))
      (cond (has_word last word (codes "price" ∷ []) false same no_price i && is_one_of (codes "price" ∷ []) fields) (is_below cmp texts net bids version (row_at last) (row_at fields)) true)

  legs_order : (last fields : Record) → field_at last 0 ≡ codes "leg" → field_at fields 0 ≡ codes "leg" → order last fields ≡ nat_le (number_at last 1) (number_at fields 1)
  legs_order last fields a b =
      λ i. cond (has_word last (codes "leg") (codes "leg" ∷ []) true a refl i && has_word fields (codes "leg") (codes "leg" ∷ []) true b refl i) (nat_le (number_at last 1) (number_at fields 1))
      (cond (is_one_of (codes "price" ∷ []) last && is_one_of (codes "price" ∷ []) fields) (is_below cmp texts net bids version (row_at last) (row_at fields)) true)

  prices_order : (last fields : Record) → field_at last 0 ≡ codes "price" → field_at fields 0 ≡ codes "price" → order last fields ≡ is_below cmp texts net bids version (row_at last) (row_at fields)
  prices_order last fields a b =
      λ i. cond (has_word last (codes "price") (codes "leg" ∷ []) false a refl i && is_one_of (codes "leg" ∷ []) fields) (nat_le (number_at last 1) (number_at fields 1))
      (cond (has_word last (codes "price") (codes "price" ∷ []) true a refl i && has_word fields (codes "price") (codes "price" ∷ []) true b refl i) (is_below cmp texts net bids version (row_at last) (row_at fields)) true)

  abbrev Prices : PriceList R → Record → Type 0
  Prices = PricesInOrder cmp texts apart are net built bids few version

  -- what a record of the tree does to what is known of the records
  record TreeGoes (tree : TreeSoFar R) (fields : Record) (next : TreeSoFar R) : Type 0 where
    ways : next.ways + cond (is_one_of leaf_words fields) 1 0 ≡ tree.ways + cond (is_one_of (codes "split" ∷ []) fields) 1 0
    due : next.due ≡ cond (is_one_of (codes "priced" ∷ []) fields) (number_at fields 1) (tree.due - 1)
    none : next.due ≡ 0 → next.prices ≡ []
    word : is_one_of (codes "bound" ∷ codes "leg" ∷ []) fields ≡ false
    prices : (d : ℕ) → next.due ≡ suc d → Prices next.prices fields

  module _ (tree : TreeSoFar R) (none : tree.due ≡ 0 → tree.prices ≡ []) (fields : Record) (next : TreeSoFar R) where
    split_goes : tree.due ≡ 0 → field_at fields 0 ≡ codes "split" → (leg_told net bids (drop 1 fields) >>= λ told. Ok (split_added tree told.0 told.1)) ≡ Ok next → TreeGoes tree fields next
    split_goes closed same e =
        let h = bind_ok (leg_told net bids (drop 1 fields)) (λ told. Ok (split_added tree told.0 told.1)) next e in
        let is : split_added tree h.0.0 h.0.1 ≡ next = cc h.2 in
        subst (TreeGoes tree fields) is (record {
          ways = rw (has_word fields (codes "split") leaf_words false same refl, has_word fields (codes "split") (codes "split" ∷ []) true same refl) (omega arith);
          due = rw (has_word fields (codes "split") (codes "priced" ∷ []) false same refl) (omega (arith, closed));
          none = none;
          word = has_word fields (codes "split") (codes "bound" ∷ codes "leg" ∷ []) false same refl;
          prices = λ d due. absurd (omega (arith, due, closed));
        })

    -- a leaf without prices
    leaf_goes : tree.due ≡ 0 → (w : ℕ) → tree.ways ≡ suc w → (word : Field) → field_at fields 0 ≡ word → list_any (bytes_eq word) leaf_words ≡ true → list_any (bytes_eq word) (codes "split" ∷ []) ≡ false
        → list_any (bytes_eq word) (codes "priced" ∷ []) ≡ false → list_any (bytes_eq word) (codes "bound" ∷ codes "leg" ∷ []) ≡ false → (item : Item R) → TreeGoes tree fields (leaf_added tree item)
    leaf_goes closed w open_ word same leaf split priced other item = record {
      ways = rw (has_word fields word leaf_words true same leaf, has_word fields word (codes "split" ∷ []) false same split) (omega (arith, open_));
      due = rw (has_word fields word (codes "priced" ∷ []) false same priced) (omega (arith, closed));
      none = none;
      word = has_word fields word (codes "bound" ∷ codes "leg" ∷ []) false same other;
      prices = λ d due. absurd (omega (arith, due, closed));
    }

    nowalk_goes : tree.due ≡ 0 → (w : ℕ) → tree.ways ≡ suc w → field_at fields 0 ≡ codes "nowalk" → (bid_told bids (drop 1 fields) >>= λ bid. Ok (leaf_added tree (NoWalk bid))) ≡ Ok next → TreeGoes tree fields next
    nowalk_goes closed w open_ same e =
        let h = bind_ok (bid_told bids (drop 1 fields)) (λ bid. Ok (leaf_added tree (NoWalk bid))) next e in
        let is : leaf_added tree (NoWalk h.0) ≡ next = cc h.2 in
        subst (TreeGoes tree fields) is (leaf_goes closed w open_ (codes "nowalk") same refl refl refl refl (NoWalk h.0))

    forced_goes : tree.due ≡ 0 → (w : ℕ) → tree.ways ≡ suc w → field_at fields 0 ≡ codes "forced" → (row_or_fault (read_row texts net version (drop 1 fields)) >>= λ row. Ok (leaf_added tree (Forced row))) ≡ Ok next → TreeGoes tree fields next
    forced_goes closed w open_ same e =
        let h = bind_ok (row_or_fault (read_row texts net version (drop 1 fields))) (λ row. Ok (leaf_added tree (Forced row))) next e in
        let is : leaf_added tree (Forced h.0) ≡ next = cc h.2 in
        subst (TreeGoes tree fields) is (leaf_goes closed w open_ (codes "forced") same refl refl refl refl (Forced h.0))

    priced_goes : tree.due ≡ 0 → (w : ℕ) → tree.ways ≡ suc w → field_at fields 0 ≡ codes "priced" → (count_told (drop 1 fields) >>= λ count. Ok (count_added tree count)) ≡ Ok next → TreeGoes tree fields next
    priced_goes closed w open_ same e =
        let h = bind_ok (count_told (drop 1 fields)) (λ count. Ok (count_added tree count)) next e in
        let is : count_added tree h.0 ≡ next = cc h.2 in
        let leaf : TreeSoFar R = record tree { ways = tree.ways - 1; due = h.0 } in
        let same_ways = filled_ways leaf in
        let same_due = filled_due leaf in
        let number = count_number fields h.0 h.1 in
        subst (TreeGoes tree fields) is (record {
          ways = rw (has_word fields (codes "priced") leaf_words true same refl, has_word fields (codes "priced") (codes "split" ∷ []) false same refl, same_ways) (omega (arith, open_));
          due = rw (has_word fields (codes "priced") (codes "priced" ∷ []) true same refl) (same_due ∙ sym number);
          none = λ zero_. filled_none leaf (sym same_due ∙ zero_);
          word = has_word fields (codes "priced") (codes "bound" ∷ codes "leg" ∷ []) false same refl;
          prices = λ d due. subst (λ (ps : PriceList R). Prices ps fields) (sym (filled_prices leaf d (sym same_due ∙ due) ∙ none closed)) (λ more row word is. first_order fields more (codes "priced") same refl refl);
        })

    price_goes : field_at fields 0 ≡ codes "price" → (price_told texts net version (drop 1 fields) >>= price_added cmp tree) ≡ Ok next → TreeGoes tree fields next
    price_goes same e =
        let h = bind_ok (price_told texts net version (drop 1 fields)) (price_added cmp tree) next e in
        let added = price_added_is cmp texts net bids version tree h.0 next h.2 in
        let leaf : TreeSoFar R = record tree { due = tree.due - 1; prices = tree.prices ++ h.0 ∷ [] } in
        let same_ways = filled_ways leaf in
        let same_due = filled_due leaf in
        let own : row_at fields ≡ read.Row h.0.0 = price_row cmp texts apart are net built bids few version (drop 1 fields) h.0 h.1 in
        subst (TreeGoes tree fields) (sym added.1) (record {
          ways = rw (has_word fields (codes "price") leaf_words false same refl, has_word fields (codes "price") (codes "split" ∷ []) false same refl, same_ways) refl;
          due = rw (has_word fields (codes "price") (codes "priced" ∷ []) false same refl) same_due;
          none = λ zero_. filled_none leaf (sym same_due ∙ zero_);
          word = has_word fields (codes "price") (codes "bound" ∷ codes "leg" ∷ []) false same refl;
          prices = λ d due. subst (λ (ps : PriceList R). Prices ps fields) (sym (filled_prices leaf d (sym same_due ∙ due)))
              (λ more row word is. prices_order fields more same word ∙ (λ i. is_below cmp texts net bids version (own i) (is i)) ∙ sym (above_push cmp tree.prices h.0 row));
        })

    item_goes : tree.due ≡ 0 → (w : ℕ) → tree.ways ≡ suc w → item_step cmp texts net bids version tree (field_at fields 0) (drop 1 fields) ≡ Ok next → TreeGoes tree fields next
    unfolding item_step
    item_goes closed w open_ e =
        by (bytes_eq (field_at fields 0) (codes "split")) refl (bytes_eq (field_at fields 0) (codes "nowalk")) refl (bytes_eq (field_at fields 0) (codes "forced")) refl (bytes_eq (field_at fields 0) (codes "priced")) refl e
      where
        by : (a : Bool) → bytes_eq (field_at fields 0) (codes "split") ≡ a → (b : Bool) → bytes_eq (field_at fields 0) (codes "nowalk") ≡ b → (c : Bool) → bytes_eq (field_at fields 0) (codes "forced") ≡ c
            → (d : Bool) → bytes_eq (field_at fields 0) (codes "priced") ≡ d
            → cond a (leg_told net bids (drop 1 fields) >>= λ told. Ok (split_added tree told.0 told.1))
            (cond b (bid_told bids (drop 1 fields) >>= λ bid. Ok (leaf_added tree (NoWalk bid)))
            (cond c (row_or_fault (read_row texts net version (drop 1 fields)) >>= λ row. Ok (leaf_added tree (Forced row)))
            (cond d (count_told (drop 1 fields) >>= λ count. Ok (count_added tree count)) (Err code.Record)))) ≡ Ok next
            → TreeGoes tree fields next
        by true p b q c r d s e = split_goes closed (same_word (field_at fields 0) (codes "split") p) e
        by false p true q c r d s e = nowalk_goes closed w open_ (same_word (field_at fields 0) (codes "nowalk") q) e
        by false p false q true r d s e = forced_goes closed w open_ (same_word (field_at fields 0) (codes "forced") r) e
        by false p false q false r true s e = priced_goes closed w open_ (same_word (field_at fields 0) (codes "priced") s) e
        by false p false q false r false s e = absurd (cc e)

    tree_goes : tree_step cmp texts net bids version tree (field_at fields 0) (drop 1 fields) ≡ Ok next → TreeGoes tree fields next
    unfolding tree_step
    tree_goes e = by (is_whole tree) refl (tree.due == 0) refl (bytes_eq (field_at fields 0) (codes "price")) refl e
      where
        by : (a : Bool) → is_whole tree ≡ a → (b : Bool) → (tree.due == 0) ≡ b → (c : Bool) → bytes_eq (field_at fields 0) (codes "price") ≡ c
            → cond a (Err code.Order) (cond b (item_step cmp texts net bids version tree (field_at fields 0) (drop 1 fields)) (cond c (price_told texts net version (drop 1 fields) >>= price_added cmp tree) (Err code.Record))) ≡ Ok next
            → TreeGoes tree fields next
        by true p b q c r e = absurd (cc e)
        by false p true q c r e =
            let closed = eqb-true tree.due 0 q in
            item_goes closed (tree.ways - 1) (node_open tree p closed) e
        by false p false q true r e = price_goes (same_word (field_at fields 0) (codes "price") r) e
        by false p false q false r e = absurd (cc e)

  abbrev Agree : State R → List Record → Type 0
  Agree = Agrees cmp texts apart are net built bids few version

  abbrev AgreeAt : Place → State R → List Record → Type 0
  AgreeAt = AgreesAt cmp texts apart are net built bids few version

  abbrev Legs : WalksSoFar → Record → Type 0
  Legs = LegsInOrder cmp texts apart are net built bids few version

  -- one record more: what it does to the counts
  agree_more : (s next : State R) (before : List Record) (fields : Record) → Agree s before
      → next.tree.ways + cond (is_one_of leaf_words fields) 1 0 ≡ s.tree.ways + cond (is_one_of (codes "split" ∷ []) fields) 1 0
      → next.tree.due ≡ cond (is_one_of (codes "priced" ∷ []) fields) (number_at fields 1) (s.tree.due - 1)
      → (next.tree.due ≡ 0 → next.tree.prices ≡ []) → AgreeAt next.place next (before ++ fields ∷ []) → Agree next (before ++ fields ∷ [])
  agree_more s next before fields a ways due none at =
      let leaves = count_push leaf_words before fields in
      let splits = count_push (codes "split" ∷ []) before fields in
      let old = a.ways in
      record {
        ways = rw (leaves, splits) (omega (arith, ways, old));
        due = due_push before fields ∙ ap (λ (n : ℕ). cond (is_one_of (codes "priced" ∷ []) fields) (number_at fields 1) (n - 1)) a.due ∙ sym due;
        none = none;
        at = at;
      }

  -- one record of another kind
  other_more : (s next : State R) (before : List Record) (fields : Record) (word : Field) → Agree s before → next.tree ≡ s.tree → s.tree.due ≡ 0 → field_at fields 0 ≡ word → list_any (bytes_eq word) leaf_words ≡ false
      → list_any (bytes_eq word) (codes "split" ∷ []) ≡ false → list_any (bytes_eq word) (codes "priced" ∷ []) ≡ false → AgreeAt next.place next (before ++ fields ∷ []) → Agree next (before ++ fields ∷ [])
  other_more s next before fields word a tree closed same leaf split priced at =
      let ways : next.tree.ways ≡ s.tree.ways = ap (λ (t : TreeSoFar R). t.ways) tree in
      let due : next.tree.due ≡ s.tree.due = ap (λ (t : TreeSoFar R). t.due) tree in
      agree_more s next before fields a
      (rw (has_word fields word leaf_words false same leaf, has_word fields word (codes "split" ∷ []) false same split) (omega (arith, ways)))
      (rw (has_word fields word (codes "priced" ∷ []) false same priced) (omega (arith, due, closed)))
      (λ e. ap (λ (t : TreeSoFar R). t.prices) tree ∙ a.none (sym due ∙ e))
      at

  abbrev last_after : List Record → Record → Record
  last_after before fields = last_of (before ++ fields ∷ [])

  module _ (s : State R) (before : List Record) (fields : Record) (next : State R) (a : Agree s before) where
    Next : Type 0
    Next = Agree next (before ++ fields ∷ [])

    long : length (before ++ fields ∷ []) ≡ length before + 1
    long = length_push before fields

    revenue_agrees : AgreeAt place.Revenue s before → revenue_step s (field_at fields 0) (drop 1 fields) ≡ Ok next → Next
    unfolding revenue_step Next
    revenue_agrees at e = by (bytes_eq (field_at fields 0) (codes "revenue")) refl e
      where
        by : (b : Bool) → bytes_eq (field_at fields 0) (codes "revenue") ≡ b
            → cond b (amount_told (drop 1 fields) >>= λ amount. Ok (record s { place = place.Bound; revenue = amount })) (Err code.Record) ≡ Ok next → Agree next (before ++ fields ∷ [])
        by true p e =
            let h = bind_ok (amount_told (drop 1 fields)) (λ amount. Ok (record s { place = place.Bound; revenue = amount })) next e in
            let is : record s { place = place.Bound; revenue = h.0 } ≡ next = cc h.2 in
            let one = at.0 in
            subst (λ (n : State R). Agree n (before ++ fields ∷ [])) is
            (other_more s (record s { place = place.Bound; revenue = h.0 }) before fields (codes "revenue") a refl at.2 (same_word (field_at fields 0) (codes "revenue") p) refl refl refl
            (omega (arith, one, long), at.1, at.2, at.3))
        by false p e = absurd (cc e)

    bound_agrees : AgreeAt place.Bound s before → bound_step s (field_at fields 0) (drop 1 fields) ≡ Ok next → Next
    unfolding bound_step Next
    bound_agrees at e = by (bytes_eq (field_at fields 0) (codes "bound")) refl e
      where
        by : (b : Bool) → bytes_eq (field_at fields 0) (codes "bound") ≡ b
            → cond b (amount_told (drop 1 fields) >>= λ amount. Ok (record s { place = place.Legs; bound = amount })) (Err code.Record) ≡ Ok next → Agree next (before ++ fields ∷ [])
        by true p e =
            let h = bind_ok (amount_told (drop 1 fields)) (λ amount. Ok (record s { place = place.Legs; bound = amount })) next e in
            let is : record s { place = place.Legs; bound = h.0 } ≡ next = cc h.2 in
            let two = at.0 in
            let start = at.3 in
            let same = same_word (field_at fields 0) (codes "bound") p in
            let own = last_push before fields in
            let last : is_one_of (codes "bound" ∷ codes "leg" ∷ []) (last_after before fields) ≡ true = ap (is_one_of (codes "bound" ∷ codes "leg" ∷ [])) own ∙ has_word fields (codes "bound") (codes "bound" ∷ codes "leg" ∷ []) true same refl in
            let legs : Legs s.walks (last_after before fields) =
            subst (Legs s.walks) (sym own) (λ more bid word number. first_order fields more (codes "bound") same refl refl ∙ sym (le-leb s.walks.last bid (omega (arith, start)))) in
            subst (λ (n : State R). Agree n (before ++ fields ∷ [])) is
            (other_more s (record s { place = place.Legs; bound = h.0 }) before fields (codes "bound") a refl at.2 same refl refl refl
            (omega (arith, two, long), at.1, at.2, last, legs))
        by false p e = absurd (cc e)

    leg_agrees : s.place ≡ place.Legs → AgreeAt place.Legs s before → field_at fields 0 ≡ codes "leg"
        → (leg_told net bids (drop 1 fields) >>= λ told. leg_added s.walks told.0 told.1 >>= λ walks. Ok (record s { walks = walks })) ≡ Ok next → Next
    unfolding Next
    leg_agrees place_is at same e =
        let h = bind_ok (leg_told net bids (drop 1 fields)) (λ told. leg_added s.walks told.0 told.1 >>= λ walks. Ok (record s { walks = walks })) next e in
        let k = bind_ok (leg_added s.walks h.0.0 h.0.1) (λ walks. Ok (record s { walks = walks })) next h.2 in
        let is : record s { walks = k.0 } ≡ next = cc k.2 in
        let added = added_is net s.walks h.0.0 h.0.1 k.0 k.1 in
        let last_bid : k.0.last ≡ h.0.0 = ap (λ (w : WalksSoFar). w.last) added.1 in
        let number = leg_number cmp texts apart are net built bids few version fields h.0 h.1 in
        let three = at.0 in
        let own = last_push before fields in
        let last : is_one_of (codes "bound" ∷ codes "leg" ∷ []) (last_after before fields) ≡ true = ap (is_one_of (codes "bound" ∷ codes "leg" ∷ [])) own ∙ has_word fields (codes "leg") (codes "bound" ∷ codes "leg" ∷ []) true same refl in
        let legs : Legs k.0 (last_after before fields) =
        subst (Legs k.0) (sym own)
        (λ more bid word told. legs_order fields more same word ∙ (λ i. nat_le (number i) (told i)) ∙ succ_le h.0.0 bid ∙ ap (λ (n : ℕ). nat_le n bid) (sym last_bid)) in
        let stands : AgreeAt place.Legs (record s { walks = k.0 }) (before ++ fields ∷ []) = (omega (arith, three, long), at.1, at.2, last, legs) in
        subst (λ (n : State R). Agree n (before ++ fields ∷ [])) is
        (other_more s (record s { walks = k.0 }) before fields (codes "leg") a refl at.2 same refl refl refl
        (subst (λ (p : Place). AgreeAt p (record s { walks = k.0 }) (before ++ fields ∷ [])) (sym place_is) stands))

    tree_agrees : 3 ≤ length before → (tree_step cmp texts net bids version s.tree (field_at fields 0) (drop 1 fields) >>= λ tree. Ok (record s { place = place.Tree; tree = tree })) ≡ Ok next → Next
    unfolding Next
    tree_agrees three e =
        let h = bind_ok (tree_step cmp texts net bids version s.tree (field_at fields 0) (drop 1 fields)) (λ tree. Ok (record s { place = place.Tree; tree = tree })) next e in
        let is : record s { place = place.Tree; tree = h.0 } ≡ next = cc h.2 in
        let goes = tree_goes s.tree a.none fields h.0 h.1 in
        let own = last_push before fields in
        let last : is_one_of (codes "bound" ∷ codes "leg" ∷ []) (last_after before fields) ≡ false = ap (is_one_of (codes "bound" ∷ codes "leg" ∷ [])) own ∙ goes.word in
        let prices : (d : ℕ) → h.0.due ≡ suc d → Prices h.0.prices (last_after before fields) = λ d due. subst (Prices h.0.prices) (sym own) (goes.prices d due) in
        subst (λ (n : State R). Agree n (before ++ fields ∷ [])) is
        (agree_more s (record s { place = place.Tree; tree = h.0 }) before fields a goes.ways goes.due goes.none (omega (arith, three, long), last, prices))

    body_agrees : (legs : Bool) → (legs ≡ true → (s.place ≡ place.Legs) × AgreeAt place.Legs s before) → 3 ≤ length before → body_step cmp texts net bids version legs s (field_at fields 0) (drop 1 fields) ≡ Ok next → Next
    unfolding body_step
    body_agrees legs at_legs three e = by (legs && bytes_eq (field_at fields 0) (codes "leg")) refl e
      where
        by : (b : Bool) → (legs && bytes_eq (field_at fields 0) (codes "leg")) ≡ b
            → cond b (leg_told net bids (drop 1 fields) >>= λ told. leg_added s.walks told.0 told.1 >>= λ walks. Ok (record s { walks = walks }))
            (tree_step cmp texts net bids version s.tree (field_at fields 0) (drop 1 fields) >>= λ tree. Ok (record s { place = place.Tree; tree = tree })) ≡ Ok next → Next
        by true p e =
            let parts = and_parts _ _ p in
            let at = at_legs parts.0 in
            leg_agrees at.0 at.1 (same_word (field_at fields 0) (codes "leg") parts.1) e
        by false p e = tree_agrees three e

    agrees_at : (p : Place) → s.place ≡ p → AgreeAt p s before → step_at cmp texts net bids version p s (field_at fields 0) (drop 1 fields) ≡ Ok next → Next
    agrees_at place.Revenue place_is at e = revenue_agrees at e
    agrees_at place.Bound place_is at e = bound_agrees at e
    agrees_at place.Legs place_is at e = body_agrees true (λ yes. (place_is, at)) at.0 e
    agrees_at place.Tree place_is at e = body_agrees false (λ no. absurd (false≢true no)) at.0 e

    -- Behind a record that is taken, what was read so far is still what the records tell.
    pub agrees_next : step cmp texts net bids version s fields ≡ Ok next → Agree next (before ++ fields ∷ [])
    unfolding step Next
    agrees_next e = agrees_at s.place refl a.at e

  -- so it is behind the first record
  pub agrees_started : Agree (started bids) ((codes "optra-certificate" ∷ decimal version ∷ []) ∷ [])
  agrees_started = record { ways = refl; due = refl; none = λ e. refl; at = (refl, refl, refl, refl) }
