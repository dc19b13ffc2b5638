-- The fault of a record behind the records before it is that of its step.
use Rattle.std.proofs.Common.{◌≡◌, ◌<◌, ◌≤◌, ◌^◌, ◌+◌, ◌-◌, ◌==◌, ◌&&◌, ◌||◌, not, ℕ, suc, Bool, true, false, List, [], ◌∷◌, length, drop, Option, Some, None, refl, sym, ap, ◌∙◌, arith, codes, cond, bytes_eq, ℤ, pos}
use Rattle.std.specs.Prelude.{Result, Ok, Err, count_by, unwrap_or, nat_le, nat_lt}
use Rattle.std.specs.List.{list_any}
use Rattle.std.specs.Fmt.{decimal}
use Rattle.std.specs.declared.cmp.Ordering.{Ordering}
use Rattle.std.proofs.lemmas.Bool.{ne_eqb, eqb-true, eqb-false, lt-ltb}
use Rattle.optra_network.specs.Net.{Net, IsBuilt}
use Rattle.optra_walk.specs.declared.Leg.{Leg}
use Rattle.optra_node.specs.declared.Item.TheVariants.{NoWalk, Forced}
use Rattle.optra_node.specs.Duals.{PriceList}
use Rattle.optra_records.specs.Numbers.{plain_number_of}
use Rattle.optra_records.specs.Reading.{Field, Record}
use Rattle.optra_records.proofs.PlainNumbers.{plain_number_back}
use Rattle.optra_cert.specs.RowTexts.{RowTexts, AreApart, AreTexts, read_row}
use Rattle.optra_cert.specs.Faults.{fault_at, fault_behind, fault_of, is_below, is_in_order, is_one_of, is_whole, last_of, leaf_words, number_at, or_then, prices_due, row_of_price, tree_words, words_behind}
use Rattle.optra_cert.specs.Forms.{but_last, field_at, last_alone}
use Rattle.optra_cert.specs.Outcomes.{◌>>=◌, row_or_fault}
use Rattle.optra_cert.specs.RecordFields.{amount_told, bid_told, count_told, leg_told, price_told}
use Rattle.optra_cert.specs.Steps.{State, TreeSoFar, WalksSoFar, body_step, bound_step, count_added, is_above, item_step, leaf_added, leg_added, price_added, revenue_step, split_added, step, step_at, tree_step}
use Rattle.optra_cert.specs.Steps as steps
use Rattle.optra_cert.proofs.TreeSteps.{with_price}
use Rattle.optra_cert.proofs.WalkSteps.{with_leg}
use Rattle.optra_cert.specs.declared.CertCode.{CertCode}
use Rattle.optra_cert.specs.declared.CertCode.TheVariants as code
use Rattle.optra_cert.specs.declared.read_parts.Place.{Place}
use Rattle.optra_cert.specs.declared.read_parts.Place.TheVariants as place
use Rattle.optra_cert.specs.declared.row_text.RowRead.TheVariants as read
use Rattle.optra_cert.proofs.FaultWords.{fault_before, fault_then, has_word, or_none, row_fault_is, same_zero}
use Rattle.optra_cert.proofs.LegTexts.{leg_is}
use Rattle.optra_cert.proofs.StateSteps.{same_word}
use Rattle.optra_cert.proofs.TellLemmas.{bind_ok, row_read}

-- the first field behind the word
second_is : (fields : Record) → field_at fields 1 ≡ field_at (drop 1 fields) 0
second_is [] = refl
second_is (field ∷ fields) = refl

amount_fault : (fields : Record) → fault_of (amount_told fields) ≡ fault_of (count_told fields)
unfolding amount_told
amount_fault fields = fault_before (count_told fields) (λ n. Ok (pos n)) (λ n. refl)

module _ {R : Type 0} (cmp : R → R → Ordering) (texts : RowTexts R) (apart : AreApart texts.kinds) (are : AreTexts texts) (net : Net) (built : IsBuilt net) (bids : ℕ) (few : bids < 10 ^ 18) (version : ℕ) where
  abbrev pub in_order : Record → Record → Bool
  in_order last fields = is_in_order cmp texts net bids version last fields

  abbrev own_fault : Field → Record → Option CertCode
  own_fault word fields = fault_behind cmp texts net bids version word fields

  abbrev order_fault : Bool → Option CertCode
  order_fault b = cond b None (Some code.Order)

  -- the fault of a record, where this is known of the records before
  abbrev judged : Bool → List Field → Record → Record → Option CertCode
  judged whole words last fields =
      cond whole (Some code.Order) (cond (not (is_one_of words fields)) (Some code.Record) (or_then (own_fault (field_at fields 0) (drop 1 fields)) (order_fault (in_order last fields))))

  -- what is neither a leg nor a price is in order
  other_order : (last fields : Record) (word : Field) → field_at fields 0 ≡ word → list_any (bytes_eq word) (codes "leg" ∷ []) ≡ false → list_any (bytes_eq word) (codes "price" ∷ []) ≡ false → in_order last fields ≡ true
  other_order last fields word same no_leg no_price =
      (λ i. cond (is_one_of (codes "leg" ∷ []) last && has_word fields word (codes "leg" ∷ []) false same no_leg i) (nat_le (number_at last 1) (number_at fields 1))
      (cond (is_one_of (codes "price" ∷ []) last && has_word fields word (codes "price" ∷ []) false same no_price i) (is_below cmp texts net bids version (row_of_price cmp texts net bids version last) (row_of_price cmp texts net bids version fields)) true))
      ∙ by (is_one_of (codes "leg" ∷ []) last) (is_one_of (codes "price" ∷ []) last)
    where
      by : (a b : Bool) → cond (a && false) (nat_le (number_at last 1) (number_at fields 1)) (cond (b && false) (is_below cmp texts net bids version (row_of_price cmp texts net bids version last) (row_of_price cmp texts net bids version fields)) true) ≡ true
      by true true = refl
      by true false = refl
      by false true = refl
      by false false = refl

  -- ---- a record with a word that may stand there

  -- what the fault of a record comes to, where its word is known and it is in order
  by_word : (last fields : Record) (word : Field) (told : Option CertCode) → field_at fields 0 ≡ word → in_order last fields ≡ true → own_fault word (drop 1 fields) ≡ told
      → or_then (own_fault (field_at fields 0) (drop 1 fields)) (order_fault (in_order last fields)) ≡ told
  by_word last fields word told same order e = (λ i. or_then (own_fault (same i) (drop 1 fields)) (order_fault (order i))) ∙ or_none (own_fault word (drop 1 fields)) ∙ e

  -- an amount, where its word alone may stand there
  amount_judged : (last fields : Record) (word : Field) (f : ℤ → Result (State R) CertCode) → ((amount : ℤ) → fault_of (f amount) ≡ None)
      → own_fault word (drop 1 fields) ≡ fault_of (count_told (drop 1 fields)) → list_any (bytes_eq word) (codes "leg" ∷ []) ≡ false → list_any (bytes_eq word) (codes "price" ∷ []) ≡ false
      → judged false (word ∷ []) last fields ≡ fault_of (cond (bytes_eq (field_at fields 0) word) (amount_told (drop 1 fields) >>= f) (Err code.Record))
  amount_judged last fields word f none own no_leg no_price = by (bytes_eq (field_at fields 0) word) refl
    where
      by : (b : Bool) → bytes_eq (field_at fields 0) word ≡ b
          → cond (not (b || false)) (Some code.Record) (or_then (own_fault (field_at fields 0) (drop 1 fields)) (order_fault (in_order last fields)))
          ≡ fault_of (cond b (amount_told (drop 1 fields) >>= f) (Err code.Record))
      by true e =
          let same = same_word (field_at fields 0) word e in
          by_word last fields word (fault_of (amount_told (drop 1 fields) >>= f)) same (other_order last fields word same no_leg no_price)
          (own ∙ sym (amount_fault (drop 1 fields)) ∙ sym (fault_before (amount_told (drop 1 fields)) f none))
      by false e = refl

  revenue_judged : (s : State R) (last fields : Record) → judged false (codes "revenue" ∷ []) last fields ≡ fault_of (revenue_step s (field_at fields 0) (drop 1 fields))
  unfolding revenue_step
  revenue_judged s last fields = amount_judged last fields (codes "revenue") (λ amount. Ok (record s { place = place.Bound; revenue = amount })) (λ amount. refl) refl refl refl

  bound_judged : (s : State R) (last fields : Record) → judged false (codes "bound" ∷ []) last fields ≡ fault_of (bound_step s (field_at fields 0) (drop 1 fields))
  unfolding bound_step
  bound_judged s last fields = amount_judged last fields (codes "bound") (λ amount. Ok (record s { place = place.Legs; bound = amount })) (λ amount. refl) refl refl refl

  -- ---- items

  forced_fault : (tree : TreeSoFar R) (fields : Record) → own_fault (codes "forced") fields ≡ fault_of (row_or_fault (read_row texts net version fields) >>= λ row. Ok (leaf_added tree (Forced row)))
  forced_fault tree fields =
      row_fault_is (read_row texts net version fields) ∙ sym (fault_before (row_or_fault (read_row texts net version fields)) (λ row. Ok (leaf_added tree (Forced row))) (λ row. refl))

  split_fault : (tree : TreeSoFar R) (fields : Record) → own_fault (codes "split") fields ≡ fault_of (leg_told net bids fields >>= λ told. Ok (split_added tree told.0 told.1))
  split_fault tree fields = sym (fault_before (leg_told net bids fields) (λ told. Ok (split_added tree told.0 told.1)) (λ told. refl))

  nowalk_fault : (tree : TreeSoFar R) (fields : Record) → own_fault (codes "nowalk") fields ≡ fault_of (bid_told bids fields >>= λ bid. Ok (leaf_added tree (NoWalk bid)))
  nowalk_fault tree fields =
      sym (fault_before (bid_told bids fields) (λ bid. Ok (leaf_added tree (NoWalk bid))) (λ bid. refl))

  priced_fault : (tree : TreeSoFar R) (fields : Record) → own_fault (codes "priced") fields ≡ fault_of (count_told fields >>= λ count. Ok (count_added tree count))
  priced_fault tree fields = sym (fault_before (count_told fields) (λ count. Ok (count_added tree count)) (λ count. refl))

  item_judged : (tree : TreeSoFar R) (last fields : Record) → judged false tree_words last fields ≡ fault_of (item_step cmp texts net bids version tree (field_at fields 0) (drop 1 fields))
  unfolding item_step
  item_judged tree last fields =
      by (bytes_eq (field_at fields 0) (codes "split")) refl (bytes_eq (field_at fields 0) (codes "nowalk")) refl (bytes_eq (field_at fields 0) (codes "forced")) refl (bytes_eq (field_at fields 0) (codes "priced")) refl
    where
      rest : Record
      rest = drop 1 fields

      by : (a : Bool) → bytes_eq (field_at fields 0) (codes "split") ≡ a → (b : Bool) → bytes_eq (field_at fields 0) (codes "nowalk") ≡ b → (c : Bool) → bytes_eq (field_at fields 0) (codes "forced") ≡ c
          → (d : Bool) → bytes_eq (field_at fields 0) (codes "priced") ≡ d
          → cond (not (a || (b || (c || (d || false))))) (Some code.Record) (or_then (own_fault (field_at fields 0) (drop 1 fields)) (order_fault (in_order last fields)))
          ≡ fault_of (cond a (leg_told net bids (drop 1 fields) >>= λ told. Ok (split_added tree told.0 told.1))
          (cond b (bid_told bids (drop 1 fields) >>= λ bid. Ok (leaf_added tree (NoWalk bid)))
          (cond c (row_or_fault (read_row texts net version (drop 1 fields)) >>= λ row. Ok (leaf_added tree (Forced row)))
          (cond d (count_told (drop 1 fields) >>= λ count. Ok (count_added tree count)) (Err code.Record)))))
      by true p b q c r d t =
          let same = same_word (field_at fields 0) (codes "split") p in
          by_word last fields (codes "split") _ same (other_order last fields (codes "split") same refl refl) (split_fault tree (drop 1 fields))
      by false p true q c r d t =
          let same = same_word (field_at fields 0) (codes "nowalk") q in
          by_word last fields (codes "nowalk") _ same (other_order last fields (codes "nowalk") same refl refl) (nowalk_fault tree (drop 1 fields))
      by false p false q true r d t =
          let same = same_word (field_at fields 0) (codes "forced") r in
          by_word last fields (codes "forced") _ same (other_order last fields (codes "forced") same refl refl) (forced_fault tree (drop 1 fields))
      by false p false q false r true t =
          let same = same_word (field_at fields 0) (codes "priced") t in
          by_word last fields (codes "priced") _ same (other_order last fields (codes "priced") same refl refl) (priced_fault tree (drop 1 fields))
      by false p false q false r false t = refl

  -- ---- prices

  price_added_fault : (tree : TreeSoFar R) (entry : R × ℤ) → fault_of (price_added cmp tree entry) ≡ order_fault (is_above cmp tree.prices entry.0)
  unfolding price_added
  price_added_fault tree entry = by (is_above cmp tree.prices entry.0)
    where
      by : (b : Bool) → fault_of (cond b (Ok (with_price cmp texts net bids version tree entry)) (Err code.Order)) ≡ order_fault b
      by true = refl
      by false = refl

  pub price_row : (fields : Record) (entry : R × ℤ) → price_told texts net version fields ≡ Ok entry → read_row texts net version (but_last fields) ≡ read.Row entry.0
  unfolding price_told
  price_row fields entry e =
      let first = bind_ok (row_or_fault (read_row texts net version (but_last fields))) (λ row. amount_told (last_alone fields) >>= λ amount. Ok (row, amount)) entry e in
      let second = bind_ok (amount_told (last_alone fields)) (λ amount. Ok (first.0, amount)) entry first.2 in
      let same : (first.0, second.0) ≡ entry = cc second.2 in
      row_read (read_row texts net version (but_last fields)) first.0 first.1 ∙ ap (λ (e : R × ℤ). read.Row e.0) same

  -- a price behind the last record is in order as its row is above the last row
  abbrev pub PricesInOrder : PriceList R → Record → Type 0
  PricesInOrder prices last =
      (fields : Record) (row : R) → field_at fields 0 ≡ codes "price" → row_of_price cmp texts net bids version fields ≡ read.Row row → in_order last fields ≡ is_above cmp prices row

  price_judged : (tree : TreeSoFar R) (last fields : Record) → PricesInOrder tree.prices last
      → judged false (codes "price" ∷ []) last fields ≡ fault_of (cond (bytes_eq (field_at fields 0) (codes "price")) (price_told texts net version (drop 1 fields) >>= price_added cmp tree) (Err code.Record))
  price_judged tree last fields order = by (bytes_eq (field_at fields 0) (codes "price")) refl
    where
      by : (b : Bool) → bytes_eq (field_at fields 0) (codes "price") ≡ b
          → cond (not (b || false)) (Some code.Record) (or_then (own_fault (field_at fields 0) (drop 1 fields)) (order_fault (in_order last fields)))
          ≡ fault_of (cond b (price_told texts net version (drop 1 fields) >>= price_added cmp tree) (Err code.Record))
      by true e =
          let same = same_word (field_at fields 0) (codes "price") e in
          ap (λ (w : Field). or_then (own_fault w (drop 1 fields)) (order_fault (in_order last fields))) same
          ∙ fault_then (price_told texts net version (drop 1 fields)) (price_added cmp tree) (order_fault (in_order last fields))
          (λ entry told. price_added_fault tree entry ∙ ap order_fault (sym (order fields entry.0 same (price_row (drop 1 fields) entry told))))
      by false e = refl

  -- ---- records of the tree

  -- the words that may stand in a tree
  abbrev words_in : ℕ → List Field
  words_in due = cond (nat_lt 0 due) (codes "price" ∷ []) tree_words

  tree_judged : (tree : TreeSoFar R) (last fields : Record) → ((d : ℕ) → tree.due ≡ suc d → PricesInOrder tree.prices last)
      → judged (steps.is_whole tree) (words_in tree.due) last fields ≡ fault_of (tree_step cmp texts net bids version tree (field_at fields 0) (drop 1 fields))
  unfolding tree_step
  tree_judged tree last fields order = by (steps.is_whole tree) (tree.due == 0) refl
    where
      by : (a b : Bool) → (tree.due == 0) ≡ b → judged a (words_in tree.due) last fields
          ≡ fault_of (cond a (Err code.Order) (cond b (item_step cmp texts net bids version tree (field_at fields 0) (drop 1 fields))
          (cond (bytes_eq (field_at fields 0) (codes "price")) (price_told texts net version (drop 1 fields) >>= price_added cmp tree) (Err code.Record))))
      by true b e = refl
      by false true e =
          let none = eqb-true tree.due 0 e in
          ap (λ (n : ℕ). judged false (words_in n) last fields) none ∙ item_judged tree last fields
      by false false e =
          let some = eqb-false tree.due 0 e in
          let due : tree.due ≡ suc (tree.due - 1) = omega (arith, some) in
          ap (λ (b : Bool). judged false (cond b (codes "price" ∷ []) tree_words) last fields) (lt-ltb 0 tree.due (omega (arith, some))) ∙ price_judged tree last fields (order (tree.due - 1) due)

  -- ---- legs

  leg_added_fault : (walks : WalksSoFar) (bid : ℕ) (leg : Leg) → fault_of (leg_added walks bid leg) ≡ order_fault (nat_le walks.last bid)
  unfolding leg_added
  leg_added_fault walks bid leg = by (nat_le walks.last bid)
    where
      by : (b : Bool) → fault_of (cond b (Ok (with_leg net walks bid leg)) (Err code.Order)) ≡ order_fault b
      by true = refl
      by false = refl

  -- the bid number of a leg that is told
  pub leg_number : (fields : Record) (told : ℕ × Leg) → leg_told net bids (drop 1 fields) ≡ Ok told → number_at fields 1 ≡ told.0 + 1
  leg_number fields told e =
      let is = leg_is net built bids few (drop 1 fields) told e in
      let within = is.0 in
      let field : field_at fields 1 ≡ decimal (told.0 + 1) = second_is fields ∙ ap (λ (fs : Record). field_at fs 0) (sym is.2) in
      ap (λ (f : Field). unwrap_or (plain_number_of f) 0) field ∙ ap (λ (o : Option ℕ). unwrap_or o 0) (plain_number_back (told.0 + 1) (omega (arith, within, few)))

  -- a leg behind the last record is in order as its bid is no less than the last one
  abbrev pub LegsInOrder : WalksSoFar → Record → Type 0
  LegsInOrder walks last = (fields : Record) (bid : ℕ) → field_at fields 0 ≡ codes "leg" → number_at fields 1 ≡ bid + 1 → in_order last fields ≡ nat_le walks.last bid

  abbrev legs_go_on : State R → ℕ × Leg → Result (State R) CertCode
  legs_go_on s told = leg_added s.walks told.0 told.1 >>= λ walks. Ok (record s { walks = walks })

  leg_judged : (s : State R) (last fields : Record) → LegsInOrder s.walks last → field_at fields 0 ≡ codes "leg"
      → or_then (own_fault (field_at fields 0) (drop 1 fields)) (order_fault (in_order last fields)) ≡ fault_of (leg_told net bids (drop 1 fields) >>= legs_go_on s)
  leg_judged s last fields order same =
      ap (λ (w : Field). or_then (own_fault w (drop 1 fields)) (order_fault (in_order last fields))) same
      ∙ fault_then (leg_told net bids (drop 1 fields)) (legs_go_on s) (order_fault (in_order last fields))
      (λ told e. fault_before (leg_added s.walks told.0 told.1) (λ walks. Ok (record s { walks = walks })) (λ walks. refl) ∙ leg_added_fault s.walks told.0 told.1
      ∙ ap order_fault (sym (order fields told.0 same (leg_number fields told e))))

  tree_goes_on : (s : State R) (word : Field) (fields : Record)
      → fault_of (tree_step cmp texts net bids version s.tree word fields >>= λ tree. Ok (record s { place = place.Tree; tree = tree })) ≡ fault_of (tree_step cmp texts net bids version s.tree word fields)
  tree_goes_on s word fields = fault_before (tree_step cmp texts net bids version s.tree word fields) (λ tree. Ok (record s { place = place.Tree; tree = tree })) (λ tree. refl)

  -- behind the legs
  legs_judged : (s : State R) (last fields : Record) → LegsInOrder s.walks last → steps.is_whole s.tree ≡ false → s.tree.due ≡ 0
      → judged false (codes "leg" ∷ tree_words) last fields ≡ fault_of (body_step cmp texts net bids version true s (field_at fields 0) (drop 1 fields))
  unfolding body_step
  legs_judged s last fields order open_ none = by (bytes_eq (field_at fields 0) (codes "leg")) refl
    where
      no_due : (d : ℕ) → s.tree.due ≡ suc d → PricesInOrder s.tree.prices last
      no_due d e = absurd (omega (arith, e, none))

      by : (b : Bool) → bytes_eq (field_at fields 0) (codes "leg") ≡ b
          → cond (not (b || is_one_of tree_words fields)) (Some code.Record) (or_then (own_fault (field_at fields 0) (drop 1 fields)) (order_fault (in_order last fields)))
          ≡ fault_of (cond b (leg_told net bids (drop 1 fields) >>= legs_go_on s)
          (tree_step cmp texts net bids version s.tree (field_at fields 0) (drop 1 fields) >>= λ tree. Ok (record s { place = place.Tree; tree = tree })))
      by true e = leg_judged s last fields order (same_word (field_at fields 0) (codes "leg") e)
      by false e =
          (λ i. judged (sym open_ i) (words_in (sym none i)) last fields) ∙ tree_judged s.tree last fields no_due ∙ sym (tree_goes_on s (field_at fields 0) (drop 1 fields))

  -- in the tree
  in_tree_judged : (s : State R) (last fields : Record) → ((d : ℕ) → s.tree.due ≡ suc d → PricesInOrder s.tree.prices last)
      → judged (steps.is_whole s.tree) (words_in s.tree.due) last fields ≡ fault_of (body_step cmp texts net bids version false s (field_at fields 0) (drop 1 fields))
  unfolding body_step
  in_tree_judged s last fields order = tree_judged s.tree last fields order ∙ sym (tree_goes_on s (field_at fields 0) (drop 1 fields))

  -- ---- what is known of the records before

  abbrev pub AgreesAt : Place → State R → List Record → Type 0
  AgreesAt place.Revenue s before = (length before ≡ 1) × (s.tree.ways ≡ 1) × (s.tree.due ≡ 0) × (s.walks.last ≡ 0)
  AgreesAt place.Bound s before = (length before ≡ 2) × (s.tree.ways ≡ 1) × (s.tree.due ≡ 0) × (s.walks.last ≡ 0)
  AgreesAt place.Legs s before =
      (3 ≤ length before) × (s.tree.ways ≡ 1) × (s.tree.due ≡ 0) × (is_one_of (codes "bound" ∷ codes "leg" ∷ []) (last_of before) ≡ true) × LegsInOrder s.walks (last_of before)
  AgreesAt place.Tree s before =
      (3 ≤ length before) × (is_one_of (codes "bound" ∷ codes "leg" ∷ []) (last_of before) ≡ false) × ((d : ℕ) → s.tree.due ≡ suc d → PricesInOrder s.tree.prices (last_of before))

  -- what was read so far is what the records before tell
  pub record Agrees (s : State R) (before : List Record) : Type 0 where
    pub ways : s.tree.ways + count_by (is_one_of leaf_words) before ≡ count_by (is_one_of (codes "split" ∷ [])) before + 1
    pub due : prices_due before ≡ s.tree.due
    pub none : s.tree.due ≡ 0 → s.tree.prices ≡ []
    pub at : AgreesAt s.place s before

  pub whole_same : (s : State R) (before : List Record) → Agrees s before → is_whole before ≡ steps.is_whole s.tree
  whole_same s before a =
      λ i. same_zero s.tree.ways (count_by (is_one_of leaf_words) before) (count_by (is_one_of (codes "split" ∷ [])) before) a.ways i && (a.due i == 0)

  not_whole : (tree : TreeSoFar R) → tree.ways ≡ 1 → steps.is_whole tree ≡ false
  not_whole tree one = ap (λ (n : ℕ). (n == 0) && (tree.due == 0)) one

  -- the words behind at least three records
  words_later : (before : List Record) (due : ℕ) (b : Bool) → 3 ≤ length before → prices_due before ≡ due → is_one_of (codes "bound" ∷ codes "leg" ∷ []) (last_of before) ≡ b
      → words_behind before ≡ cond (nat_lt 0 due) (codes "price" ∷ []) (cond b (codes "leg" ∷ tree_words) tree_words)
  words_later before due b long same last =
      λ i. cond (ne_eqb (length before) 1 (λ e. absurd (omega (arith, e, long))) i) (codes "revenue" ∷ [])
      (cond (ne_eqb (length before) 2 (λ e. absurd (omega (arith, e, long))) i) (codes "bound" ∷ [])
      (cond (nat_lt 0 (same i)) (codes "price" ∷ []) (cond (last i) (codes "leg" ∷ tree_words) tree_words)))

  words_first : (before : List Record) → length before ≡ 1 → words_behind before ≡ codes "revenue" ∷ []
  words_first before e = rw e refl

  words_second : (before : List Record) → length before ≡ 2 → words_behind before ≡ codes "bound" ∷ []
  words_second before e = rw e refl

  fault_is_at : (p : Place) (s : State R) (before : List Record) (fields : Record) → Agrees s before → AgreesAt p s before
      → judged (steps.is_whole s.tree) (words_behind before) (last_of before) fields ≡ fault_of (step_at cmp texts net bids version p s (field_at fields 0) (drop 1 fields))
  fault_is_at place.Revenue s before fields a at =
      (λ i. judged (not_whole s.tree at.1 i) (words_first before at.0 i) (last_of before) fields) ∙ revenue_judged s (last_of before) fields
  fault_is_at place.Bound s before fields a at =
      (λ i. judged (not_whole s.tree at.1 i) (words_second before at.0 i) (last_of before) fields) ∙ bound_judged s (last_of before) fields
  fault_is_at place.Legs s before fields a at =
      let words : words_behind before ≡ codes "leg" ∷ tree_words = words_later before 0 true at.0 (a.due ∙ at.2) at.3 in
      let open_ = not_whole s.tree at.1 in
      (λ i. judged (open_ i) (words i) (last_of before) fields) ∙ legs_judged s (last_of before) fields at.4 open_ at.2
  fault_is_at place.Tree s before fields a at =
      let words : words_behind before ≡ words_in s.tree.due = words_later before s.tree.due false at.0 a.due at.1 in
      (λ i. judged (steps.is_whole s.tree) (words i) (last_of before) fields) ∙ in_tree_judged s (last_of before) fields at.2

  -- The fault of a record behind the records before it is that of its step.
  pub fault_is : (s : State R) (before : List Record) (fields : Record) → Agrees s before → fault_at cmp texts net bids version before fields ≡ fault_of (step cmp texts net bids version s fields)
  unfolding fault_at step
  fault_is s before fields a = ap (λ (b : Bool). judged b (words_behind before) (last_of before) fields) (whole_same s before a) ∙ fault_is_at s.place s before fields a a.at
