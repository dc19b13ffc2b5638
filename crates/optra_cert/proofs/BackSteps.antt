-- The records that are written of a certificate are read back, part by part.
use Rattle.std.proofs.Common.{◌≡◌, ◌<◌, ◌≤◌, ◌^◌, ◌+◌, ◌-◌, ◌++◌, ◌==◌, ◌&&◌, ◌⊎◌, inl, inr, ℕ, zero, suc, Bool, true, false, List, [], ◌∷◌, length, drop, get_or, map, flat_map, replicate, Option, Some, None, refl, sym, ap, ◌∙◌, subst, arith, codes, append_assoc, cond, bytes_eq, ℤ}
use Rattle.std.specs.Prelude.{All, IfSome, Result, Ok, Err, slice_get, slice_set, unwrap_or}
use Rattle.std.specs.Option.{option_map_or}
use Rattle.std.specs.Fmt.{decimal, signed_decimal}
use Rattle.std.specs.Ordering.{is_lt}
use Rattle.std.specs.declared.cmp.Ordering.{Ordering}
use Rattle.std.specs.declared.cmp.Ordering.TheVariants.{Less}
use Rattle.std.proofs.lemmas.Bool.{ne_eqb, and_right}
use Rattle.std.proofs.lemmas.List.{append-nil, get_or_append_left, get_or_at, length-append, length_push, set_at}
use Rattle.std.proofs.lemmas.List.Concat.{flat_map-cons}
use Rattle.std.proofs.lemmas.Option.{slice_get-get_or}
use Rattle.std.proofs.lemmas.List.Elements.{All-head, All-tail}
use Rattle.optra_network.specs.Net.{Net, IsBuilt}
use Rattle.optra_walk.specs.declared.Leg.{Leg}
use Rattle.optra_node.specs.declared.Item.{Item}
use Rattle.optra_node.specs.declared.Item.TheVariants.{Split, NoWalk, Forced, Priced}
use Rattle.optra_node.specs.Certificates.{AreAscending, IsFormedItem, IsFormedWalk}
use Rattle.optra_node.specs.Duals.{PriceList}
use Rattle.optra_node.specs.Nodes.{IsFormedLeg, legs_at}
use Rattle.optra_node.specs.Trees.{arity, open_count}
use Rattle.optra_node.proofs.PlaceLemmas.{count_by_tree}
use Rattle.optra_records.specs.Reading.{Field, Record}
use Rattle.optra_cert.specs.RowTexts.{RowTexts, AreApart, AreTexts, row_fields}
use Rattle.optra_cert.specs.Certs.{Cert, IsAmount, IsListed, IsWritable, IsWritableItem}
use Rattle.optra_cert.specs.CertTexts.{cert_records, item_records, leg_record, leg_records, price_record}
use Rattle.optra_cert.specs.Outcomes.{◌>>=◌, row_or_fault}
use Rattle.optra_cert.specs.RecordFields.{leg_told, price_told}
use Rattle.optra_cert.specs.Steps.{State, TreeSoFar, WalksSoFar, body_step, bound_step, count_added, fault, filled, in_row, is_above, is_whole, item_step, leaf_added, leg_added, price_added, read_rows, revenue_step, split_added, started, step, step_at, tree_step}
use Rattle.optra_cert.specs.declared.CertCode.{CertCode}
use Rattle.optra_cert.specs.declared.CertCode.TheVariants as code
use Rattle.optra_cert.specs.declared.read_parts.Place.{Place}
use Rattle.optra_cert.specs.declared.read_parts.Place.TheVariants as place
use Rattle.optra_cert.specs.declared.row_text.RowRead.{RowRead}
use Rattle.optra_cert.proofs.LegTexts.{leg_back, leg_fields}
use Rattle.optra_cert.proofs.RowLemmas.{row_back}
use Rattle.optra_cert.proofs.TellLemmas.{amount_back, bid_back, count_back, price_back}
use Rattle.optra_cert.proofs.TreeSteps.{filled_open, price_add_back, tree_of, with_price}
use Rattle.optra_cert.proofs.WalkSteps.{Choice, add_back, with_leg}

-- ---- the legs of one bid

-- the bid at a place of a choice
at_place : (done : Choice) (walk : Option (List Leg)) (more : Choice) → legs_at (done ++ walk ∷ more) (length done) ≡ option_map_or (λ legs. unwrap_or legs []) (Some walk) []
at_place [] walk more = refl
at_place (first ∷ done) walk more = at_place done walk more

-- the walks with the legs of a bid
abbrev legs_taken : Net → WalksSoFar → ℕ → List Leg → WalksSoFar
legs_taken net walks bid [] = walks
legs_taken net walks bid (leg ∷ legs) = legs_taken net (with_leg net walks bid leg) bid legs

abbrev walks_of : Choice → ℕ → WalksSoFar
walks_of choice last = record { choice = choice; last = last }

module _ (net : Net) where
  -- one leg more of the bid at a place
  leg_at_place : (done : Choice) (got : List Leg) (more : Choice) (last : ℕ) (leg : Leg)
      → with_leg net (walks_of (done ++ Some got ∷ more) last) (length done) leg ≡ walks_of (done ++ Some (got ++ leg ∷ []) ∷ more) (length done)
  leg_at_place done got more last leg =
      ap (λ (c : Choice). walks_of c (length done))
      (ap (λ (legs : List Leg). slice_set (done ++ Some got ∷ more) (length done) (Some (legs ++ leg ∷ []))) (at_place done (Some got) more)
      ∙ set_at done (Some got) more (Some (got ++ leg ∷ [])) (length done) refl)

  -- the first leg of the bid at a place
  first_at_place : (done more : Choice) (last : ℕ) (leg : Leg)
      → with_leg net (walks_of (done ++ None ∷ more) last) (length done) leg ≡ walks_of (done ++ Some (leg ∷ []) ∷ more) (length done)
  first_at_place done more last leg =
      ap (λ (c : Choice). walks_of c (length done))
      (ap (λ (legs : List Leg). slice_set (done ++ None ∷ more) (length done) (Some (legs ++ leg ∷ []))) (at_place done None more)
      ∙ set_at done None more (Some (leg ∷ [])) (length done) refl)

  more_taken : (done : Choice) (got legs : List Leg) (more : Choice)
      → legs_taken net (walks_of (done ++ Some got ∷ more) (length done)) (length done) legs ≡ walks_of (done ++ Some (got ++ legs) ∷ more) (length done)
  more_taken done got [] more = ap (λ (l : List Leg). walks_of (done ++ Some l ∷ more) (length done)) (sym (append-nil got))
  more_taken done got (leg ∷ legs) more =
      ap (λ (w : WalksSoFar). legs_taken net w (length done) legs) (leg_at_place done got more (length done) leg)
      ∙ more_taken done (got ++ leg ∷ []) legs more
      ∙ ap (λ (l : List Leg). walks_of (done ++ Some l ∷ more) (length done)) (append_assoc got (leg ∷ []) legs)

  -- the legs of a bid that is served
  walk_taken : (done : Choice) (legs : List Leg) (more : Choice) (last : ℕ) → 0 < length legs
      → legs_taken net (walks_of (done ++ None ∷ more) last) (length done) legs ≡ walks_of (done ++ Some legs ∷ more) (length done)
  walk_taken done [] more last some = absurd (omega (arith, some))
  walk_taken done (leg ∷ legs) more last some =
      ap (λ (w : WalksSoFar). legs_taken net w (length done) legs) (first_at_place done more last leg) ∙ more_taken done (leg ∷ []) legs more

-- ---- records that lead to a certificate

module _ {R : Type 0} (cmp : R → R → Ordering) (texts : RowTexts R) (apart : AreApart texts.kinds) (are : AreTexts texts) (net : Net) (built : IsBuilt net) (bids : ℕ) (few : bids < 10 ^ 18) (version : ℕ) where
  -- from what is known, records give a certificate, in whatever row they stand
  abbrev pub ReadsTo : State R → List Record → Cert R → Type 0
  ReadsTo s rest cert = (row : ℕ) → read_rows cmp texts net bids version s row rest ≡ Ok cert

  one_read : (s next : State R) (fields : Record) (rest : List Record) (cert : Cert R) → step cmp texts net bids version s fields ≡ Ok next → ReadsTo next rest cert → ReadsTo s (fields ∷ rest) cert
  unfolding read_rows
  one_read s next fields rest cert taken more row =
      ap (λ (r : Result (State R) CertCode). in_row row r >>= λ n. read_rows cmp texts net bids version n (row + 1) rest) taken ∙ more (row + 1)

  -- ---- the first records

  revenue_taken : (s : State R) (amount : ℤ) → s.place ≡ place.Revenue → IsAmount amount → step cmp texts net bids version s (codes "revenue" ∷ signed_decimal amount ∷ []) ≡ Ok (record s { place = place.Bound; revenue = amount })
  unfolding step revenue_step
  revenue_taken s amount at is =
      ap (λ (p : Place). step_at cmp texts net bids version p s (codes "revenue") (signed_decimal amount ∷ [])) at
      ∙ ap (λ (r : Result ℤ CertCode). r >>= λ (n : ℤ). Ok (record s { place = place.Bound; revenue = n })) (amount_back amount is)

  bound_taken : (s : State R) (amount : ℤ) → s.place ≡ place.Bound → IsAmount amount → step cmp texts net bids version s (codes "bound" ∷ signed_decimal amount ∷ []) ≡ Ok (record s { place = place.Legs; bound = amount })
  unfolding step bound_step
  bound_taken s amount at is =
      ap (λ (p : Place). step_at cmp texts net bids version p s (codes "bound") (signed_decimal amount ∷ [])) at
      ∙ ap (λ (r : Result ℤ CertCode). r >>= λ (n : ℤ). Ok (record s { place = place.Legs; bound = n })) (amount_back amount is)

  -- ---- legs

  leg_taken : (s : State R) (bid : ℕ) (leg : Leg) → s.place ≡ place.Legs → bid < bids → IsFormedLeg net leg → s.walks.last ≤ bid
      → step cmp texts net bids version s (leg_record net (codes "leg") bid leg) ≡ Ok (record s { walks = with_leg net s.walks bid leg })
  unfolding step body_step
  leg_taken s bid leg at within formed least =
      ap (λ (p : Place). step_at cmp texts net bids version p s (codes "leg") (leg_fields net bid leg)) at
      ∙ ap (λ (r : Result (ℕ × Leg) CertCode). r >>= λ (told : ℕ × Leg). leg_added s.walks told.0 told.1 >>= λ (walks : WalksSoFar). Ok (record s { walks = walks })) (leg_back net built bids few bid leg within formed)
      ∙ ap (λ (r : Result WalksSoFar CertCode). r >>= λ (walks : WalksSoFar). Ok (record s { walks = walks })) (add_back net s.walks bid leg least)

  legs_read : (legs : List Leg) (s : State R) (bid : ℕ) (rest : List Record) (cert : Cert R) → s.place ≡ place.Legs → bid < bids → All (IsFormedLeg net) legs → s.walks.last ≤ bid
      → ReadsTo (record s { walks = legs_taken net s.walks bid legs }) rest cert → ReadsTo s (map (leg_record net (codes "leg") bid) legs ++ rest) cert
  legs_read [] s bid rest cert at within formed least more = more
  legs_read (leg ∷ legs) s bid rest cert at within formed least more =
      one_read s (record s { walks = with_leg net s.walks bid leg }) (leg_record net (codes "leg") bid leg) (map (leg_record net (codes "leg") bid) legs ++ rest) cert
      (leg_taken s bid leg at within (All-head (IsFormedLeg net) leg legs formed) least)
      (legs_read legs (record s { walks = with_leg net s.walks bid leg }) bid rest cert at within (All-tail (IsFormedLeg net) leg legs formed) (omega arith) more)

  abbrev Formed : Choice → Type 0
  Formed choice = All (λ walk. IfSome walk (IsFormedWalk net)) choice

  -- the bids in turn
  walks_read : (todo done : Choice) (s : State R) (rest : List Record) (cert : Cert R) → s.place ≡ place.Legs → length done + length todo ≤ bids → s.walks.choice ≡ done ++ replicate (length todo) None → s.walks.last ≤ length done → Formed todo
      → ((last : ℕ) → ReadsTo (record s { walks = walks_of (done ++ todo) last }) rest cert) → ReadsTo s (leg_records net (length done) todo ++ rest) cert
  walks_read [] done s rest cert at within choice least formed more =
      subst (λ (w : WalksSoFar). ReadsTo (record s { walks = w }) rest cert) (ap (λ (c : Choice). walks_of c s.walks.last) (sym choice)) (more s.walks.last)
  walks_read (None ∷ todo) done s rest cert at within choice least formed more =
      let long = length_push done None in
      let next : s.walks.choice ≡ (done ++ None ∷ []) ++ replicate (length todo) None = choice ∙ sym (append_assoc done (None ∷ []) (replicate (length todo) None)) in
      subst (λ (n : ℕ). ReadsTo s (leg_records net n todo ++ rest) cert) long
      (walks_read todo (done ++ None ∷ []) s rest cert at (omega (arith, long, within)) next (omega (arith, long, least)) (All-tail (λ walk. IfSome walk (IsFormedWalk net)) None todo formed)
      (λ last. subst (λ (c : Choice). ReadsTo (record s { walks = walks_of c last }) rest cert) (sym (append_assoc done (None ∷ []) todo)) (more last)))
  walks_read (Some legs ∷ todo) done s rest cert at within choice least formed more =
      let long = length_push done (Some legs) in
      let own = All-head (λ walk. IfSome walk (IsFormedWalk net)) (Some legs) todo formed in
      let later : List Record = leg_records net (length done + 1) todo in
      let padded : Choice = replicate (length todo) None in
      let taken : legs_taken net s.walks (length done) legs ≡ walks_of (done ++ Some legs ∷ padded) (length done) =
      ap (λ (c : Choice). legs_taken net (walks_of c s.walks.last) (length done) legs) choice ∙ walk_taken net done legs padded s.walks.last own.some in
      let next : done ++ Some legs ∷ padded ≡ (done ++ Some legs ∷ []) ++ padded = sym (append_assoc done (Some legs ∷ []) padded) in
      let after : State R = record s { walks = walks_of (done ++ Some legs ∷ padded) (length done) } in
      let others : ReadsTo after (leg_records net (length (done ++ Some legs ∷ [])) todo ++ rest) cert =
      walks_read todo (done ++ Some legs ∷ []) after rest cert at (omega (arith, long, within)) next (omega (arith, long)) (All-tail (λ walk. IfSome walk (IsFormedWalk net)) (Some legs) todo formed)
      (λ last. subst (λ (c : Choice). ReadsTo (record s { walks = walks_of c last }) rest cert) (sym (append_assoc done (Some legs ∷ []) todo)) (more last)) in
      let from_own : ReadsTo after (later ++ rest) cert = subst (λ (n : ℕ). ReadsTo after (leg_records net n todo ++ rest) cert) long others in
      subst (λ (rows : List Record). ReadsTo s rows cert) (sym (append_assoc (map (leg_record net (codes "leg") (length done)) legs) later rest))
      (legs_read legs s (length done) (later ++ rest) cert at (omega (arith, within)) own.formed least
      (subst (λ (w : WalksSoFar). ReadsTo (record s { walks = w }) (later ++ rest) cert) (sym taken) from_own))

  -- ---- the tree

  abbrev IsTreePlace : Place → Type 0
  IsTreePlace p = (p ≡ place.Legs) ⊎ (p ≡ place.Tree)

  abbrev in_tree : State R → TreeSoFar R → State R
  in_tree s tree = record s { place = place.Tree; tree = tree }

  abbrev taken_on : State R → Result (TreeSoFar R) CertCode → Result (State R) CertCode
  taken_on s r = r >>= λ (tree : TreeSoFar R). Ok (in_tree s tree)

  -- a record of the tree
  tree_taken : (s : State R) (word : Field) (rest : Record) (next : TreeSoFar R) → IsTreePlace s.place → bytes_eq word (codes "leg") ≡ false → tree_step cmp texts net bids version s.tree word rest ≡ Ok next
      → step cmp texts net bids version s (word ∷ rest) ≡ Ok (in_tree s next)
  unfolding step body_step
  tree_taken s word rest next (inl at) other taken =
      ap (λ (p : Place). step_at cmp texts net bids version p s word rest) at
      ∙ ap (λ (b : Bool). cond (true && b) (leg_told net bids rest >>= λ (told : ℕ × Leg). leg_added s.walks told.0 told.1 >>= λ (walks : WalksSoFar). Ok (record s { walks = walks })) (taken_on s (tree_step cmp texts net bids version s.tree word rest))) other
      ∙ ap (taken_on s) taken
  tree_taken s word rest next (inr at) other taken =
      ap (λ (p : Place). step_at cmp texts net bids version p s word rest) at ∙ ap (taken_on s) taken

  -- ---- prices

  above_from : (got : PriceList R) (entry : R × ℤ) (todo : PriceList R) → AreAscending cmp (got ++ entry ∷ todo) → is_above cmp got entry.0 ≡ true
  above_from [] entry todo ascend = refl
  above_from (first ∷ got) entry todo ascend =
      let all : PriceList R = first ∷ got in
      let last : ℕ = length all - 1 in
      let within : last < length all = omega arith in
      let long = length-append all (entry ∷ todo) in
      let at : slice_get all last ≡ Some (get_or all last entry) = slice_get-get_or all last entry within in
      let left : get_or (all ++ entry ∷ todo) last entry ≡ get_or all last entry = get_or_append_left all (entry ∷ todo) entry last within in
      let right : get_or (all ++ entry ∷ todo) (length all) entry ≡ entry = get_or_at all entry todo entry (length all) refl in
      let less : cmp (get_or all last entry).0 entry.0 ≡ Less = (λ i. cmp (sym left i).0 (sym right i).0) ∙ ascend last (length all) entry (omega arith) (omega (arith, long)) in
      ap (λ (o : Option (R × ℤ)). option_map_or (λ e. is_lt (cmp e.0 entry.0)) o true) at ∙ ap is_lt less

  price_step : (tree : TreeSoFar R) (entry : R × ℤ) (left : ℕ) → tree.due ≡ suc left → IsListed texts net version entry → is_above cmp tree.prices entry.0 ≡ true
      → tree_step cmp texts net bids version tree (codes "price") (row_fields texts net entry.0 ++ signed_decimal entry.1 ∷ []) ≡ Ok (with_price cmp texts net bids version tree entry)
  unfolding tree_step
  price_step tree entry left due listed above =
      let fields : Record = row_fields texts net entry.0 ++ signed_decimal entry.1 ∷ [] in
      let open_ : (tree.due == 0) ≡ false = ne_eqb tree.due 0 (λ e. absurd (omega (arith, e, due))) in
      let go_on : Result (TreeSoFar R) CertCode = price_told texts net version fields >>= price_added cmp tree in
      (λ i. cond (and_right (tree.ways == 0) (tree.due == 0) open_ i) (Err code.Order) (cond (open_ i) (item_step cmp texts net bids version tree (codes "price") fields) go_on))
      ∙ ap (λ (r : Result (R × ℤ) CertCode). r >>= price_added cmp tree) (price_back texts apart are net built version entry listed)
      ∙ price_add_back cmp texts net bids version tree entry above

  prices_read : (todo got : PriceList R) (s : State R) (done : List (Item R)) (m : ℕ) (rest : List Record) (cert : Cert R) → s.place ≡ place.Tree → s.tree ≡ filled (tree_of done m (length todo) got)
      → All (IsListed texts net version) todo → AreAscending cmp (got ++ todo) → ReadsTo (in_tree s (tree_of (done ++ Priced (got ++ todo) ∷ []) m 0 [])) rest cert → ReadsTo s (map (price_record texts net) todo ++ rest) cert
  prices_read [] got s done m rest cert at tree listed ascend more =
      let closed : tree_of (done ++ Priced (got ++ []) ∷ []) m 0 [] ≡ s.tree = ap (λ (ps : PriceList R). tree_of (done ++ Priced ps ∷ []) m 0 []) (append-nil got) ∙ sym tree in
      let same : in_tree s (tree_of (done ++ Priced (got ++ []) ∷ []) m 0 []) ≡ s = λ i. record s { place = sym at i; tree = closed i } in
      subst (λ (n : State R). ReadsTo n rest cert) same more
  prices_read (entry ∷ todo) got s done m rest cert at tree listed ascend more =
      let left : ℕ = length todo in
      let own : TreeSoFar R = tree_of done m (suc left) got in
      let open_ : s.tree ≡ own = tree ∙ filled_open cmp texts net bids version own left refl in
      let next : TreeSoFar R = with_price cmp texts net bids version own entry in
      let before : suc left - 1 ≡ left = omega arith in
      let next_is : next ≡ filled (tree_of done m left (got ++ entry ∷ [])) = ap (λ (n : ℕ). filled (tree_of done m n (got ++ entry ∷ []))) before in
      let taken : tree_step cmp texts net bids version s.tree (codes "price") (row_fields texts net entry.0 ++ signed_decimal entry.1 ∷ []) ≡ Ok next =
      ap (λ (t : TreeSoFar R). tree_step cmp texts net bids version t (codes "price") (row_fields texts net entry.0 ++ signed_decimal entry.1 ∷ [])) open_
      ∙ price_step own entry left refl (All-head (IsListed texts net version) entry todo listed) (above_from got entry todo ascend) in
      let all : (got ++ entry ∷ []) ++ todo ≡ got ++ entry ∷ todo = append_assoc got (entry ∷ []) todo in
      one_read s (in_tree s next) (price_record texts net entry) (map (price_record texts net) todo ++ rest) cert
      (tree_taken s (codes "price") (row_fields texts net entry.0 ++ signed_decimal entry.1 ∷ []) next (inr at) refl taken)
      (prices_read todo (got ++ entry ∷ []) (in_tree s next) done m rest cert refl next_is (All-tail (IsListed texts net version) entry todo listed)
      (subst (AreAscending cmp) (sym all) ascend)
      (subst (λ (ps : PriceList R). ReadsTo (in_tree s (tree_of (done ++ Priced ps ∷ []) m 0 [])) rest cert) (sym all) more))

  -- ---- items

  abbrev cert_with : State R → List (Item R) → Cert R
  cert_with s items = record { revenue = s.revenue; bound = s.bound; choice = s.walks.choice; tree = items }

  -- an item begins where a node is open and no price is to come
  item_begins : (done : List (Item R)) (m : ℕ) (word : Field) (rest : Record) → tree_step cmp texts net bids version (tree_of done (suc m) 0 []) word rest ≡ item_step cmp texts net bids version (tree_of done (suc m) 0 []) word rest
  unfolding tree_step
  item_begins done m word rest =
      let open_ : (suc m == 0) ≡ false = ne_eqb (suc m) 0 (λ e. absurd (omega (arith, e))) in
      ap (λ (b : Bool). cond (b && true) (Err code.Order) (item_step cmp texts net bids version (tree_of done (suc m) 0 []) word rest)) open_

  split_step : (tree : TreeSoFar R) (bid : ℕ) (leg : Leg) → bid < bids → IsFormedLeg net leg → item_step cmp texts net bids version tree (codes "split") (leg_fields net bid leg) ≡ Ok (split_added tree bid leg)
  unfolding item_step
  split_step tree bid leg within formed = ap (λ (r : Result (ℕ × Leg) CertCode). r >>= λ (told : ℕ × Leg). Ok (split_added tree told.0 told.1)) (leg_back net built bids few bid leg within formed)

  nowalk_step : (tree : TreeSoFar R) (bid : ℕ) → bid < bids → item_step cmp texts net bids version tree (codes "nowalk") (decimal (bid + 1) ∷ []) ≡ Ok (leaf_added tree (NoWalk bid))
  unfolding item_step
  nowalk_step tree bid within = ap (λ (r : Result ℕ CertCode). r >>= λ (n : ℕ). Ok (leaf_added tree (NoWalk n))) (bid_back bids bid few within)

  forced_step : (tree : TreeSoFar R) (row : R) → IsWritableItem texts net version (Forced row) → item_step cmp texts net bids version tree (codes "forced") (row_fields texts net row) ≡ Ok (leaf_added tree (Forced row))
  unfolding item_step
  forced_step tree row is = ap (λ (r : RowRead R). row_or_fault r >>= λ (n : R). Ok (leaf_added tree (Forced n))) (row_back texts apart are net built version row is)

  priced_step : (tree : TreeSoFar R) (count : ℕ) → count < 10 ^ 18 → item_step cmp texts net bids version tree (codes "priced") (decimal count ∷ []) ≡ Ok (count_added tree count)
  unfolding item_step
  priced_step tree count small = ap (λ (r : Result ℕ CertCode). r >>= λ (n : ℕ). Ok (count_added tree n)) (count_back count small)

  -- the first record of an item
  begun : (s : State R) (done : List (Item R)) (m : ℕ) (word : Field) (rest : Record) (next : TreeSoFar R) → s.tree ≡ tree_of done (suc m) 0 [] → IsTreePlace s.place → bytes_eq word (codes "leg") ≡ false
      → item_step cmp texts net bids version (tree_of done (suc m) 0 []) word rest ≡ Ok next → step cmp texts net bids version s (word ∷ rest) ≡ Ok (in_tree s next)
  begun s done m word rest next tree at other taken =
      tree_taken s word rest next at other (ap (λ (t : TreeSoFar R). tree_step cmp texts net bids version t word rest) tree ∙ item_begins done m word rest ∙ taken)

  -- an item, and then the others
  item_read : (item : Item R) (s : State R) (done : List (Item R)) (m : ℕ) (rest : List Record) (cert : Cert R) → IsTreePlace s.place → s.tree ≡ tree_of done (suc m) 0 []
      → IsFormedItem cmp net bids item → IsWritableItem texts net version item → ReadsTo (in_tree s (tree_of (done ++ item ∷ []) (arity item + m) 0 [])) rest cert → ReadsTo s (item_records texts net item ++ rest) cert
  item_read (Split bid leg) s done m rest cert at tree formed writable more =
      let ways : suc m + 1 ≡ 2 + m = omega arith in
      one_read s (in_tree s (split_added (tree_of done (suc m) 0 []) bid leg)) (leg_record net (codes "split") bid leg) rest cert
      (begun s done m (codes "split") (leg_fields net bid leg) (split_added (tree_of done (suc m) 0 []) bid leg) tree at refl (split_step (tree_of done (suc m) 0 []) bid leg formed.0 formed.1))
      (subst (λ (n : ℕ). ReadsTo (in_tree s (tree_of (done ++ Split bid leg ∷ []) n 0 [])) rest cert) (sym ways) more)
  item_read (NoWalk bid) s done m rest cert at tree formed writable more =
      let ways : suc m - 1 ≡ 0 + m = omega arith in
      one_read s (in_tree s (leaf_added (tree_of done (suc m) 0 []) (NoWalk bid))) (codes "nowalk" ∷ decimal (bid + 1) ∷ []) rest cert
      (begun s done m (codes "nowalk") (decimal (bid + 1) ∷ []) (leaf_added (tree_of done (suc m) 0 []) (NoWalk bid)) tree at refl (nowalk_step (tree_of done (suc m) 0 []) bid formed))
      (subst (λ (n : ℕ). ReadsTo (in_tree s (tree_of (done ++ NoWalk bid ∷ []) n 0 [])) rest cert) (sym ways) more)
  item_read (Forced row) s done m rest cert at tree formed writable more =
      let ways : suc m - 1 ≡ 0 + m = omega arith in
      one_read s (in_tree s (leaf_added (tree_of done (suc m) 0 []) (Forced row))) (codes "forced" ∷ row_fields texts net row) rest cert
      (begun s done m (codes "forced") (row_fields texts net row) (leaf_added (tree_of done (suc m) 0 []) (Forced row)) tree at refl (forced_step (tree_of done (suc m) 0 []) row writable))
      (subst (λ (n : ℕ). ReadsTo (in_tree s (tree_of (done ++ Forced row ∷ []) n 0 [])) rest cert) (sym ways) more)
  item_read (Priced prices) s done m rest cert at tree formed writable more =
      let ways : suc m - 1 ≡ 0 + m = omega arith in
      one_read s (in_tree s (count_added (tree_of done (suc m) 0 []) (length prices))) (codes "priced" ∷ decimal (length prices) ∷ []) (map (price_record texts net) prices ++ rest) cert
      (begun s done m (codes "priced") (decimal (length prices) ∷ []) (count_added (tree_of done (suc m) 0 []) (length prices)) tree at refl (priced_step (tree_of done (suc m) 0 []) (length prices) writable.0))
      (prices_read prices [] (in_tree s (count_added (tree_of done (suc m) 0 []) (length prices))) done (suc m - 1) rest cert refl refl writable.1 formed
      (subst (λ (n : ℕ). ReadsTo (in_tree s (tree_of (done ++ Priced prices ∷ []) n 0 [])) rest cert) (sym ways) more))

  -- the end of the records, where the tree is whole
  ended : (s : State R) (done : List (Item R)) → s.tree ≡ tree_of done 0 0 [] → ReadsTo s [] (cert_with s done)
  unfolding read_rows
  ended s done tree row =
      ap (λ (t : TreeSoFar R). cond (is_whole t) (Ok (cert_with s t.items)) (Err (fault code.Order row))) tree

  items_read : (todo done : List (Item R)) (s : State R) (n : ℕ) → IsTreePlace s.place → s.tree ≡ tree_of done n 0 [] → open_count n todo ≡ Some 0 → All (IsFormedItem cmp net bids) todo → All (IsWritableItem texts net version) todo
      → ReadsTo s (flat_map (item_records texts net) todo) (cert_with s (done ++ todo))
  items_read [] done s n at tree count formed writable =
      let none : n ≡ 0 = cc count in
      subst (λ (items : List (Item R)). ReadsTo s [] (cert_with s items)) (sym (append-nil done)) (ended s done (tree ∙ ap (λ (k : ℕ). tree_of done k 0 []) none))
  items_read (item ∷ todo) done s zero at tree count formed writable = absurd (cc count)
  items_read (item ∷ todo) done s (suc m) at tree count formed writable =
      let next : TreeSoFar R = tree_of (done ++ item ∷ []) (arity item + m) 0 [] in
      let later : ReadsTo (in_tree s next) (flat_map (item_records texts net) todo) (cert_with s ((done ++ item ∷ []) ++ todo)) =
      items_read todo (done ++ item ∷ []) (in_tree s next) (arity item + m) (inr refl) refl count (All-tail (IsFormedItem cmp net bids) item todo formed) (All-tail (IsWritableItem texts net version) item todo writable) in
      subst (λ (rows : List Record). ReadsTo s rows (cert_with s (done ++ item ∷ todo))) (sym (flat_map-cons (item_records texts net) item todo))
      (item_read item s done m (flat_map (item_records texts net) todo) (cert_with s (done ++ item ∷ todo)) at tree (All-head (IsFormedItem cmp net bids) item todo formed) (All-head (IsWritableItem texts net version) item todo writable)
      (subst (λ (items : List (Item R)). ReadsTo (in_tree s next) (flat_map (item_records texts net) todo) (cert_with s items)) (append_assoc done (item ∷ []) todo) later))

  -- ---- the whole

  -- The records behind the first of a certificate that is writable are read as it.
  pub cert_read : (cert : Cert R) → IsWritable cmp texts net bids version cert → ReadsTo (started bids) (drop 1 (cert_records texts net version cert)) cert
  cert_read cert writable =
      let items : List Record = flat_map (item_records texts net) cert.tree in
      let legs : List Record = leg_records net 0 cert.choice in
      let entries = writable.formed.entries in
      let second : State R = record (started bids) { place = place.Bound; revenue = cert.revenue } in
      let third : State R = record second { place = place.Legs; bound = cert.bound } in
      let bids_are : replicate bids None ≡ [] ++ replicate (length cert.choice) None = ap (λ (n : ℕ). replicate n None) (sym entries) in
      one_read (started bids) second (codes "revenue" ∷ signed_decimal cert.revenue ∷ []) ((codes "bound" ∷ signed_decimal cert.bound ∷ []) ∷ (legs ++ items)) cert
      (revenue_taken (started bids) cert.revenue refl writable.revenue)
      (one_read second third (codes "bound" ∷ signed_decimal cert.bound ∷ []) (legs ++ items) cert
      (bound_taken second cert.bound refl writable.bound)
      (walks_read cert.choice [] third items cert refl (omega (arith, entries)) bids_are (omega arith) writable.formed.walks
      (λ last. items_read cert.tree [] (record third { walks = walks_of cert.choice last }) 1 (inl refl) refl (count_by_tree cert.tree writable.formed.whole) writable.formed.items writable.items)))
