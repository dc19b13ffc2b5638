-- What stands of the bids is their valuation at the prices.
use Rattle.std.proofs.Common.{◌≡◌, ℕ, zero, suc, ◌+◌, ◌<◌, Bool, true, false, cond, List, [], ◌∷◌, length, get_or, Option, Some, slice_get, refl, sym, ap, ◌∙◌, subst, arith, inl, inr}
use Rattle.std.specs.Prelude.{◌⊎◌, ◌↔◌, ℤ, pos, ◌+ℤ◌, ◌*ℤ◌, slice_index_or}
use Rattle.std.specs.List.{list_any}
use Rattle.std.specs.declared.cmp.Ordering.{Ordering}
use Rattle.std.specs.Ordering.{eq_by_cmp}
use Rattle.std.proofs.lemmas.Int.{ints}
use Rattle.std.proofs.lemmas.Option.{slice_get_within, slice_get-get_or, none-some, same_Some}
use Rattle.optra_network.specs.Net.{IsProper}
use Rattle.optra_bid.specs.declared.bids.Bid.{Bid}
use Rattle.optra_walk.specs.declared.Leg.{Leg}
use Rattle.optra_node.specs.Laws.{TestsTellAllowed, PricesByUsedRows}
use Rattle.optra_node.specs.Duals.{PriceList, price_of, sum_of, capacity_price, IsTerm, IsStuck, IsDead}
use Rattle.optra_node.proofs.SumLemmas.{sum_of-cons}
use Rattle.optra_prices.specs.Arcs.{AreWeighed, path_reply}
use Rattle.optra_prices.specs.Replies.{IsReply, IsValuation}
use Rattle.optra_prices.specs.Tables.{AreTouches, group_at, group_price, AreGroupPrices, allows_by, weight_by, no_arc}
use Rattle.optra_prices.specs.Terms.{Setting, AreBidArcs}
use Rattle.optra_prices.specs.Standings.{Stands, Agrees, AreTables, AllStand, replies_of, terms_of, value_of, valuation_of}
use Rattle.optra_prices.specs.ArcTerms.{ArcTerm}
use Rattle.optra_prices.specs.declared.numbering.BidTable.{BidTable}
use Rattle.optra_prices.specs.declared.numbering.Groups.{Groups}
use Rattle.optra_prices.specs.declared.numbering.Standing.{Standing}
use Rattle.optra_prices.specs.declared.touch.Touch.{Touch}
use Rattle.optra_prices.proofs.ListLemmas.{all_at, some_at}
use Rattle.optra_prices.proofs.TermLemmas.{arc_usable}
use Rattle.optra_prices.proofs.ArcLemmas.{found_reply, found_term, found_stuck}

-- the price of a group is that of the rows used, by the list
group_used : {R : Type 0} (cmp : R → R → Ordering) (numbered : List R) (prices : List ℤ) (listed : PriceList R) (uses : R → ℕ) → Agrees cmp numbered prices listed → (touches : List Touch) (used : List R) → AreTouches numbered uses touches used
    → group_price prices touches ≡ sum_of (λ row. price_of (eq_by_cmp cmp) listed row *ℤ pos (uses row)) used
group_used cmp numbered prices listed uses agrees [] [] are = refl
group_used cmp numbered prices listed uses agrees [] (row ∷ used) are = absurd are
group_used cmp numbered prices listed uses agrees (touch ∷ touches) [] are = absurd are
group_used {R} cmp numbered prices listed uses agrees (touch ∷ touches) (row ∷ used) are =
    let a = sum_of-cons (λ (t : Touch). slice_index_or prices t.row (pos 0) *ℤ pos t.uses) touch touches in
    let b = sum_of-cons (λ (r : R). price_of (eq_by_cmp cmp) listed r *ℤ pos (uses r)) row used in
    let i = group_used cmp numbered prices listed uses agrees touches used are.1 in
    let p = ap (λ (z : ℤ). z *ℤ pos (uses row)) (agrees touch.row row are.0.number) in
    let u = ap (λ (n : ℕ). slice_index_or prices touch.row (pos 0) *ℤ pos n) are.0.use_is in
    omega (arith, ints)

module _ {R : Type 0} (cmp : R → R → Ordering) (s : Setting R) (proper : IsProper s.net) (law : TestsTellAllowed s.net s.rows s.bids) (by_used : PricesByUsedRows s.net s.rows cmp s.used) (numbered : List R) (prices : List ℤ) (listed : PriceList R) (agrees : Agrees cmp numbered prices listed)
    (groups : Groups) (grouped : List ℤ) (priced : AreGroupPrices prices groups.starts.items groups.touches grouped) where
  module _ (number : ℕ) (bid : Bid) (table : BidTable) (are : AreBidArcs s number bid table.graph.now numbered table.arcs groups.starts.items groups.touches table.forced) where
    arc_there : (k : ℕ) → k < length table.graph.now.dag.arcs → slice_get table.arcs k ≡ Some (get_or table.arcs k no_arc)
    arc_there k l = slice_get-get_or table.arcs k no_arc (let n = are.count in omega arith)

    group_is : (k : ℕ) → k < length table.graph.now.dag.arcs
        → slice_index_or grouped (get_or table.arcs k no_arc).group (pos 0) ≡ group_price prices (group_at groups.starts.items groups.touches (get_or table.arcs k no_arc).group)
    group_is k l =
        priced (get_or table.arcs k no_arc).group (all_at (λ (a : ArcTerm). a.group + 1 < length groups.starts.items) table.arcs k (get_or table.arcs k no_arc) are.terms.within (arc_there k l))

    pub weighed : AreWeighed s.net s.rows s.bids s.node listed number bid table.graph.now (allows_by table.arcs) (weight_by table.arcs grouped)
    weighed = record {
      start_allowed = λ k minute l at. are.marks.starts_are k minute (get_or table.arcs k no_arc) (arc_there k l) at;
      start_weight = λ k minute l at.
          let is = are.terms.starts_are k minute (get_or table.arcs k no_arc) (arc_there k l) at in
          let g = group_is k l in
          let none = ap (group_price prices) is.group_is in
          let v = is.value_is in
          omega (arith, ints);
      leg_allowed = λ k leg l at. are.marks.legs_are k leg (get_or table.arcs k no_arc) (arc_there k l) at;
      leg_weight = λ k leg l at.
          let is = are.terms.legs_are k leg (get_or table.arcs k no_arc) (arc_there k l) at in
          let g = group_is k l in
          let usable = arc_usable s.net proper bid table.graph.now are.graph k leg l at in
          let used = group_used cmp numbered prices listed (s.rows.uses bid.path.kind leg) agrees (group_at groups.starts.items groups.touches (get_or table.arcs k no_arc).group) (s.used bid.path.kind leg) is.group_is in
          let price = by_used listed bid.path.kind leg usable in
          let v = is.value_is in
          omega (arith, ints);
    }

  module _ (number : ℕ) (bid : Bid) (table : BidTable) (standing : Standing)
      (are : AreBidArcs s number bid table.graph.now numbered table.arcs groups.starts.items groups.touches table.forced) (stands : Stands table grouped standing) where
    by_table : AreWeighed s.net s.rows s.bids s.node listed number bid table.graph.now (allows_by table.arcs) (weight_by table.arcs grouped)
    by_table = weighed number bid table are

    pub reply_is : IsReply s.net s.rows s.bids s.node listed number bid (path_reply table.graph.now standing.path.items)
    reply_is =
        found_reply s.net proper s.rows s.bids law s.node listed number bid table.graph.now are.graph (allows_by table.arcs) (weight_by table.arcs grouped) by_table
        table.forced standing.stuck standing.path.items standing.term are.forced_is stands.found

    pub term_is : IsTerm s.net s.rows s.bids s.node listed number bid standing.term
    term_is =
        found_term s.net proper s.rows s.bids law s.node listed number bid table.graph.now are.graph (allows_by table.arcs) (weight_by table.arcs grouped) by_table
        table.forced standing.stuck standing.path.items standing.term are.forced_is stands.found

    pub stuck_is : (standing.stuck ≡ true) ↔ IsStuck s.net s.rows s.bids s.node number bid
    stuck_is =
        found_stuck s.net proper s.rows s.bids law s.node listed number bid table.graph.now are.graph (allows_by table.arcs) (weight_by table.arcs grouped) by_table
        (weight_by table.arcs grouped) table.forced standing.stuck standing.path.items standing.term are.forced_is stands.found

-- a place of the lists of replies and of terms
replies_at : (tables : List BidTable) (standings : List Standing) (k : ℕ) (reply : Option (List Leg)) → slice_get (replies_of tables standings) k ≡ Some reply
    → (table : BidTable) × (standing : Standing) × (slice_get tables k ≡ Some table) × (slice_get standings k ≡ Some standing) × (path_reply table.graph.now standing.path.items ≡ reply)
replies_at [] standings k reply e = absurd (none-some reply e)
replies_at (table ∷ tables) [] k reply e = absurd (none-some reply e)
replies_at (table ∷ tables) (standing ∷ standings) zero reply e = (table, standing, refl, refl, same_Some (path_reply table.graph.now standing.path.items) reply e)
replies_at (table ∷ tables) (standing ∷ standings) (suc k) reply e = replies_at tables standings k reply e

replies_count : (tables : List BidTable) (standings : List Standing) → length standings ≡ length tables → length (replies_of tables standings) ≡ length tables
replies_count [] standings e = refl
replies_count (table ∷ tables) [] e = absurd (omega arith)
replies_count (table ∷ tables) (standing ∷ standings) e = let i = replies_count tables standings (omega arith) in omega arith

terms_at : (standings : List Standing) (k : ℕ) (term : ℤ) → slice_get (terms_of standings) k ≡ Some term → (standing : Standing) × (slice_get standings k ≡ Some standing) × (standing.term ≡ term)
terms_at [] k term e = absurd (none-some term e)
terms_at (standing ∷ standings) zero term e = (standing, refl, same_Some standing.term term e)
terms_at (standing ∷ standings) (suc k) term e = terms_at standings k term e

terms_count : (standings : List Standing) → length (terms_of standings) ≡ length standings
terms_count [] = refl
terms_count (standing ∷ standings) = let i = terms_count standings in omega arith

-- some standing is stuck, or none is
pub record StuckAt (standings : List Standing) : Type 0 where
  pub number : ℕ
  pub standing : Standing
  pub at : slice_get standings number ≡ Some standing
  pub is : standing.stuck ≡ true

any_stuck : (standings : List Standing) → list_any (λ standing. standing.stuck) standings ≡ true → StuckAt standings
any_stuck [] e = cc
any_stuck (standing ∷ standings) e = by standing.stuck refl (any_stuck standings)
  where
    by : (b : Bool) → standing.stuck ≡ b → (list_any (λ standing. standing.stuck) standings ≡ true → StuckAt standings) → StuckAt (standing ∷ standings)
    by true q before = record { number = 0; standing = standing; at = refl; is = q }
    by false q before =
        let rest : list_any (λ standing. standing.stuck) standings ≡ true = grind (arith, q, e) in
        let r = before rest in
        record { number = suc r.number; standing = r.standing; at = r.at; is = r.is }

none_stuck : (standings : List Standing) → list_any (λ standing. standing.stuck) standings ≡ false → (k : ℕ) (standing : Standing) → slice_get standings k ≡ Some standing → standing.stuck ≡ true → ⊥
none_stuck [] e k standing at is = none-some standing at
none_stuck (first ∷ standings) e k standing at is = by first.stuck refl k at (none_stuck standings)
  where
    clash : true ≡ false → ⊥
    clash q = cc

    by : (b : Bool) → first.stuck ≡ b → (k : ℕ) → slice_get (first ∷ standings) k ≡ Some standing
        → (list_any (λ standing. standing.stuck) standings ≡ false → (k : ℕ) (standing : Standing) → slice_get standings k ≡ Some standing → standing.stuck ≡ true → ⊥) → ⊥
    by true q k at before = clash (grind (arith, q, e))
    by false q zero at before =
        let same : first ≡ standing = same_Some first standing at in
        clash (sym is ∙ sym (ap (λ (x : Standing). x.stuck) same) ∙ q)
    by false q (suc k) at before = before (grind (arith, q, e)) k standing at is

module _ {R : Type 0} (cmp : R → R → Ordering) (s : Setting R) (proper : IsProper s.net) (law : TestsTellAllowed s.net s.rows s.bids) (by_used : PricesByUsedRows s.net s.rows cmp s.used) (numbered : List R) (prices : List ℤ) (listed : PriceList R) (agrees : Agrees cmp numbered prices listed)
    (groups : Groups) (grouped : List ℤ) (priced : AreGroupPrices prices groups.starts.items groups.touches grouped)
    (tables : List BidTable) (standings : List Standing) (are : AreTables s (length s.bids) numbered groups tables) (stand : AllStand tables grouped standings) where
  -- a bid with its table and what stands
  pub record Placed (number : ℕ) : Type 0 where
    pub bid : Bid
    pub table : BidTable
    pub standing : Standing
    pub bid_at : slice_get s.bids number ≡ Some bid
    pub table_at : slice_get tables number ≡ Some table
    pub standing_at : slice_get standings number ≡ Some standing

  place : (number : ℕ) → number < length s.bids → Placed number
  place number l =
      let n = are.count_is in
      let m = stand.count_is in
      let b = some_at s.bids number l in
      let t = some_at tables number (omega arith) in
      let st = some_at standings number (omega arith) in
      record { bid = b.0; table = t.0; standing = st.0; bid_at = b.1; table_at = t.1; standing_at = st.1 }

  pub stuck_at : (number : ℕ) (bid : Bid) (table : BidTable) (standing : Standing) → slice_get s.bids number ≡ Some bid → slice_get tables number ≡ Some table → slice_get standings number ≡ Some standing
      → (standing.stuck ≡ true) ↔ IsStuck s.net s.rows s.bids s.node number bid
  stuck_at number bid table standing b t st =
      stuck_is cmp s proper law by_used numbered prices listed agrees groups grouped priced number bid table standing (are.each number bid table b t).arcs_are (stand.each number table standing t st)

  total : (capacity : ℤ) → capacity ≡ capacity_price s.rows listed
      → ((IsDead s.net s.rows s.bids s.node → ⊥) × (value_of capacity standings ≡ capacity_price s.rows listed +ℤ sum_of (λ t. t) (terms_of standings))) ⊎ (IsDead s.net s.rows s.bids s.node × (value_of capacity standings ≡ pos 0))
  total capacity is = by (list_any (λ standing. standing.stuck) standings) refl
    where
      by : (b : Bool) → list_any (λ standing. standing.stuck) standings ≡ b
          → ((IsDead s.net s.rows s.bids s.node → ⊥) × (value_of capacity standings ≡ capacity_price s.rows listed +ℤ sum_of (λ t. t) (terms_of standings))) ⊎ (IsDead s.net s.rows s.bids s.node × (value_of capacity standings ≡ pos 0))
      by true e =
          let d = any_stuck standings e in
          let l = slice_get_within standings d.number d.standing d.at in
          let n = are.count_is in
          let m = stand.count_is in
          let p = place d.number (omega arith) in
          let same : d.standing ≡ p.standing = same_Some d.standing p.standing (sym d.at ∙ p.standing_at) in
          inr (
            (d.number, p.bid, p.bid_at, (stuck_at d.number p.bid p.table p.standing p.bid_at p.table_at p.standing_at).0 (sym (ap (λ (x : Standing). x.stuck) same) ∙ d.is)),
            ap (λ (b : Bool). cond b (pos 0) (capacity +ℤ sum_of (λ term. term) (terms_of standings))) e,
          )
      by false e =
          inl (
            (λ (number, bid, at, stuck).
                let p = place number (slice_get_within s.bids number bid at) in
                let same : p.bid ≡ bid = same_Some p.bid bid (sym p.bid_at ∙ at) in
                none_stuck standings e number p.standing p.standing_at ((stuck_at number p.bid p.table p.standing p.bid_at p.table_at p.standing_at).1 (subst (IsStuck s.net s.rows s.bids s.node number) (sym same) stuck))),
            ap (λ (b : Bool). cond b (pos 0) (capacity +ℤ sum_of (λ term. term) (terms_of standings))) e ∙ ap (λ (z : ℤ). z +ℤ sum_of (λ t. t) (terms_of standings)) is,
          )

  pub settled_valuation : (capacity : ℤ) → capacity ≡ capacity_price s.rows listed → IsValuation s.net s.rows s.bids s.node listed (valuation_of capacity tables standings)
  settled_valuation capacity is = record {
    dual = record {
      count = terms_count standings ∙ stand.count_is ∙ are.count_is;
      each = λ number bid term at at_term.
          let w = terms_at standings number term at_term in
          let p = place number (slice_get_within s.bids number bid at) in
          let same : p.bid ≡ bid = same_Some p.bid bid (sym p.bid_at ∙ at) in
          let same_standing : p.standing ≡ w.0 = same_Some p.standing w.0 (sym p.standing_at ∙ w.1) in
          let here = term_is cmp s proper law by_used numbered prices listed agrees groups grouped priced number p.bid p.table p.standing (are.each number p.bid p.table p.bid_at p.table_at).arcs_are (stand.each number p.table p.standing p.table_at p.standing_at) in
          subst (λ b. IsTerm s.net s.rows s.bids s.node listed number b term) same (subst (IsTerm s.net s.rows s.bids s.node listed number p.bid) (ap (λ (x : Standing). x.term) same_standing ∙ w.2) here);
      total = total capacity is;
    };
    replies = record {
      count = replies_count tables standings stand.count_is ∙ are.count_is;
      each = λ number bid reply at at_reply.
          let w = replies_at tables standings number reply at_reply in
          let here = reply_is cmp s proper law by_used numbered prices listed agrees groups grouped priced number bid w.0 w.1 (are.each number bid w.0 at w.2).arcs_are (stand.each number w.0 w.1 w.2 w.3) in
          subst (IsReply s.net s.rows s.bids s.node listed number bid) w.4 here;
    };
  }
