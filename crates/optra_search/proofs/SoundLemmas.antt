-- What every state that turns reach keeps.
use Rattle.std.proofs.Common.{◌≡◌, ℕ, zero, suc, ◌+◌, ◌≤◌, ◌<◌, List, [], ◌∷◌, ◌++◌, map, length, Option, Some, refl, sym, ap, ◌∙◌, subst, arith, inl, inr}
use Rattle.std.specs.Prelude.{All, ◌⊎◌, IsSomeAnd, ⊤}
use Rattle.std.specs.Prelude.{ℤ, pos, ◌*ℤ◌, ◌≤ℤ◌}
use Rattle.std.specs.declared.cmp.Ordering.{Ordering}
use Rattle.std.proofs.lemmas.Int.{ints}
use Rattle.std.proofs.lemmas.List.{length-append}
use Rattle.std.proofs.lemmas.List.Elements.{All-nil, All-cons, All-append, All-push, All-weaker}
use Rattle.std.proofs.lemmas.List.Quantifiers.{all_pairs_push}
use Rattle.optra_network.specs.Net.{Net, IsProper}
use Rattle.optra_bid.specs.declared.bids.Bid.{Bid}
use Rattle.optra_walk.specs.declared.Leg.{Leg}
use Rattle.optra_walk.specs.Choices.{revenue_of}
use Rattle.optra_walk.specs.Families.{Rows}
use Rattle.optra_node.specs.declared.Decision.{Decision}
use Rattle.optra_node.specs.declared.Item.{Item}
use Rattle.optra_node.specs.declared.Item.TheVariants.{Split, NoWalk, Forced, Priced}
use Rattle.optra_node.specs.Nodes.{DecideApart, IsFormedDecision, IsNode, IsUndecided, IsFormedLeg}
use Rattle.optra_node.specs.Duals.{sum_of, PriceList, ArePrices, IsStuck, IsDual, whole_cents}
use Rattle.optra_node.specs.Trees.{decide, decide_not, open_after, places, root}
use Rattle.optra_node.specs.Certificates.{AreAscending, IsFormedItem, SplitsUndecided, EndsDead, HasPrices, IsBoundOf}
use Rattle.optra_node.proofs.LoadLemmas.{all_head, all_tail}
use Rattle.optra_node.proofs.BaseLemmas.{zero_dual}
use Rattle.optra_node.proofs.ChildLemmas.{within_at, dual_below}
use Rattle.optra_node.proofs.UniqueLemmas.{bound_of_unique}
use Rattle.optra_prices.specs.declared.Dead.{Dead}
use Rattle.optra_prices.specs.declared.Dead.TheVariants.{Forced as DeadForced, NoWalk as DeadNoWalk}
use Rattle.optra_prices.specs.Deads.{IsDeadAs}
use Rattle.optra_prices.specs.Steps.{AreProper}
use Rattle.optra_prices.specs.Repairs.{empty_choice}
use Rattle.optra_prices.proofs.RepairLemmas.{FitChoice, empty_is_choice, empty_fits, repair_fits}
use Rattle.optra_search.specs.Planner.{OpenNode, State, first_state, dead_item, IsBetter, IsDeadTurn, IsPricedTurn, opened, IsTurn, Turns}
use Rattle.optra_search.proofs.SplitLemmas.{split_allowed, split_free, free_undecided, allowed_formed}
use Rattle.optra_search.proofs.TurnLemmas.{dead_opens}
use Rattle.optra_search.proofs.PlacedLemmas.{node_of, open_more, placed_more}
use Rattle.optra_search.proofs.ResultLemmas.{zero_proper, whole_below, whole_positive, result_valued, result_proper, result_bases}

-- the sum of the bases
abbrev pub all_bases : List Bid → ℤ
all_bases bids = sum_of (λ b. b.money.base) bids

-- an open node may be asked of, its start prices are proper, and its dual value there is at most the bases
pub record IsSoundOpen {R : Type 0} (cmp : R → R → Ordering) (net : Net) (rows : Rows R) (bids : List Bid) (waiting : OpenNode R) : Type 0 where
  pub is_node : IsNode net (length bids) waiting.node
  pub proper : AreProper cmp rows waiting.start
  pub bases : (terms : List ℤ) (value : ℤ) → IsDual net rows bids waiting.node waiting.start terms value → value ≤ℤ (pos 1000 *ℤ all_bases bids)

-- an item is formed, and its prices are prices of rows
pub record IsSoundItem {R : Type 0} (cmp : R → R → Ordering) (net : Net) (rows : Rows R) (bids : List Bid) (item : Item R) : Type 0 where
  pub formed : IsFormedItem cmp net (length bids) item
  pub prices : HasPrices rows item

-- the bound of a priced leaf is at most an amount
abbrev pub IsClosedBelow : {R : Type 0} → Net → Rows R → List Bid → ℤ → List Decision → Item R → Type 0
IsClosedBelow net rows bids most node (Split bid leg) = ⊤
IsClosedBelow net rows bids most node (NoWalk bid) = ⊤
IsClosedBelow net rows bids most node (Forced row) = ⊤
IsClosedBelow net rows bids most node (Priced prices) = (cents : ℤ) → IsBoundOf net rows bids node prices cents → cents ≤ℤ most

-- an item at its node splits an undecided leg, or ends a dead node, or has a bound at most the revenue and the bases
pub record IsSoundPlace {R : Type 0} (net : Net) (rows : Rows R) (bids : List Bid) (revenue : ℤ) (node : List Decision) (item : Item R) : Type 0 where
  pub splits : SplitsUndecided node item
  pub dead : EndsDead net rows bids node item
  pub closed : IsClosedBelow net rows bids revenue node item
  pub bases : IsClosedBelow net rows bids (all_bases bids) node item

pub record IsSound {R : Type 0} (cmp : R → R → Ordering) (net : Net) (rows : Rows R) (bids : List Bid) (budget : ℕ) (s : State R) : Type 0 where
  pub nodes : map node_of s.open_nodes ≡ open_after root s.items
  pub each : length (places s.items) ≡ length s.items
  pub placed_items : All (λ p. IsSoundPlace net rows bids (revenue_of net bids s.incumbent) p.0 p.1) (places s.items)
  pub items : All (IsSoundItem cmp net rows bids) s.items
  pub waiting : All (IsSoundOpen cmp net rows bids) s.open_nodes
  pub choice : FitChoice net rows bids s.incumbent
  pub earns : pos 0 ≤ℤ revenue_of net bids s.incumbent
  pub count : s.count ≤ budget

empty_earns : (net : Net) (bids : List Bid) → pos 0 ≤ℤ revenue_of net bids (empty_choice bids)
empty_earns net [] = omega (arith, ints)
empty_earns net (bid ∷ bids) = empty_earns net bids

closed_more : {R : Type 0} (net : Net) (rows : Rows R) (bids : List Bid) (most more : ℤ) → most ≤ℤ more → (node : List Decision) (item : Item R) → IsClosedBelow net rows bids most node item → IsClosedBelow net rows bids more node item
closed_more net rows bids most more l node (Split bid leg) h = tt
closed_more net rows bids most more l node (NoWalk bid) h = tt
closed_more net rows bids most more l node (Forced row) h = tt
closed_more net rows bids most more l node (Priced prices) h = λ cents is. let c = h cents is in omega (arith, ints)

module _ {R : Type 0} (cmp : R → R → Ordering) (net : Net) (rows : Rows R) (bids : List Bid) (budget : ℕ) where
  -- the first state
  pub first_sound : IsSound cmp net rows bids budget (first_state bids)
  first_sound = record {
    nodes = refl;
    each = refl;
    placed_items = All-nil (λ (p : List Decision × Item R). IsSoundPlace net rows bids (revenue_of net bids (empty_choice bids)) p.0 p.1);
    items = All-nil (IsSoundItem cmp net rows bids);
    waiting = All-cons (IsSoundOpen cmp net rows bids) (record { node = []; start = [] }) []
        (record {
          is_node = record { formed = All-nil (IsFormedDecision net (length bids)); once = λ i j d l m. absurd (omega arith) };
          proper = zero_proper cmp rows;
          bases = zero_dual net rows bids [];
        })
        (All-nil (IsSoundOpen cmp net rows bids));
    choice = record { is_choice = empty_is_choice net bids; fits = empty_fits rows bids };
    earns = empty_earns net bids;
    count = omega arith;
  }

-- what a turn makes of a node, where it leads to sound states
pub record IsSoundStep {R : Type 0} (cmp : R → R → Ordering) (net : Net) (rows : Rows R) (bids : List Bid) (first : OpenNode R) (old new : List (Option (List Leg))) (item : Item R) (prices : PriceList R) : Type 0 where
  pub sound : IsSoundItem cmp net rows bids item
  pub place : IsSoundPlace net rows bids (revenue_of net bids new) first.node item
  pub opens : All (IsSoundOpen cmp net rows bids) (opened first.node item prices)
  pub choice : FitChoice net rows bids new
  pub rises : revenue_of net bids old ≤ℤ revenue_of net bids new

module _ {R : Type 0} (cmp : R → R → Ordering) (net : Net) (rows : Rows R) (bids : List Bid) (budget : ℕ) (before after : State R) (first : OpenNode R) (rest : List (OpenNode R)) (item : Item R) (prices : PriceList R)
    (taken : before.open_nodes ≡ first ∷ rest) (step : IsSoundStep cmp net rows bids first before.incumbent after.incumbent item prices) where
  sound_after : after.open_nodes ≡ opened first.node item prices ++ rest → after.items ≡ before.items ++ item ∷ [] → after.count ≡ before.count + 1 → before.count < budget
      → IsSound cmp net rows bids budget before → IsSound cmp net rows bids budget after
  sound_after opens items count below s =
      let are : map node_of (first ∷ rest) ≡ open_after root before.items = ap (map node_of) (sym taken) ∙ s.nodes in
      let more = placed_more root before.items first rest are item in
      let revenue = revenue_of net bids after.incumbent in
      let place : List Decision × Item R → Type 0 = λ p. IsSoundPlace net rows bids revenue p.0 p.1 in
      let waiting : All (IsSoundOpen cmp net rows bids) (first ∷ rest) = subst (All (IsSoundOpen cmp net rows bids)) taken s.waiting in
      let placed_before : All place (places before.items) =
      All-weaker (λ (p : List Decision × Item R). IsSoundPlace net rows bids (revenue_of net bids before.incumbent) p.0 p.1) place
      (λ p h. record { splits = h.splits; dead = h.dead; closed = closed_more net rows bids (revenue_of net bids before.incumbent) revenue step.rises p.0 p.1 h.closed; bases = h.bases })
      (places before.items) s.placed_items in
      record {
        nodes = ap (map node_of) opens ∙ open_more root before.items first rest are item prices ∙ ap (open_after root) (sym items);
        each =
            let a = ap (λ (is : List (Item R)). length (places is)) items in
            let b = ap (λ (ps : List (List Decision × Item R)). length ps) more in
            let c = length-append (places before.items) ((first.node, item) ∷ []) in
            let d = ap (λ (is : List (Item R)). length is) items in
            let e = length-append before.items (item ∷ []) in
            let f = s.each in
            omega arith;
        placed_items =
            subst (λ (is : List (Item R)). All place (places is)) (sym items)
            (subst (All place) (sym more) (All-push place (places before.items) (first.node, item) placed_before step.place));
        items = subst (All (IsSoundItem cmp net rows bids)) (sym items) (All-push (IsSoundItem cmp net rows bids) before.items item s.items step.sound);
        waiting =
            subst (All (IsSoundOpen cmp net rows bids)) (sym opens)
            (All-append (IsSoundOpen cmp net rows bids) (opened first.node item prices) rest step.opens (all_tail (IsSoundOpen cmp net rows bids) first rest waiting));
        choice = step.choice;
        earns = let e = s.earns in let r = step.rises in omega (arith, ints);
        count = omega arith;
      }

module _ {R : Type 0} (cmp : R → R → Ordering) (net : Net) (rows : Rows R) (bids : List Bid) where
  dead_sound : (node : List Decision) (reason : Dead R) → IsDeadAs cmp net rows bids node (Some reason) → (revenue : ℤ) → IsSoundItem cmp net rows bids (dead_item reason) × IsSoundPlace net rows bids revenue node (dead_item reason)
  dead_sound node (DeadForced row) is revenue = (record { formed = tt; prices = tt }, record { splits = tt; dead = is.overfull; closed = tt; bases = tt })
  dead_sound node (DeadNoWalk bid) is revenue = (
    record { formed = within_at bids bid is.1.bid is.1.at; prices = tt },
    record {
      splits = tt;
      dead = subst (λ (o : Option Bid). IsSomeAnd o (λ b. IsStuck net rows bids node bid b)) (sym is.1.at) is.1.stuck;
      closed = tt;
      bases = tt;
    },
  )

  dead_step : (first : OpenNode R) (old new : List (Option (List Leg))) (item : Item R) (prices : PriceList R) → FitChoice net rows bids old
      → IsDeadTurn cmp net rows bids first.node old new item → IsSoundStep cmp net rows bids first old new item prices
  dead_step first old new item prices fit turn =
      let d = dead_sound first.node turn.reason turn.dead (revenue_of net bids new) in
      record {
        sound = subst (IsSoundItem cmp net rows bids) (sym turn.item_is) d.0;
        place = subst (IsSoundPlace net rows bids (revenue_of net bids new) first.node) (sym turn.item_is) d.1;
        opens = subst (All (IsSoundOpen cmp net rows bids)) (sym (dead_opens first.node turn.reason item prices turn.item_is)) (All-nil (IsSoundOpen cmp net rows bids));
        choice = subst (FitChoice net rows bids) (sym turn.stays) fit;
        rises = let e = ap (revenue_of net bids) turn.stays in omega (arith, ints);
      }

-- a node with one more decision of an undecided formed leg
more_node : (net : Net) (bids : ℕ) (node : List Decision) (d : Decision) → IsNode net bids node → d.bid < bids → IsFormedLeg net d.leg → IsUndecided node d.bid d.leg → IsNode net bids (node ++ d ∷ [])
more_node net bids node d is l formed fresh = record {
  formed = All-push (IsFormedDecision net bids) node d is.formed (record { in_range = l; formed = formed });
  once = all_pairs_push DecideApart node d is.once (λ k e m. fresh k e m);
}

module _ {R : Type 0} (cmp : R → R → Ordering) (net : Net) (proper_net : IsProper net) (rows : Rows R) (bids : List Bid) (steps : ℕ) where
  -- a better choice is a choice that fits, and earns no less
  better_fits : (old new best : List (Option (List Leg))) → IsBetter net bids old new best → FitChoice net rows bids old → FitChoice net rows bids new
      → FitChoice net rows bids best × (revenue_of net bids old ≤ℤ revenue_of net bids best)
  better_fits old new best (inl p) fit fit' = (subst (FitChoice net rows bids) (sym p.1) fit', (let e = ap (revenue_of net bids) p.1 in let l = p.0 in omega (arith, ints)))
  better_fits old new best (inr p) fit fit' = (subst (FitChoice net rows bids) (sym p.1) fit, (let e = ap (revenue_of net bids) p.1 in omega (arith, ints)))

  module _ (first : OpenNode R) (old new : List (Option (List Leg))) (waiting : IsSoundOpen cmp net rows bids first) (earns : pos 0 ≤ℤ revenue_of net bids old) (fit : FitChoice net rows bids old) where
    priced_step : (item : Item R) (prices : PriceList R) → IsPricedTurn cmp net rows bids steps first old new item prices → IsSoundStep cmp net rows bids first old new item prices
    priced_step (NoWalk bid) prices turn = absurd turn.item_is
    priced_step (Forced row) prices turn = absurd turn.item_is
    priced_step (Priced listed) prices turn =
        let r = turn.result in
        let v = result_valued cmp net rows bids first.node first.start steps (revenue_of net bids old) r turn.is_result in
        let p = result_proper cmp net rows bids first.node first.start steps (revenue_of net bids old) r turn.is_result waiting.proper in
        let z = whole_below r.dual.value (all_bases bids) (result_bases cmp net rows bids first.node first.start steps (revenue_of net bids old) r turn.is_result) in
        let b = better_fits old turn.repaired new turn.better fit (repair_fits net rows bids first.node r.dual turn.repaired turn.is_repaired) in
        let e : listed ≡ r.prices = turn.item_is.1 in
        let own : IsBoundOf net rows bids first.node r.prices (whole_cents r.dual.value) = record { terms = r.dual.terms; value = r.dual.value; dual = v.dual; cents_is = refl } in
        let is_own : (cents : ℤ) → IsBoundOf net rows bids first.node listed cents → cents ≡ whole_cents r.dual.value = λ cents is.
        bound_of_unique net rows bids first.node r.prices cents (whole_cents r.dual.value) (subst (λ (ps : PriceList R). IsBoundOf net rows bids first.node ps cents) e is) own in
        record {
          sound = record { formed = subst (AreAscending cmp) (sym e) p.ascending; prices = subst (ArePrices rows) (sym e) p.each };
          place = record {
            splits = tt;
            dead = tt;
            closed = λ cents is. subst (λ (c : ℤ). c ≤ℤ revenue_of net bids new) (sym (is_own cents is)) turn.item_is.0;
            bases = λ cents is. subst (λ (c : ℤ). c ≤ℤ all_bases bids) (sym (is_own cents is)) z;
          };
          opens = All-nil (IsSoundOpen cmp net rows bids);
          choice = b.0;
          rises = b.1;
        }
    priced_step (Split bid leg) prices turn =
        let r = turn.result in
        let v = result_valued cmp net rows bids first.node first.start steps (revenue_of net bids old) r turn.is_result in
        let p = result_proper cmp net rows bids first.node first.start steps (revenue_of net bids old) r turn.is_result waiting.proper in
        let b = better_fits old turn.repaired new turn.better fit (repair_fits net rows bids first.node r.dual turn.repaired turn.is_repaired) in
        let here = split_allowed net rows bids first.node r.prices r.dual.replies v.replies bid leg turn.item_is.1 in
        let fresh = free_undecided net rows bids first.node bid leg (split_free net rows bids first.node r.dual.replies bid leg turn.item_is.1) here in
        let formed = allowed_formed net rows bids first.node proper_net bid leg here in
        let in_range : bid < length bids = within_at bids bid here.bid here.at in
        let rises = b.1 in
        let above : pos 0 ≤ℤ revenue_of net bids new = omega (arith, ints) in
        let positive = whole_positive r.dual.value (revenue_of net bids new) above turn.item_is.0 in
        let child : (d : Decision) → d.bid ≡ bid → d.leg ≡ leg → IsSoundOpen cmp net rows bids (record { node = first.node ++ d ∷ []; start = prices }) = λ d q w. record {
          is_node =
              more_node net (length bids) first.node d waiting.is_node (subst (λ (n : ℕ). n < length bids) (sym q) in_range) (subst (IsFormedLeg net) (sym w) formed)
              (subst (λ (n : ℕ). IsUndecided first.node n d.leg) (sym q) (subst (IsUndecided first.node bid) (sym w) fresh));
          proper = subst (AreProper cmp rows) (sym turn.prices_are) p;
          bases = λ terms value dual.
              let dual' = subst (λ (ps : PriceList R). IsDual net rows bids (first.node ++ d ∷ []) ps terms value) turn.prices_are dual in
              let l = dual_below net rows bids first.node (d ∷ []) r.prices r.dual.terms terms r.dual.value value v.dual dual' turn.lives.1 positive in
              let z = result_bases cmp net rows bids first.node first.start steps (revenue_of net bids old) r turn.is_result in
              omega (arith, ints);
        } in
        record {
          sound = record { formed = (in_range, formed); prices = tt };
          place = record { splits = fresh; dead = tt; closed = tt; bases = tt };
          opens =
              All-cons (IsSoundOpen cmp net rows bids) (record { node = first.node ++ decide bid leg ∷ []; start = prices }) (record { node = first.node ++ decide_not bid leg ∷ []; start = prices } ∷ [])
              (child (decide bid leg) refl refl)
              (All-cons (IsSoundOpen cmp net rows bids) (record { node = first.node ++ decide_not bid leg ∷ []; start = prices }) [] (child (decide_not bid leg) refl refl) (All-nil (IsSoundOpen cmp net rows bids)));
          choice = b.0;
          rises = b.1;
        }

  -- a turn keeps a state sound
  pub turn_sound : (budget : ℕ) (before after : State R) → IsTurn cmp net rows bids steps budget before after → IsSound cmp net rows bids budget before → IsSound cmp net rows bids budget after
  turn_sound budget before after turn s =
      sound_after cmp net rows bids budget before after turn.first turn.rest turn.item turn.prices turn.taken (step turn.becomes) turn.opens turn.items turn.count turn.below s
    where
      waiting : IsSoundOpen cmp net rows bids turn.first
      waiting = all_head (IsSoundOpen cmp net rows bids) turn.first turn.rest (subst (All (IsSoundOpen cmp net rows bids)) turn.taken s.waiting)

      step : IsDeadTurn cmp net rows bids turn.first.node before.incumbent after.incumbent turn.item
          ⊎ IsPricedTurn cmp net rows bids steps turn.first before.incumbent after.incumbent turn.item turn.prices
          → IsSoundStep cmp net rows bids turn.first before.incumbent after.incumbent turn.item turn.prices
      step (inl d) = dead_step cmp net rows bids turn.first before.incumbent after.incumbent turn.item turn.prices s.choice d
      step (inr p) = priced_step turn.first before.incumbent after.incumbent waiting s.earns s.choice turn.item turn.prices p

  -- and so do any number of turns
  pub turns_sound : (budget n : ℕ) (before after : State R) → Turns cmp net rows bids steps budget n before after → IsSound cmp net rows bids budget before → IsSound cmp net rows bids budget after
  turns_sound budget zero before after e s = subst (IsSound cmp net rows bids budget) (sym e) s
  turns_sound budget (suc n) before after (next, turn, rest) s = turns_sound budget n next after rest (turn_sound budget before next turn s)
