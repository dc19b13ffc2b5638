-- A round of a house: its close leaves the bids as they were planned, and its values are those of their plan.
use Rattle.std.proofs.Common.{◌≡◌, ◌∙◌, inl, inr, subst, ◌<◌, ◌≤◌, ◌+◌, nat_eq, not, ℕ, zero, suc, ℤ, Bool, true, false, List, [], ◌∷◌, ◌++◌, length, drop, get_or, map, All, Option, None, Some, refl, sym, ap, arith, add-one, append_assoc}
use Rattle.std.specs.List.{zip}
use Rattle.std.proofs.lemmas.List.{length-map}
use Rattle.std.proofs.lemmas.List.Filters.{length-filter_both}
use Rattle.std.specs.Prelude.{Contains, ◌⊎◌, if◌then◌else◌, unwrap_or, slice_get}
use Rattle.optra_bid.specs.Specs.{Path}
use Rattle.optra_graph.specs.Served.{Holding}
use Rattle.std.specs.Prelude.{◌≤ℤ◌, ◌<ℤ◌, int_lt}
use Rattle.std.proofs.lemmas.Int.{ints}
use Rattle.std.specs.declared.cmp.Ordering.{Ordering}
use Rattle.std.proofs.lemmas.List.Elements.{All-cons, All-push}
use Rattle.std.proofs.lemmas.List.Quantifiers.{Any-push}
use Rattle.optra_network.specs.Net.{Net}
use Rattle.optra_bid.specs.declared.bids.Bid.{Bid}
use Rattle.optra_walk.specs.declared.Leg.{Leg}
use Rattle.optra_walk.specs.Families.{Rows, Entry}
use Rattle.optra_auction.specs.Machine.{ArePlanned, Offer, Standing, State, after_all, after_any, after_round, is_last_round, refusals_of, offer_of, planned_of, rested, with_values}
use Rattle.optra_auction.specs.declared.Act.{Act}
use Rattle.optra_auction.specs.declared.Refusal.{Refusal}
use Rattle.optra_auction.proofs.ActLemmas.{acts_keep}
use Rattle.optra_house.specs.Payloads.{IsValue}
use Rattle.optra_house.specs.Replay.{IsPlannedRound, offers_of}
use Rattle.optra_house.proofs.PostLemmas.{planned_offers}
use Rattle.optra_records.specs.Texts.{records_text}
use Rattle.optra_rounds.specs.Rounds.{acts_after, acts_of, after_acts, asked_of, awards_of, outcomes, rows_of, standing_specs, values_of}
use Rattle.optra_text.specs.RoundTexts.{close_records, round_records}
use Rattle.optra_verdict.specs.FamilyOf.{FamilyOf}
use Rattle.optra_verdict.specs.Promises.{TellsConflicts}
use Rattle.optra_tables.specs.declared.TimedAct.{TimedAct}
use Rattle.optra_search.specs.Laws.{EarnEach}
use Rattle.optra_search.specs.Planner.{Planned}
use Rattle.optra_search.specs.Plans.{IsCertifiedPlan}
use Rattle.optra_play.specs.HouseRounds.{AreRoundValues, IsRoundPlan, PostsRound, with_close}
use Rattle.optra_play.specs.Play.{IsPlayStatus, Played, round_budget, round_of, round_steps}
use Rattle.optra_play.specs.Playing.{play_status}
use Rattle.optra_play.specs.RoundsPlanned.{one_values}
use Rattle.optra_play.proofs.PlanLemmas.{plan-is_plan}

-- ---- the close of a round

planned-with_values : (specs : List Bid) (bids : List Standing) (values : List (Option ℤ)) → map (planned_of specs) (with_values bids values) ≡ map (planned_of specs) bids
planned-with_values specs [] values = refl
planned-with_values specs (b ∷ bids) [] = refl
planned-with_values specs (b ∷ bids) (v ∷ values) = ap (λ (l : List (Option Offer)). planned_of specs b ∷ l) (planned-with_values specs bids values)

planned-rested : (specs : List Bid) (bids : List Standing) → map (planned_of specs) (map rested bids) ≡ map (planned_of specs) bids
planned-rested specs [] = refl
planned-rested specs (b ∷ bids) = ap (λ (l : List (Option Offer)). planned_of specs b ∷ l) (planned-rested specs bids)

named-with_values : (names : List (List ℕ)) (bids : List Standing) (values : List (Option ℤ)) → standing_specs names (with_values bids values) ≡ standing_specs names bids
named-with_values names [] values = refl
named-with_values names (b ∷ bids) [] = refl
named-with_values names (b ∷ bids) (v ∷ values) = ap (λ (l : List (List ℕ)). unwrap_or (slice_get names b.spec) [] ∷ l) (named-with_values names bids values)

named-rested : (names : List (List ℕ)) (bids : List Standing) → standing_specs names (map rested bids) ≡ standing_specs names bids
named-rested names [] = refl
named-rested names (b ∷ bids) = ap (λ (l : List (List ℕ)). unwrap_or (slice_get names b.spec) [] ∷ l) (named-rested names bids)

module _ (s : State) (values : List (Option ℤ)) where
  abbrev shut : State
  shut = record s { standing = with_values s.standing values; closed = true }

  abbrev next : State
  next = record s { standing = map rested (with_values s.standing values); round = s.round + 1; moved = false }

  -- the bids that stood are those that stand after it, as they are planned
  pub planned-after_round : (bids : List Bid) → ArePlanned s bids → ArePlanned (after_round s values) bids
  planned-after_round bids planned = by (is_last_round s)
    where
      by : (b : Bool) → ArePlanned (if b then shut else next) bids
      by true = planned ∙ sym (planned-with_values s.specs s.standing values)
      by false = planned ∙ sym (planned-rested s.specs (with_values s.standing values) ∙ planned-with_values s.specs s.standing values)

  -- on the same specifications
  pub named-after_round : (names : List (List ℕ)) → standing_specs names (after_round s values).standing ≡ standing_specs names s.standing
  named-after_round names = by (is_last_round s)
    where
      by : (b : Bool) → standing_specs names (if b then shut else next).standing ≡ standing_specs names s.standing
      by true = named-with_values names s.standing values
      by false = named-rested names (with_values s.standing values) ∙ named-with_values names s.standing values

-- ---- what a planner was asked for

each_offered : (bids : List Bid) → map (λ (bid : Bid). Some (offer_of bid)) bids ≡ map Some (map offer_of bids)
each_offered [] = refl
each_offered (bid ∷ bids) = ap (λ (os : List (Option Offer)). Some (offer_of bid) ∷ os) (each_offered bids)

-- bids with the offers of those that stand are these as they are planned
pub planned-from_offers : (s : State) (offers : List Offer) (bids : List Bid) → map Some offers ≡ map (planned_of s.specs) s.standing → map offer_of bids ≡ offers → ArePlanned s bids
planned-from_offers s offers bids stand are = each_offered bids ∙ ap (map Some) are ∙ stand

-- ---- values

-- each walk of a plan is worth what a journal may hold
pub values-worth : (net : Net) (bids : List Bid) (walks : List (Option (List Leg))) → EarnEach net bids walks → All IsValue (values_of net bids walks)
values-worth net [] walks each = λ k d within. absurd (omega (arith, within))
values-worth net (bid ∷ bids) [] each = λ k d within. absurd (omega (arith, within))
values-worth net (bid ∷ bids) (None ∷ walks) each = All-cons IsValue None (values_of net bids walks) tt (values-worth net bids walks each.1)
values-worth net (bid ∷ bids) (Some legs ∷ walks) each = All-cons IsValue _ (values_of net bids walks) each.0 (values-worth net bids walks each.1)

module _ {R : Type 0} (cmp : R → R → Ordering) (net : Net) (rows : Rows R) (Keeps : List Entry → Type 0) where
  -- the auction after a round is closed with the values of the plan of the bids that stood
  pub closed-with_plan : (s last : State) (acts : List Act) (bids : List Bid) (plan : Planned R) → ArePlanned (after_all s acts) bids → IsCertifiedPlan cmp net rows Keeps bids round_steps round_budget plan
      → IsPlannedRound (AreRoundValues cmp net rows Keeps) s acts last → last ≡ after_round (after_all s acts) (values_of net bids plan.choice)
  closed-with_plan s last acts bids plan planned is_plan is =
      let acted = after_all s acts in
      let offers : map offer_of bids ≡ offers_of acted = planned_offers acted.specs acted.standing bids planned in
      is.next_is ∙ ap (after_round acted) (one_values cmp net rows Keeps (offers_of acted) is.values (values_of net bids plan.choice) is.meant
      (record { bids = bids; offers_are = offers; plan = plan; is_plan = is_plan; values_are = refl }))

-- ---- the actions of a round

-- no more than all
pub acts-few : (round : ℕ) (actions : List TimedAct) → length actions ≤ 100000 → length (asked_of (acts_of round actions)) ≤ 100000
acts-few round actions few =
    omega (arith, few, length-map (acts_of round actions) (λ (a : TimedAct). a.act), length-filter_both (λ (a : TimedAct). nat_eq a.round round) (λ (a : TimedAct). not (nat_eq a.round round)) (λ a. refl) actions)

-- one outcome for each
pub refusals-long : (s : State) (acts : List Act) → length (refusals_of s acts) ≡ length acts
refusals-long s [] = refl
refusals-long s (act ∷ acts) = ap suc (refusals-long (after_any s act) acts)

-- the specifications are as they were
pub specs-after_round : (s : State) (acts : List Act) (values : List (Option ℤ)) → (after_round (after_all s acts) values).specs ≡ s.specs
specs-after_round s acts values = by (is_last_round (after_all s acts)) ∙ (acts_keep s acts).specs
  where
    by : (b : Bool) → (if b then shut (after_all s acts) values else next (after_all s acts) values).specs ≡ (after_all s acts).specs
    by true = refl
    by false = refl

-- ---- how a round ends

-- one round ends with a gap or without
pub ends-alone : {R : Type 0} (p : Played R) (status : ℕ) → p.plan.revenue ≤ℤ p.plan.bound → status ≡ play_status (int_lt p.plan.revenue p.plan.bound) → IsPlayStatus (p ∷ []) status
ends-alone p status within is = by (int_lt p.plan.revenue p.plan.bound) refl
  where
    below : int_lt p.plan.revenue p.plan.bound ≡ true → p.plan.revenue <ℤ p.plan.bound
    below e = grind (arith, ints)

    meets : int_lt p.plan.revenue p.plan.bound ≡ false → p.plan.revenue ≡ p.plan.bound
    meets e = grind (arith, ints)

    by : (b : Bool) → int_lt p.plan.revenue p.plan.bound ≡ b → IsPlayStatus (p ∷ []) status
    by true e = inr (is ∙ ap play_status e, Any-push (λ (q : Played _). q.plan.revenue <ℤ q.plan.bound) [] p (below e))
    by false e = inl (is ∙ ap play_status e, All-push (λ (q : Played _). q.plan.revenue ≡ q.plan.bound) [] p (λ k d none. absurd (omega (arith, none))) (meets e))

-- ---- what became of actions

zip-at : {X Y : Type 0} (xs : List X) (ys : List Y) (i : ℕ) (x : X) (y : Y) → i < length xs → i < length ys → x ≡ get_or xs i x → y ≡ get_or ys i y → zip (drop i xs) (drop i ys) ≡ (x, y) ∷ zip (drop (i + 1) xs) (drop (i + 1) ys)
zip-at [] ys i x y h k a b = absurd (omega arith)
zip-at (z ∷ xs) [] i x y h k a b = absurd (omega arith)
zip-at (z ∷ xs) (w ∷ ys) zero x y h k a b = λ j. (sym a j, sym b j) ∷ zip xs ys
zip-at (z ∷ xs) (w ∷ ys) (suc i) x y h k a b = rw (zip-at xs ys i x y (omega arith) (omega arith) a b, add-one i, add-one (suc i)) refl

-- one more
pub next-told : {X Y : Type 0} (xs : List X) (ys : List Y) (i : ℕ) (x : X) (y : Y) (old new whole : List (X × Y)) → i < length xs → i < length ys → x ≡ get_or xs i x → y ≡ get_or ys i y → new ≡ old ++ (x, y) ∷ []
    → old ++ zip (drop i xs) (drop i ys) ≡ whole → new ++ zip (drop (i + 1) xs) (drop (i + 1) ys) ≡ whole
next-told xs ys i x y old new whole h k a b pushed e =
    ap (λ l. l ++ zip (drop (i + 1) xs) (drop (i + 1) ys)) pushed
    ∙ append_assoc old ((x, y) ∷ []) (zip (drop (i + 1) xs) (drop (i + 1) ys))
    ∙ ap (λ l. old ++ l) (sym (zip-at xs ys i x y h k a b)) ∙ e

-- ---- graphs

-- what is held after a plan over a store that held nothing is among the paths of the bids
pub among-alone : (before : Holding) (paths after : List Path) (net : Net) → before ≡ record { network = net; held = []; built = 0 } → All (λ path. Contains before.held path ⊎ Contains paths path) after → All (Contains paths) after
among-alone before paths after net is all k d within = by (all k d within)
  where
    none : (x : Path) → Contains before.held x → ⊥
    none x has = let few : has.0 < length before.held = has.1 in omega (arith, few, ap (λ (h : Holding). length h.held) is)

    by : Contains before.held (get_or after k d) ⊎ Contains paths (get_or after k d) → Contains paths (get_or after k d)
    by (inl held) = absurd (none (get_or after k d) held)
    by (inr among) = among

-- ---- the round as it is printed

-- the close is printed with the actions after the round, which is the last one where the auction is closed
close-alike : (s : State) (acts : List Act) (values : List (Option ℤ)) (actions : List TimedAct) (body : List ℕ) → s.closed ≡ false
    → with_close body (after_round (after_all s acts) values) (rows_of (acts_after s.round actions)) ≡ with_close body (after_round (after_all s acts) values) (rows_of (acts_after (after_round (after_all s acts) values).round actions))
close-alike s acts values actions body open_is = by (is_last_round (after_all s acts))
  where
    round_is : s.round ≡ (after_all s acts).round
    round_is = sym (acts_keep s acts).round

    open_still : (after_all s acts).closed ≡ false
    open_still = (acts_keep s acts).closed ∙ open_is

    none : (t : State) (late : List ℕ) → t.closed ≡ false → with_close body t late ≡ body
    none t late is = ap (λ (b : Bool). if b then body ++ records_text (close_records (record { round = t.round; late = late; awards = awards_of t.standing })) else body) is

    by : (b : Bool) → with_close body (if b then shut (after_all s acts) values else next (after_all s acts) values) (rows_of (acts_after s.round actions))
        ≡ with_close body (if b then shut (after_all s acts) values else next (after_all s acts) values) (rows_of (acts_after (if b then shut (after_all s acts) values else next (after_all s acts) values).round actions))
    by true = ap (λ (r : ℕ). with_close body (shut (after_all s acts) values) (rows_of (acts_after r actions))) round_is
    by false = none (next (after_all s acts) values) _ open_still ∙ sym (none (next (after_all s acts) values) _ open_still)

module _ {R : Type 0} (family : FamilyOf R) (Keeps : List Entry → Type 0) (net : Net) (names : List (List ℕ)) (actions : List TimedAct) (s last : State) (bids : List Bid) (plan : Planned R) (graphs : ℕ) where
  pub posted-round : s.closed ≡ false → TellsConflicts net bids Keeps → IsRoundPlan family.cmp net family.rows Keeps bids plan graphs → ArePlanned (after_acts s (acts_of s.round actions)) bids
      → IsPlannedRound (AreRoundValues family.cmp net family.rows Keeps) s (asked_of (acts_of s.round actions)) last
      → (round : ℕ) (told : List (ℕ × Option Refusal)) (late : List ℕ) (status : ℕ) (text : List ℕ) → round ≡ s.round → told ≡ outcomes s (acts_of s.round actions) → late ≡ rows_of (acts_after s.round actions)
      → text ≡ with_close (records_text (round_records net (record { round = round; outcomes = told; bids = bids; specs = standing_specs names last.standing; walks = plan.choice; revenue = plan.revenue; bound = plan.bound; nodes = plan.nodes; graphs = graphs }))) last late
      → status ≡ play_status (int_lt plan.revenue plan.bound) → PostsRound family Keeps net names actions s last status text
  posted-round open_is tells is planned goes round told late status text round_is told_is late_is text_is status_is = record {
    round = record { before = s; bids = bids; plan = plan; graphs = graphs };
    is_played = record {
      before_is = refl;
      is_open = open_is;
      planned = planned;
      is_plan = plan-is_plan family.cmp net family.rows Keeps bids tells round_steps round_budget plan is.is_plan;
      graphs = is.graphs_are;
    };
    last_is = closed-with_plan family.cmp net family.rows Keeps s last (asked_of (acts_of s.round actions)) bids plan planned is.is_plan goes;
    printed = text_is
        ∙ (λ i. with_close (records_text (round_records net (record { round = round_is i; outcomes = told_is i; bids = bids; specs = specs_is i; walks = plan.choice; revenue = plan.revenue; bound = plan.bound; nodes = plan.nodes; graphs = graphs }))) last (late_is i))
        ∙ alike;
    ends = ends-alone (record { before = s; bids = bids; plan = plan; graphs = graphs }) status is.is_plan.numbers.within status_is;
  }
    where
      specs_is : standing_specs names last.standing ≡ standing_specs names (after_all s (asked_of (acts_of s.round actions))).standing
      specs_is = ap (λ (t : State). standing_specs names t.standing) goes.next_is ∙ named-after_round (after_all s (asked_of (acts_of s.round actions))) goes.values names

      alike : with_close (records_text (round_records net (round_of names actions (record { before = s; bids = bids; plan = plan; graphs = graphs })))) last (rows_of (acts_after s.round actions))
          ≡ with_close (records_text (round_records net (round_of names actions (record { before = s; bids = bids; plan = plan; graphs = graphs })))) last (rows_of (acts_after last.round actions))
      alike = subst (λ (t : State). with_close (records_text (round_records net (round_of names actions (record { before = s; bids = bids; plan = plan; graphs = graphs })))) t (rows_of (acts_after s.round actions))
          ≡ with_close (records_text (round_records net (round_of names actions (record { before = s; bids = bids; plan = plan; graphs = graphs })))) t (rows_of (acts_after t.round actions)))
          (sym goes.next_is) (close-alike s (asked_of (acts_of s.round actions)) goes.values actions _ open_is)
