-- There is one play of specifications, rules and actions: each round's bids are the standing ones, their plan is one, and the number of
-- their different paths is one.
use Rattle.std.proofs.Common.{◌≡◌, inl, inr, ℕ, true, false, List, [], ◌∷◌, ◌++◌, map, length, get_or, Option, Some, refl, sym, ap, ◌∙◌, subst, arith}
use Rattle.std.proofs.lemmas.Int.{ints}
use Rattle.std.specs.Prelude.{◌<ℤ◌, All, Any, Contains}
use Rattle.optra_network.specs.Net.{Net}
use Rattle.optra_bid.specs.Offers.{offer_of}
use Rattle.optra_bid.specs.Specs.{Path}
use Rattle.optra_bid.specs.declared.bids.Bid.{Bid}
use Rattle.optra_walk.specs.Families.{Entry}
use Rattle.optra_auction.specs.Machine.{ArePlanned, State, opened, spec_names}
use Rattle.optra_auction.specs.declared.Rules.{Rules}
use Rattle.optra_rounds.specs.Rounds.{acts_of, after_acts}
use Rattle.optra_search.specs.Planner.{IsPlainPlan}
use Rattle.optra_tables.specs.declared.TimedAct.{TimedAct}
use Rattle.optra_verdict.specs.FamilyOf.{FamilyOf}
use Rattle.optra_play.specs.OnePlay.{OnePlay, OnePlayedOut}
use Rattle.optra_play.specs.Play.{AreDifferent, IsPlayStatus, IsPlayed, Played, Plays, acted, closed_by, last_text, paths_of, play_files, round_budget, round_steps, rounds_text}
use Rattle.optra_verdict.proofs.BidLemmas.{bids-from_offers}
use Rattle.optra_play.proofs.CountLemmas.{length-le_from_among}

-- ---- the bids of a round

-- what is there of each is the same, where what is there of it or not is
each_there : (bids others : List Bid) → map (λ (bid : Bid). Some (offer_of bid)) bids ≡ map (λ (bid : Bid). Some (offer_of bid)) others → map offer_of bids ≡ map offer_of others
each_there [] [] e = refl
each_there [] (b ∷ others) e = absurd (cc)
each_there (a ∷ bids) [] e = absurd (cc)
each_there (a ∷ bids) (b ∷ others) e =
    let first : offer_of a ≡ offer_of b = cc in
    let tails : map (λ (bid : Bid). Some (offer_of bid)) bids ≡ map (λ (bid : Bid). Some (offer_of bid)) others = cc in
    let rest = each_there bids others tails in
    λ i. first i ∷ rest i

-- the bids that are planned in a state are one list
one_planned : (s : State) (bids others : List Bid) → ArePlanned s bids → ArePlanned s others → bids ≡ others
one_planned s bids others a b = bids-from_offers bids others (each_there bids others (a ∙ sym b))

-- ---- the number of different paths

one_count : (paths : List Path) (m n : ℕ) → AreDifferent paths m → AreDifferent paths n → m ≡ n
one_count paths m n a b =
    let there = length-le_from_among a.each b.each a.differ (among_others a.each b.each a.among b.all) in
    let back = length-le_from_among b.each a.each b.differ (among_others b.each a.each b.among a.all) in
    let same : length a.each ≡ length b.each = omega (arith, there, back) in
    a.count_is ∙ same ∙ sym b.count_is
  where
    -- an element of the paths is one of all that hold them
    one_among : (others : List Path) (x : Path) → All (Contains others) paths → Contains paths x → Contains others x
    one_among others x hold has = subst (Contains others) has.2 (hold has.0 x has.1)

    among_others : (each others : List Path) → All (Contains paths) each → All (Contains others) paths → All (Contains others) each
    among_others each others among hold k d within = one_among others (get_or each k d) hold (among k d within)

-- ---- rounds and plays

module _ {R : Type 0} (family : FamilyOf R) (Keeps : List Entry → Type 0) (net : Net) (actions : List TimedAct) where
  -- a round in a state is one
  one_round : (seen : List Path) (s : State) (p q : Played R) → IsPlayed family Keeps net actions seen s p → IsPlayed family Keeps net actions seen s q → p ≡ q
  one_round seen s p q a b =
      let before : p.before ≡ q.before = a.before_is ∙ sym b.before_is in
      let planned = subst (λ (t : State). ArePlanned (after_acts t (acts_of t.round actions)) q.bids) (sym before) b.planned in
      let bids : p.bids ≡ q.bids = one_planned (acted actions p) p.bids q.bids a.planned planned in
      let searched = subst (λ (xs : List Bid). IsPlainPlan family.cmp net family.rows xs round_steps round_budget q.plan) (sym bids) b.is_plan.plan_is.by_search in
      let plan : p.plan ≡ q.plan = sym (a.is_plan.plan_is.only q.plan searched) in
      let counted = subst (λ (xs : List Bid). AreDifferent (seen ++ paths_of xs) q.graphs) (sym bids) b.graphs in
      let graphs : p.graphs ≡ q.graphs = one_count (seen ++ paths_of p.bids) p.graphs q.graphs a.graphs counted in
      λ i. record { before = before i; bids = bids i; plan = plan i; graphs = graphs i }

  -- rounds from one state to a closed one are one list, and lead to one state
  one_course : (seen : List Path) (s : State) (rounds others : List (Played R)) (last end : State) → last.closed ≡ true → end.closed ≡ true → Plays family Keeps net actions seen s rounds last
      → Plays family Keeps net actions seen s others end → (rounds ≡ others) × (last ≡ end)
  one_course seen s [] [] last end shut ends a b = (refl, a ∙ sym b)
  one_course seen s [] (q ∷ others) last end shut ends a b =
      let open_still : true ≡ false = sym shut ∙ ap (λ (t : State). t.closed) a ∙ b.0.is_open in
      absurd (cc)
  one_course seen s (p ∷ rounds) [] last end shut ends a b =
      let open_still : true ≡ false = sym ends ∙ ap (λ (t : State). t.closed) b ∙ a.0.is_open in
      absurd (cc)
  one_course seen s (p ∷ rounds) (q ∷ others) last end shut ends a b =
      let first = one_round seen s p q a.0 b.0 in
      let moved = subst (λ (r : Played R). Plays family Keeps net actions (seen ++ paths_of r.bids) (closed_by actions net r) others end) (sym first) b.1 in
      let rest = one_course (seen ++ paths_of p.bids) (closed_by actions net p) rounds others last end shut ends a.1 moved in (
        (λ i. first i ∷ rest.0 i),
        rest.1,
      )

  -- the play is one
  pub one_play : (specs : List Bid) (rules : Rules) → OnePlay family Keeps net specs rules actions
  one_play specs rules rounds rounds' last last' a b = one_course [] (opened specs rules) rounds rounds' last last' a.is_closed b.is_closed a.plays b.plays

  -- no bound is its revenue and above it
  never_both : (rounds : List (Played R)) → All (λ p. p.plan.revenue ≡ p.plan.bound) rounds → Any (λ p. p.plan.revenue <ℤ p.plan.bound) rounds → ⊥
  never_both rounds each some =
      let p = some.1 in
      let met : p.plan.revenue ≡ p.plan.bound = subst (λ (r : Played R). r.plan.revenue ≡ r.plan.bound) some.3 (each some.0 p some.2) in
      let above = some.4 in
      omega (arith, ints, met, above)

  one_status : (rounds : List (Played R)) (a b : ℕ) → IsPlayStatus rounds a → IsPlayStatus rounds b → a ≡ b
  one_status rounds a b (inl x) (inl y) = x.0 ∙ sym y.0
  one_status rounds a b (inl x) (inr y) = absurd (never_both rounds x.1 y.1)
  one_status rounds a b (inr x) (inl y) = absurd (never_both rounds y.1 x.1)
  one_status rounds a b (inr x) (inr y) = x.0 ∙ sym y.0

  -- what is printed and put of it is one
  pub one_played_out : (certs : Option (List ℕ)) (specs : List Bid) (rules : Rules) → OnePlayedOut family Keeps net certs specs rules actions
  one_played_out certs specs rules status status' text text' puts puts' a b =
      let same = one_play specs rules a.rounds b.rounds a.last b.last a.is_play b.is_play in
      let ends = subst (λ (rounds : List (Played R)). IsPlayStatus rounds status) same.0 a.ends in (
        one_status b.rounds status status' ends b.ends,
        a.printed ∙ (λ i. rounds_text net (spec_names specs) actions (same.0 i) ++ last_text actions (same.1 i)) ∙ sym b.printed,
        a.put ∙ ap (play_files family.texts net certs) same.0 ∙ sym b.put,
      )
