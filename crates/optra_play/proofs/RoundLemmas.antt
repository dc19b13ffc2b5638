-- Rounds that are played one after another: one more at the end, and what it adds.
use Rattle.std.proofs.Common.{◌≡◌, ◌⊎◌, inl, inr, ◌≤◌, ◌<◌, ℕ, ◌+◌, ◌-◌, ◌++◌, List, [], ◌∷◌, map, Bool, true, false, Option, None, Some, Vec, ◌≢◌, suc, refl, sym, ap, ◌∙◌, subst, arith, ⊎_elim}
use Rattle.std.proofs.lemmas.Int.{ints}
use Rattle.std.specs.Prelude.{ℤ, int_lt, ◌≤ℤ◌, ◌<ℤ◌, nat_eq, nat_le, nat_lt, not, ◌&&◌, ◌||◌, filter, cond, if◌then◌else◌, All, Any, Contains}
use Rattle.std.specs.declared.alloc.Global.{Global}
use Rattle.std.proofs.lemmas.Bool.Decides.{eqb_tells, leb_tells}
use Rattle.std.proofs.lemmas.List.{flat_map_more}
use Rattle.std.proofs.lemmas.List.Elements.{All-append, All-filter, All-head, All-push, All-tail, All-weaker, Contains-append_left, Contains-append_right}
use Rattle.std.proofs.lemmas.List.Quantifiers.{Any-push}
use Rattle.optra_network.specs.Net.{Net}
use Rattle.optra_bid.specs.Specs.{Path}
use Rattle.optra_bid.specs.declared.bids.Bid.{Bid}
use Rattle.optra_auction.specs.Machine.{ArePlanned, AreRules, HasAmount, State, after_round, is_last_round, opened, rested, spec_names, with_values}
use Rattle.optra_auction.specs.declared.Rules.{Rules}
use Rattle.optra_auction.proofs.AuctionLemmas.{not_last}
use Rattle.optra_cert.specs.RowTexts.{RowTexts}
use Rattle.optra_records.specs.Texts.{records_text}
use Rattle.optra_rounds.specs.Rounds.{acts_after, acts_of, after_acts, awards_of, other_acts, outcomes, standing_specs, values_of}
use Rattle.optra_tables.specs.Actions.{AreActions, IsRound}
use Rattle.optra_tables.specs.declared.TimedAct.{TimedAct}
use Rattle.optra_text.specs.RoundTexts.{close_records, round_records}
use Rattle.optra_walk.specs.Families.{Entry}
use Rattle.optra_verdict.specs.FamilyOf.{FamilyOf}
use Rattle.optra_play.specs.Play.{IsPlayStatus, IsPlayed, IsPlayedOut, Played, Plays, acted, acts_in, closed_by, paths_of, play_files, round_files, round_of, rounds_text, rows_late}
use Rattle.optra_play.specs.Playing.{HasGap, IsBegun, IsFinished, IsPlayedSo, IsRoundPlayed, acts_from, acts_left, files_where, gap_after, play_status, rounds_left, seen_after}
use Rattle.optra_play.specs.Certificates.{certificate_of}
use Rattle.optra_frame.specs.Puts.{texts_of}
use Rattle.optra_frame.specs.declared.files.FileText.{FileText}
use Rattle.optra_play.specs.declared.playing.Playing.{Playing}
use Rattle.optra_frame.specs.declared.answer.Answer.{Answer}
use Rattle.optra_play.proofs.PlayLemmas.{IsSameRound, acts-same}

-- ---- the actions that are left

-- the elements of one test among those of another
filter-filter : {X : Type 0} (p q : X → Bool) (xs : List X) → filter p (filter q xs) ≡ filter (λ x. q x && p x) xs
filter-filter p q [] = refl
filter-filter p q (x ∷ xs) = by (q x) (filter-filter p q xs)
  where
    by : (b : Bool) → filter p (filter q xs) ≡ filter (λ x. q x && p x) xs → filter p (cond b (x ∷ filter q xs) (filter q xs)) ≡ cond (b && p x) (x ∷ filter (λ x. q x && p x) xs) (filter (λ x. q x && p x) xs)
    by true e = ap (λ ys. cond (p x) (x ∷ ys) ys) e
    by false e = e

-- two tests that agree have the same elements
filter-same : {X : Type 0} (p q : X → Bool) → ((x : X) → p x ≡ q x) → (xs : List X) → filter p xs ≡ filter q xs
filter-same p q same [] = refl
filter-same p q same (x ∷ xs) = λ i. cond (same x i) (x ∷ filter-same p q same xs i) (filter-same p q same xs i)

-- a test that holds of all elements keeps them
filter-all : {X : Type 0} (p : X → Bool) (xs : List X) → All (λ x. p x ≡ true) xs → filter p xs ≡ xs
filter-all p [] all = refl
filter-all p (x ∷ xs) all = rw (All-head (λ x. p x ≡ true) x xs all) (ap (λ ys. x ∷ ys) (filter-all p xs (All-tail (λ x. p x ≡ true) x xs all)))

from_and_at : (r x : ℕ) → (nat_le r x && nat_eq x r) ≡ nat_eq x r
from_and_at r x = by (leb_tells r x) (eqb_tells x r)
  where
    by : ((nat_le r x ≡ true) × (r ≤ x)) ⊎ ((nat_le r x ≡ false) × (x < r)) → ((nat_eq x r ≡ true) × (x ≡ r)) ⊎ ((nat_eq x r ≡ false) × (x ≢ r)) → (nat_le r x && nat_eq x r) ≡ nat_eq x r
    by (inl h) e = rw h.0 refl
    by (inr h) (inl e) = absurd (omega (arith, h.1, e.1))
    by (inr h) (inr e) = rw (h.0, e.0) refl

from_and_off : (r x : ℕ) → (nat_le r x && not (nat_eq x r)) ≡ nat_lt r x
from_and_off r x = by (leb_tells r x) (eqb_tells x r) (leb_tells (r + 1) x)
  where
    by : ((nat_le r x ≡ true) × (r ≤ x)) ⊎ ((nat_le r x ≡ false) × (x < r)) → ((nat_eq x r ≡ true) × (x ≡ r)) ⊎ ((nat_eq x r ≡ false) × (x ≢ r)) → ((nat_le (r + 1) x ≡ true) × (r + 1 ≤ x)) ⊎ ((nat_le (r + 1) x ≡ false) × (x < r + 1)) → (nat_le r x && not (nat_eq x r)) ≡ nat_lt r x
    by h e l = grind arith

-- the actions of a round are among those from it on
acts_of-from : (round : ℕ) (actions : List TimedAct) → acts_of round (acts_from round actions) ≡ acts_of round actions
acts_of-from round actions =
    filter-filter (λ (a : TimedAct). nat_eq a.round round) (λ (a : TimedAct). nat_le round a.round) actions
    ∙ filter-same (λ (a : TimedAct). nat_le round a.round && nat_eq a.round round) (λ (a : TimedAct). nat_eq a.round round) (λ (a : TimedAct). from_and_at round a.round) actions

-- the others of these are those of later rounds
others-from : (round : ℕ) (actions : List TimedAct) → other_acts round (acts_from round actions) ≡ acts_after round actions
others-from round actions =
    filter-filter (λ (a : TimedAct). not (nat_eq a.round round)) (λ (a : TimedAct). nat_le round a.round) actions
    ∙ filter-same (λ (a : TimedAct). nat_le round a.round && not (nat_eq a.round round)) (λ (a : TimedAct). nat_lt round a.round) (λ (a : TimedAct). from_and_off round a.round) actions

-- those are the ones from the next round on
from-next : (round : ℕ) (actions : List TimedAct) → acts_from (round + 1) actions ≡ acts_after round actions
from-next round actions = let e : round + 1 ≡ suc round = omega arith in ap (λ (n : ℕ). acts_from n actions) e

-- all actions are from the first round on
pub from-first : (actions : List TimedAct) → All (λ (a : TimedAct). IsRound a.round) actions → acts_from 1 actions ≡ actions
from-first actions rounds =
    filter-all (λ (a : TimedAct). nat_le 1 a.round) actions (All-weaker (λ (a : TimedAct). IsRound a.round) (λ (a : TimedAct). nat_le 1 a.round ≡ true) (λ (a : TimedAct) (h : IsRound a.round). at_least a.round h.0) actions rounds)
  where
    at_least : (n : ℕ) → 1 ≤ n → nat_le 1 n ≡ true
    at_least n h = grind arith

-- ---- the close of a round

-- an auction after the close of a round: closed in the same round, or open in the next one
pub record IsNext (s t : State) : Type 0 where
  pub specs : t.specs ≡ s.specs
  pub rules : t.rules ≡ s.rules
  pub next : ((t.closed ≡ true) × (t.round ≡ s.round)) ⊎ ((t.closed ≡ false) × (t.round ≡ s.round + 1) × (s.round < s.rules.rounds))

round-closed : (s : State) (values : List (Option ℤ)) → s.closed ≡ false → IsNext s (after_round s values)
round-closed s values going = by (is_last_round s) refl
  where
    by : (b : Bool) → is_last_round s ≡ b → IsNext s (if b
        then record s { standing = with_values s.standing values; closed = true }
        else record s { standing = map rested (with_values s.standing values); round = s.round + 1; moved = false })
    by true e = record { specs = refl; rules = refl; next = inl (refl, refl) }
    by false e = record { specs = refl; rules = refl; next = inr (going, refl, not_last s e) }

-- a round within the rules is followed by one within them
next-within : (s t : State) → IsNext s t → s.round ≤ s.rules.rounds → t.round ≤ s.rules.rounds
next-within s t h within = ⊎_elim (λ e. subst (λ n. n ≤ s.rules.rounds) (sym e.1) within) (λ e. subst (λ n. n ≤ s.rules.rounds) (sym e.1) (let f = e.2 in omega (arith, f))) h.next

-- the actions that are left after a round
left-next : (s t : State) (actions : List TimedAct) → IsNext s t → acts_after s.round actions ≡ acts_left t actions
left-next s t actions h = ⊎_elim closes goes h.next
  where
    closes : (t.closed ≡ true) × (t.round ≡ s.round) → acts_after s.round actions ≡ acts_left t actions
    closes e = rw (e.0, e.1) refl

    goes : (t.closed ≡ false) × (t.round ≡ s.round + 1) × (s.round < s.rules.rounds) → acts_after s.round actions ≡ acts_left t actions
    goes e = rw (e.0, e.1) (sym (from-next s.round actions))

-- after a round fewer may come
pub fewer-left : (s t : State) → s.closed ≡ false → s.round ≤ s.rules.rounds → IsNext s t → rounds_left t < rounds_left s
fewer-left s t going within h = ⊎_elim closes goes h.next
  where
    closes : (t.closed ≡ true) × (t.round ≡ s.round) → rounds_left t < rounds_left s
    closes e = rw (going, e.0) (omega (arith, within))

    goes : (t.closed ≡ false) × (t.round ≡ s.round + 1) × (s.round < s.rules.rounds) → rounds_left t < rounds_left s
    goes e = let more = e.2 in rw (going, e.0, e.1, h.rules) (omega (arith, within, more))

-- ---- one more round

module _ {R : Type 0} (family : FamilyOf R) (Keeps : List Entry → Type 0) (net : Net) (actions : List TimedAct) where
  plays-more : (rounds : List (Played R)) (seen : List Path) (s mid last : State) (p : Played R) → Plays family Keeps net actions seen s rounds mid
      → IsPlayed family Keeps net actions (seen_after seen rounds) mid p → last ≡ closed_by actions net p → Plays family Keeps net actions seen s (rounds ++ p ∷ []) last
  plays-more [] seen s mid last p e h f = (subst (λ (t : State). IsPlayed family Keeps net actions seen t p) e h, f)
  plays-more (q ∷ rounds) seen s mid last p e h f = (e.0, plays-more rounds (seen ++ paths_of q.bids) (closed_by actions net q) mid last p e.1 h f)

seen-more : {R : Type 0} (rounds : List (Played R)) (seen : List Path) (p : Played R) → seen_after seen (rounds ++ p ∷ []) ≡ seen_after seen rounds ++ paths_of p.bids
seen-more [] seen p = refl
seen-more (q ∷ rounds) seen p = seen-more rounds (seen ++ paths_of q.bids) p

files-more : {R : Type 0} (texts : RowTexts R) (net : Net) (certs : Option (List ℕ)) (rounds : List (Played R)) (p : Played R)
    → play_files texts net certs rounds ++ files_where texts net certs p.before.round p.bids (certificate_of p.plan) ≡ play_files texts net certs (rounds ++ p ∷ [])
files-more texts net None rounds p = refl
files-more texts net (Some prefix) rounds p = flat_map_more (round_files texts net prefix) [] rounds p

-- an element of the front stands in the whole
Any-front : {X : Type 0} (P : X → Type 0) (xs ys : List X) → Any P xs → Any P (xs ++ ys)
Any-front P xs ys h = let x = h.1 in let at = Contains-append_left xs ys x (h.0, h.2, h.3) in (at.0, x, at.1, at.2, h.4)

gap-more : {R : Type 0} (rounds : List (Played R)) (gap : Bool) (p : Played R) → p.plan.revenue ≤ℤ p.plan.bound → HasGap rounds gap → HasGap (rounds ++ p ∷ []) (gap_after gap p.plan)
gap-more {R = R} rounds gap p most h = by (int_lt p.plan.revenue p.plan.bound) refl gap h
  where
    below : int_lt p.plan.revenue p.plan.bound ≡ true → p.plan.revenue <ℤ p.plan.bound
    below e = grind (arith, ints)

    meets : int_lt p.plan.revenue p.plan.bound ≡ false → p.plan.revenue ≡ p.plan.bound
    meets e = grind (arith, ints)

    by : (b : Bool) → int_lt p.plan.revenue p.plan.bound ≡ b → (gap : Bool) → HasGap rounds gap → HasGap (rounds ++ p ∷ []) (b || gap)
    by true e gap h = Any-push (λ (q : Played R). q.plan.revenue <ℤ q.plan.bound) rounds p (below e)
    by false e true h = Any-front (λ (q : Played R). q.plan.revenue <ℤ q.plan.bound) rounds (p ∷ []) h
    by false e false h = All-push (λ (q : Played R). q.plan.revenue ≡ q.plan.bound) rounds p h (meets e)

-- all rounds so far, with the round that was played
module _ {R : Type 0} (family : FamilyOf R) (Keeps : List Entry → Type 0) (net : Net) (certs : Option (List ℕ)) (specs : List Bid) (rules : Rules) (actions : List TimedAct)
    (old new : Playing) (going : old.auction.closed ≡ false) (so : IsPlayedSo family Keeps net certs specs rules actions old)
    (h : IsRoundPlayed family Keeps net (spec_names specs) certs old new) where
  before : h.p.before ≡ old.auction
  before = h.before_is

  from_round : old.left.items ≡ acts_from h.p.before.round actions
  from_round = so.left_is ∙ ap (λ c. if c then acts_after old.auction.round actions else acts_from old.auction.round actions) going ∙ ap (λ (s : State). acts_from s.round actions) (sym before)

  same_acts : acts_in old.left.items h.p ≡ acts_in actions h.p
  same_acts = ap (acts_of h.p.before.round) from_round ∙ acts_of-from h.p.before.round actions

  others_are : new.left.items ≡ acts_after h.p.before.round actions
  others_are = h.left_is ∙ ap (other_acts h.p.before.round) from_round ∙ others-from h.p.before.round actions

  next_is : new.auction ≡ closed_by actions net h.p
  next_is = h.auction_is ∙ ap (λ acts. after_round (after_acts h.p.before acts) (values_of net h.p.bids h.p.plan.choice)) same_acts

  -- the auction after the round's actions is in the same round
  acted_same : IsSameRound h.p.before (acted actions h.p)
  acted_same = acts-same h.p.before (acts_in actions h.p)

  acted_open : (acted actions h.p).closed ≡ false
  acted_open = acted_same.closed ∙ ap (λ (s : State). s.closed) before ∙ going

  closes : IsNext (acted actions h.p) new.auction
  closes = subst (IsNext (acted actions h.p)) (sym next_is) (round-closed (acted actions h.p) (values_of net h.p.bids h.p.plan.choice) acted_open)

  rules_are : (acted actions h.p).rules ≡ rules
  rules_are = acted_same.rules ∙ ap (λ (s : State). s.rules) before ∙ so.rules_are

  acted_round : (acted actions h.p).round ≡ old.auction.round
  acted_round = acted_same.round ∙ ap (λ (s : State). s.round) before

  acted_within : (acted actions h.p).round ≤ (acted actions h.p).rules.rounds
  acted_within = rw (acted_round, rules_are) so.within

  abbrev seen : List Path
  seen = seen_after [] so.rounds

  all_held : All (Contains new.graphs.held) (seen ++ paths_of h.p.bids)
  all_held = All-append (Contains new.graphs.held) seen (paths_of h.p.bids) (All-weaker (Contains old.graphs.held) (Contains new.graphs.held) (λ path at. kept_at path at) seen so.held) h.held
    where
      kept_at : (path : Path) → Contains old.graphs.held path → Contains new.graphs.held path
      kept_at path at = subst (Contains new.graphs.held) at.2 (h.kept at.0 path at.1)

  all_among : All (Contains (seen ++ paths_of h.p.bids)) new.graphs.held
  all_among = All-weaker (λ path. Contains old.graphs.held path ⊎ Contains (paths_of h.p.bids) path) (Contains (seen ++ paths_of h.p.bids)) (λ path at. from_at path at) new.graphs.held h.others
    where
      seen_at : (path : Path) → Contains old.graphs.held path → Contains seen path
      seen_at path at = subst (Contains seen) at.2 (so.among at.0 path at.1)

      from_at : (path : Path) → Contains old.graphs.held path ⊎ Contains (paths_of h.p.bids) path → Contains (seen ++ paths_of h.p.bids) path
      from_at path (inl at) = Contains-append_left seen (paths_of h.p.bids) path (seen_at path at)
      from_at path (inr at) = Contains-append_right seen (paths_of h.p.bids) path at

  is_played : IsPlayed family Keeps net actions seen old.auction h.p
  is_played = record {
    before_is = before;
    is_open = going;
    planned = subst (λ acts. ArePlanned (after_acts h.p.before acts) h.p.bids) same_acts h.planned;
    is_plan = h.is_plan;
    graphs = record { each = new.graphs.held; differ = h.differ; among = all_among; all = all_held; count_is = h.count };
  }

  most : h.p.plan.revenue ≤ℤ h.p.plan.bound
  most = let promise = h.is_plan.promise in subst (λ r. r ≤ℤ h.p.plan.bound) (sym promise.earns) (promise.bounded h.p.plan.choice promise.free)

  abbrev text_of : List TimedAct → List ℕ
  text_of acts = records_text (round_records net (record {
    round = h.p.before.round;
    outcomes = outcomes h.p.before acts;
    bids = h.p.bids;
    specs = standing_specs (spec_names specs) (after_acts h.p.before acts).standing;
    walks = h.p.plan.choice;
    revenue = h.p.plan.revenue;
    bound = h.p.plan.bound;
    nodes = h.p.plan.nodes;
    graphs = h.p.graphs;
  }))

  text_next : new.text.items ≡ rounds_text net (spec_names specs) actions (so.rounds ++ h.p ∷ [])
  text_next =
      h.text_is
      ∙ (λ i. so.text_is i ++ text_of (same_acts i))
      ∙ flat_map_more (λ (p : Played R). records_text (round_records net (round_of (spec_names specs) actions p))) [] so.rounds h.p

  pub played-next : IsPlayedSo family Keeps net certs specs rules actions new
  played-next = record {
    rounds = so.rounds ++ h.p ∷ [];
    plays = plays-more family Keeps net actions so.rounds [] (opened specs rules) old.auction new.auction h.p so.plays is_played next_is;
    specs_are = closes.specs ∙ acted_same.specs ∙ ap (λ (s : State). s.specs) before ∙ so.specs_are;
    rules_are = closes.rules ∙ rules_are;
    within = subst (λ (r : Rules). new.auction.round ≤ r.rounds) rules_are (next-within (acted actions h.p) new.auction closes acted_within);
    left_is = others_are ∙ ap (λ (n : ℕ). acts_after n actions) (sym acted_same.round) ∙ left-next (acted actions h.p) new.auction actions closes;
    network_is = h.network_is ∙ so.network_is;
    among = subst (λ paths. All (Contains paths) new.graphs.held) (sym (seen-more so.rounds [] h.p)) all_among;
    held = subst (λ paths. All (Contains new.graphs.held) paths) (sym (seen-more so.rounds [] h.p)) all_held;
    text_is = text_next;
    puts_are = h.puts_are ∙ ap (λ files. files ++ files_where family.texts net certs h.p.before.round h.p.bids (certificate_of h.p.plan)) so.puts_are ∙ files-more family.texts net certs so.rounds h.p;
    gap_is = subst (HasGap (so.rounds ++ h.p ∷ [])) (sym h.gap_is) (gap-more so.rounds old.has_gap h.p most so.gap_is);
  }

  pub played-fewer : rounds_left new.auction < rounds_left old.auction
  played-fewer = let fewer = fewer-left (acted actions h.p) new.auction acted_open acted_within closes in
      subst (λ n. rounds_left new.auction < n) (λ i. if (acted_open ∙ sym going) i then 0 else ((rules_are ∙ sym so.rules_are) i).rounds + 1 - acted_round i) fewer

-- ---- the first round and the last

no-elements : {X : Type 0} (P : X → Type 0) → All P []
no-elements P k d within = absurd (omega (arith, within))

no-files : {R : Type 0} (texts : RowTexts R) (net : Net) (certs : Option (List ℕ)) → [] ≡ play_files texts net certs []
no-files texts net None = refl
no-files texts net (Some prefix) = refl

-- an auction of which nothing was played was played so far
pub played-first : {R : Type 0} (family : FamilyOf R) (Keeps : List Entry → Type 0) (net : Net) (certs : Option (List ℕ)) (specs : List Bid) (rules : Rules) (actions : List TimedAct) (playing : Playing)
    → IsBegun net specs rules actions playing → AreRules rules → AreActions actions → IsPlayedSo family Keeps net certs specs rules actions playing
played-first family Keeps net certs specs rules actions playing h are told = record {
  rounds = [];
  plays = h.auction_is;
  specs_are = ap (λ (s : State). s.specs) h.auction_is;
  rules_are = ap (λ (s : State). s.rules) h.auction_is;
  within = subst (λ (s : State). s.round ≤ rules.rounds) (sym h.auction_is) are.rounds;
  left_is = h.left_is ∙ sym (from-first actions told.rounds) ∙ ap (λ (s : State). acts_left s actions) (sym h.auction_is);
  network_is = h.network_is;
  among = subst (All (Contains [])) (sym h.held_are) (no-elements (Contains []));
  held = no-elements (Contains playing.graphs.held);
  text_is = h.text_is;
  puts_are = ap texts_of h.puts_are ∙ no-files family.texts net certs;
  gap_is = subst (HasGap []) (sym h.gap_is) (no-elements _);
}

-- an auction that was begun has its specifications, its rules and its actions, and is begun of them
pub begun-specs : {net : Net} {specs : List Bid} {rules : Rules} {actions : List TimedAct} {playing : Playing} → IsBegun net specs rules actions playing → playing.auction.specs ≡ specs
begun-specs h = ap (λ (s : State). s.specs) h.auction_is

pub begun-rules : {net : Net} {specs : List Bid} {rules : Rules} {actions : List TimedAct} {playing : Playing} → IsBegun net specs rules actions playing → playing.auction.rules ≡ rules
begun-rules h = ap (λ (s : State). s.rules) h.auction_is

pub begun-own : {net : Net} {specs : List Bid} {rules : Rules} {actions : List TimedAct} {playing : Playing} → IsBegun net specs rules actions playing → IsBegun net playing.auction.specs playing.auction.rules playing.left.items playing
begun-own h = record {
  auction_is = h.auction_is ∙ (λ i. opened (sym (begun-specs h) i) (sym (begun-rules h) i));
  network_is = h.network_is;
  held_are = h.held_are;
  left_is = refl;
  text_is = h.text_is;
  puts_are = h.puts_are;
  gap_is = h.gap_is;
}

-- where it is played out of what it has, it is played out of what it was begun of
pub begun-played : {R : Type 0} (family : FamilyOf R) (Keeps : List Entry → Type 0) {net : Net} (certs : Option (List ℕ)) {specs : List Bid} {rules : Rules} {actions : List TimedAct} {playing : Playing}
    → IsBegun net specs rules actions playing → (status : ℕ) (text : List ℕ) (puts : List (List ℕ × List ℕ))
    → IsPlayedOut family Keeps net certs playing.auction.specs playing.auction.rules playing.left.items status text puts → IsPlayedOut family Keeps net certs specs rules actions status text puts
begun-played family Keeps {net} certs {specs} {rules} {actions} {playing} h status text puts out =
    subst (λ s. IsPlayedOut family Keeps net certs s rules actions status text puts) (begun-specs h)
    (subst (λ r. IsPlayedOut family Keeps net certs playing.auction.specs r actions status text puts) (begun-rules h)
    (subst (λ a. IsPlayedOut family Keeps net certs playing.auction.specs playing.auction.rules a status text puts) h.left_is out))

-- the actions that are left have amounts in range
pub left-amounts : (s : State) (actions : List TimedAct) → All (λ (a : TimedAct). HasAmount a.act) actions → All (λ (a : TimedAct). HasAmount a.act) (acts_left s actions)
left-amounts s actions all = by s.closed
  where
    by : (closed : Bool) → All (λ (a : TimedAct). HasAmount a.act) (if closed then acts_after s.round actions else acts_from s.round actions)
    by true = All-filter (λ (a : TimedAct). nat_lt s.round a.round) (λ (a : TimedAct). HasAmount a.act) actions all
    by false = All-filter (λ (a : TimedAct). nat_le s.round a.round) (λ (a : TimedAct). HasAmount a.act) actions all

play-status : {R : Type 0} (rounds : List (Played R)) (gap : Bool) (status : ℕ) → HasGap rounds gap → status ≡ play_status gap → IsPlayStatus rounds status
play-status rounds true status h is = inr (is, h)
play-status rounds false status h is = inl (is, h)

-- an auction that was played until it is closed is played out
pub played-out : {R : Type 0} (family : FamilyOf R) (Keeps : List Entry → Type 0) (net : Net) (certs : Option (List ℕ)) (specs : List Bid) (rules : Rules) (actions : List TimedAct) (playing : Playing) (answer : Answer)
    → IsPlayedSo family Keeps net certs specs rules actions playing → playing.auction.closed ≡ true → IsFinished playing answer
    → IsPlayedOut family Keeps net certs specs rules actions answer.status answer.text.items (texts_of answer.puts.items)
played-out family Keeps net certs specs rules actions playing answer so closed h = record {
  rounds = so.rounds;
  last = playing.auction;
  is_play = record { plays = so.plays; is_closed = closed };
  printed = h.text_is ∙ (λ i. so.text_is i ++ close_text_of (late_are i));
  ends = play-status so.rounds playing.has_gap answer.status so.gap_is h.status_is;
  put = ap (λ (files : Vec FileText Global). texts_of files.items) h.puts_are ∙ so.puts_are;
}
  where
    late_are : playing.left.items ≡ acts_after playing.auction.round actions
    late_are = so.left_is ∙ ap (λ c. if c then acts_after playing.auction.round actions else acts_from playing.auction.round actions) closed

    close_text_of : List TimedAct → List ℕ
    close_text_of late = records_text (close_records (record { round = playing.auction.round; late = rows_late late; awards = awards_of playing.auction.standing }))
