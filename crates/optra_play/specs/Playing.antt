-- What a round changes of an auction that is played, as the code holds it.
use Rattle.std.specs.Prelude.{◌≡◌, ◌⊎◌, ◌≤◌, ℕ, ◌+◌, ◌-◌, nat_le, ◌∷◌, ◌++◌, List, [], length, filter, All, Any, Contains, Option, None, Some, Bool, ◌||◌, int_lt, if◌then◌else◌, true, false}
use Rattle.std.specs.Prelude.{◌<ℤ◌}
use Rattle.optra_network.specs.Names.{AllDiffer}
use Rattle.optra_network.specs.Net.{Net}
use Rattle.optra_bid.specs.Specs.{Path}
use Rattle.optra_bid.specs.declared.bids.Bid.{Bid}
use Rattle.optra_auction.specs.Machine.{ArePlanned, State, after_round, opened, spec_names}
use Rattle.optra_auction.specs.declared.Refusal.{Refusal}
use Rattle.optra_auction.specs.declared.Rules.{Rules}
use Rattle.optra_cert.specs.Certs.{Cert}
use Rattle.optra_cert.specs.RowTexts.{RowTexts}
use Rattle.optra_records.specs.Texts.{records_text}
use Rattle.optra_rounds.specs.Rounds.{acts_after, acts_of, after_acts, awards_of, other_acts, outcomes, values_of}
use Rattle.optra_search.specs.Planner.{Planned}
use Rattle.optra_tables.specs.declared.TimedAct.{TimedAct}
use Rattle.optra_text.specs.RoundTexts.{close_records, round_records}
use Rattle.optra_walk.specs.Families.{Entry}
use Rattle.optra_walk.specs.declared.Leg.{Leg}
use Rattle.optra_verdict.specs.FamilyOf.{FamilyOf}
use Rattle.optra_play.specs.Play.{Played, Plays, acted, closed_by, files_named, paths_of, play_files, round_budget, round_of, round_steps, rounds_text, rows_late}
use Rattle.optra_play.specs.Certificates.{certificate_of}
use Rattle.optra_play.specs.Plans.{IsPlanOf}
use Rattle.optra_frame.specs.Puts.{texts_of}
use Rattle.optra_frame.specs.Statuses.{optimal_status, gap_status}
use Rattle.optra_play.specs.declared.playing.Playing.{Playing}
use Rattle.optra_frame.specs.declared.answer.Answer.{Answer}

-- The actions of the round were taken, with these outcomes, and all else is as it was.
pub record IsRoundTaken (old : Playing) (told : List (ℕ × Option Refusal)) (new : Playing) : Type 0 where
  pub told_are : told ≡ outcomes old.auction (acts_of old.auction.round old.left.items)
  pub auction_is : new.auction ≡ after_acts old.auction (acts_of old.auction.round old.left.items)
  pub left_is : new.left.items ≡ other_acts old.auction.round old.left.items
  pub graphs_are : new.graphs ≡ old.graphs
  pub text_is : new.text ≡ old.text
  pub puts_are : new.puts ≡ old.puts
  pub gap_is : new.has_gap ≡ old.has_gap

-- the files of a round of these bids and this certificate, where a prefix is given
abbrev pub files_where : {R : Type 0} → RowTexts R → Net → Option (List ℕ) → ℕ → List Bid → Cert R → List (List ℕ × List ℕ)
files_where texts net None round bids cert = []
files_where texts net (Some prefix) round bids cert = files_named texts net prefix round bids cert

-- whether there is a gap in the rounds before or in this plan
abbrev pub gap_after : {R : Type 0} → Bool → Planned R → Bool
gap_after gap plan = int_lt plan.revenue plan.bound || gap

-- The round of these bids was closed with this choice, and all else is as it was.
pub record IsShut (net : Net) (bids : List Bid) (choice : List (Option (List Leg))) (is_gap : Bool) (old new : Playing) : Type 0 where
  pub auction_is : new.auction ≡ after_round old.auction (values_of net bids choice)
  pub left_is : new.left ≡ old.left
  pub graphs_are : new.graphs ≡ old.graphs
  pub text_is : new.text ≡ old.text
  pub puts_are : new.puts ≡ old.puts
  pub gap_is : new.has_gap ≡ (is_gap || old.has_gap)

-- The round of these bids was closed with their plan, its files are put, and all else is as it was.
pub record IsRoundClosed {R : Type 0} (texts : RowTexts R) (net : Net) (certs : Option (List ℕ)) (bids : List Bid) (plan : Planned R) (old new : Playing) : Type 0 where
  pub auction_is : new.auction ≡ after_round old.auction (values_of net bids plan.choice)
  pub left_is : new.left ≡ old.left
  pub graphs_are : new.graphs ≡ old.graphs
  pub text_is : new.text ≡ old.text
  pub puts_are : texts_of new.puts.items ≡ texts_of old.puts.items ++ files_where texts net certs old.auction.round bids (certificate_of plan)
  pub gap_is : new.has_gap ≡ gap_after old.has_gap plan

-- A round was played of the actions that were left, and it is the next one. The loop over rounds lifts this to the list of all
-- actions: where those left are the actions from the round on, `acts_of round` and `other_acts round` of them are those of all
-- actions and those of later rounds.
pub record IsRoundPlayed {R : Type 0} (family : FamilyOf R) (Keeps : List Entry → Type 0) (net : Net) (names : List (List ℕ)) (certs : Option (List ℕ)) (old new : Playing) : Type 0 where
  pub p : Played R
  pub before_is : p.before ≡ old.auction
  pub planned : ArePlanned (acted old.left.items p) p.bids
  pub is_plan : IsPlanOf family.cmp net family.rows Keeps p.bids round_steps round_budget p.plan
  pub held : All (Contains new.graphs.held) (paths_of p.bids)
  pub others : All (λ path. Contains old.graphs.held path ⊎ Contains (paths_of p.bids) path) new.graphs.held
  pub kept : All (Contains new.graphs.held) old.graphs.held
  pub differ : AllDiffer new.graphs.held
  pub count : p.graphs ≡ length new.graphs.held
  pub network_is : new.graphs.network ≡ old.graphs.network
  pub auction_is : new.auction ≡ closed_by old.left.items net p
  pub left_is : new.left.items ≡ other_acts p.before.round old.left.items
  pub text_is : new.text.items ≡ old.text.items ++ records_text (round_records net (round_of names old.left.items p))
  pub puts_are : texts_of new.puts.items ≡ texts_of old.puts.items ++ files_where family.texts net certs p.before.round p.bids (certificate_of p.plan)
  pub gap_is : new.has_gap ≡ gap_after old.has_gap p.plan

-- An auction of these specifications and rules of which nothing was played.
pub record IsBegun (net : Net) (specs : List Bid) (rules : Rules) (actions : List TimedAct) (playing : Playing) : Type 0 where
  pub auction_is : playing.auction ≡ opened specs rules
  pub network_is : playing.graphs.network ≡ net
  pub held_are : playing.graphs.held ≡ []
  pub left_is : playing.left.items ≡ actions
  pub text_is : playing.text.items ≡ []
  pub puts_are : playing.puts.items ≡ []
  pub gap_is : playing.has_gap ≡ false

-- how an auction ends, by whether there is a gap in a round
abbrev pub play_status : Bool → ℕ
play_status has_gap = if has_gap then gap_status else optimal_status

-- What is printed and put of an auction that is closed, and how it ends.
pub record IsFinished (playing : Playing) (answer : Answer) : Type 0 where
  pub text_is : answer.text.items ≡ playing.text.items ++ records_text (close_records (record {
    round = playing.auction.round;
    late = rows_late playing.left.items;
    awards = awards_of playing.auction.standing;
  }))
  pub puts_are : answer.puts ≡ playing.puts
  pub status_is : answer.status ≡ play_status playing.has_gap

-- ---- the rounds so far

-- the path specifications that have stood once these rounds were played after those
abbrev pub seen_after : {R : Type 0} → List Path → List (Played R) → List Path
seen_after seen [] = seen
seen_after seen (p ∷ rounds) = seen_after (seen ++ paths_of p.bids) rounds

-- the actions from a round on
abbrev pub acts_from : ℕ → List TimedAct → List TimedAct
acts_from round actions = filter (λ (a : TimedAct). nat_le round a.round) actions

-- the actions that are left: those from the round on while the auction is open, and those of later rounds once it is closed
abbrev pub acts_left : State → List TimedAct → List TimedAct
acts_left s actions = if s.closed then acts_after s.round actions else acts_from s.round actions

-- a bound is above its revenue in one of the rounds, or meets it in all
abbrev pub HasGap : {R : Type 0} → List (Played R) → Bool → Type 0
HasGap rounds true = Any (λ p. p.plan.revenue <ℤ p.plan.bound) rounds
HasGap rounds false = All (λ p. p.plan.revenue ≡ p.plan.bound) rounds

-- how many rounds there may be yet
abbrev pub rounds_left : State → ℕ
rounds_left s = if s.closed then 0 else s.rules.rounds + 1 - s.round

-- An auction as far as it was played, from its first round on.
pub record IsPlayedSo {R : Type 0} (family : FamilyOf R) (Keeps : List Entry → Type 0) (net : Net) (certs : Option (List ℕ)) (specs : List Bid) (rules : Rules) (actions : List TimedAct) (playing : Playing) : Type 0 where
  pub rounds : List (Played R)
  pub plays : Plays family Keeps net actions [] (opened specs rules) rounds playing.auction
  pub specs_are : playing.auction.specs ≡ specs
  pub rules_are : playing.auction.rules ≡ rules
  pub within : playing.auction.round ≤ rules.rounds
  pub left_is : playing.left.items ≡ acts_left playing.auction actions
  pub network_is : playing.graphs.network ≡ net
  pub among : All (Contains (seen_after [] rounds)) playing.graphs.held
  pub held : All (Contains playing.graphs.held) (seen_after [] rounds)
  pub text_is : playing.text.items ≡ rounds_text net (spec_names specs) actions rounds
  pub puts_are : texts_of playing.puts.items ≡ play_files family.texts net certs rounds
  pub gap_is : HasGap rounds playing.has_gap
