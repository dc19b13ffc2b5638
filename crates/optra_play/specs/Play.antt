-- An auction that is played: round after round, the round's actions in their order, the plan of the bids that stand then, and the
-- close of the round, until the auction is closed. Each plan is the one from scratch.
use Rattle.std.specs.Prelude.{◌≡◌, ◌⊎◌, ℕ, List, [], ◌∷◌, ◌++◌, length, map, All, Any, Contains, Option, None, Some, false, true, codes}
use Rattle.std.specs.Prelude.{◌<ℤ◌}
use Rattle.std.specs.Fmt.{decimal}
use Rattle.std.specs.List.{flat_map}
use Rattle.optra_network.specs.Names.{AllDiffer}
use Rattle.optra_network.specs.Net.{Net}
use Rattle.optra_bid.specs.Specs.{Path}
use Rattle.optra_bid.specs.declared.bids.Bid.{Bid}
use Rattle.optra_walk.specs.Families.{Entry}
use Rattle.optra_auction.specs.Machine.{ArePlanned, State, after_round, opened, spec_names}
use Rattle.optra_auction.specs.declared.Rules.{Rules}
use Rattle.optra_cert.specs.CertTexts.{cert_text}
use Rattle.optra_cert.specs.Certs.{Cert}
use Rattle.optra_cert.specs.RowTexts.{RowTexts}
use Rattle.optra_records.specs.Texts.{records_text}
use Rattle.optra_rounds.specs.Rounds.{acts_after, acts_of, after_acts, awards_of, outcomes, standing_specs, values_of}
use Rattle.optra_search.specs.Planner.{Planned}
use Rattle.optra_tables.specs.Written.{bids_table, parts, stops_table}
use Rattle.optra_tables.specs.declared.TimedAct.{TimedAct}
use Rattle.optra_text.specs.RoundTexts.{Round, close_records, round_records}
use Rattle.optra_verdict.specs.FamilyOf.{FamilyOf}
use Rattle.optra_play.specs.Certificates.{certificate_of}
use Rattle.optra_play.specs.Plans.{IsPlanOf}
use Rattle.optra_frame.specs.Statuses.{optimal_status, gap_status}

-- the price steps and the budget of a round's plan
abbrev pub round_steps : ℕ
round_steps = 40

abbrev pub round_budget : ℕ
round_budget = 200

-- ---- the rounds

-- a round: the auction before it, the bids that were planned, their plan, and how many graphs were built so far
pub record Played (R : Type 0) : Type 0 where
  pub before : State
  pub bids : List Bid
  pub plan : Planned R
  pub graphs : ℕ

-- the path specifications of bids
abbrev pub paths_of : List Bid → List Path
paths_of bids = map (λ bid. bid.path) bids

-- so many different path specifications are in the list
pub record AreDifferent (paths : List Path) (count : ℕ) : Type 0 where
  pub each : List Path
  pub differ : AllDiffer each
  pub among : All (Contains paths) each
  pub all : All (Contains each) paths
  pub count_is : count ≡ length each

module _ {R : Type 0} (actions : List TimedAct) where
  -- the actions of the round
  abbrev pub acts_in : Played R → List TimedAct
  acts_in p = acts_of p.before.round actions

  -- the auction after the round's actions
  abbrev pub acted : Played R → State
  acted p = after_acts p.before (acts_in p)

  -- the auction after the close of the round
  abbrev pub closed_by : Net → Played R → State
  closed_by net p = after_round (acted p) (values_of net p.bids p.plan.choice)

-- A round of an auction that was in this state, after these path specifications have stood.
pub record IsPlayed {R : Type 0} (family : FamilyOf R) (Keeps : List Entry → Type 0) (net : Net) (actions : List TimedAct) (seen : List Path) (s : State) (p : Played R) : Type 0 where
  pub before_is : p.before ≡ s
  pub is_open : s.closed ≡ false
  pub planned : ArePlanned (acted actions p) p.bids
  pub is_plan : IsPlanOf family.cmp net family.rows Keeps p.bids round_steps round_budget p.plan
  pub graphs : AreDifferent (seen ++ paths_of p.bids) p.graphs

-- rounds one after another, from one state of the auction to another
abbrev pub Plays : {R : Type 0} → FamilyOf R → (List Entry → Type 0) → Net → List TimedAct → List Path → State → List (Played R) → State → Type 0
Plays family Keeps net actions seen s [] last = last ≡ s
Plays family Keeps net actions seen s (p ∷ rounds) last =
    IsPlayed family Keeps net actions seen s p × Plays family Keeps net actions (seen ++ paths_of p.bids) (closed_by actions net p) rounds last

-- The play of specifications, rules and actions: its rounds from the first one on, until the auction is closed.
pub record IsPlay {R : Type 0} (family : FamilyOf R) (Keeps : List Entry → Type 0) (net : Net) (specs : List Bid) (rules : Rules) (actions : List TimedAct) (rounds : List (Played R)) (last : State) : Type 0 where
  pub plays : Plays family Keeps net actions [] (opened specs rules) rounds last
  pub is_closed : last.closed ≡ true

-- ---- what is printed and put

-- a round as it is printed, where the specifications have these names
abbrev pub round_of : {R : Type 0} → List (List ℕ) → List TimedAct → Played R → Round
round_of names actions p = record {
  round = p.before.round;
  outcomes = outcomes p.before (acts_in actions p);
  bids = p.bids;
  specs = standing_specs names (acted actions p).standing;
  walks = p.plan.choice;
  revenue = p.plan.revenue;
  bound = p.plan.bound;
  nodes = p.plan.nodes;
  graphs = p.graphs;
}

-- the text of rounds
abbrev pub rounds_text : {R : Type 0} → Net → List (List ℕ) → List TimedAct → List (Played R) → List ℕ
rounds_text net names actions rounds = flat_map (λ p. records_text (round_records net (round_of names actions p))) rounds

-- the rows of actions
abbrev pub rows_late : List TimedAct → List ℕ
rows_late actions = map (λ (a : TimedAct). a.row) actions

-- the text after the last round
abbrev pub last_text : List TimedAct → State → List ℕ
last_text actions last = records_text (close_records (record {
  round = last.round;
  late = rows_late (acts_after last.round actions);
  awards = awards_of last.standing;
}))

-- the files of a round of these bids and this certificate, under names that begin with the prefix and the round
abbrev pub files_named : {R : Type 0} → RowTexts R → Net → List ℕ → ℕ → List Bid → Cert R → List (List ℕ × List ℕ)
files_named texts net prefix round bids cert =
    (prefix ++ decimal round ++ codes ".bids.csv", bids_table net (parts bids))
    ∷ (prefix ++ decimal round ++ codes ".stops.csv", stops_table net (parts bids))
    ∷ (prefix ++ decimal round ++ codes ".cert.csv", cert_text texts net texts.version cert) ∷ []

-- the files of a round: its bids, their stops, and the certificate of their plan
abbrev pub round_files : {R : Type 0} → RowTexts R → Net → List ℕ → Played R → List (List ℕ × List ℕ)
round_files texts net prefix p = files_named texts net prefix p.before.round p.bids (certificate_of p.plan)

-- the files of all rounds, where a prefix is given
abbrev pub play_files : {R : Type 0} → RowTexts R → Net → Option (List ℕ) → List (Played R) → List (List ℕ × List ℕ)
play_files texts net None rounds = []
play_files texts net (Some prefix) rounds = flat_map (round_files texts net prefix) rounds

-- one status exactly where each bound is its revenue, and another where one is above
abbrev pub IsPlayStatus : {R : Type 0} → List (Played R) → ℕ → Type 0
IsPlayStatus rounds status =
    ((status ≡ optimal_status) × All (λ p. p.plan.revenue ≡ p.plan.bound) rounds)
    ⊎ ((status ≡ gap_status) × Any (λ p. p.plan.revenue <ℤ p.plan.bound) rounds)

-- What is printed and put of a play, and how it ends: the text is that of its rounds and of its close, the files of each round are put
-- where a prefix is given, and the status tells whether each bound is its revenue.
pub record IsPlayedOut {R : Type 0} (family : FamilyOf R) (Keeps : List Entry → Type 0) (net : Net) (certs : Option (List ℕ)) (specs : List Bid) (rules : Rules) (actions : List TimedAct) (status : ℕ) (text : List ℕ) (puts : List (List ℕ × List ℕ)) : Type 0 where
  pub rounds : List (Played R)
  pub last : State
  pub is_play : IsPlay family Keeps net specs rules actions rounds last
  pub printed : text ≡ rounds_text net (spec_names specs) actions rounds ++ last_text actions last
  pub ends : IsPlayStatus rounds status
  pub put : puts ≡ play_files family.texts net certs rounds
