-- A choice keeps the rules of the rows of tables exactly where it is free of conflict.
use Rattle.std.proofs.Common.{◌≡◌, ℕ, nat_eq, List, [], None, Some, unwrap_or, sym, ap, ◌∙◌, arith}
use Rattle.std.specs.Map.{lookup}
use Rattle.optra_network.specs.Net.{Net, CrossingRow, IsProper, halt_max_of, same_quadruple}
use Rattle.optra_network.specs.declared.TrackUse.{TrackUse}
use Rattle.optra_bid.specs.declared.bids.Bid.{Bid}
use Rattle.optra_walk.specs.Choices.{uses_of}
use Rattle.optra_walk.specs.Families.{Entry, entries_of}
use Rattle.optra_walk.specs.Rules.{KeepsCrossings, KeepsHalts}
use Rattle.optra_rows.specs.Headways.{KeepsHeadwayRule}
use Rattle.optra_cross.specs.CrossLemmas.{once_from_headways}
use Rattle.optra_tables.specs.Networks.{HasHeadwaysAlone}
use Rattle.optra_verdict.specs.Families.{KeepsAllRules}
use Rattle.optra_verdict.specs.Promises.{TellsConflicts}

-- ---- without crossings and limits of stations

-- every uses keep the crossings of a network that has none
no-crossings : (net : Net) (uses : List TrackUse) → net.crossings ≡ [] → KeepsCrossings net uses
no-crossings net uses none i j a b apart at_i at_j minutes there =
    let nothing : None ≡ Some minutes = ap (λ (rows : List CrossingRow). lookup (same_quadruple (a.track.0, b.track.0, a.kind.0, b.kind.0)) rows) (sym none) ∙ there in
    absurd (cc nothing)

-- every legs keep the limits of a network that has none
no-limits : (net : Net) (entries : List Entry) → net.limits ≡ [] → KeepsHalts net entries
no-limits net entries none station minute limit day =
    let zero_is : halt_max_of net station ≡ 0 = ap (λ (limits : List (ℕ × ℕ)). unwrap_or (lookup (nat_eq station.0) limits) 0) none in
    absurd (omega (arith, zero_is, limit))

-- a choice keeps the headways exactly where its legs keep the rule of the rows
pub headways-tell : (net : Net) (bids : List Bid) → HasHeadwaysAlone net → TellsConflicts net bids (KeepsHeadwayRule net)
headways-tell net bids alone walks choice = (
  (λ rule. record {
    choice = choice;
    headways = rule;
    crossings = no-crossings net (uses_of bids walks) alone.crossings;
    halts = no-limits net (entries_of bids walks) alone.limits;
  }),
  (λ free. free.headways),
)

-- ---- with them

-- a choice keeps the headways, the crossings and the limits exactly where its legs keep the rules of the rows
pub all-tell : (net : Net) (bids : List Bid) → IsProper net → TellsConflicts net bids (KeepsAllRules net)
all-tell net bids proper walks choice = (
  (λ rules. record {
    choice = choice;
    headways = rules.0.0;
    crossings = rules.0.1.crossings;
    halts = rules.1;
  }),
  (λ free. ((free.headways, record { crossings = free.crossings; once = once_from_headways net (uses_of bids walks) proper free.headways }), free.halts)),
)
