-- An auction as it is played: how long its lists are, what its actions leave as it was, and its rounds one after another.
use Rattle.std.proofs.Common.{◌≡◌, ◌≤◌, suc, List, [], ◌∷◌, length, Some, None, Option, refl, sym, ap, ◌∙◌, subst, arith}
use Rattle.std.specs.Prelude.{All}
use Rattle.std.specs.Option.{option_map_or}
use Rattle.std.proofs.lemmas.List.{length-map}
use Rattle.optra_network.specs.Net.{Net}
use Rattle.optra_bid.specs.declared.bids.Bid.{Bid}
use Rattle.optra_bid.specs.Instances.{IsInstance}
use Rattle.optra_bid.specs.Specs.{IsPathOn}
use Rattle.optra_auction.specs.Machine.{ArePathsOfSpecs, ArePlanned, State, after_act, offer_of, planned_of, refusal_of}
use Rattle.optra_auction.proofs.AuctionLemmas.{paths_hold}
use Rattle.optra_auction.specs.declared.Act.{Act}
use Rattle.optra_auction.specs.declared.Refusal.{Refusal}
use Rattle.optra_rounds.specs.Rounds.{after_acts, after_any, values_of}
use Rattle.optra_tables.specs.declared.TimedAct.{TimedAct}
use Rattle.optra_walk.specs.declared.Leg.{Leg}

-- as many values as bids, where there are as many walks
pub values-long : (net : Net) (bids : List Bid) (walks : List (Option (List Leg))) → length walks ≡ length bids → length (values_of net bids walks) ≡ length bids
values-long net [] walks e = refl
values-long net (b ∷ bids) [] e = let f : 0 ≡ suc (length bids) = e in absurd (omega arith)
values-long net (b ∷ bids) (w ∷ walks) e = let f : suc (length walks) ≡ suc (length bids) = e in let g : length walks ≡ length bids = omega arith in ap suc (values-long net bids walks g)

-- as many bids are planned as stand
pub planned-long : (s : State) (bids : List Bid) → ArePlanned s bids → length bids ≡ length s.standing
planned-long s bids h = sym (length-map bids (λ (bid : Bid). Some (offer_of bid))) ∙ ap length h ∙ length-map s.standing (planned_of s.specs)

-- actions leave the specifications, the rules, the round, and whether the auction is closed
pub record IsSameRound (old new : State) : Type 0 where
  pub specs : new.specs ≡ old.specs
  pub rules : new.rules ≡ old.rules
  pub round : new.round ≡ old.round
  pub closed : new.closed ≡ old.closed

any-same : (s : State) (act : Act) → IsSameRound s (after_any s act)
any-same s act = by (refusal_of s act)
  where
    by : (why : Option Refusal) → IsSameRound s (option_map_or (λ (w : Refusal). s) why (after_act s act))
    by None = record { specs = refl; rules = refl; round = refl; closed = refl }
    by (Some w) = record { specs = refl; rules = refl; round = refl; closed = refl }

pub acts-same : (s : State) (acts : List TimedAct) → IsSameRound s (after_acts s acts)
acts-same s [] = record { specs = refl; rules = refl; round = refl; closed = refl }
acts-same s (a ∷ acts) =
    let one = any-same s a.act in
    let rest = acts-same (after_any s a.act) acts in
    record { specs = rest.specs ∙ one.specs; rules = rest.rules ∙ one.rules; round = rest.round ∙ one.round; closed = rest.closed ∙ one.closed }

-- the bids that stand are an instance, where the specifications are on the network
standing-instance : (net : Net) (specs bids : List Bid) → length bids ≤ 500 → ArePathsOfSpecs specs bids → All (λ (spec : Bid). IsPathOn net spec.path) specs → IsInstance net bids
standing-instance net specs bids few paths on = record { few = omega (arith, few); paths = paths_hold (IsPathOn net) specs bids paths on }

-- what an auction after actions has as it was
pub specs-after : (old new : State) (acts : List TimedAct) → new ≡ after_acts old acts → new.specs ≡ old.specs
specs-after old new acts is = ap (λ (s : State). s.specs) is ∙ (acts-same old acts).specs

pub round-after : (old new : State) (acts : List TimedAct) → new ≡ after_acts old acts → new.round ≡ old.round
round-after old new acts is = ap (λ (s : State). s.round) is ∙ (acts-same old acts).round

pub closed-after : (old new : State) (acts : List TimedAct) → new ≡ after_acts old acts → new.closed ≡ old.closed
closed-after old new acts is = ap (λ (s : State). s.closed) is ∙ (acts-same old acts).closed

-- the bids that stand after actions are an instance, where the specifications are on the network
pub instance-after : (net : Net) (old new : State) (acts : List TimedAct) (bids : List Bid) → new ≡ after_acts old acts → All (λ (spec : Bid). IsPathOn net spec.path) old.specs
    → length bids ≤ 500 → ArePathsOfSpecs new.specs bids → IsInstance net bids
instance-after net old new acts bids is on few paths = standing-instance net new.specs bids few paths (subst (All (λ (spec : Bid). IsPathOn net spec.path)) (sym (specs-after old new acts is)) on)
