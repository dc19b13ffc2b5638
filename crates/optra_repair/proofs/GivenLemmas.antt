-- What a bid is given follows from the walk that is worth most to it, and from whether that walk fits as a whole.
use Rattle.std.proofs.Common.{◌≡◌, ℕ, ◌<◌, true, List, [], ◌∷◌, Option, None, Some, refl, sym, ap, ◌∙◌, subst, arith, inl, inr}
use Rattle.std.specs.Prelude.{All, ℤ, pos, ◌*ℤ◌, ◌≤ℤ◌, ◌<ℤ◌}
use Rattle.std.proofs.lemmas.Int.{ints}
use Rattle.optra_network.specs.Net.{Net, IsProper}
use Rattle.optra_network.specs.declared.TypeId.{TypeId}
use Rattle.optra_bid.specs.declared.bids.Bid.{Bid}
use Rattle.optra_walk.specs.declared.Leg.{Leg}
use Rattle.optra_walk.specs.Families.{Rows, Entry, IsUsable, HasRoom}
use Rattle.optra_walk.specs.Values.{value_of}
use Rattle.optra_walk.proofs.UsableLemmas.{walk_usable}
use Rattle.optra_node.specs.declared.Decision.{Decision}
use Rattle.optra_node.specs.Duals.{leg_price, walk_price, reduced_value, IsOffer, IsTerm}
use Rattle.optra_node.proofs.SumLemmas.{sum_of-cons}
use Rattle.optra_prices.specs.Replies.{IsReply}
use Rattle.optra_prices.specs.Repairs.{FitBeside, IsFirstWorthiest, IsGiven}
use Rattle.optra_prices.proofs.RepairLemmas.{worthiest_unique}
use Rattle.optra_repair.specs.Placings.{AreTotals, AreWithin, IsPutWhole, IsBestAllowed, IsWorthiest, AddsWalk}
use Rattle.optra_repair.proofs.RoomLemmas.{room_fits, whole_fits}

module _ {R : Type 0} (net : Net) (rows : Rows R) (bids : List Bid) (node : List Decision) (number : ℕ) (bid : Bid) where
  no_price : (legs : List Leg) → walk_price rows [] bid.path.kind legs ≡ pos 0
  no_price [] = refl
  no_price (leg ∷ legs) =
      let c = sum_of-cons (leg_price rows [] bid.path.kind) leg legs in
      let i = no_price legs in
      omega (arith, ints)

  -- at zero prices a walk is worth its value, in thousandths
  at_zero : (legs : List Leg) → reduced_value net rows [] bid legs ≡ pos 1000 *ℤ value_of net bid.path bid.money legs
  at_zero legs = let z = no_price legs in omega (arith, ints)

  -- where the term at zero prices isn't above 0, no allowed walk is worth more
  pub little_term : (term : ℤ) → IsTerm net rows bids node [] number bid term → term ≤ℤ pos 0 → IsBestAllowed net rows bids node number bid None
  little_term term (inl greatest) little legs allowed =
      let m = greatest.most (reduced_value net rows [] bid legs) (inr (legs, allowed, refl)) in
      let z = at_zero legs in
      omega (arith, ints)
  little_term term (inr stuck) little legs allowed = absurd (stuck.0.none legs allowed)

  -- where it is above 0, the reply is the best of the allowed walks
  pub best_reply : (term : ℤ) (reply : Option (List Leg)) → IsTerm net rows bids node [] number bid term → pos 0 <ℤ term → IsReply net rows bids node [] number bid reply → IsBestAllowed net rows bids node number bid reply
  best_reply term None is above (inl none) = λ legs allowed. absurd (none legs allowed)
  best_reply term None is above (inr nothing) = λ legs allowed.
      let m = nothing.most legs allowed in
      let z = at_zero legs in
      omega (arith, ints)
  best_reply term (Some legs) (inr stuck) above (first, worth) = absurd (stuck.0.none legs first.allowed)
  best_reply term (Some legs) (inl greatest) above (first, worth) = (first, by greatest.reached)
    where
      by : IsOffer net rows bids node [] number bid term → pos 0 <ℤ value_of net bid.path bid.money legs
      by (inl z) = let e = z.1 in absurd (omega (arith, ints))
      by (inr (other, allowed, e)) =
          let g = first.greatest other allowed in
          let z = at_zero legs in
          omega (arith, ints)

  module _ (placed : List Entry) where
    -- where no allowed walk is worth more than 0, nothing is given
    pub none_allowed : IsBestAllowed net rows bids node number bid None → IsGiven net rows bids node placed number bid None
    none_allowed most legs worthiest kept = let m = most legs worthiest.placeable.allowed in let e = kept.earns in absurd (omega (arith, ints))

    -- where no placeable walk is, nothing is given
    pub none_placeable : IsWorthiest net rows bids node placed number bid None → IsGiven net rows bids node placed number bid None
    none_placeable most legs worthiest kept = let m = most legs worthiest.placeable in let e = kept.earns in absurd (omega (arith, ints))

    module _ (total : R → ℕ) (within : AreWithin rows total) (totals : AreTotals rows total placed) where
      -- the best of the allowed walks, where each of its legs has room, is the first worthiest
      pub best_worthiest : IsProper net → ((leg : Leg) → IsUsable net bid.path.kind leg → (row : R) → 0 < rows.uses bid.path.kind leg row → rows.is_row row ≡ true) → (legs : List Leg)
          → IsBestAllowed net rows bids node number bid (Some legs) → All (HasRoom rows total bid.path.kind) legs → IsWorthiest net rows bids node placed number bid (Some legs)
      best_worthiest proper are_rows legs (first, above) room = (
        record {
          placeable = record {
            allowed = first.allowed;
            each_fits = λ k d l. (room_fits rows placed total totals bid.path.kind _ within (are_rows _ (walk_usable net proper bid legs first.allowed.walk k d l))).0 (room k d l);
          };
          greatest = λ other placeable.
              let g = first.greatest other placeable.allowed in
              let a = at_zero other in
              let b = at_zero legs in
              omega (arith, ints);
          first = λ other placeable tie. first.first other placeable.allowed (at_zero other ∙ ap (λ (z : ℤ). pos 1000 *ℤ z) tie ∙ sym (at_zero legs));
        },
        above,
      )

      -- the first worthiest is given where its legs have room together
      pub put_given : (after : R → ℕ) (legs : List Leg) (given : Option (List Leg)) → IsWorthiest net rows bids node placed number bid (Some legs) → IsPutWhole rows bid.path.kind legs given total after → IsGiven net rows bids node placed number bid given
      put_given after legs None (worthiest, above) put = λ other is kept.
          let same : legs ≡ other = worthiest_unique net rows bids node placed number bid legs other worthiest is in
          put.0 ((whole_fits rows placed total totals bid.path.kind legs).1 (subst (FitBeside rows placed bid.path.kind) (sym same) kept.fits))
      put_given after legs (Some given) (worthiest, above) (same, put) = (
        subst (IsFirstWorthiest net rows bids node placed number bid) (sym same) worthiest,
        record { earns = subst (λ (l : List Leg). pos 0 <ℤ value_of net bid.path bid.money l) (sym same) above; fits = subst (FitBeside rows placed bid.path.kind) (sym same) ((whole_fits rows placed total totals bid.path.kind legs).0 put.0) },
      )

-- what was put was added to the totals
pub put_adds : {R : Type 0} (rows : Rows R) (kind : TypeId) (before after : R → ℕ) (legs : List Leg) (given : Option (List Leg)) → IsPutWhole rows kind legs given before after → AddsWalk rows kind given before after
put_adds rows kind before after legs None put = put.1
put_adds rows kind before after legs (Some given) (same, put) = subst (λ (l : List Leg). AddsWalk rows kind (Some l) before after) (sym same) put.1
