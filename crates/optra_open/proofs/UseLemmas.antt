-- What a decision's leg uses, by the type of its bid.
use Rattle.std.proofs.Common.{◌≡◌, ◌<◌, Bool, true, false, not, cond, Option, List, length, refl, sym, ap, ◌∙◌}
use Rattle.std.specs.Option.{option_map_or}
use Rattle.optra_network.specs.declared.TypeId.{TypeId}
use Rattle.optra_bid.specs.declared.bids.Bid.{Bid}
use Rattle.optra_walk.specs.Families.{Rows}
use Rattle.optra_node.specs.declared.Decision.{Decision}
use Rattle.optra_node.specs.Nodes.{kind_at, uses_at, yes_uses}
use Rattle.optra_node.proofs.ChildLemmas.{some_at}

yes_not : (b : Bool) → not b ≡ false → b ≡ true
yes_not true e = refl
yes_not false e = sym e

no_not : (b : Bool) → not b ≡ true → b ≡ false
no_not true e = sym e
no_not false e = refl

-- what a decision's leg uses, by the type of its bid
module _ {R : Type 0} (rows : Rows R) (bids : List Bid) (row : R) (d : Decision) where
  pub no_uses : not d.yes ≡ true → yes_uses rows bids row d ≡ 0
  no_uses e = ap (λ y. cond y (uses_at rows bids row d.bid d.leg) 0) (no_not d.yes e)

  pub uses_by_kind : not d.yes ≡ false → d.bid < length bids → yes_uses rows bids row d ≡ rows.uses (kind_at bids d.bid) d.leg row
  uses_by_kind e l =
      let there = some_at bids d.bid (length bids) refl l in
      let kind = ap (λ (o : Option Bid). option_map_or (λ (b : Bid). b.path.kind) o (record { 0 = 0 })) there.1 in
      ap (λ y. cond y (uses_at rows bids row d.bid d.leg) 0) (yes_not d.yes e) ∙ ap (λ (o : Option Bid). option_map_or (λ (b : Bid). rows.uses b.path.kind d.leg row) o 0) there.1
      ∙ sym (ap (λ (k : TypeId). rows.uses k d.leg row) kind)
