use Rattle.std.proofs.Common.{arith, ap, sym, ◌∙◌}
use Rattle.optra_network.proofs.PartnerLemmas.{places_start, places_end, place_passes, place_fails}
use Rattle.optra_network.specs.Partners.{partner_at}
use Rattle.std.proofs.Common.{map}
use Rattle.optra_network.proofs.building.Builder.partners_of.Goals as goal
use Rattle.optra_network.proofs.building.Builder.partners_of.Goals.{then-is_partner+in_ok-push, else-is_partner}

pub loop-place-init : goal.loop-place-init
loop-place-init c =
    c.new-partners.ensures.items
    ∙ ap (map partner_at) (places_start c.args.self.now c.args.track c.args.kind c.reach-reach.result c.reach-reach.ensures.within c.reach-reach.ensures.most)

pub loop-place-preserved : goal.loop-place-preserved
loop-place-preserved c =
    elim c.if-is_partner.branch [
      | then-is_partner+in_ok-push w ↦
          place_passes c.args.self.now c.args.track c.args.kind c.loop-place.place c.loop-place.partners.items c.if-is_partner.partners.items c.loop-place.invariant
          (sym c.is_partner.ensures ∙ w.if-is_partner.true) (ap (λ v. v.items) w.partners-is ∙ w.in_ok-push.ensures.items)
      | else-is_partner w ↦
          ap (λ v. v.items) w.partners-is
          ∙ place_fails c.args.self.now c.args.track c.args.kind c.loop-place.place c.loop-place.partners.items c.loop-place.invariant (sym c.is_partner.ensures ∙ w.if-is_partner.false)
    ]

pub returns : goal.returns
returns c =
    c.loop-place.invariant
    ∙ ap (map partner_at) (places_end c.args.self.now c.args.track c.args.kind c.reach-reach.result c.reach-reach.ensures.within c.reach-reach.ensures.most c.loop-place.place (let l = c.loop-place.auto.place-end in omega arith))
