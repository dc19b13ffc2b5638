use Rattle.std.proofs.Common.{◌≡◌, ◌<◌, ◌≤◌, ◌+◌, true}
use Rattle.optra_network.specs.Partners.{is_partner}
use Rattle.optra_network.specs.declared.Partner.{Partner}
use Rattle.optra_network.proofs.building.Builder.reach.Given as goal

abbrev pub invariant-loop-place : goal.invariant-loop-place
invariant-loop-place l = record {
  most : l.reach ≤ 120;
  within : (partner : Partner) → is_partner l.self l.track l.kind partner ≡ true → partner.kind.0 < l.place → (120 < partner.shift + l.reach) × (partner.shift < 120 + l.reach);
}
