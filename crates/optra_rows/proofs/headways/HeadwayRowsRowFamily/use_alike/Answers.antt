-- What a leg uses is told by its track and its departure.
use Rattle.std.proofs.Common.{◌≡◌, ℕ, sym, ap, ◌∙◌}
use Rattle.std.proofs.lemmas.Bool.{eqb-true}
use Rattle.optra_network.specs.declared.TrackId.{TrackId}
use Rattle.optra_rows.specs.Headways.{touched_rows, use_in}
use Rattle.optra_rows.proofs.headways.HeadwayRowsRowFamily.use_alike.Goals as goal

pub returns-then-eq : goal.returns-then-eq
returns-then-eq c same =
    let net = c.args._net.now in
    let kind = c.args._kind in
    let first = c.args.first in
    let second = c.args.second in
    let number : first.track.0 ≡ second.track.0 = eqb-true first.track.0 second.track.0 (sym c.eq.ensures ∙ c.if-eq.true) in
    let track : first.track ≡ second.track = ap (λ (n : ℕ). record { 0 = n }) number in
    let depart : first.depart ≡ second.depart = eqb-true first.depart second.depart same in (
      (λ row. ap (λ (t : TrackId). use_in net kind t first.depart row) track ∙ ap (λ (m : ℕ). use_in net kind second.track m row) depart),
      ap (λ (t : TrackId). touched_rows net t kind first.depart) track ∙ ap (λ (m : ℕ). touched_rows net second.track kind m) depart,
    )
