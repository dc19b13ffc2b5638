use Rattle.std.proofs.Common.{All, subst, sym, ap, ◌∙◌}
use Rattle.optra_network.specs.Net.{Net, IsStation, IsTrack, out_tracks_of}
use Rattle.optra_network.proofs.OutLemmas.{out_tracks-there}
use Rattle.optra_network.proofs.finished.Network.out_tracks.Goals as goal

pub of-requires : goal.of-requires
of-requires c = (c.self.invariant.tables.out c.args.station (subst (λ (n : Net). IsStation n c.args.station) (sym c.self.view_is) c.requires)).range

pub returns-clause-tracks : goal.returns-clause-tracks
returns-clause-tracks c =
    c.of.ensures ∙ (c.self.invariant.tables.out c.args.station (subst (λ (n : Net). IsStation n c.args.station) (sym c.self.view_is) c.requires)).are
    ∙ ap (λ (n : Net). out_tracks_of n.tracks c.args.station) c.self.view_is

pub returns-clause-there : goal.returns-clause-there
returns-clause-there c = subst (All (IsTrack c.args.self.now)) (sym (returns-clause-tracks c)) (out_tracks-there c.args.self.now c.args.station)
