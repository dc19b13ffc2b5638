use Rattle.std.proofs.Common.{◌≤◌, ◌<◌, length, subst, sym, map, All, List}
use Rattle.optra_network.specs.Net.{Net, track_id}
use Rattle.optra_network.specs.Headways.{type_id}
use Rattle.optra_network.specs.BuilderParts.{net_of}
use Rattle.optra_network.specs.Partners.{partners_of}
use Rattle.optra_network.specs.Tables.{AreOut, HoldsPairs, hmin_at}
use Rattle.optra_network.specs.declared.Track.{Track}
use Rattle.optra_network.proofs.ReadLemmas.{tails_built}
use Rattle.optra_network.proofs.TableLemmas.{HoldsPairs-from_places}
use Rattle.optra_network.proofs.building.Builder.tables.Goals as goal

pub new-requires : goal.new-requires
new-requires c =
    let tails =
    subst (λ n. All (λ (t : Track). t.tail.0 < n) c.self.inside.tracks.items) (sym c.len.ensures) (tails_built (net_of c.self.inside) c.self.invariant) in
    record {
      few = subst (λ (tracks : List Track). length tracks ≤ 1000) (sym c.deref.ensures.value) c.self.invariant.counts.few_tracks;
      ends = subst (All (λ (t : Track). t.tail.0 < c.len.result)) (sym c.deref.ensures.value) tails;
    }

pub partners-requires-clause-leasts : goal.partners-requires-clause-leasts
partners-requires-clause-leasts c =
    subst (HoldsPairs (hmin_at c.args.self.now) (length c.args.self.now.tracks)) (sym c.deref-2.ensures.value)
    (HoldsPairs-from_places (hmin_at c.args.self.now) (length c.args.self.now.tracks) c.in_ok-leasts.leasts.items c.in_ok-leasts.ensures)

pub returns : goal.returns
returns c =
    let out =
    subst (λ (tracks : List Track). AreOut tracks (length c.self.inside.stations) c.in_ok-out.out) c.deref.ensures.value
    (subst (λ n. AreOut c.deref.result.now n c.in_ok-out.out) c.len.ensures c.in_ok-out.ensures) in
    record {
      rows = c.requires;
      leasts = HoldsPairs-from_places (hmin_at c.args.self.now) (length c.args.self.now.tracks) c.in_ok-leasts.leasts.items c.in_ok-leasts.ensures;
      out = subst (λ (n : Net). AreOut n.tracks (length n.stations) c.in_ok-out.out) c.self.view_is out;
      partners = HoldsPairs-from_places (λ t k. partners_of c.args.self.now (track_id t) (type_id k)) (length c.args.self.now.tracks) (map (λ list. list.items) c.in_ok-partners.partners.items) c.in_ok-partners.ensures;
      crossers = c.in_ok-crossers.ensures;
    }
