use Rattle.std.proofs.Common.{◌≡◌, ◌+◌, ◌*◌, ◌<◌, [], ℕ, List, get_or, ◌∙◌, ap, sym, subst, map, slice_get, length, unwrap_or, Vec, Global, arith}
use Rattle.std.proofs.lemmas.List.{length-map}
use Rattle.std.proofs.lemmas.Option.{slice_get-get_or}
use Rattle.std.proofs.Math.ListN.{get_or-map}
use Rattle.std.specs.List.Sorted.{IsPermutation}
use Rattle.optra_network.specs.Net.{Net, MayUse, IsProper}
use Rattle.optra_network.specs.NetworkParts.{net_of}
use Rattle.optra_network.specs.Crossers.{crossers_of, crossers_at, HoldsCrossers, IsSortedFrom, TracksRise}
use Rattle.optra_network.specs.declared.Crosser.{Crosser}
use Rattle.optra_network.proofs.HeadwayLemmas.{below_types}
use Rattle.optra_network.proofs.finished.Network.crossers.Goals as goal

pub index-requires : goal.index-requires
index-requires c =
    let may = subst (λ (n : Net). MayUse n c.args.track c.args.kind) (sym c.self.view_is) c.requires in
    let below = below_types (net_of c.self.inside) c.args.track c.args.kind c.self.invariant.proper may in
    let track = below.2 in
    let kind = below.1 in
    let len = c.self.invariant.tables.crossers.len in
    let same = length-map c.self.inside.tables.crossers.items (λ list. list.items) in
    omega arith

-- the list of a track and a type among those of all
list_here : (net : Net) (vecs : List (Vec Crosser Global)) (t k : ℕ) (v : Vec Crosser Global) → HoldsCrossers net (length net.tracks) (map (λ (list : Vec Crosser Global). list.items) vecs) → t < length net.tracks → k < 16
    → v ≡ get_or vecs (t * 16 + k) v → IsSortedFrom (crossers_at net t k) v.items
list_here net vecs t k v holds lt lk at =
    let items = λ (list : Vec Crosser Global). list.items in
    let len = holds.len in
    let is : unwrap_or (slice_get (map items vecs) (t * 16 + k)) [] ≡ v.items =
    ap (λ o. unwrap_or o []) (slice_get-get_or (map items vecs) (t * 16 + k) v.items (omega arith)) ∙ get_or-map items vecs (t * 16 + k) v ∙ ap items (sym at) in
    subst (IsSortedFrom (crossers_at net t k)) is (holds.each t k lt lk)

pub returns-clause-all : goal.returns-clause-all
returns-clause-all c =
    let may = subst (λ (n : Net). MayUse n c.args.track c.args.kind) (sym c.self.view_is) c.requires in
    let below = below_types (net_of c.self.inside) c.args.track c.args.kind c.self.invariant.proper may in
    let here = list_here (net_of c.self.inside) c.self.inside.tables.crossers.items c.args.track.0 c.args.kind.0 c.index.result.now c.self.invariant.tables.crossers below.2 below.1 c.index.ensures in
    subst (λ (n : Net). IsPermutation (crossers_of n c.args.track c.args.kind) c.deref.result.now) c.self.view_is
    (subst (IsPermutation (crossers_of (net_of c.self.inside) c.args.track c.args.kind)) (sym c.deref.ensures.value) here.same)

pub returns-clause-order : goal.returns-clause-order
returns-clause-order c =
    let may = subst (λ (n : Net). MayUse n c.args.track c.args.kind) (sym c.self.view_is) c.requires in
    let below = below_types (net_of c.self.inside) c.args.track c.args.kind c.self.invariant.proper may in
    let here = list_here (net_of c.self.inside) c.self.inside.tables.crossers.items c.args.track.0 c.args.kind.0 c.index.result.now c.self.invariant.tables.crossers below.2 below.1 c.index.ensures in
    subst TracksRise (sym c.deref.ensures.value) here.rise
