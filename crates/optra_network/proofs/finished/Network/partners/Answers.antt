use Rattle.std.proofs.Common.{◌+◌, ◌*◌, ◌↔◌, ◌∙◌, ap, sym, subst, map, Vec, Global, Contains, arith}
use Rattle.std.proofs.lemmas.List.{length-map}
use Rattle.std.proofs.lemmas.Option.{get_or_from_slice_get, slice_get_within}
use Rattle.std.proofs.Math.ListN.{get_or-map}
use Rattle.optra_network.specs.Net.{Net, MayUse}
use Rattle.optra_network.specs.NetworkParts.{net_of}
use Rattle.optra_network.specs.Partners.{partners_of, IsPartner}
use Rattle.optra_network.specs.declared.Partner.{Partner}
use Rattle.optra_network.proofs.HeadwayLemmas.{below_types}
use Rattle.optra_network.proofs.PartnerLemmas.{partners_are}
use Rattle.optra_network.proofs.finished.Network.partners.Goals as goal

pub index-requires : goal.index-requires
index-requires c =
    let may = subst (λ (n : Net). MayUse n c.args.track c.args.kind) (sym c.self.view_is) c.requires in
    let below = below_types (net_of c.self.inside) c.args.track c.args.kind c.self.invariant.proper may in
    let within = slice_get_within (map (λ list. list.items) c.self.inside.tables.partners.items) (c.args.track.0 * 16 + c.args.kind.0) _ (c.self.invariant.tables.partners.each c.args.track.0 c.args.kind.0 below.2 below.1) in
    let same = length-map c.self.inside.tables.partners.items (λ list. list.items) in omega arith

pub returns-clause-partners : goal.returns-clause-partners
returns-clause-partners c =
    let may = subst (λ (n : Net). MayUse n c.args.track c.args.kind) (sym c.self.view_is) c.requires in
    let below = below_types (net_of c.self.inside) c.args.track c.args.kind c.self.invariant.proper may in
    let items = λ (v : Vec Partner Global). v.items in
    c.deref.ensures.value ∙ ap items c.index.ensures
    ∙ sym (get_or-map items c.self.inside.tables.partners.items (c.args.track.0 * 16 + c.args.kind.0) c.index.result.now)
    ∙ get_or_from_slice_get (map items c.self.inside.tables.partners.items) (c.args.track.0 * 16 + c.args.kind.0) (partners_of (net_of c.self.inside) c.args.track c.args.kind) c.index.result.now.items
    (c.self.invariant.tables.partners.each c.args.track.0 c.args.kind.0 below.2 below.1)
    ∙ ap (λ (n : Net). partners_of n c.args.track c.args.kind) c.self.view_is

pub returns-clause-each : goal.returns-clause-each
returns-clause-each c = λ partner.
    subst (λ xs. Contains xs partner ↔ IsPartner c.args.self.now c.args.track c.args.kind partner) (sym (returns-clause-partners c))
    (subst (λ (n : Net). Contains (partners_of n c.args.track c.args.kind) partner ↔ IsPartner n c.args.track c.args.kind partner) c.self.view_is
    (partners_are (net_of c.self.inside) c.self.invariant.proper c.args.track c.args.kind partner))
