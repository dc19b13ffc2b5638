use Rattle.std.proofs.Common.{length, nat_eq, ap, ◌∙◌, rules, arith}
use Rattle.std.specs.Map.{lookup}
use Rattle.optra_network.specs.Net.{Net}
use Rattle.optra_network.specs.Refusals.{after_limited, with_limit}
use Rattle.optra_network.specs.BuilderParts.{net_of}
use Rattle.optra_network.proofs.NetLemmas.{built_with_limited, no_limit_next}
use Rattle.optra_network.proofs.RowLemmas.{none_by_test}
use Rattle.optra_network.proofs.building.Builder.station_limited.Goals as goal

pub note_limit-requires-clause-new : goal.note_limit-requires-clause-new
note_limit-requires-clause-new c =
    ap (lookup (nat_eq c.len-count.result)) c.in_ok-reserve.ensures.entries
    ∙ (λ i. lookup (nat_eq (c.len-count.ensures i)) c.self.inside.limits.entries)
    ∙ none_by_test _ (no_limit_next (length c.self.inside.stations) c.self.inside.limits.entries c.self.invariant.limits.each)

pub returns-clause-ok : goal.returns-clause-ok
returns-clause-ok c =
    let limits = c.note_limit.ensures ∙ (λ i. with_limit (c.in_ok-reserve.ensures.entries i) (c.len-count.ensures i) c.args.halt_max) in
    (λ i. record (net_of c.self.inside) { stations = c.in_ok-add.ensures.ok i; limits = limits i }) ∙ ap (λ (n : Net). after_limited n c.args.name.now c.args.halt_max) c.self.view_is

pub invariant_of-self-2 : goal.invariant_of-self-2
invariant_of-self-2 c =
    let limits = c.note_limit.ensures ∙ (λ i. with_limit (c.in_ok-reserve.ensures.entries i) (c.len-count.ensures i) c.args.halt_max) in
    built_with_limited (net_of c.self.inside) _ c.args.name.now c.args.halt_max _ c.self.invariant (search rules) limits (search rules) c.requires (search rules) (omega arith)
