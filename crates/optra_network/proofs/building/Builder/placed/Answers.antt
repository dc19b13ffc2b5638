use Rattle.std.proofs.Common.{◌≡◌, ◌+◌, ◌*◌, ◌<◌, ◌≤◌, ℕ, List, false, true, length, slice_get, Some, unwrap_or, IfSome, refl, sym, ap, ◌∙◌, subst, arith, rules}
use Rattle.std.specs.Map.{lookup}
use Rattle.optra_network.specs.Net.{Net, CrossingRow, same_quadruple, turned}
use Rattle.optra_network.specs.BuilderParts.{net_of}
use Rattle.optra_network.specs.Crossers.{may_cross}
use Rattle.optra_network.proofs.CrossingLemmas.{IsRowAt, row_at}
use Rattle.optra_network.proofs.ReadLemmas.{may_use_read}
use Rattle.optra_network.proofs.building.Builder.placed.Goals as goal

pub returns-then-not-may_use : goal.returns-then-not-may_use
returns-then-not-may_use c =
    let net = c.args.self.now in
    let row : CrossingRow = (c.in_ok-key.field-0-0.now, c.in_ok-key.field-0-1.now) in
    let same : c.self.inside.crossings.entries ≡ net.crossings = ap (λ (n : Net). n.crossings) c.self.view_is in
    let at : slice_get net.crossings c.args.i ≡ Some row = subst (λ (l : List CrossingRow). slice_get l c.args.i ≡ Some row) same (sym c.in_ok-key.ensures.entry) in
    let may = sym (may_use_read net c.args.rows.now c.requires.rows (record { 0 = row.0.1 }) (record { 0 = row.0.3 })) ∙ sym c.may_use.ensures in
    subst (λ o. IfSome o (λ row. may_cross net row ≡ false)) (sym at) (may ∙ c.if-not-may_use.true)

pub overflow_cast-result : goal.overflow_cast-result
overflow_cast-result c =
    let row = row_at (net_of c.self.inside) c.args.i (c.in_ok-key.field-0-0.now, c.in_ok-key.field-0-1.now) c.self.invariant (sym c.in_ok-key.ensures.entry) in
    let track = row.track in
    let few = c.self.invariant.counts.few_tracks in
    omega arith

pub overflow_mul-result : goal.overflow_mul-result
overflow_mul-result c =
    let row = row_at (net_of c.self.inside) c.args.i (c.in_ok-key.field-0-0.now, c.in_ok-key.field-0-1.now) c.self.invariant (sym c.in_ok-key.ensures.entry) in
    let track = row.track in
    let few = c.self.invariant.counts.few_tracks in
    omega arith

pub overflow_cast-result-2 : goal.overflow_cast-result-2
overflow_cast-result-2 c =
    let row = row_at (net_of c.self.inside) c.args.i (c.in_ok-key.field-0-0.now, c.in_ok-key.field-0-1.now) c.self.invariant (sym c.in_ok-key.ensures.entry) in
    let kind = row.kind in
    omega arith

pub overflow_add-result : goal.overflow_add-result
overflow_add-result c =
    let row = row_at (net_of c.self.inside) c.args.i (c.in_ok-key.field-0-0.now, c.in_ok-key.field-0-1.now) c.self.invariant (sym c.in_ok-key.ensures.entry) in
    let track = row.track in
    let kind = row.kind in
    let few = c.self.invariant.counts.few_tracks in
    omega arith

pub returns : goal.returns
returns c =
    let net = c.args.self.now in
    let row : CrossingRow = (c.in_ok-key.field-0-0.now, c.in_ok-key.field-0-1.now) in
    let same : c.self.inside.crossings.entries ≡ net.crossings = ap (λ (n : Net). n.crossings) c.self.view_is in
    let at : slice_get net.crossings c.args.i ≡ Some row = subst (λ (l : List CrossingRow). slice_get l c.args.i ≡ Some row) same (sym c.in_ok-key.ensures.entry) in
    let may = sym (may_use_read net c.args.rows.now c.requires.rows (record { 0 = row.0.1 }) (record { 0 = row.0.3 })) ∙ sym c.may_use.ensures in
    let here : c.unwrap_or-before.result ≡ unwrap_or (lookup (same_quadruple (turned row.0)) c.self.inside.crossings.entries) 0 = search rules in
    let back : c.unwrap_or-before.result ≡ unwrap_or (lookup (same_quadruple (turned row.0)) net.crossings) 0 =
    here ∙ ap (λ (l : List CrossingRow). unwrap_or (lookup (same_quadruple (turned row.0)) l) 0) same in
    record {
      row = row;
      at = at;
      may = may ∙ c.if-not-may_use.false;
      place = refl;
      is = λ i. record { track = record { 0 = row.0.1 }; kind = record { 0 = row.0.3 }; before = back i; after = row.1 };
    }
