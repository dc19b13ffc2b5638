use Rattle.std.proofs.Common.{◌≡◌, ◌+◌, ◌-◌, ◌≤◌, ℕ, List, All, length, take, slice_get, min, Some, Vec, Global, refl, sym, ap, ◌∙◌, subst, arith, rules}
use Rattle.std.specs.Map.{lookup}
use Rattle.std.proofs.lemmas.List.{take_all}
use Rattle.std.proofs.lemmas.List.Elements.{All-more}
use Rattle.std.proofs.lemmas.Option.{slice_get_within, get_or_from_slice_get}
use Rattle.optra_network.specs.Net.{Net, IsBuilt, HasBothWays, CrossingRow, same_quadruple, turned}
use Rattle.optra_network.specs.BuilderParts.{net_of}
use Rattle.optra_network.specs.Tables.{HoldsPairs}
use Rattle.optra_network.proofs.CrossingLemmas.{IsTurned, both_ways-from_rows, cut_sum, cut_at, cut_most, one_way, reaches_more, row_at, span_is}
use Rattle.optra_network.proofs.ReadLemmas.{crossing_found}
use Rattle.optra_network.proofs.building.Builder.reaches.Goals as goal
use Rattle.optra_network.proofs.building.Builder.reaches.Goals.{in-Some+in-Some-get, in_default}

pub returns-in_default-get : goal.returns-in_default-get
returns-in_default-get c = λ both.
    let key = c.in-Some.field-0-0.now in
    one_way (net_of c.self.inside) key.0 key.1 key.2 key.3 c.in-Some.field-0-1.now c.in-Some.ensures.value (sym c.in_default-get.ensures.value)
    (subst HasBothWays (sym c.self.view_is) both)

pub index-requires : goal.index-requires
index-requires c =
    let row = row_at (net_of c.self.inside) c.loop-i.i (c.in-Some.field-0-0.now, c.in-Some.field-0-1.now) c.self.invariant (sym c.in-Some.ensures.entry) in
    let track = row.track in
    let kind = row.kind in
    let len = c.loop-i.invariant.cut.len in
    let tracks = ap (λ (n : Net). length n.tracks) c.self.view_is in
    omega arith

pub with_span-requires-clause-reach : goal.with_span-requires-clause-reach
with_span-requires-clause-reach c =
    let row = row_at (net_of c.self.inside) c.loop-i.i (c.in-Some.field-0-0.now, c.in-Some.field-0-1.now) c.self.invariant (sym c.in-Some.ensures.entry) in
    let all = c.args.self.now.crossings in
    let some = take c.loop-i.i all in
    let tracks = ap (λ (n : Net). length n.tracks) c.self.view_is in
    let track = row.track in
    cut_most all some c.in-Some.field-0-0.now.0 c.in-Some.field-0-0.now.2 c.index.result.now
    (c.index.ensures ∙ cut_at all some (length c.args.self.now.tracks) c.in-Some.field-0-0.now.0 c.in-Some.field-0-0.now.2 c.loop-i.reaches.items c.index.result.now c.loop-i.invariant.cut (omega arith) row.kind)

pub with_span-requires-clause-minutes : goal.with_span-requires-clause-minutes
with_span-requires-clause-minutes c =
    let row = row_at (net_of c.self.inside) c.loop-i.i (c.in-Some.field-0-0.now, c.in-Some.field-0-1.now) c.self.invariant (sym c.in-Some.ensures.entry) in
    (row.low, row.most)

pub with_span-requires-clause-back : goal.with_span-requires-clause-back
with_span-requires-clause-back c =
    let key = c.in-Some.field-0-0.now in
    crossing_found (net_of c.self.inside) c.self.invariant key.1 key.0 key.3 key.2 c.in-Some-get.field-0.now (sym c.in-Some-get.ensures.value)

pub index_mut-requires : goal.index_mut-requires
index_mut-requires c =
    let row = row_at (net_of c.self.inside) c.loop-i.i (c.in-Some.field-0-0.now, c.in-Some.field-0-1.now) c.self.invariant (sym c.in-Some.ensures.entry) in
    let track = row.track in
    let kind = row.kind in
    let len = c.loop-i.invariant.cut.len in
    let tracks = ap (λ (n : Net). length n.tracks) c.self.view_is in
    omega arith

pub loop-i-preserved : goal.loop-i-preserved
loop-i-preserved c =
    elim c.match-get_index.branch [
      | in-Some+in-Some-get w ↦
          let net = c.args.self.now in
          let all = c.args.self.now.crossings in
          let i = c.loop-i.i in
          let key = w.in-Some.field-0-0.now in
          let minutes = w.in-Some.field-0-1.now in
          let back = w.in-Some-get.field-0.now in
          let row : CrossingRow = (key, minutes) in
          let same : c.self.inside.crossings.entries ≡ all = ap (λ (n : Net). n.crossings) c.self.view_is in
          let at : slice_get all i ≡ Some row = subst (λ (l : List CrossingRow). slice_get l i ≡ Some row) same (sym w.in-Some.ensures.entry) in
          let found : lookup (same_quadruple (turned key)) all ≡ Some back = subst (λ (l : List CrossingRow). lookup (same_quadruple (turned key)) l ≡ Some back) same (sym w.in-Some-get.ensures.value) in
          let is = row_at net i row (subst IsBuilt c.self.view_is c.self.invariant) at in
          let here = cut_at all (take i all) (length net.tracks) key.0 key.2 c.loop-i.reaches.items w.index.result.now c.loop-i.invariant.cut is.track is.kind in
          record {
            turned = All-more (IsTurned all) all i row (slice_get_within all i row at) c.loop-i.invariant.turned
                (subst (IsTurned all) (sym (get_or_from_slice_get all i row row at)) (rw found (search rules)));
            cut = subst (λ (v : Vec ℕ Global). HoldsPairs (cut_sum all (take (i + 1) all)) (length net.tracks) v.items) (sym w.reaches-is)
                (reaches_more all (length net.tracks) i key.0 key.2 (minutes + back - 1) w.with_span.result row c.loop-i.reaches.items c.loop-i.invariant.cut at refl refl is.track is.kind
                (span_is all row minutes back refl found)
                (w.with_span.ensures ∙ ap (λ n. min (n + (minutes + back - 1)) 4001) (w.index.ensures ∙ here)));
          }
      | in_default w ↦ absurd (search rules)
    ]

pub returns : goal.returns
returns c =
    let net = c.args.self.now in
    let all = c.args.self.now.crossings in
    let same : c.self.inside.crossings.entries ≡ all = ap (λ (n : Net). n.crossings) c.self.view_is in
    let long : length all ≤ c.loop-i.i = omega (arith, ap (λ (l : List CrossingRow). length l) same) in
    let done : take c.loop-i.i all ≡ all = take_all c.loop-i.i all long in
    record {
      built = subst IsBuilt c.self.view_is c.self.invariant;
      both_ways = both_ways-from_rows net (subst (All (IsTurned all)) done c.loop-i.invariant.turned);
      cut = subst (λ (rows : List CrossingRow). HoldsPairs (cut_sum all rows) (length net.tracks) c.loop-i.reaches.items) done c.loop-i.invariant.cut;
    }
