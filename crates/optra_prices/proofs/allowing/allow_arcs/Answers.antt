use Rattle.std.proofs.Common.{◌≡◌, ℕ, ◌+◌, ◌<◌, ◌≤◌, List, length, get_or, Some, slice_get, refl, sym, ap, ◌∙◌, subst, arith}
use Rattle.std.proofs.lemmas.List.{nil_from_length}
use Rattle.std.proofs.lemmas.Option.{slice_get-get_or}
use Rattle.optra_dag.specs.Paths.{Graph}
use Rattle.optra_prices.specs.ArcTerms.{ArcTerm}
use Rattle.optra_prices.specs.NarrowArcs.{with_mark}
use Rattle.optra_prices.specs.Tables.{no_arc}
use Rattle.optra_prices.proofs.AllowLemmas.{AreToldUpTo, told_more, told_all, arc_mark, neither, changed_at, get_or_by}
use Rattle.optra_prices.proofs.HolderLemmas.{one_of}
use Rattle.optra_prices.proofs.ListLemmas.{all_at}
use Rattle.optra_prices.proofs.allowing.allow_arcs.Goals as goal

pub loop-k-preserved : goal.loop-k-preserved
loop-k-preserved g c =
    let s = c.args.own.now in
    let rows = g.F.RowFamily.rows_of s.family s.net in
    let t = c.args.graph.now in
    let old = c.args.arcs.now in
    let arcs = c.loop-k.arcs in
    let k = c.loop-k.k in
    let inv = c.loop-k.invariant in
    let count = c.arcs-k-end.ensures.count in
    let dag = ap (λ (d : Graph). length d.arcs) c.dag.ensures in
    let kept = inv.told.count_is in
    let given = c.requires.tells.count in
    let within : k < length arcs = omega arith in
    let arc = get_or arcs k no_arc in
    let after = with_mark arc c.let_arc-allowed.result in
    let at : slice_get arcs k ≡ Some arc = slice_get-get_or arcs k no_arc within in
    let before : slice_get old k ≡ Some arc = sym (inv.told.left k (omega arith)) ∙ at in
    let told = c.tell_group-last.ensures in
    let mark = arc_mark s.net rows s.bids s.node c.args.number c.args.room.now t c.args.groups.now old c.requires.tells k arc c.tell_group-last.result c.let_arc-allowed.result before (told.group ∙ c.group.ensures ∙ ap (λ (xs : List ArcTerm). (get_or xs k no_arc).group) c.slice.ensures) told.told c.let_arc-allowed.ensures in
    let put = c.set_allowed-other.ensures in
    record {
      told = subst (AreToldUpTo s.net rows s.bids s.node c.args.number t (k + 1) old) (sym put.set) (told_more s.net rows s.bids s.node c.args.number t k old arcs arc after inv.told at
          (record { value_is = refl; group_is = refl; mark = mark }));
      last = told.told;
      same = λ e.
          let none = neither c.loop-k.changed c.set_allowed-other.result (sym c.either-changed.ensures ∙ e) in
          put.same none.1 ∙ inv.same none.0;
      other = λ e. changed_at old arcs c.set_allowed-other.new.arcs k after within
          (let here = inv.told.left k (omega arith) in get_or_by arcs old k no_arc here) put.set inv.other put.other (one_of c.loop-k.changed c.set_allowed-other.result (sym c.either-changed.ensures ∙ e));
    }

pub returns : goal.returns
returns g c =
    let s = c.args.own.now in
    let count = c.arcs-k-end.ensures.count in
    let dag = ap (λ (d : Graph). length d.arcs) c.dag.ensures in
    let given = c.requires.tells.count in
    let done : length c.args.arcs.now ≤ c.loop-k.k = omega arith in
    record {
      told = told_all s.net (g.F.RowFamily.rows_of s.family s.net) s.bids s.node c.args.number c.args.graph.now c.loop-k.k c.args.arcs.now c.loop-k.arcs c.loop-k.invariant.told done;
      same = c.loop-k.invariant.same;
      other = λ e same. let some = c.loop-k.invariant.other e in some.2 (ap (λ (xs : List ArcTerm). get_or xs some.0 no_arc) same);
    }

pub let_arc-allowed-requires-clause-own : goal.let_arc-allowed-requires-clause-own
let_arc-allowed-requires-clause-own g c none =
    let empty : length c.own.result.now ≡ 0 = grind (arith, none, c.is_empty-has_own.ensures) in
    sym c.own.ensures ∙ nil_from_length c.own.result.now empty

pub tell_group-last-requires-clause-within : goal.tell_group-last-requires-clause-within
tell_group-last-requires-clause-within g c =
    let starts = c.args.groups.now.starts.items in
    let old = c.args.arcs.now in
    let arcs = c.loop-k.arcs in
    let k = c.loop-k.k in
    let inv = c.loop-k.invariant in
    let count = c.arcs-k-end.ensures.count in
    let dag = ap (λ (d : Graph). length d.arcs) c.dag.ensures in
    let kept = inv.told.count_is in
    let given = c.requires.tells.count in
    let within : k < length arcs = omega arith in
    let arc = get_or arcs k no_arc in
    let before : slice_get old k ≡ Some arc = sym (inv.told.left k (omega arith)) ∙ slice_get-get_or arcs k no_arc within in
    let of : c.group.result ≡ arc.group = c.group.ensures ∙ ap (λ (xs : List ArcTerm). (get_or xs k no_arc).group) c.slice.ensures in
    subst (λ (n : ℕ). n + 1 < length starts) (sym of) (all_at (λ (a : ArcTerm). a.group + 1 < length starts) old k arc c.requires.tells.within before)
