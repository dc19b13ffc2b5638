use Rattle.std.proofs.Common.{◌≡◌, ◌∙◌, Some, slice_get, arith, sym, refl}
use Rattle.optra_open.proofs.AtLemmas.{no_true}
use Rattle.optra_open.proofs.LoadedLemmas.{off_all, off_more, on_row, past_later, used_later, used_is_row, no_more}
use Rattle.optra_open.proofs.loaded.keeps_off.Goals as goal
use Rattle.optra_open.proofs.loaded.keeps_off.Goals.{then-spot-via-then-spot, then-spot-via-else-spot+then-cap-leg_use}

pub seek-spot-requires-clause-past : goal.seek-spot-requires-clause-past
seek-spot-requires-clause-past g c = c.loop-k.invariant.past c.loop-k.k c.in-Some.row (omega arith) (sym c.touched.ensures ∙ c.in-Some.is)

pub loop-k-preserved : goal.loop-k-preserved
loop-k-preserved g c =
    let cmp = g.F.Row.Ord.cmp in
    let rows = g.F.RowFamily.rows_of c.args.rows.now c.args.net.now in
    let used = g.F.RowFamily.rows_used c.args.rows.now c.args.net.now c.args.kind c.args.leg in
    let lists = g.met.F.RowFamily.lists_rows c.args.rows.now c.args.net.now c.args.kind c.args.leg c.requires.usable in
    let row = c.in-Some.row in
    let at : slice_get used c.loop-k.k ≡ Some row = sym c.touched.ensures ∙ c.in-Some.is in
    let fits = c.if-cap-leg_use.false in
    let cap = c.cap.ensures in
    let takes = c.leg_use.ensures in
    record {
      near = c.seek-spot.ensures.place;
      past = λ j later l there. past_later cmp g.met.F.Row.Ord.total c.args.loaded.now c.requires.rising c.seek-spot.result.place row later
          (used_later cmp used c.loop-k.k j row later lists.ascending at there (omega (arith, l))) (c.seek-spot.ensures.past c.if-spot.false);
      seen = off_more cmp rows c.args.kind c.args.loaded.now c.args.leg used c.loop-k.k row at c.loop-k.invariant.seen (c.seek-spot.ensures.missing c.if-spot.false) (omega (arith, fits, cap, takes));
    }

pub cap-requires : goal.cap-requires
cap-requires g c =
    let rows = g.F.RowFamily.rows_of c.args.rows.now c.args.net.now in
    let used = g.F.RowFamily.rows_used c.args.rows.now c.args.net.now c.args.kind c.args.leg in
    let lists = g.met.F.RowFamily.lists_rows c.args.rows.now c.args.net.now c.args.kind c.args.leg c.requires.usable in
    used_is_row g.F.Row.Ord.cmp rows.is_row (rows.uses c.args.kind c.args.leg) used c.loop-k.k c.in-Some.row lists (sym c.touched.ensures ∙ c.in-Some.is)

pub returns-in_default : goal.returns-in_default
returns-in_default g c =
    let rows = g.F.RowFamily.rows_of c.args.rows.now c.args.net.now in
    let used = g.F.RowFamily.rows_used c.args.rows.now c.args.net.now c.args.kind c.args.leg in
    let lists = g.met.F.RowFamily.lists_rows c.args.rows.now c.args.net.now c.args.kind c.args.leg c.requires.usable in (
      λ t. off_all g.F.Row.Ord.cmp rows c.args.kind c.args.loaded.now c.args.leg used c.loop-k.k lists
          (no_more used c.loop-k.k (λ row at. let is = c.in_default.is in let e = c.touched.ensures in cc)) c.loop-k.invariant.seen,
      λ keeps. refl,
    )

pub returns : goal.returns
returns g c =
    let rows = g.F.RowFamily.rows_of c.args.rows.now c.args.net.now in
    let used = g.F.RowFamily.rows_used c.args.rows.now c.args.net.now c.args.kind c.args.leg in
    let lists = g.met.F.RowFamily.lists_rows c.args.rows.now c.args.net.now c.args.kind c.args.leg c.requires.usable in
    let few = lists.few in
    let past = c.loop-k-test.false in
    ((λ t. off_all g.F.Row.Ord.cmp rows c.args.kind c.args.loaded.now c.args.leg used c.loop-k.k lists (omega (arith, few, past)) c.loop-k.invariant.seen), (λ keeps. refl))

pub returns-then-spot : goal.returns-then-spot
returns-then-spot g c =
    let cmp = g.F.Row.Ord.cmp in
    let rows = g.F.RowFamily.rows_of c.args.rows.now c.args.net.now in
    let used = g.F.RowFamily.rows_used c.args.rows.now c.args.net.now c.args.kind c.args.leg in
    let lists = g.met.F.RowFamily.lists_rows c.args.rows.now c.args.net.now c.args.kind c.args.leg c.requires.usable in
    let at : slice_get used c.loop-k.k ≡ Some c.in-Some.row = sym c.touched.ensures ∙ c.in-Some.is in (
      λ t. absurd (no_true t),
      λ keeps.
          let both = on_row cmp rows c.args.kind c.args.loaded.now c.args.leg used c.loop-k.k c.in-Some.row lists at keeps in
          elim c.then-spot.branch [
            | then-spot-via-then-spot w ↦ absurd (c.seek-spot.ensures.there w.if-spot.true both.0)
            | then-spot-via-else-spot+then-cap-leg_use w ↦
                let more = w.if-cap-leg_use.true in
                let cap = w.cap.ensures in
                let takes = w.leg_use.ensures in
                let fits = both.1 in
                absurd (omega (arith, more, cap, takes, fits))
          ],
    )

pub seek-spot-requires-clause-rising : goal.seek-spot-requires-clause-rising
seek-spot-requires-clause-rising g c = c.requires.rising
