use Rattle.std.proofs.Common.{◌∙◌, ap, sym, Some}
use Rattle.optra_walk.specs.Legs.{use_of}
use Rattle.optra_cross.specs.Places.{row_with}
use Rattle.optra_cross.proofs.SearchLemmas.{are_crossers, few_uses, row_none, row_there, place_small}
use Rattle.optra_cross.proofs.cross_rows.CrossRowsRowFamily.touched.Goals as goal

pub place_at-requires-clause-each : goal.place_at-requires-clause-each
place_at-requires-clause-each c =
    are_crossers c.args.net.now (use_of c.args.kind c.args.leg) c.crossers-crossers.ensures.proper (record { may = c.requires.may_use; day = c.requires.depart }) c.crossers-crossers.result.now c.crossers-crossers.ensures.all

pub place_at-requires-clause-few : goal.place_at-requires-clause-few
place_at-requires-clause-few c =
    few_uses c.args.net.now (use_of c.args.kind c.args.leg) c.crossers-crossers.ensures.proper (record { may = c.requires.may_use; day = c.requires.depart }) c.crossers-crossers.result.now c.crossers-crossers.ensures.all

pub returns-in_err-place : goal.returns-in_err-place
returns-in_err-place c =
    c.from_residual.ensures
    ∙ sym (row_none c.args.net.now (use_of c.args.kind c.args.leg) c.crossers-crossers.ensures.proper (record { may = c.requires.may_use; day = c.requires.depart }) c.crossers-crossers.result.now c.crossers-crossers.ensures.all c.args.k
    c.in_err-place.ensures)

pub use_at-requires : goal.use_at-requires
use_at-requires c =
    place_small c.args.net.now (use_of c.args.kind c.args.leg) c.crossers-crossers.ensures.proper (record { may = c.requires.may_use; day = c.requires.depart }) c.crossers-crossers.result.now c.crossers-crossers.ensures.all c.args.k
    c.in_ok-place.place c.in_ok-place.ensures

pub returns : goal.returns
returns c =
    ap Some (c.row_with.ensures ∙ (λ i. row_with (c.use_of.ensures i) (c.use_at.ensures i)))
    ∙ sym (row_there c.args.net.now (use_of c.args.kind c.args.leg) c.crossers-crossers.ensures.proper (record { may = c.requires.may_use; day = c.requires.depart }) c.crossers-crossers.result.now c.crossers-crossers.ensures.all c.args.k
    c.in_ok-place.place c.in_ok-place.ensures)
