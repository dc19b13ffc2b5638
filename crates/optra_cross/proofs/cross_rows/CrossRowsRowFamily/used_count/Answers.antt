use Rattle.std.proofs.Common.{◌∙◌}
use Rattle.optra_walk.specs.Legs.{use_of}
use Rattle.optra_cross.proofs.SearchLemmas.{are_crossers, few_uses, row_count}
use Rattle.optra_cross.proofs.cross_rows.CrossRowsRowFamily.used_count.Goals as goal

pub total-requires-clause-each : goal.total-requires-clause-each
total-requires-clause-each c =
    are_crossers c.args.net.now (use_of c.args.kind c.args.leg) c.crossers.ensures.proper (record { may = c.requires.may_use; day = c.requires.depart }) c.crossers.result.now c.crossers.ensures.all

pub total-requires-clause-few : goal.total-requires-clause-few
total-requires-clause-few c =
    few_uses c.args.net.now (use_of c.args.kind c.args.leg) c.crossers.ensures.proper (record { may = c.requires.may_use; day = c.requires.depart }) c.crossers.result.now c.crossers.ensures.all

pub returns : goal.returns
returns c =
    c.total.ensures
    ∙ row_count c.args.net.now (use_of c.args.kind c.args.leg) c.crossers.ensures.proper (record { may = c.requires.may_use; day = c.requires.depart }) c.crossers.result.now c.crossers.ensures.all
