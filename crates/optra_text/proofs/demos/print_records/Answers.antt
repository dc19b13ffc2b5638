use Rattle.std.proofs.Common.{length}
use Rattle.optra_text.specs.DemoTexts.{count_records, demo_record}
use Rattle.optra_text.specs.PlanTexts.{head_records}
use Rattle.optra_text.specs.VerdictTexts.{verdict_record}
use Rattle.optra_text.proofs.DemoPieces.{four_pieces}
use Rattle.optra_text.proofs.demos.print_records.Goals as goal

pub returns : goal.returns
returns c =
    four_pieces c.args.printer.now c.print_demo.new.printer c.print_counts.new.printer c.print_plan_head.new.printer c.print_verdict.new.printer (demo_record c.args.seed c.args.size)
    (count_records c.args.plan.inst.net.now (length c.args.plan.inst.bids.now)) (head_records c.args.plan.revenue c.args.plan.bound c.args.plan.nodes) (verdict_record c.args.verdict)
    c.in_ok-print_demo.ensures c.in_ok-print_counts.ensures c.in_ok-print_plan_head.ensures c.in_ok-print_verdict.ensures
