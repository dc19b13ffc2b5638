-- The tables by the rule are accepted, and what they mean is read.
use Rattle.std.proofs.Common.{map}
use Rattle.optra_tables.specs.Bids.{parts_of}
use Rattle.optra_top.proofs.DemoMeans.{bids_no_fault, demo_read, made_version, net_no_fault}
use Rattle.optra_top.proofs.demo_command.read_demo.Goals as goal

pub read_made_net-requires : goal.read_made_net-requires
read_made_net-requires c = made_version c.args.seed c.args.size c.requires.least c.requires.most c.in_ok-made.made c.in_ok-made.ensures

pub unreachable-requires : goal.unreachable-requires
unreachable-requires c = net_no_fault c.args.seed c.args.size c.requires.least c.requires.most c.in_ok-made.made c.in_ok-made.ensures c.in-Err-Fault.field-0-0 (rw c.in-Err-Fault.field-0-is at c.in-Err-Fault.ensures.gives)

pub unreachable-requires-in-Err-Fault-read_bids : goal.unreachable-requires-in-Err-Fault-read_bids
unreachable-requires-in-Err-Fault-read_bids c =
    bids_no_fault c.args.seed c.args.size c.requires.least c.requires.most c.in_ok-made.made c.in_ok-made.ensures c.in-Ok.net c.in-Err-Fault-read_bids.field-0-0 c.in-Ok.ensures.gives
    (rw (c.in-Err-Fault-read_bids.field-0-is, c.deref.ensures.value, c.deref-2.ensures.value) at c.in-Err-Fault-read_bids.ensures.gives)

pub returns-in-Ok-read_bids-clause-read : goal.returns-in-Ok-read_bids-clause-read
returns-in-Ok-read_bids-clause-read c =
    demo_read c.args.seed c.args.size c.requires.least c.requires.most c.in_ok-made.made c.in_ok-made.ensures c.in-Ok.net (map parts_of c.in-Ok-read_bids.bids.items) c.in-Ok.ensures.gives
    (rw (c.deref.ensures.value, c.deref-2.ensures.value) at c.in-Ok-read_bids.ensures.gives)

pub returns-in-Ok-read_bids-clause-instance : goal.returns-in-Ok-read_bids-clause-instance
returns-in-Ok-read_bids-clause-instance c = c.in-Ok-read_bids.ensures.instance

pub returns-in-Ok-read_bids-clause-alone : goal.returns-in-Ok-read_bids-clause-alone
returns-in-Ok-read_bids-clause-alone c = c.in-Ok.ensures.alone
