-- The numbers of words that are read are in their ranges.
use Rattle.optra_top.proofs.EntryLemmas.{numbers-read}
use Rattle.optra_top.proofs.job.Job.new.Goals as goal

pub invariant_of-result : goal.invariant_of-result
invariant_of-result c =
    let numbers = numbers-read c.args.words c.requires in
    record { budget = numbers.0; least_size = numbers.1; most_size = numbers.2 }
