-- A fault of the tables is that of the network.
use Rattle.std.proofs.lemmas.Result.{err_from_is_err_and}
use Rattle.optra_tables.proofs.AloneLemmas.{finished_alone}
use Rattle.optra_tables.proofs.networks.first_network.Goals as goal

pub returns-in_err-read_first-clause-gives : goal.returns-in_err-read_first-clause-gives
returns-in_err-read_first-clause-gives c =
    let p = err_from_is_err_and c.from_residual-in_err-read_first.result c.from_residual-in_err-read_first.ensures.1 in
    rw (p.1, p.2) c.in_err-read_first.ensures.err

pub returns-clause-alone : goal.returns-clause-alone
returns-clause-alone c = finished_alone c.read_first.new.net c.finish_first.result c.finish_first.ensures c.in_ok-read_first.ensures.alone
