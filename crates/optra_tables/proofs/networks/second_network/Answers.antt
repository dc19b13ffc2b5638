-- A fault of the tables is that of the network.
use Rattle.std.proofs.lemmas.Result.{err_from_is_err_and}
use Rattle.optra_tables.proofs.networks.second_network.Goals as goal

pub returns-in_err-read_second : goal.returns-in_err-read_second
returns-in_err-read_second c =
    let p = err_from_is_err_and c.from_residual-in_err-read_second.result c.from_residual-in_err-read_second.ensures.1 in
    rw (p.1, p.2) c.in_err-read_second.ensures.err
