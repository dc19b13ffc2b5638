use Rattle.optra_open.proofs.LoadedLemmas.{between_missing, search_missing, search_past, search_there}
use Rattle.optra_open.proofs.loaded.seek.Goals as goal

pub returns-then-is_ahead-clause-missing : goal.returns-then-is_ahead-clause-missing
returns-then-is_ahead-clause-missing g c e =
    between_missing g.R.Ord.cmp g.met.R.Ord.total c.args.loaded.now c.requires.rising c.args.near c.args.row c.requires.past (c.is_ahead.ensures c.if-is_ahead.true)

pub returns-in-Err-clause-missing : goal.returns-in-Err-clause-missing
returns-in-Err-clause-missing g c e =
    search_missing g.R.Ord.cmp g.met.R.Ord.total c.args.loaded.now c.requires.rising c.args.row c.binary_search.result c.in-Err.place c.in-Err.is c.binary_search.ensures.position

pub returns-in-Err-clause-past : goal.returns-in-Err-clause-past
returns-in-Err-clause-past g c e =
    search_past g.R.Ord.cmp g.met.R.Ord.total c.args.loaded.now c.requires.rising c.args.row c.binary_search.result c.in-Err.place c.in-Err.is c.binary_search.ensures.position

pub returns-in-Ok-clause-there : goal.returns-in-Ok-clause-there
returns-in-Ok-clause-there g c e =
    search_there g.R.Ord.cmp g.met.R.Ord.total c.args.loaded.now c.requires.rising c.args.row c.binary_search.result c.in-Ok.place c.in-Ok.is c.binary_search.ensures.position c.binary_search.ensures.bound
