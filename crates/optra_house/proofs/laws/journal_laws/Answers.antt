use Rattle.optra_house.proofs.LawLemmas.{nowhere_refused, opens_stands, refused_nowhere, stands_opens}
use Rattle.optra_house.proofs.laws.journal_laws.Goals as goal

pub returns-clause-opens : goal.returns-clause-opens
returns-clause-opens c = λ stamp specs rules file now are. (opens_stands stamp specs rules file now are, stands_opens stamp specs rules file now)

pub returns-clause-refused : goal.returns-clause-refused
returns-clause-refused c = λ stamp specs rules file are. (refused_nowhere stamp specs rules file, nowhere_refused stamp specs rules file are)
