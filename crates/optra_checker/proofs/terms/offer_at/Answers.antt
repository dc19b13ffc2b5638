use Rattle.optra_checker.proofs.terms.offer_at.Goals as goal

pub advance_at-requires-clause-bid : goal.advance_at-requires-clause-bid
advance_at-requires-clause-bid g c = c.requires.bid

pub advance_at-requires-clause-latest : goal.advance_at-requires-clause-latest
advance_at-requires-clause-latest g c = c.requires.latest

pub advance_at-requires-clause-ascending : goal.advance_at-requires-clause-ascending
advance_at-requires-clause-ascending g c = c.requires.ascending

pub advance_at-requires-clause-proper : goal.advance_at-requires-clause-proper
advance_at-requires-clause-proper g c = c.requires.proper

pub advance_at-requires-clause-walks : goal.advance_at-requires-clause-walks
advance_at-requires-clause-walks g c = c.requires.walks

pub offer_of-requires-clause-bid : goal.offer_of-requires-clause-bid
offer_of-requires-clause-bid g c = c.requires.bid

pub offer_of-requires-clause-best : goal.offer_of-requires-clause-best
offer_of-requires-clause-best g c = c.in_ok-best.ensures.best

pub offer_of-requires-clause-size : goal.offer_of-requires-clause-size
offer_of-requires-clause-size g c = c.in_ok-best.ensures.size

pub returns-clause-walks : goal.returns-clause-walks
returns-clause-walks g c = c.in_ok-best.ensures.walks

pub returns-clause-best : goal.returns-clause-best
returns-clause-best g c = c.offer_of.ensures.best

pub returns-clause-size : goal.returns-clause-size
returns-clause-size g c = c.offer_of.ensures.size
