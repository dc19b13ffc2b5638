-- The numbers of commands that have a range.
use Rattle.std.specs.Prelude.{ℕ}
use Rattle.optra_text.specs.declared.words.Words.{Words}
use Rattle.optra_text.specs.declared.words.Words.TheVariants.{Plan, Check, Auction, Demo, Audit, Pay, House, Compress}

-- the budget of a plan or of payments; 1 for all others
abbrev pub budget_in : Words → ℕ
budget_in (Plan net bids stops steps budget cert) = budget
budget_in (Check net bids stops cert) = 1
budget_in (Auction net bids stops rules actions certs) = 1
budget_in (Demo seed size) = 1
budget_in (Audit net bids stops times) = 1
budget_in (Pay net bids stops steps budget) = budget
budget_in (House net bids stops rules actions journal) = 1
budget_in (Compress net bids stops times) = 1

-- the size of a demo; 1 for all others
abbrev pub size_in : Words → ℕ
size_in (Plan net bids stops steps budget cert) = 1
size_in (Check net bids stops cert) = 1
size_in (Auction net bids stops rules actions certs) = 1
size_in (Demo seed size) = size
size_in (Audit net bids stops times) = 1
size_in (Pay net bids stops steps budget) = 1
size_in (House net bids stops rules actions journal) = 1
size_in (Compress net bids stops times) = 1
