-- The ranges of the numbers that words give.
use Rattle.std.specs.Prelude.{◌≤◌, ⊤}
use Rattle.optra_text.specs.declared.words.Words.{Words}
use Rattle.optra_text.specs.declared.words.Words.TheVariants.{Plan, Check, Auction, Demo, Audit, Pay, House, Compress}

-- a plan and payments have a budget of at least one node, and a demo a size from 1 to 9
abbrev pub HasRanges : Words → Type 0
HasRanges (Plan net bids stops steps budget cert) = 1 ≤ budget
HasRanges (Check net bids stops cert) = ⊤
HasRanges (Auction net bids stops rules actions certs) = ⊤
HasRanges (Demo seed size) = (1 ≤ size) × (size ≤ 9)
HasRanges (Audit net bids stops times) = ⊤
HasRanges (Pay net bids stops steps budget) = 1 ≤ budget
HasRanges (House net bids stops rules actions journal) = ⊤
HasRanges (Compress net bids stops times) = ⊤
