use Rattle.std.proofs.Common.{◌≡◌, ◌++◌, take, map}
use Rattle.std.specs.Fmt.{decimal}
use Rattle.optra_demo.proofs.bid_tables.put_numbers.Given as goal

abbrev pub invariant-numbers : goal.invariant-numbers
invariant-numbers l = l.fields ≡ l.initial.fields ++ map decimal (take l.number-index l.numbers)
