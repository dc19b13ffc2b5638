-- What the digits so far say, and that it is small.
use Rattle.std.proofs.Common.{◌≡◌, ◌<◌, ◌^◌, drop}
use Rattle.optra_records.specs.Numbers.{value_after, value_of}
use Rattle.optra_records.proofs.numbers.digits.Given as goal

abbrev pub invariant-digits : goal.invariant-digits
invariant-digits l = record {
  value : value_after l.n (drop l.b-index l.text) ≡ value_of l.text;
  small : l.n < 10 ^ l.b-index;
}
