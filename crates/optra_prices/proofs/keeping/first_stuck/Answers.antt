use Rattle.std.proofs.Common.{◌≡◌, ◌<◌, length, get_or, Some, slice_get, refl, sym, ap, ◌∙◌, arith, inl, inr}
use Rattle.std.proofs.lemmas.Bool.{cases_lt}
use Rattle.std.proofs.lemmas.Option.{same_Some, slice_get_read, slice_get-get_or}
use Rattle.std.specs.Prelude.{false}
use Rattle.optra_prices.specs.declared.numbering.Standing.{Standing}
use Rattle.optra_prices.proofs.keeping.first_stuck.Goals as goal

pub returns-then-standing : goal.returns-then-standing
returns-then-standing c =
    let standings = c.args.standings.now in
    let n = c.standings.number in
    let l : n < length standings = omega arith in
    record {
      standing = c.index-standings-number.result;
      at = slice_get_read standings (length standings) n c.index-standings-number.result refl l c.index-standings-number.is;
      is = c.if-standing.true;
      free = c.standings.invariant;
    }

pub standings-preserved : goal.standings-preserved
standings-preserved c = λ other before l at.
    let standings = c.args.standings.now in
    let n = c.standings.number in
    let within : n < length standings = omega arith in
    let here : slice_get standings n ≡ Some c.index-standings-number.result = slice_get_read standings (length standings) n c.index-standings-number.result refl within c.index-standings-number.is in
    elim (cases_lt other n) as (λ _. before.stuck ≡ false) [
      | inl earlier ↦ c.standings.invariant other before earlier at
      | inr past ↦
          let e : other ≡ n = omega arith in
          let same : c.index-standings-number.result ≡ before = same_Some c.index-standings-number.result before (sym here ∙ ap (slice_get standings) (sym e) ∙ at) in
          sym (ap (λ (x : Standing). x.stuck) same) ∙ c.if-standing.false
    ]

pub returns : goal.returns
returns c = λ k d l. c.standings.invariant k (get_or c.args.standings.now k d) (omega arith) (slice_get-get_or c.args.standings.now k d l)
