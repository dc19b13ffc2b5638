-- The minutes from the stay's first to its last are counted.
use Rattle.std.proofs.Common.{◌+◌, ap, ◌∙◌, Bool, if◌then◌else◌, get_or, arith}
use Rattle.optra_audit.proofs.MinuteLemmas.{same_minutes}
use Rattle.optra_audit.proofs.minute_counts.add_stay.Goals as goal

pub returns : goal.returns
returns c =
    let stay = c.args.stay in
    let old = c.args.counts.now in
    let counted = c.minutes.invariant in
    let first_within = c.min-from.ensures in
    record {
      long = counted.long;
      are = λ m day.
          counted.are m day
          ∙ ap (λ (b : Bool). get_or old m 0 + (if b then 1 else 0))
          (same_minutes stay.from stay.until c.min-from.result c.min-until.result c.minutes.minute m c.min-until.ensures c.min-from.ensures (omega arith) (c.minutes.auto.minute-end (omega (arith, first_within))) day);
    }
