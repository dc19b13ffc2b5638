use Rattle.std.proofs.Common.{◌≡◌, ℕ, ◌≤◌, get_or, sym, subst, arith, inl, inr, rules}
use Rattle.std.specs.Prelude.{unsigned_abs, pos}
use Rattle.std.proofs.lemmas.Bool.{cases_eq}
use Rattle.std.proofs.lemmas.List.{get_or_default}
use Rattle.optra_prices.specs.declared.narrow_arc.NarrowArc.{NarrowArc}
use Rattle.optra_prices.proofs.tables.most_cents.Goals as goal

abbrev no_narrow : NarrowArc
no_narrow = record { mark = 0; cents = pos 0 }

pub loop-k-preserved : goal.loop-k-preserved
loop-k-preserved c =
    let more : c.loop-k.most ≤ c.max-most.result = search rules in
    let size : c.size.result ≤ c.max-most.result = search rules in
    let is : c.size.result ≡ unsigned_abs (get_or c.args.arcs.now c.loop-k.k no_narrow).cents = c.size.ensures in
    λ j l. elim (cases_eq j c.loop-k.k) as (λ _. unsigned_abs (get_or c.args.arcs.now j no_narrow).cents ≤ c.max-most.result) [
      | inl e ↦
          let here : unsigned_abs (get_or c.args.arcs.now c.loop-k.k no_narrow).cents ≤ c.max-most.result = omega (arith, size, is) in
          subst (λ (i : ℕ). unsigned_abs (get_or c.args.arcs.now i no_narrow).cents ≤ c.max-most.result) (sym e) here
      | inr apart ↦ let before = c.loop-k.invariant j (omega arith) in omega (arith, before, more)
    ]

pub returns : goal.returns
returns c = λ k d l.
    let same = get_or_default c.args.arcs.now k d no_narrow l in
    let here = c.loop-k.invariant k (omega arith) in
    subst (λ (arc : NarrowArc). unsigned_abs arc.cents ≤ c.loop-k.most) (sym same) here
