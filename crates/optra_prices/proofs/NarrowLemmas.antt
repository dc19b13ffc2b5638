-- A search in 64 bits finds what one at the weights themselves does.
use Rattle.std.proofs.Common.{◌≡◌, ℕ, ◌<◌, ◌≤◌, List, [], length, get_or, refl, ◌∙◌, sym, subst, arith, ℤ, pos, ◌+ℤ◌, ◌-ℤ◌, ◌≤ℤ◌, inl, inr}
use Rattle.std.specs.Prelude.{All, FitsSigned, neg_ℤ}
use Rattle.std.specs.Int.{w64, int_wrapping_sub}
use Rattle.std.proofs.lemmas.Bool.{cases_lt}
use Rattle.std.proofs.lemmas.Int.{ints, int_wrap_fits, wrapping_sub_is}
use Rattle.std.proofs.lemmas.List.{get_or_past}
use Rattle.optra_bid.specs.Specs.{IsBetween}
use Rattle.optra_dag.specs.NarrowSums.{IsWithin}
use Rattle.optra_dag.specs.Agreeing.{AgreeBelow}
use Rattle.optra_prices.specs.Arcs.{IsArcValue}
use Rattle.optra_prices.specs.Columns.{IsColumns}
use Rattle.optra_prices.specs.NarrowArcs.{PricedArcs, priced_arcs}
use Rattle.optra_prices.specs.Tables.{allows_by, IsGroupPrice, AreUpTo, AreWeighedTo, weight_by, narrow_weight_by, no_arc}
use Rattle.optra_prices.specs.Standings.{IsMost}
use Rattle.optra_prices.specs.declared.columns.Columns.{Columns}
use Rattle.optra_prices.specs.ArcTerms.{ArcTerm}
use Rattle.optra_prices.specs.declared.numbering.Groups.{Groups}

-- a value less a price stays within 64 bits
subtracts : (value price : ℤ) → IsArcValue value → IsGroupPrice price → int_wrapping_sub w64 value price ≡ value -ℤ price
subtracts value price v p =
    let a : FitsSigned w64 value = omega (arith, ints, v.0, v.1) in
    let b : FitsSigned w64 price = omega (arith, ints, p.0, p.1) in
    let c : FitsSigned w64 (value -ℤ price) = omega (arith, ints, v.0, v.1, p.0, p.1) in
    wrapping_sub_is w64 value price a b ∙ int_wrap_fits w64 (value -ℤ price) c

-- the price at a place, also past the end
price_in : (grouped : List ℤ) (g : ℕ) → All IsGroupPrice grouped → IsGroupPrice (get_or grouped g (pos 0))
price_in grouped g range = elim (cases_lt g (length grouped)) as (λ _. IsGroupPrice (get_or grouped g (pos 0))) [
  | inl l ↦ range g (pos 0) l
  | inr past ↦ subst IsGroupPrice (sym (get_or_past grouped g (pos 0) past)) (omega (arith, ints), omega (arith, ints))
]

-- the price at a place is no more than the most
price_to : (grouped : List ℤ) (g : ℕ) (most : ℤ) → AreUpTo most grouped → get_or grouped g (pos 0) ≤ℤ most
price_to grouped g most up = elim (cases_lt g (length grouped)) as (λ _. get_or grouped g (pos 0) ≤ℤ most) [
  | inl l ↦ up.each g (pos 0) l
  | inr past ↦ subst (λ z. z ≤ℤ most) (sym (get_or_past grouped g (pos 0) past)) up.high.0
]

between : (values value price high : ℤ) (most : ℕ) → IsBetween (neg_ℤ values) values value → IsGroupPrice price → price ≤ℤ high → pos most ≡ values +ℤ high → IsWithin most (value -ℤ price)
between values value price high most v p l e = let a = v.0 in let b = v.1 in let c = p.0 in record { low = omega (arith, ints); high = omega (arith, ints) }

is_value : (values value : ℤ) → IsMost values → IsBetween (neg_ℤ values) values value → IsArcValue value
is_value values value m v = let a = m.1 in let b = v.0 in let c = v.1 in (omega (arith, ints), omega (arith, ints))

-- what the arcs weigh, by the most of the values and of the prices
pub weighed_to : (values high : ℤ) (most : ℕ) (arcs : List ArcTerm) (grouped : List ℤ) → IsMost values → All (λ (arc : ArcTerm). IsBetween (neg_ℤ values) values arc.value) arcs → AreUpTo high grouped → pos most ≡ values +ℤ high
    → AreWeighedTo most arcs grouped
weighed_to values high most arcs grouped range are up e = record {
  values = λ k d l. is_value values (get_or arcs k d).value range (are k d l);
  range = up.range;
  weights = λ k l. between values (get_or arcs k no_arc).value (get_or grouped (get_or arcs k no_arc).group (pos 0)) high most (are k no_arc l) (price_in grouped (get_or arcs k no_arc).group up.range) (price_to grouped (get_or arcs k no_arc).group high up) e;
}

-- in 64 bits an arc weighs what it does
pub narrow_same : (most : ℕ) (arcs : List ArcTerm) (grouped : List ℤ) → AreWeighedTo most arcs grouped → (k : ℕ) → k < length arcs → narrow_weight_by arcs grouped k ≡ weight_by arcs grouped k
narrow_same most arcs grouped is k l = subtracts (get_or arcs k no_arc).value (get_or grouped (get_or arcs k no_arc).group (pos 0)) (is.values k no_arc l) (price_in grouped (get_or arcs k no_arc).group is.range)

-- the arcs priced in 64 bits agree with the arcs at these prices
pub narrow_agrees : (most n : ℕ) (arcs : List ArcTerm) (grouped : List ℤ) (w : PricedArcs) → AreWeighedTo most arcs grouped → n ≡ length arcs → w ≡ priced_arcs arcs grouped
    → AgreeBelow n (allows_by arcs) (weight_by arcs grouped) (allows_by w.arcs) (narrow_weight_by w.arcs w.grouped)
narrow_agrees most n arcs grouped w is count e =
    subst (λ (v : PricedArcs). AgreeBelow n (allows_by arcs) (weight_by arcs grouped) (allows_by v.arcs) (narrow_weight_by v.arcs v.grouped)) (sym e)
    (record { allowed = λ k l. refl; weighed = λ k l. narrow_same most arcs grouped is k (subst (λ m. k < m) count l) })

pub narrow_asked : (n : ℕ) (arcs : List ArcTerm) (grouped : List ℤ) (w : PricedArcs) → n ≡ length arcs → w ≡ priced_arcs arcs grouped → n ≤ length w.arcs
narrow_asked n arcs grouped w count e = subst (λ (v : PricedArcs). n ≤ length v.arcs) (sym e) (omega arith)

-- no group costs more than the highest price so far
pub columns_up : (groups : Groups) (c : Columns) → IsColumns groups c → AreUpTo c.highest c.grouped.items
columns_up groups c is = record { range = is.range; high = is.high; each = is.most }

-- at zero prices none costs anything
pub free_up : AreUpTo (pos 0) []
free_up = record { range = λ k d l. absurd (omega arith); high = (omega (arith, ints), omega (arith, ints)); each = λ k d l. absurd (omega arith) }
