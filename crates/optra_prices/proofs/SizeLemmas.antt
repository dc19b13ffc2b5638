-- How large a term may be.
use Rattle.std.proofs.Common.{ℕ, zero, suc, ◌+◌, ◌*◌, ◌<◌, Bool, List, [], ◌∷◌, length, get_or, arith, inl, inr}
use Rattle.std.specs.Prelude.{All, ℤ, pos, neg_ℤ, slice_index_or}
use Rattle.std.proofs.lemmas.Int.{ints}
use Rattle.optra_bid.specs.Specs.{IsBetween}
use Rattle.optra_dag.specs.Paths.{Graph, IsForward, IsWeight, LeadsToEnd, to_of, weight_of}
use Rattle.optra_prices.specs.Arcs.{IsArcValue, IsFound}
use Rattle.optra_prices.specs.Tables.{IsGroupPrice, allows_by, weight_by, no_arc}
use Rattle.optra_prices.specs.Standings.{Stands, IsSound, IsTermSize}
use Rattle.optra_prices.specs.ArcTerms.{ArcTerm}
use Rattle.optra_prices.specs.declared.numbering.BidTable.{BidTable}
use Rattle.optra_prices.specs.declared.numbering.Standing.{Standing}

-- a path goes through later and later nodes
path_short : (g : Graph) → IsForward g → (allows : ℕ → Bool) (n : ℕ) (p : List ℕ) → n < length g.ends → LeadsToEnd g allows n p → n + length p < length g.ends
path_short g forward allows n [] l h = omega arith
path_short g forward allows n (k ∷ p) l h =
    let up = forward.forward k h.0 in
    let within = forward.nodes k h.0 in
    let from = h.2 in
    let i = path_short g forward allows (to_of g k) p within h.3 in
    omega arith

abbrev IsSize : ℕ → ℤ → Type 0
IsSize j z = IsBetween (neg_ℤ (pos (1152921504606846976 * j))) (pos (1152921504606846976 * j)) z

path_size : (g : Graph) (allows : ℕ → Bool) (weight : ℕ → ℤ) → ((k : ℕ) → k < length g.arcs → IsWeight (weight k)) → (n : ℕ) (p : List ℕ) → LeadsToEnd g allows n p → IsSize (length p) (weight_of weight p)
path_size g allows weight small n [] h = (omega (arith, ints), omega (arith, ints))
path_size g allows weight small n (k ∷ p) h =
    let w = small k h.0 in
    let a = w.low in
    let b = w.high in
    let i = path_size g allows weight small (to_of g k) p h.3 in
    let c = i.0 in
    let d = i.1 in
    (omega (arith, ints), omega (arith, ints))

-- an element within the bounds, or the default
within_or : (xs : List ℤ) (k : ℕ) → All IsGroupPrice xs → IsGroupPrice (slice_index_or xs k (pos 0))
within_or [] k h = (omega (arith, ints), omega (arith, ints))
within_or (x ∷ xs) zero h = h 0 (pos 0) (omega arith)
within_or (x ∷ xs) (suc k) h = within_or xs k (λ j d l. h (suc j) d (omega arith))

pub weight_in : (arcs : List ArcTerm) (grouped : List ℤ) → All (λ arc. IsArcValue arc.value) arcs → All IsGroupPrice grouped → (k : ℕ) → k < length arcs → IsWeight (weight_by arcs grouped k)
weight_in arcs grouped values prices k l =
    let v = values k no_arc l in
    let p = within_or grouped (get_or arcs k no_arc).group prices in
    let a = v.0 in
    let b = v.1 in
    let c = p.0 in
    let d = p.1 in
    record { low = omega (arith, ints); high = omega (arith, ints) }

-- a term is less than 2^92 in size
pub term_size : (table : BidTable) (grouped : List ℤ) (standing : Standing) → IsSound table → All IsGroupPrice grouped → Stands table grouped standing → IsTermSize standing.term
term_size table grouped standing sound range stands = by stands.found
  where
    by : IsFound table.graph.now.dag (allows_by table.arcs) (weight_by table.arcs grouped) table.forced standing.path.items standing.term standing.stuck → IsTermSize standing.term
    by (inl none) = let z = none.term_is in (omega (arith, ints), omega (arith, ints))
    by (inr (inl nothing)) = let z = nothing.term_is in (omega (arith, ints), omega (arith, ints))
    by (inr (inr found)) =
        let n = sound.count in
        let small = λ (k : ℕ) (l : k < length table.graph.now.dag.arcs). weight_in table.arcs grouped sound.values range k (omega arith) in
        let short = path_short table.graph.now.dag sound.forward (allows_by table.arcs) 0 standing.path.items sound.forward.start found.best.path.leads in
        let few = sound.forward.few_nodes in
        let size = path_size table.graph.now.dag (allows_by table.arcs) (weight_by table.arcs grouped) small 0 standing.path.items found.best.path.leads in
        let sum = found.best.sum in
        let a = size.0 in
        let b = size.1 in
        (omega (arith, ints), omega (arith, ints))
