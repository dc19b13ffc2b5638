use Rattle.std.proofs.Common.{◌≡◌, ◌+◌, ◌++◌, ◌∷◌, [], ℕ, suc, List, map, replicate, take, sym, ap, ◌∙◌, arith}
use Rattle.std.proofs.lemmas.List.{map-append, replicate-append-replicate}
use Rattle.optra_prices.proofs.NumberLemmas.{take_push}
use Rattle.optra_prices.proofs.rooms.unused.Goals as goal

pub loop-number-preserved : goal.loop-number-preserved
loop-number-preserved g c =
    let capacity = (g.F.RowFamily.rows_of c.args.rows.now c.args.net.now).capacity in
    let numbered = c.args.numbered.now.items in
    let n = c.loop-number.number in
    let row = c.at.result in
    let inv = c.loop-number.invariant in
    let is = c.in_ok-push.ensures in
    let one : n + 1 ≡ suc n = omega arith in
    let taken : take (n + 1) numbered ≡ take n numbered ++ row ∷ [] = ap (λ (k : ℕ). take k numbered) one ∙ take_push numbered n row c.at.ensures in
    record {
      uses = is.uses ∙ ap (λ (us : List ℕ). us ++ 0 ∷ []) inv.uses ∙ replicate-append-replicate n 1 0;
      capacities = is.capacities ∙ (λ i. inv.capacities i ++ c.cap.ensures i ∷ []) ∙ sym (ap (map capacity) taken ∙ map-append capacity (take n numbered) (row ∷ []));
    }
