-- How many records a report has, and that it is empty where it has none.
use Rattle.std.proofs.Common.{◌≡◌, ◌+◌, ◌++◌, ℕ, List, [], ◌∷◌, length, map, refl, arith}
use Rattle.std.proofs.lemmas.List.{length-append, length-map}
use Rattle.std.proofs.lemmas.Bool.{ne_eqb}
use Rattle.std.proofs.lemmas.List.Elements.{Contains-get_or}
use Rattle.optra_network.specs.Net.{Net, IsProper, IsStation}
use Rattle.optra_bid.specs.declared.bids.Bid.{Bid}
use Rattle.optra_walk.specs.declared.Leg.{Leg}
use Rattle.optra_audit.specs.Reports.{Findings, IsEmpty, IsReport}
use Rattle.optra_audit.proofs.StayLemmas.{station_within}
use Rattle.optra_text.specs.AuditTexts.{clash_record, fault_record, found_records, over_record, revenue_records}
use Rattle.std.specs.Prelude.{All, slice_index_or}

-- one record for each
pub found-long : (net : Net) (findings : Findings) → length (found_records net findings) ≡ length findings.faults + length findings.clashes + length findings.overs
found-long net findings =
    let a = length-append (map fault_record findings.faults ++ map clash_record findings.clashes) (map (over_record net) findings.overs) in
    let b = length-append (map fault_record findings.faults) (map clash_record findings.clashes) in
    let f = length-map findings.faults fault_record in
    let c = length-map findings.clashes clash_record in
    let o = length-map findings.overs (over_record net) in
    omega arith

no_element : {X : Type 0} (xs : List X) → length xs ≡ 0 → xs ≡ []
no_element [] e = refl
no_element (x ∷ xs) e = absurd (omega arith)

pub none-found : (findings : Findings) → length findings.faults + length findings.clashes + length findings.overs ≡ 0 → IsEmpty findings
none-found findings e = record {
  faults = no_element findings.faults (omega arith);
  clashes = no_element findings.clashes (omega arith);
  overs = no_element findings.overs (omega arith);
}

-- where something was found, no revenue is printed
pub no-revenue : (net : Net) (bids : List Bid) (trains : List (List Leg)) (found : ℕ) → (found ≡ 0 → ⊥) → revenue_records net bids trains found ≡ []
no-revenue net bids trains found some = rw (ne_eqb found 0 some) refl

-- the stations of overs are those of the network
pub overs-within : (net : Net) (bids : List Bid) (trains : List (List Leg)) (findings : Findings) → IsProper net → IsReport net bids trains findings → All (λ over. IsStation net over.station) findings.overs
overs-within net bids trains findings proper report k d l =
    station_within net bids trains (slice_index_or findings.overs k d) proper ((report.overs.are (slice_index_or findings.overs k d)).0 (Contains-get_or findings.overs k d l))
