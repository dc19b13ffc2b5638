-- The printed report on a timetable: what is wrong with it, how much that is, and the revenue where nothing is.
use Rattle.std.specs.Prelude.{ℕ, ◌+◌, List, [], ◌∷◌, ◌++◌, map, length, Some, nat_eq, if◌then◌else◌, codes}
use Rattle.std.specs.Fmt.{decimal, signed_decimal}
use Rattle.optra_network.specs.Net.{Net, halt_max_of}
use Rattle.optra_bid.specs.declared.bids.Bid.{Bid}
use Rattle.optra_walk.specs.declared.Leg.{Leg}
use Rattle.optra_walk.specs.Choices.{revenue_of}
use Rattle.optra_records.specs.Reading.{Record}
use Rattle.optra_records.specs.Texts.{records_text}
use Rattle.optra_audit.specs.declared.Clash.{Clash}
use Rattle.optra_audit.specs.declared.Fault.{Fault}
use Rattle.optra_audit.specs.declared.FaultCode.{FaultCode}
use Rattle.optra_audit.specs.declared.FaultCode.TheVariants as faults
use Rattle.optra_audit.specs.declared.Over.{Over}
use Rattle.optra_audit.specs.Reports.{Findings}
use Rattle.optra_audit.specs.Trains.{choice_of}
use Rattle.optra_text.specs.PlanTexts.{station_text}

-- the word of a code
abbrev pub code_word : FaultCode → List ℕ
code_word faults.Origin = codes "origin"
code_word faults.Start = codes "start"
code_word faults.Depart = codes "depart"
code_word faults.Kind = codes "kind"
code_word faults.Place = codes "place"
code_word faults.Time = codes "time"
code_word faults.Mode = codes "mode"
code_word faults.Stop = codes "stop"
code_word faults.Wait = codes "wait"
code_word faults.Early = codes "early"
code_word faults.Last = codes "last"
code_word faults.Stops = codes "stops"
code_word faults.Destination = codes "destination"
code_word faults.Arrive = codes "arrive"

-- fault,<bid number>,<leg number>,<word>; numbers count from 1
abbrev pub fault_record : Fault → Record
fault_record fault = codes "fault" ∷ decimal (fault.bid + 1) ∷ decimal (fault.leg + 1) ∷ code_word fault.code ∷ []

-- crossing or headway, and the numbers of both legs
abbrev pub clash_word : Clash → List ℕ
clash_word clash = if clash.crossing then codes "crossing" else codes "headway"

abbrev pub clash_record : Clash → Record
clash_record clash =
    clash_word clash ∷ decimal (clash.bid + 1) ∷ decimal (clash.leg + 1) ∷ decimal (clash.other_bid + 1) ∷ decimal (clash.other_leg + 1) ∷ []

-- halts,<station>,<minute>,<standing>,<limit>
abbrev pub over_record : Net → Over → Record
over_record net over =
    codes "halts" ∷ station_text net (Some over.station) ∷ decimal over.minute ∷ decimal over.standing ∷ decimal (halt_max_of net over.station) ∷ []

-- all that was found
abbrev pub found_records : Net → Findings → List Record
found_records net findings = map fault_record findings.faults ++ map clash_record findings.clashes ++ map (over_record net) findings.overs

-- faults,<number of records before>
abbrev pub faults_record : ℕ → Record
faults_record count = codes "faults" ∷ decimal count ∷ []

-- the revenue, where nothing was found
abbrev pub revenue_records : Net → List Bid → List (List Leg) → ℕ → List Record
revenue_records net bids trains found =
    if nat_eq found 0 then (codes "revenue" ∷ signed_decimal (revenue_of net bids (choice_of trains)) ∷ []) ∷ [] else []

-- the text of a report on the trains of a timetable
unfoldable pub audit_text_of : Net → List Bid → List (List Leg) → Findings → List ℕ
audit_text_of net bids trains findings =
    let found = found_records net findings in
    records_text (found ++ faults_record (length found) ∷ revenue_records net bids trains (length found))
