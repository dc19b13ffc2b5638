-- The printed summary of a demo: what was made, how its plan ended, and the verdict on the plan's certificate.
use Rattle.std.specs.Prelude.{ℕ, ℤ, List, [], ◌∷◌, ◌++◌, length, codes}
use Rattle.std.specs.Fmt.{decimal}
use Rattle.optra_network.specs.Net.{Net}
use Rattle.optra_records.specs.Reading.{Record}
use Rattle.optra_records.specs.Texts.{records_text}
use Rattle.optra_text.specs.PlanTexts.{head_records}
use Rattle.optra_text.specs.VerdictTexts.{verdict_record}
use Rattle.optra_text.specs.declared.verdicts.VerdictView.{VerdictView}

-- demo,<seed>,<size>
abbrev pub demo_record : ℕ → ℕ → Record
demo_record seed size = codes "demo" ∷ decimal seed ∷ decimal size ∷ []

-- how many stations, tracks and types the network has, and how many bids there are
abbrev pub count_records : Net → ℕ → List Record
count_records net bids =
    (codes "stations" ∷ decimal (length net.stations) ∷ []) ∷ (codes "tracks" ∷ decimal (length net.tracks) ∷ [])
    ∷ (codes "types" ∷ decimal (length net.types) ∷ []) ∷ (codes "bids" ∷ decimal bids ∷ []) ∷ []

-- the four records of the plan stand between the counts and the verdict
abbrev pub demo_records : ℕ → ℕ → Net → ℕ → ℤ → ℤ → ℕ → VerdictView → List Record
demo_records seed size net bids revenue bound nodes verdict =
    demo_record seed size ∷ (count_records net bids ++ (head_records revenue bound nodes ++ verdict_record verdict ∷ []))

-- the printed demo
unfoldable pub demo_text_of : ℕ → ℕ → Net → ℕ → ℤ → ℤ → ℕ → VerdictView → List ℕ
demo_text_of seed size net bids revenue bound nodes verdict = records_text (demo_records seed size net bids revenue bound nodes verdict)
