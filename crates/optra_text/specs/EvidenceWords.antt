-- Which words are the form of the program that gives evidence, and what they ask for.
use Rattle.std.specs.Prelude.{ℕ, true, false, List, Option, Some, codes}
use Rattle.clap.specs.Words.{App, with_rule, first_of}
use Rattle.optra_text.specs.CommandForms.{Word, option_rule, rows_given, tables_app}
use Rattle.optra_text.specs.Words.{◌>>=◌, needed_path, number_or, tables_given}
use Rattle.optra_text.specs.declared.evidence_words.EvidenceWords.{EvidenceWords}

-- --net DIR --bids FILE --stops FILE --cert FILE [--steps K]
abbrev pub evidence_app : App
evidence_app = with_rule (with_rule (tables_app (codes "optra_evidence")) (option_rule (codes "cert") true)) (option_rule (codes "steps") false)

-- What the words ask for, where they are the form: its options, with steps from 0 to 1,000, and 0 where they aren't given.
unfoldable pub evidence_words : List Word → Option EvidenceWords
evidence_words words = do
  rows ← rows_given evidence_app words
  tables ← tables_given rows
  cert ← needed_path (first_of (codes "cert") rows)
  steps ← number_or 0 0 1000 (first_of (codes "steps") rows)
  Some (record { net = tables.net; bids = tables.bids; stops = tables.stops; cert = cert; steps = steps })
