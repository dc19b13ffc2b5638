-- What is printed so far, with what is left, is the whole.
use Rattle.std.proofs.Common.{◌≡◌, ◌++◌, map, drop}
use Rattle.optra_records.specs.Texts.{records_text}
use Rattle.optra_text.specs.CompressedTexts.{chain_record}
use Rattle.optra_text.proofs.compressed_times.print_links.Given as goal

abbrev pub invariant-links : goal.invariant-links
invariant-links l = l.printer ++ records_text (map chain_record (drop l.link-index l.links)) ≡ l.fn.printer ++ records_text (map chain_record l.links)
