use Rattle.std.proofs.Common.{map, string_bytes}
use Rattle.clap.specs.Words.{app_of}
use Rattle.optra_text.proofs.Accepted.{refused, taken}
use Rattle.optra_text.proofs.words.matches_of.Goals as goal

pub returns-in-Ok : goal.returns-in-Ok
returns-in-Ok c = taken (app_of c.args.command) (map string_bytes c.args.words.now) c.in-Ok.matches c.requires c.in-Ok.ensures.kinds c.in-Ok.ensures.matches

pub returns-in-Err : goal.returns-in-Err
returns-in-Err c = refused (app_of c.args.command) (map string_bytes c.args.words.now) c.in-Err.error c.refusal.result c.requires c.in-Err.ensures.kinds (rw c.kind.ensures at c.refusal.ensures)
