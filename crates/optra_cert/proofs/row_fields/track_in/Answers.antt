-- A field that is no text names nothing.
use Rattle.std.proofs.Common.{refl}
use Rattle.optra_cert.proofs.NameLemmas.{not_named, fails}
use Rattle.optra_cert.proofs.row_fields.track_in.Goals as goal

pub returns-in-Err : goal.returns-in-Err
returns-in-Err c = not_named c.args.field.now (fails c.args.field.now c.in-Err.ensures.cases.0 _ refl) c.args.net.now.track_names c.laws.ensures.built.names.names_of_tracks
