-- A version that is told stays, and else the file tells it or doesn't.
use Rattle.std.proofs.Common.{◌≡◌, ◌∙◌, [], ◌∷◌, sym, subst, Option, IfOk}
use Rattle.optra_frame.specs.ContentsGot.{contents_of}
use Rattle.optra_frame.specs.Files.{Held, file_asked}
use Rattle.optra_frame.specs.declared.version.Version.{Version}
use Rattle.optra_frame.proofs.VersionLemmas.{told-by, told-kept}
use Rattle.optra_frame.proofs.files_got.FilesGot.told_with.Goals as goal

pub returns-in-Some : goal.returns-in-Some
returns-in-Some c =
    let held : Held = record { file = file_asked c.args.asked.now; content = c.args.content.now } in
    sym (told-kept (contents_of c.args.self.now) (held ∷ []) c.in-Some.version (sym c.args.self.now.told_is ∙ c.in-Some.is))

pub returns-in-None : goal.returns-in-None
returns-in-None c =
    let held : Held = record { file = file_asked c.args.asked.now; content = c.args.content.now } in
    subst (λ (t : Option Version). IfOk c.told_by.result (λ told. told ≡ t)) (sym (told-by (contents_of c.args.self.now) held (sym c.args.self.now.told_is ∙ c.in-None.is))) c.told_by.ensures
