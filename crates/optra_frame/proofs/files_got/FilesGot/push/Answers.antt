-- The version that is told is that of the files with the one that is pushed.
use Rattle.std.proofs.Common.{◌≡◌, ◌∙◌, [], ◌∷◌, ◌++◌, ℕ, List, sym, ap}
use Rattle.std.proofs.lemmas.List.{map-append}
use Rattle.optra_frame.specs.ContentsGot.{contents_of}
use Rattle.optra_frame.specs.Files.{file_asked, file_got, files_got}
use Rattle.optra_frame.specs.VersionsTold.{told_in}
use Rattle.optra_frame.specs.declared.files.Got.{Got}
use Rattle.optra_frame.proofs.files_got.FilesGot.push.Goals as goal

pub invariant_of-self-2 : goal.invariant_of-self-2
invariant_of-self-2 c =
    let old = c.args.self.now.got.items in
    let got : Got = record { asked = c.args.asked; content = c.args.content } in
    record {
      told_is = c.in_ok-told.ensures
          ∙ ap (λ (bytes : List ℕ). told_in (files_got old ++ record { file = file_asked c.args.asked; content = bytes } ∷ [])) c.deref.ensures.value
          ∙ ap told_in (sym (map-append file_got old (got ∷ [])))
          ∙ ap (λ (items : List Got). told_in (files_got items)) (sym c.in_ok-push.ensures.items);
      untold_is = c.args.self.now.untold_is;
    }
