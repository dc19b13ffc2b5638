-- The version that is told is that of the tables.
use Rattle.std.proofs.Common.{◌∙◌}
use Rattle.std.specs.Prelude.{unwrap_or}
use Rattle.optra_frame.specs.ContentsGot.{contents_of}
use Rattle.optra_frame.proofs.VersionLemmas.{version-told}
use Rattle.optra_frame.proofs.files_got.FilesGot.version.Goals as goal

pub returns : goal.returns
returns c =
    c.unwrap_or.ensures ∙ (λ i. unwrap_or (c.args.self.now.told_is i) (c.args.self.now.untold_is i)) ∙ version-told (contents_of c.args.self.now)
