-- no file before this one has the role
use Rattle.std.proofs.Common.{◌≡◌, drop}
use Rattle.optra_frame.specs.Files.{content_of, files_got}
use Rattle.optra_frame.proofs.files_got.content_of.Given as goal

abbrev pub invariant-files : goal.invariant-files
invariant-files l = content_of (files_got (drop l.got-index l.files)) l.role ≡ content_of (files_got l.files) l.role
