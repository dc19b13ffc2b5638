-- The files that a command got, as the code holds them.
use Rattle.optra_frame.specs.Files.{Contents, files_got}
use Rattle.optra_frame.specs.declared.files_got.FilesGot.{FilesGot}

-- the contents of the files, in order
abbrev pub contents_of : FilesGot → Contents
contents_of files = files_got files.got.items
