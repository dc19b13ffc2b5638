-- the files so far were put
use Rattle.std.proofs.Common.{◌≡◌, true, take}
use Rattle.optra_outside.specs.Shelf.{PutLeaves}
use Rattle.optra_frame.specs.Puts.{texts_of, put_in_order}
use Rattle.optra_frame.proofs.outside.put_all.Given as goal

abbrev pub invariant-loop-file : goal.invariant-loop-file
invariant-loop-file g l =
    let before = g.S.Shelf.state l.fn.shelf in
    let now = g.S.Shelf.state l.shelf in
    record {
      leaves : PutLeaves before now;
      held : now.tells ≡ true → now.files ≡ put_in_order (take l.file-index (texts_of l.files)) before.files;
    }
