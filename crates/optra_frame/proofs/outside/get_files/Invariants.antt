-- the files so far were asked for one after the other, and were held
use Rattle.std.proofs.Common.{◌≡◌, ◌-◌, true, length}
use Rattle.optra_outside.specs.Shelf.{GetLeaves}
use Rattle.optra_frame.specs.ContentsGot.{contents_of}
use Rattle.optra_frame.specs.Files.{HoldsAll}
use Rattle.optra_frame.specs.Gets.{AreAsked}
use Rattle.optra_frame.proofs.outside.get_files.Given as goal

abbrev pub invariant-gets : goal.invariant-gets
invariant-gets g l =
    let before = g.S.Shelf.state l.fn.shelf in
    record {
      leaves : GetLeaves before (g.S.Shelf.state l.shelf);
      asked : AreAsked (g.C.Command.means l.command) (contents_of l.files);
      held : before.tells ≡ true → HoldsAll before (contents_of l.files);
    }

abbrev pub decreases-gets : goal.decreases-gets
decreases-gets g l = 16 - length (contents_of l.files)
