use Rattle.std.proofs.Common.{◌≡◌, [], ◌∷◌, ◌++◌, length, string_bytes, true, ◌≤◌, Some, Err, subst}
use Rattle.std.specs.FinMap.{get}
use Rattle.optra_outside.specs.Shelf.{Answers}
use Rattle.optra_frame.specs.ContentsGot.{contents_of}
use Rattle.optra_frame.specs.Files.{Held, file_asked}
use Rattle.optra_frame.proofs.GetLemmas.{GetLeaves-trans, asked-more, held-more, ends_gets}
use Rattle.optra_frame.proofs.outside.get_files.Goals as goal

pub returns-in-Err-clause-fault : goal.returns-in-Err-clause-fault
returns-in-Err-clause-fault g c =
    let command = g.C.Command.means c.args.command.now in
    let before = g.S.Shelf.state c.args.shelf.now in
    let mid = g.S.Shelf.state c.gets.shelf in
    let now = g.S.Shelf.state c.get.new.self in
    let sofar = c.gets.invariant in
    let next : Some (file_asked c.in-Some.asked) ≡ command.next_file (contents_of c.gets.files) = rw c.in-Some.is at c.in_ok-asked.ensures.next in
    let answer : mid.tells ≡ true → Answers mid.files mid.limit (string_bytes c.in-Some.asked.name) (Err c.in-Err.why) =
    subst (λ name. mid.tells ≡ true → Answers mid.files mid.limit name (Err c.in-Err.why)) c.as_str.ensures.value c.in-Err.ensures.answer in
    rw c.of_get.ensures (ends_gets command before mid now (contents_of c.gets.files) c.in-Some.asked c.in-Err.why sofar.asked next sofar.leaves sofar.held c.in-Err.ensures.cause answer)

pub gets-preserved : goal.gets-preserved
gets-preserved g c =
    let command = g.C.Command.means c.args.command.now in
    let before = g.S.Shelf.state c.args.shelf.now in
    let mid = g.S.Shelf.state c.gets.shelf in
    let now = g.S.Shelf.state c.get.new.self in
    let sofar = c.gets.invariant in
    let held : Held = record { file = file_asked c.in-Some.asked; content = c.in-Ok.content.items } in
    let next : Some (file_asked c.in-Some.asked) ≡ command.next_file (contents_of c.gets.files) = rw c.in-Some.is at c.in_ok-asked.ensures.next in
    let pushed : contents_of c.push.new.self ≡ contents_of c.gets.files ++ held ∷ [] = c.in_ok-push.ensures in
    let one : mid.tells ≡ true → (get mid.files (string_bytes c.in-Some.asked.name) ≡ Some c.in-Ok.content.items) × (length c.in-Ok.content.items ≤ mid.limit) =
    subst (λ name. mid.tells ≡ true → (get mid.files name ≡ Some c.in-Ok.content.items) × (length c.in-Ok.content.items ≤ mid.limit)) c.as_str.ensures.value c.in-Ok.ensures.answer in
    record {
      leaves = GetLeaves-trans before mid now sofar.leaves c.in-Ok.ensures.leaves;
      asked = asked-more command (contents_of c.gets.files) (contents_of c.push.new.self) held pushed sofar.asked next;
      held = held-more before mid (contents_of c.gets.files) (contents_of c.push.new.self) held pushed sofar.leaves sofar.held one;
    }
