-- A put that failed leaves a first part of the reply's files, and a write that failed a first part of its text.
use Rattle.std.proofs.Common.{inl, inr, refl, rules}
use Rattle.optra_frame.specs.ContentsGot.{contents_of}
use Rattle.optra_frame.specs.Outside.{PutAll}
use Rattle.optra_frame.specs.Puts.{PutPart, texts_of}
use Rattle.optra_frame.proofs.PutLemmas.{all-since, on-err, on-ok, part-since, run-leaves}
use Rattle.optra_frame.proofs.entry.perform.Goals as goal

pub returns-then-is_err-clause-fault : goal.returns-then-is_err-clause-fault
returns-then-is_err-clause-fault g c err err' =
    let before = g.S.Shelf.state c.args.shelf.now in
    let mid = g.S.Shelf.state c.get_files.new.shelf in
    let now = g.S.Shelf.state c.put_all.new.shelf in
    let puts = texts_of c.in_ok-answer.answer.puts.items in
    let part : PutPart mid now puts = on-err c.put_all.result (PutPart mid now puts) (search (rules, c.if-is_err.true)) (rw c.deref.ensures.value at c.put_all.ensures.part) in
    record {
      contents = contents_of c.in_ok-files.files;
      status = c.in_ok-answer.answer.status;
      text = c.in_ok-answer.answer.text.items;
      puts = puts;
      replied = record {
        whole = c.in_ok-files.ensures.whole;
        held = c.in_ok-files.ensures.held;
        replies = c.in_ok-answer.ensures.ok;
      };
      shelf = run-leaves before mid now c.in_ok-files.ensures.leaves c.put_all.ensures.leaves;
      cause = inl (record { part = part-since before mid now puts c.in_ok-files.ensures.leaves part; out = refl });
    }

pub returns-clause-fault : goal.returns-clause-fault
returns-clause-fault g c err err' =
    let before = g.S.Shelf.state c.args.shelf.now in
    let mid = g.S.Shelf.state c.get_files.new.shelf in
    let now = g.S.Shelf.state c.put_all.new.shelf in
    let puts = texts_of c.in_ok-answer.answer.puts.items in
    let put : PutAll mid now puts = on-ok c.put_all.result (PutAll mid now puts) (search (rules, c.if-is_err.false)) (rw c.deref.ensures.value at c.put_all.ensures.ok) in
    record {
      contents = contents_of c.in_ok-files.files;
      status = c.in_ok-answer.answer.status;
      text = c.in_ok-answer.answer.text.items;
      puts = puts;
      replied = record {
        whole = c.in_ok-files.ensures.whole;
        held = c.in_ok-files.ensures.held;
        replies = c.in_ok-answer.ensures.ok;
      };
      shelf = run-leaves before mid now c.in_ok-files.ensures.leaves c.put_all.ensures.leaves;
      cause = inr (record {
        put = all-since before mid now puts c.in_ok-files.ensures.leaves put;
        part = rw c.deref-2.ensures.value at c.in-Err.ensures.writes.part;
        cause = c.in-Err.ensures.writes.cause;
      });
    }
