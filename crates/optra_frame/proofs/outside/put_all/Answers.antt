use Rattle.std.proofs.Common.{◌≡◌, ℕ, List, [], ◌<◌, length, get_or, string_bytes, true, ap, sym, ◌∙◌, rules}
use Rattle.std.proofs.lemmas.List.{length-map, get_or-map}
use Rattle.std.specs.FinMap.{insert}
use Rattle.optra_outside.specs.Shelf.{SameOthers}
use Rattle.optra_frame.specs.Puts.{texts_of}
use Rattle.optra_frame.specs.declared.files.FileText.{FileText}
use Rattle.optra_frame.proofs.PutLemmas.{PutLeaves-trans, put-more, put-part}
use Rattle.optra_frame.proofs.outside.put_all.Goals as goal

abbrev one_text : FileText → List ℕ × List ℕ
one_text file = (string_bytes file.name, file.text.items)

pub loop-file-preserved : goal.loop-file-preserved
loop-file-preserved g c =
    let before = g.S.Shelf.state c.args.shelf.now in
    let mid = g.S.Shelf.state c.loop-file.shelf in
    let now = g.S.Shelf.state c.put.new.self in
    let texts = texts_of c.args.files.now in
    let at = c.loop-file.file-index in
    let text : List ℕ × List ℕ = (string_bytes c.file-item.result.name, c.file-item.result.text.items) in
    let inside : at < length texts = rw length-map (search rules) in
    let is : get_or texts at ([], []) ≡ text = get_or-map one_text c.args.files.now at c.file-item.result ([], []) (search rules) ∙ ap one_text (sym c.file-item.is) in
    let ok : now.tells ≡ true → now.files ≡ insert mid.files text.0 text.1 = λ told. rw (← c.as_str.ensures.value, ← c.deref.ensures.value) (c.in_ok-put.ensures.ok told) in
    record {
      leaves = PutLeaves-trans before mid now c.loop-file.invariant.leaves c.put.ensures.leaves;
      held = put-more before mid now texts at text inside is c.loop-file.invariant.held c.put.ensures.leaves.told ok;
    }

pub returns-in_err-put-clause-part : goal.returns-in_err-put-clause-part
returns-in_err-put-clause-part g c =
    let before = g.S.Shelf.state c.args.shelf.now in
    let mid = g.S.Shelf.state c.loop-file.shelf in
    let now = g.S.Shelf.state c.put.new.self in
    let texts = texts_of c.args.files.now in
    let at = c.loop-file.file-index in
    let name = string_bytes c.file-item.result.name in
    let inside : at < length texts = rw length-map (search rules) in
    let is : (get_or texts at ([], [])).0 ≡ name = ap (λ (t : List ℕ × List ℕ). t.0) (get_or-map one_text c.args.files.now at c.file-item.result ([], []) (search rules)) ∙ ap (λ (f : FileText). string_bytes f.name) (sym c.file-item.is) in
    let failed = c.in_err-put.ensures.failed in
    let others : now.tells ≡ true → SameOthers mid.files now.files name = rw (← c.as_str.ensures.value) failed.others in
    put-part before mid now texts at name _ c.from_residual.ensures.0 inside is c.loop-file.invariant.held c.put.ensures.leaves.told others c.loop-file.invariant.leaves.write_faults failed.cause
