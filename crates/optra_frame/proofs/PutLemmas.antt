-- Lemmas on puts in a row.
use Rattle.std.proofs.Common.{◌≡◌, ℕ, ◌+◌, ◌≤◌, ◌<◌, List, [], ◌∷◌, ◌++◌, length, take, get_or, true, is_err, false, refl, sym, ap, ◌∙◌, subst, arith, Result, Ok, Err, IsErr, OnErr, OnOk}
use Rattle.std.proofs.lemmas.List.{take_more}
use Rattle.std.specs.FinMap.{insert}
use Rattle.optra_outside.specs.FileMap.{FileMap}
use Rattle.optra_outside.specs.Counts.{Rose}
use Rattle.optra_outside.specs.Shelf.{ShelfState, GetLeaves, PutLeaves, SameOthers}
use Rattle.optra_frame.specs.Outside.{PutAll, RunLeaves}
use Rattle.optra_frame.specs.Puts.{put_in_order, PutPart}

pub PutLeaves-trans : (a b c : ShelfState) → PutLeaves a b → PutLeaves b c → PutLeaves a c
PutLeaves-trans a b c p q = record {
  told = λ t. p.told (q.told t);
  limit = q.limit ∙ p.limit;
  read_faults = q.read_faults ∙ p.read_faults;
  write_faults = omega (arith, p.write_faults, q.write_faults);
  absences = q.absences ∙ p.absences;
  overlong = q.overlong ∙ p.overlong;
}

put_in_order-push : (texts : List (List ℕ × List ℕ)) (text : List ℕ × List ℕ) (files : FileMap) → put_in_order (texts ++ text ∷ []) files ≡ insert (put_in_order texts files) text.0 text.1
put_in_order-push [] text files = refl
put_in_order-push (t ∷ texts) text files = put_in_order-push texts text (insert files t.0 t.1)

-- one more text was put
pub put-more : (before mid now : ShelfState) (texts : List (List ℕ × List ℕ)) (at : ℕ) (text : List ℕ × List ℕ) → at < length texts → get_or texts at ([], []) ≡ text
    → (mid.tells ≡ true → mid.files ≡ put_in_order (take at texts) before.files) → (now.tells ≡ true → mid.tells ≡ true) → (now.tells ≡ true → now.files ≡ insert mid.files text.0 text.1)
    → now.tells ≡ true → now.files ≡ put_in_order (take (at + 1) texts) before.files
put-more before mid now texts at text lt is held told ok tells =
    let more : take (at + 1) texts ≡ take at texts ++ text ∷ [] = take_more texts at ([], []) lt ∙ ap (λ t. take at texts ++ t ∷ []) is in
    rw (more, put_in_order-push) (ok tells ∙ ap (λ m. insert m text.0 text.1) (held (told tells)))

-- the next text was not put, or in part
pub put-part : {T E : Type 0} (before mid now : ShelfState) (texts : List (List ℕ × List ℕ)) (at : ℕ) (name : List ℕ) (result : Result T E) → IsErr result → at < length texts → (get_or texts at ([], [])).0 ≡ name
    → (mid.tells ≡ true → mid.files ≡ put_in_order (take at texts) before.files) → (now.tells ≡ true → mid.tells ≡ true) → (now.tells ≡ true → SameOthers mid.files now.files name)
    → before.write_faults ≤ mid.write_faults → Rose mid.write_faults now.write_faults → OnErr result (PutPart before now texts)
put-part before mid now texts at name (Ok x) err lt is held told others later rose = tt
put-part before mid now texts at name (Err e) err lt is held told others later rose = record {
  count = at;
  fewer = lt;
  held = λ tells. rw (is, ← (held (told tells))) (others tells);
  cause = omega arith;
}

-- gets and then puts leave this
pub run-leaves : (before mid now : ShelfState) → GetLeaves before mid → PutLeaves mid now → RunLeaves before now
run-leaves before mid now got put = record {
  told = λ tells. sym got.tells ∙ put.told tells;
  limit = put.limit ∙ got.limit;
  read_faults = omega (arith, got.read_faults, put.read_faults);
  write_faults = omega (arith, got.write_faults, put.write_faults);
  absences = omega (arith, got.absences, put.absences);
  overlong = omega (arith, got.overlong, put.overlong);
}

-- a part that was put after the gets was put since before them
pub part-since : (before mid now : ShelfState) (texts : List (List ℕ × List ℕ)) → GetLeaves before mid → PutPart mid now texts → PutPart before now texts
part-since before mid now texts got part = record {
  count = part.count;
  fewer = part.fewer;
  held = λ tells. subst (λ (files : FileMap). SameOthers (put_in_order (take part.count texts) files) now.files (get_or texts part.count ([], [])).0) got.files (part.held tells);
  cause = subst (λ (count : ℕ). Rose count now.write_faults) got.write_faults part.cause;
}

-- what an answer says, where there is no error
pub on-ok : {T E : Type 0} (result : Result T E) (P : Type 0) → is_err result ≡ false → OnOk result P → P
on-ok (Ok x) P is says = says
on-ok (Err e) P is says = absurd (cc is)

-- all that was put after the gets was put since before them
pub all-since : (before mid now : ShelfState) (texts : List (List ℕ × List ℕ)) → GetLeaves before mid → PutAll mid now texts → PutAll before now texts
all-since before mid now texts got put tells = put tells ∙ ap (put_in_order texts) got.files

-- what an error says, where there is one
pub on-err : {T E : Type 0} (result : Result T E) (P : Type 0) → is_err result ≡ true → OnErr result P → P
on-err (Ok x) P is says = absurd (cc is)
on-err (Err e) P is says = says
