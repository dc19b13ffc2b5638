-- What a run of puts leaves.
use Rattle.std.specs.Prelude.{◌≡◌, ℕ, ◌<◌, List, [], ◌∷◌, length, take, map, slice_index_or, true, string_bytes}
use Rattle.std.specs.FinMap.{insert}
use Rattle.optra_outside.specs.FileMap.{FileMap}
use Rattle.optra_outside.specs.Counts.{Rose}
use Rattle.optra_outside.specs.Shelf.{ShelfState, SameOthers}
use Rattle.optra_frame.specs.declared.files.FileText.{FileText}

-- the names and texts of files
abbrev pub texts_of : List FileText → List (List ℕ × List ℕ)
texts_of files = map (λ file. (string_bytes file.name, file.text.items)) files

-- the files after these texts are put, the first of them first
abbrev pub put_in_order : List (List ℕ × List ℕ) → FileMap → FileMap
put_in_order [] files = files
put_in_order (text ∷ texts) files = put_in_order texts (insert files text.0 text.1)

-- Where the shelf tells now, a first part of the texts is held, and all names but the next one are as after them.
pub record PutPart (before now : ShelfState) (texts : List (List ℕ × List ℕ)) : Type 0 where
  pub count : ℕ
  pub fewer : count < length texts
  pub held : now.tells ≡ true → SameOthers (put_in_order (take count texts) before.files) now.files (slice_index_or texts count ([], [])).0
  pub cause : Rose before.write_faults now.write_faults
