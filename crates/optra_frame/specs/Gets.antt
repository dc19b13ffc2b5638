-- What a run of gets answers. Which file is asked for next depends on those that were got before it.
use Rattle.std.specs.Prelude.{◌≡◌, ℕ, ◌<◌, List, [], ◌∷◌, ◌++◌, length, true, ⊤, Some, None, IsSomeAnd}
use Rattle.std.specs.FinMap.{get}
use Rattle.optra_outside.specs.Counts.{Rose}
use Rattle.optra_outside.specs.Shelf.{ShelfState}
use Rattle.optra_outside.specs.declared.shelves.ShelfError.{ShelfError}
use Rattle.optra_outside.specs.declared.shelves.ShelfError.TheVariants.{Absent, Failed, TooLong}
use Rattle.optra_frame.specs.declared.files.Role.{Role}
use Rattle.optra_frame.specs.Files.{Contents, HoldsAll}
use Rattle.optra_frame.specs.Commands.{Meaning}

-- After the first contents, the files of the others were asked for, one after the other.
abbrev pub Follows : Meaning → Contents → Contents → Type 0
Follows command first [] = ⊤
Follows command first (held ∷ rest) = (command.next_file first ≡ Some held.file) × Follows command (first ++ held ∷ []) rest

-- The files of the contents were asked for, one after the other.
abbrev pub AreAsked : Meaning → Contents → Type 0
AreAsked command contents = Follows command [] contents

-- These are the contents of all files that the command gets.
pub record AreWhole (command : Meaning) (contents : Contents) : Type 0 where
  pub asked : AreAsked command contents
  pub no_more : command.next_file contents ≡ None

-- The name is that of the next file after these.
abbrev pub IsNext : Meaning → Contents → List ℕ → Type 0
IsNext command contents name = (role : Role) × (command.next_file contents ≡ Some (record { role = role; name = name }))

-- The get of this name was refused for this reason, with a cause.
-- Where the shelf tells, each name before it is held, within the limit.
pub record Refuses (command : Meaning) (before now : ShelfState) (why : ShelfError) (name : List ℕ) : Type 0 where
  pub contents : Contents
  pub asked : AreAsked command contents
  pub next : IsNext command contents name
  pub failed : why ≡ Failed → Rose before.read_faults now.read_faults
  pub absent : why ≡ Absent → Rose before.absences now.absences × (before.tells ≡ true → get before.files name ≡ None)
  pub too_long : why ≡ TooLong → Rose before.overlong now.overlong × (before.tells ≡ true → IsSomeAnd (get before.files name) (λ content. before.limit < length content))
  pub earlier : before.tells ≡ true → HoldsAll before contents
