-- The test whether kinds of rows have different words.
use Rattle.std.specs.Prelude.{◌∷◌, [], ◌&&◌, not, true, Bool, List, bytes_eq}
use Rattle.std.specs.List.{list_all}
use Rattle.optra_cert.specs.RowTexts.{RowKind}

-- whether no two kinds have one word
abbrev pub are_apart : List RowKind → Bool
are_apart [] = true
are_apart (kind ∷ kinds) = list_all (λ (other : RowKind). not (bytes_eq kind.word other.word)) kinds && are_apart kinds
