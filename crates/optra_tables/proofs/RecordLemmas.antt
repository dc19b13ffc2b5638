-- Names, from what the code tests.
use Rattle.std.proofs.Common.{◌≡◌, ◌&&◌, Bool, true, false, None, refl}
use Rattle.std.specs.Str.{IsUtf8}
use Rattle.optra_network.specs.Names.{is_plain}
use Rattle.optra_records.specs.Reading.{Field}
use Rattle.optra_records.proofs.CanonicalLemmas.{is_utf8-not}
use Rattle.optra_tables.specs.Fields.{name_of}

no_way : (x y z : Bool) → (x && y && false && z) ≡ false
no_way true true z = refl
no_way true false z = refl
no_way false y z = refl

-- bytes that aren't UTF-8 are no name
pub name_none : (bytes : Field) → ¬ (IsUtf8 bytes) → None ≡ name_of bytes
name_none bytes other = rw (is_utf8-not bytes other, no_way _ _ (is_plain bytes)) refl
