use Rattle.std.proofs.Common.{refl}
use Rattle.optra_cert.proofs.ApartLemmas.{apart_from}
use Rattle.optra_cross.specs.CrossTexts.{cross_texts}
use Rattle.optra_cross.proofs.laws.cross_kinds_are_apart.Goals as goal

pub returns : goal.returns
returns c = apart_from cross_texts.kinds refl
