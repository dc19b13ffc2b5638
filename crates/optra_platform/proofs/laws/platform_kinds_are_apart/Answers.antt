use Rattle.std.proofs.Common.{refl}
use Rattle.optra_cert.proofs.ApartLemmas.{apart_from}
use Rattle.optra_platform.specs.PlatformTexts.{platform_texts}
use Rattle.optra_platform.proofs.laws.platform_kinds_are_apart.Goals as goal

pub returns : goal.returns
returns c = apart_from platform_texts.kinds refl
