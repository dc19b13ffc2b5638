use Rattle.std.proofs.Common.{◌∙◌, rules}
use Rattle.optra_frame.proofs.ContentLemmas.{content-found, content-later}
use Rattle.optra_frame.proofs.files_got.content_of.Goals as goal

pub returns-then-eq : goal.returns-then-eq
returns-then-eq c = c.deref.ensures.value ∙ content-found _ _ c.files.got-index c.got-item.result (search rules) c.got-item.is (search rules) c.files.invariant

pub files-preserved : goal.files-preserved
files-preserved c = content-later _ _ c.files.got-index c.got-item.result (search rules) c.got-item.is (search rules) c.files.invariant
