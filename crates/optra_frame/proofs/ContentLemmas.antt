-- The content of a role among files, from one of them on.
use Rattle.std.proofs.Common.{◌≡◌, ℕ, ◌+◌, ◌<◌, List, ◌∷◌, length, drop, get_or, true, false, Bool, if◌then◌else◌, ap, sym, ◌∙◌}
use Rattle.std.proofs.lemmas.List.{at_drop_more}
use Rattle.optra_frame.specs.Files.{same_role, content_of, files_got}
use Rattle.optra_frame.specs.declared.files.Role.{Role}
use Rattle.optra_frame.specs.declared.files.Got.{Got}

module _ (files : List Got) (role : Role) where
  step : (i : ℕ) (got : Got) (same : Bool) → i < length files → got ≡ get_or files i got → same_role got.asked.role role ≡ same
      → content_of (files_got (drop i files)) role ≡ (if same then got.content.items else content_of (files_got (drop (i + 1) files)) role)
  step i got same lt is e =
      at_drop_more (λ some. content_of (files_got some) role) files i got lt
      ∙ ap (λ g. content_of (files_got (g ∷ drop (i + 1) files)) role) (sym is)
      ∙ ap (λ b. if b then got.content.items else content_of (files_got (drop (i + 1) files)) role) e

  -- the file has the role, and none before it has
  pub content-found : (i : ℕ) (got : Got) → i < length files → got ≡ get_or files i got → same_role got.asked.role role ≡ true
      → content_of (files_got (drop i files)) role ≡ content_of (files_got files) role → got.content.items ≡ content_of (files_got files) role
  content-found i got lt is e sofar = sym (step i got true lt is e) ∙ sofar

  -- nor has it
  pub content-later : (i : ℕ) (got : Got) → i < length files → got ≡ get_or files i got → same_role got.asked.role role ≡ false
      → content_of (files_got (drop i files)) role ≡ content_of (files_got files) role → content_of (files_got (drop (i + 1) files)) role ≡ content_of (files_got files) role
  content-later i got lt is e sofar = sym (step i got false lt is e) ∙ sofar
