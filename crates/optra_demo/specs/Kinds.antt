-- The three train types of a demo.
use Rattle.std.specs.Prelude.{ℕ, zero, suc, List, [], ◌∷◌, codes}
use Rattle.optra_demo.specs.declared.kinds.Kind.{Kind}
use Rattle.optra_demo.specs.declared.kinds.Kind.TheVariants.{Ic, Re, Fr}

abbrev pub all_kinds : List Kind
all_kinds = Ic ∷ Re ∷ Fr ∷ []

-- the type at a position
abbrev pub kind_at : ℕ → Kind
kind_at zero = Ic
kind_at (suc zero) = Re
kind_at (suc (suc n)) = Fr

abbrev pub kind_name : Kind → List ℕ
kind_name Ic = codes "ic"
kind_name Re = codes "re"
kind_name Fr = codes "fr"

-- the minutes that it takes beyond those of a segment
abbrev pub extra_of : Kind → ℕ
extra_of Ic = 0
extra_of Re = 2
extra_of Fr = 4
