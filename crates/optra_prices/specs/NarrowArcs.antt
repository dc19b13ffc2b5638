-- How the arcs of a bid's graph are kept in few bytes: most have their value in 32 bits, and their mark tells the group and whether they may be taken.
use Rattle.std.specs.Prelude.{◌≡◌, ℕ, ◌-◌, ◌<◌, Bool, true, cond, List, ◌++◌, map, nat_lt, All, sum_by}
use Rattle.std.specs.Prelude.{ℤ, pos, ◌*ℤ◌, if◌then◌else◌}
use Rattle.optra_prices.specs.ArcTerms.{ArcTerm}
use Rattle.optra_prices.specs.declared.narrow_arc.NarrowArc.{NarrowArc}

-- a mark below 2^31 is the group of an arc that may be taken, and another one is greater by 2^31
abbrev pub is_open : ℕ → Bool
is_open mark = nat_lt mark 2147483648

abbrev pub group_of : ℕ → ℕ
group_of mark = if is_open mark then mark else mark - 2147483648

-- the arc that a narrow one stands for
abbrev pub term_of : NarrowArc → ArcTerm
term_of arc = record { value = pos 1000 *ℤ arc.cents; group = group_of arc.mark; allowed = is_open arc.mark }

-- the narrow arcs and then the others
abbrev pub terms_of : List NarrowArc → List ArcTerm → List ArcTerm
terms_of narrow wide = map term_of narrow ++ wide

-- the groups of the arcs are below a number
abbrev pub AreBelow : ℕ → List NarrowArc → Type 0
AreBelow groups narrow = All (λ arc. group_of arc.mark < groups) narrow

-- all arcs may be taken
abbrev pub AreOpen : List NarrowArc → Type 0
AreOpen narrow = All (λ arc. is_open arc.mark ≡ true) narrow

-- and all of these
abbrev pub AreAllowed : List ArcTerm → Type 0
AreAllowed arcs = All (λ arc. arc.allowed ≡ true) arcs

-- 1 for an arc that may not be taken
abbrev pub closed_one : Bool → ℕ
closed_one allowed = cond allowed 0 1

-- how many of the arcs may not be taken
abbrev pub closed_in : List NarrowArc → ℕ
closed_in narrow = sum_by (λ arc. closed_one (is_open arc.mark)) narrow

-- what is kept of narrow arcs: their groups are below a number, and so many may not be taken
pub record AreListed (narrow : List NarrowArc) (groups closed : ℕ) : Type 0 where
  pub below : AreBelow groups narrow
  pub closed_is : closed ≡ closed_in narrow

-- the arc, where it may be taken or not
abbrev pub with_mark : ArcTerm → Bool → ArcTerm
with_mark arc mark = record { value = arc.value; group = arc.group; allowed = mark }

-- arcs, and the prices of the groups that they touch
pub record PricedArcs : Type 0 where
  pub arcs : List ArcTerm
  pub grouped : List ℤ

abbrev pub priced_arcs : List ArcTerm → List ℤ → PricedArcs
priced_arcs arcs grouped = record { arcs = arcs; grouped = grouped }
