-- Legs that have entered keep their groups while rows get numbers and groups are added.
use Rattle.std.proofs.Common.{◌≡◌, ℕ, ◌*◌, ◌<◌, ◌≤◌, List, length, [], get_or, true, sym, ◌∙◌, subst, arith, ℤ, pos, negsuc}
use Rattle.std.specs.Prelude.{All, neg_ℤ, ◌*ℤ◌, unsigned_abs}
use Rattle.std.proofs.lemmas.Int.{ints, unsigned_abs-mul}
use Rattle.std.proofs.lemmas.List.{get_or_default}
use Rattle.optra_network.specs.Net.{Net}
use Rattle.optra_network.specs.declared.TypeId.{TypeId}
use Rattle.optra_bid.specs.Specs.{IsBetween}
use Rattle.optra_walk.specs.declared.Leg.{Leg}
use Rattle.optra_walk.specs.Families.{Rows}
use Rattle.optra_prices.specs.Tables.{no_arc, Extends, AreTouches, group_at, AreGroups, KeepsGroups}
use Rattle.optra_prices.specs.Makings.{IsGroupOf, IsHead, IsMaking, Grows}
use Rattle.optra_prices.specs.Standings.{Covers, IsMost}
use Rattle.optra_prices.specs.declared.making.Head.{Head}
use Rattle.optra_prices.specs.declared.making.Making.{Making}
use Rattle.optra_prices.specs.ArcTerms.{ArcTerm}
use Rattle.optra_prices.specs.declared.numbering.Groups.{Groups}
use Rattle.optra_prices.specs.declared.touch.Touch.{Touch}
use Rattle.optra_prices.proofs.NumberLemmas.{touches_kept, extends_more}

module _ {R : Type 0} (net : Net) (rows : Rows R) (used : TypeId → Leg → List R) (old new : List R) (before after : Groups) where
  group_kept : (kind : TypeId) (leg : Leg) (g : ℕ) → Extends old new → KeepsGroups before.starts.items before.touches after.starts.items after.touches
      → IsGroupOf rows used kind leg old before g → IsGroupOf rows used kind leg new after g
  group_kept kind leg g extends keeps is = record {
    within = let w = is.within in let m = keeps.more in omega arith;
    touches = subst (λ (touches : List Touch). AreTouches new (rows.uses kind leg) touches (used kind leg)) (sym (keeps.same g is.within))
        (touches_kept old new (rows.uses kind leg) extends (group_at before.starts.items before.touches g) (used kind leg) is.touches);
  }

  pub heads_kept : (heads : List Head) → Extends old new → KeepsGroups before.starts.items before.touches after.starts.items after.touches
      → All (IsHead net rows used old before) heads → All (IsHead net rows used new after) heads
  heads_kept heads extends keeps are k d l =
      let is = are k d l in
      record { usable = is.usable; group_is = group_kept _ _ _ extends keeps is.group_is }

pub groups_more : (a b c : Groups) → KeepsGroups a.starts.items a.touches b.starts.items b.touches → KeepsGroups b.starts.items b.touches c.starts.items c.touches
    → KeepsGroups a.starts.items a.touches c.starts.items c.touches
groups_more a b c h k = record {
  more = let m = h.more in let n = k.more in omega arith;
  same = λ g l. let m = h.more in k.same g (omega arith) ∙ h.same g l;
}

pub grows_more : {R : Type 0} (a b c : Making R) → Grows a b → Grows b c → Grows a c
grows_more a b c h k = record {
  extends = extends_more a.named.items b.named.items c.named.items h.extends k.extends;
  keeps = groups_more a.groups b.groups c.groups h.keeps k.keeps;
}

none : {X : Type 0} (P : X → Type 0) (xs : List X) → xs ≡ [] → All P xs
none P xs is = subst (All P) (sym is) (λ k d l. absurd (omega arith))

pub making_none : {R : Type 0} (net : Net) (rows : Rows R) (used : TypeId → Leg → List R) (making : Making R) → making.named.items ≡ [] → making.heads.items ≡ []
    → AreGroups making.groups.starts.items making.groups.touches → IsMaking net rows used making
making_none net rows used making no_rows no_heads groups = record {
  rows_are = none (λ row. rows.is_row row ≡ true) making.named.items no_rows;
  groups_are = groups;
  heads_are = none (IsHead net rows used making.named.items making.groups) making.heads.items no_heads;
}

-- an integer is no further from zero than its size
between_abs : (z : ℤ) (m : ℕ) → unsigned_abs z ≤ m → IsBetween (neg_ℤ (pos m)) (pos m) z
between_abs (pos n) m l = (omega (arith, ints), omega (arith, ints))
between_abs (negsuc n) m l = (omega (arith, ints), omega (arith, ints))

-- so are cents in thousandths
pub between_thousandths : (cents most : ℤ) (m : ℕ) → unsigned_abs cents ≤ m → most ≡ pos 1000 *ℤ pos m → IsBetween (neg_ℤ most) most (pos 1000 *ℤ cents)
between_thousandths cents most m l is =
    let size = unsigned_abs-mul (pos 1000) cents in
    subst (λ (z : ℤ). IsBetween (neg_ℤ z) z (pos 1000 *ℤ cents)) (sym is) (between_abs (pos 1000 *ℤ cents) (1000 * m) (omega arith))

-- no value exceeds the most
pub covers_all : (most : ℤ) (arcs : List ArcTerm) → IsMost most → ((k : ℕ) → k < length arcs → IsBetween (neg_ℤ most) most (get_or arcs k no_arc).value) → Covers most arcs
covers_all most arcs range each = record {
  range = range;
  values = λ k d l. subst (λ (arc : ArcTerm). IsBetween (neg_ℤ most) most arc.value) (sym (get_or_default arcs k d no_arc l)) (each k l);
}
