-- What a leaf says of a bid, and the greatest of what leaves say, in whole cents.
use Rattle.std.specs.Prelude.{◌≡◌, ℕ, Bool, true, false, List, length, All, Contains, Option, None, Some, IfSome, IsSomeAnd, cond, slice_get, slice_index_or}
use Rattle.std.specs.Prelude.{ℤ, pos, ◌-ℤ◌}
use Rattle.std.specs.Option.{option_map}
use Rattle.optra_network.specs.Net.{Net}
use Rattle.optra_bid.specs.Specs.{IsBetween}
use Rattle.optra_bid.specs.declared.bids.Bid.{Bid}
use Rattle.optra_walk.specs.Families.{Rows}
use Rattle.optra_node.specs.declared.Decision.{Decision}
use Rattle.optra_node.specs.declared.Item.{Item}
use Rattle.optra_node.specs.declared.Item.TheVariants.{Split, NoWalk, Forced, Priced}
use Rattle.optra_node.specs.Duals.{PriceList, whole_cents}
use Rattle.optra_node.specs.Evidence.{IsServedAt, IsLeftAt, IsSaidWithin}
use Rattle.optra_rests.specs.Rests.{greater_of}
use Rattle.optra_evidence.specs.declared.figures.Figures.{Figures}

-- the figures of no leaf
abbrev pub nothing_said : Figures
nothing_said = record { served = None; left = None }

-- the greater of each two
abbrev pub raised : Figures → Figures → Figures
raised old said = record { served = greater_of old.served said.served; left = greater_of old.left said.left }

-- the first less the second; none where either is missing
abbrev pub less_of : Option ℤ → Option ℤ → Option ℤ
less_of None b = None
less_of (Some a) None = None
less_of (Some a) (Some b) = Some (a -ℤ b)

-- so many whole cents, of a number of a kind in thousandths of a cent
abbrev pub IsInCents : (Option ℤ → Type 0) → Option ℤ → Type 0
IsInCents Says cents = (said : Option ℤ) × Says said × (cents ≡ option_map whole_cents said)

-- at most 2^123, above or below zero
abbrev pub IsFigureSize : ℤ → Type 0
IsFigureSize n = IsBetween (pos 0 -ℤ pos 10633823966279326983230456482242756608) (pos 10633823966279326983230456482242756608) n

pub record AreSmall (figures : Figures) : Type 0 where
  pub served : IfSome figures.served IsFigureSize
  pub left : IfSome figures.left IsFigureSize

-- what a leaf says of the bid at the prices
pub record IsSaid {R : Type 0} (net : Net) (rows : Rows R) (bids : List Bid) (node : List Decision) (prices : PriceList R) (number : ℕ) (bid : Bid) (said : Figures) : Type 0 where
  pub served : IsInCents (IsServedAt net rows bids node prices number bid) said.served
  pub left : IsInCents (IsLeftAt net rows bids node prices number) said.left
  pub small : AreSmall said

-- the figures raised to what a leaf says
abbrev pub IsHeard : {R : Type 0} → Net → Rows R → List Bid → List Decision → PriceList R → ℕ → Bid → Figures → Figures → Type 0
IsHeard net rows bids node prices number bid old new = (said : Figures) × IsSaid net rows bids node prices number bid said × (new ≡ raised old said)

-- the figures of each bid raised to what the leaf says of it
pub record AreHeard {R : Type 0} (net : Net) (rows : Rows R) (bids : List Bid) (node : List Decision) (prices : PriceList R) (old new : List Figures) : Type 0 where
  pub count : length new ≡ length old
  pub each : (number : ℕ) (bid : Bid) (before after : Figures) → slice_get bids number ≡ Some bid → slice_get old number ≡ Some before → slice_get new number ≡ Some after
      → IsHeard net rows bids node prices number bid before after

-- the figures raised to what the item says, where it is a leaf with prices; of any other item they stay
abbrev pub AreHeardOf : {R : Type 0} → Net → Rows R → List Bid → List Decision → Item R → List Figures → List Figures → Type 0
AreHeardOf net rows bids node (Split bid leg) old new = new ≡ old
AreHeardOf net rows bids node (NoWalk bid) old new = new ≡ old
AreHeardOf net rows bids node (Forced row) old new = new ≡ old
AreHeardOf net rows bids node (Priced prices) old new = AreHeard net rows bids node prices old new

-- the greatest that placed leaves say, in whole cents; none where none says anything
pub record IsMostOf {R : Type 0} (Says : List Decision → Option ℤ → Type 0) (placed : List (List Decision × Item R)) (most : Option ℤ) : Type 0 where
  pub each : All (λ p. IsSaidWithin Says most p.0 p.1) placed
  pub reached : IfSome most (λ cents. (node : List Decision) × (prices : PriceList R) × Contains placed (node, Priced prices) × (n : ℤ) × Says node (Some n) × (cents ≡ whole_cents n))

-- the greatest that placed leaves say of the bid, with these prices at each
pub record AreMostOf {R : Type 0} (net : Net) (rows : Rows R) (bids : List Bid) (placed : List (List Decision × Item R)) (prices_at : List Decision → PriceList R) (number : ℕ) (bid : Bid) (figures : Figures) : Type 0 where
  pub served : IsMostOf (λ node said. IsServedAt net rows bids node (prices_at node) number bid said) placed figures.served
  pub left : IsMostOf (λ node said. IsLeftAt net rows bids node (prices_at node) number said) placed figures.left
  pub small : AreSmall figures

-- two figures for each bid, and they are the greatest that placed leaves say of it
pub record AreAllMostOf {R : Type 0} (net : Net) (rows : Rows R) (bids : List Bid) (placed : List (List Decision × Item R)) (prices_at : List Decision → PriceList R) (figures : List Figures) : Type 0 where
  pub count : length figures ≡ length bids
  pub each : (number : ℕ) (bid : Bid) (f : Figures) → slice_get bids number ≡ Some bid → slice_get figures number ≡ Some f → AreMostOf net rows bids placed prices_at number bid f
