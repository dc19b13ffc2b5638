use Rattle.std.proofs.Common.{◌≡◌, ℕ, ◌<◌, true, false, get_or}
use Rattle.optra_prices.specs.Rooms.{IsTold}
use Rattle.optra_prices.specs.Tables.{no_arc}
use Rattle.optra_prices.proofs.AllowLemmas.{AreToldUpTo}
use Rattle.optra_prices.proofs.allowing.allow_arcs.Given as goal

abbrev pub invariant-loop-k : goal.invariant-loop-k
invariant-loop-k g l = record {
  told : AreToldUpTo l.own.net (g.F.RowFamily.rows_of l.own.family l.own.net) l.own.bids l.own.node l.number l.graph l.k l.initial.arcs l.arcs;
  last : IsTold l.room l.groups l.last;
  same : l.changed ≡ false → l.arcs ≡ l.initial.arcs;
  other : l.changed ≡ true → (j : ℕ) × (j < l.k) × (get_or l.arcs j no_arc ≡ get_or l.initial.arcs j no_arc → ⊥);
}
