-- What a store is once the graph that it lends is given back.
use Rattle.std.specs.Prelude.{◌≡◌, [], Result, MatchResult, ⊤}
use Rattle.std.specs.Borrow.{Bor, Fml, MutBor, follows_so}
use mathlib.Core.Option.{none}
use mir.Syntax.{named}
use Rattle.optra_bid.specs.Specs.{Path}
use Rattle.optra_graph.specs.Served.{Holding}
use Rattle.optra_graph.specs.Timed.{Timed}
use Rattle.optra_reuse.specs.Stores.{Keeps}
use Rattle.optra_reuse.specs.contracts.graph_store.GraphStore.{the_row}

-- After Ok it holds the path specification, and after an error it is as before. `named 1` is the place of the store's own lifetime in
-- the signature.
abbrev pub EndsKept : {E : Type 0} → MutBor Holding → Path → Result (Bor Timed) E → Fml
EndsKept store path result =
    let row = the_row (record { mir = named 1; lft = [] }) in
    follows_so row row store.ghost_name none (λ _ _. ⊤) (λ last. MatchResult result (λ _. Keeps path store.now last) (λ _. last ≡ store.now))
