-- What a further decision keeps.
use Rattle.std.proofs.Common.{◌≡◌, ℕ, List, [], ◌∷◌, ◌++◌, sym, subst}
use Rattle.std.proofs.lemmas.List.Elements.{All-push}
use Rattle.optra_network.specs.Net.{Net}
use Rattle.optra_node.specs.declared.Decision.{Decision}
use Rattle.optra_node.specs.Nodes.{IsUndecided, IsFormedDecision, IsNode}
use Rattle.optra_node.proofs.TreeLemmas.{once_more}

pub child_is_node : (net : Net) (bids : ℕ) (node child : List Decision) (d : Decision) → child ≡ node ++ d ∷ [] → IsUndecided node d.bid d.leg
    → IsNode net bids node → IsFormedDecision net bids d → IsNode net bids child
child_is_node net bids node child d e fresh is formed =
    subst (IsNode net bids) (sym e) (record { formed = All-push (IsFormedDecision net bids) node d is.formed formed; once = once_more node d is.once fresh })
