-- A new key goes last.
use Rattle.std.proofs.Common.{◌∙◌, Vec, ℕ, bytes_eq}
use Rattle.std.specs.declared.alloc.Global.{Global}
use Rattle.indexmap.proofs.CallerLemmas.{insert_entry-new}
use Rattle.optra_graph.proofs.graph_map.put.Goals as goal

pub returns : goal.returns
returns c =
    (rw c.unwrap.ensures at c.insert.ensures.entries)
    ∙ insert_entry-new (λ (a b : Vec ℕ Global). bytes_eq a.items b.items) c.args.entries.now c.args.key c.args.entry c.requires.new
