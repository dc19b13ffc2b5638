-- The entry comes last, under the numbers of its path specification.
use Rattle.std.proofs.Common.{◌≡◌, ◌++◌, ◌∙◌, List, [], ◌∷◌, length, map, sym, ap, subst, arith, Vec, ℕ, bytes_eq}
use Rattle.std.proofs.lemmas.List.{length-map}
use Rattle.std.specs.Map.{lookup}
use Rattle.std.specs.declared.alloc.Global.{Global}
use Rattle.optra_bid.specs.Specs.{Path}
use Rattle.optra_graph.specs.GraphMaps.{AreKeyed, kept_in, kept_of, place_of}
use Rattle.optra_graph.specs.Keys.{numbers_of}
use Rattle.optra_graph.specs.Served.{Kept, path_of}
use Rattle.optra_graph.specs.declared.graph_map.Entry.{Entry}
use Rattle.optra_graph.proofs.KeepLemmas.{Slot, added-at, keyed-push, kept-push, lookup-absent}
use Rattle.optra_graph.proofs.KeyLemmas.{place-none}
use Rattle.optra_graph.proofs.graph_map.GraphMap.add.Goals as goal

pub put-requires : goal.put-requires
put-requires c = record {
  room = omega (arith, c.in_ok-reserve.ensures.ok);
  new = ap (lookup (λ (k : Vec ℕ Global). bytes_eq c.in_ok-key.key.items k.items)) c.reserve.ensures.entries
      ∙ lookup-absent c.self.inside.entries.entries c.args.bid.now.path c.in_ok-key.key c.self.invariant
      (c.in_ok-key.ensures.items ∙ c.as_slice.ensures.value ∙ c.requires.numbers)
      (ap (λ (l : List Kept). place_of c.args.bid.now.path (map path_of l)) c.self.view_is ∙ c.requires.absent);
}

-- what was put
abbrev entry : goal.After-put → Slot
entry c = let e : Entry = record { path = c.in_ok-path.path; graph = c.in_ok-graph.graph } in (c.in_ok-key.key, e)

entries-are : (c : goal.After-put) → c.put.new.entries.entries ≡ c.self.inside.entries.entries ++ entry c ∷ []
entries-are c = c.put.ensures ∙ ap (λ (l : List Slot). l ++ entry c ∷ []) c.reserve.ensures.entries

kept-are : (c : goal.After-put) → kept_in c.put.new.entries.entries ≡ c.args.self.now ++ record { path = c.args.bid.now.path; graph = c.in_ok-graph.graph } ∷ []
kept-are c =
    ap kept_in (entries-are c) ∙ kept-push c.self.inside.entries.entries (entry c)
    ∙ ap (λ (l : List Kept). l ++ kept_of (entry c) ∷ []) c.self.view_is
    ∙ ap (λ (p : Path). let k : Kept = record { path = p; graph = c.in_ok-graph.graph } in c.args.self.now ++ k ∷ []) c.in_ok-path.ensures

long : (c : goal.After-put) → length c.args.self.now ≡ length c.self.inside.entries.entries
long c = ap length (sym c.self.view_is) ∙ length-map c.self.inside.entries.entries kept_of

pub invariant_of-self-2 : goal.invariant_of-self-2
invariant_of-self-2 c =
    subst AreKeyed (sym (entries-are c))
    (keyed-push c.self.inside.entries.entries (entry c) c.self.invariant
    (c.in_ok-key.ensures.items ∙ c.as_slice.ensures.value ∙ c.requires.numbers ∙ ap numbers_of (sym c.in_ok-path.ensures)))

pub returns-clause-added : goal.returns-clause-added
returns-clause-added c = record {
  absent = place-none c.args.bid.now.path (map path_of c.args.self.now) c.requires.absent;
  graph = c.in_ok-graph.graph;
  is_graph = c.in_ok-graph.ensures.graph;
  added = kept-are c;
  counted = c.in_ok-graph.ensures.counted;
  few = omega (arith, c.len-place.ensures.len, c.len-place.ensures.small, ap length c.reserve.ensures.entries, long c);
}

pub returns-clause-place : goal.returns-clause-place
returns-clause-place c =
    added-at c.args.self.now _ c.len-place.result c.args.bid.now.path c.in_ok-graph.graph (kept-are c)
    (c.len-place.ensures.len ∙ ap length c.reserve.ensures.entries ∙ sym (long c))
