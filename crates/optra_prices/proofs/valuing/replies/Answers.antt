use Rattle.std.proofs.Common.{◌≡◌, ◌+◌, ◌≤◌, ◌<◌, suc, ℕ, List, [], ◌∷◌, ◌++◌, length, take, Some, Option, slice_get, refl, sym, ap, ◌∙◌, subst, arith}
use Rattle.std.proofs.lemmas.Option.{slice_get_read}
use Rattle.std.proofs.lemmas.List.{take_all}
use Rattle.optra_walk.specs.declared.Leg.{Leg}
use Rattle.optra_graph.specs.Timed.{IsRoute}
use Rattle.optra_prices.specs.declared.numbering.BidTable.{BidTable}
use Rattle.optra_prices.specs.Arcs.{path_reply}
use Rattle.optra_prices.specs.Standings.{replies_of}
use Rattle.optra_prices.proofs.ValueOfLemmas.{replies_push, path_route}
use Rattle.optra_prices.proofs.valuing.replies.Goals as goal

pub reply-requires : goal.reply-requires
reply-requires c some =
    let tables = c.args.tables.now in
    let standings = c.args.standings.now in
    let n = c.loop-number.number in
    let l : n < length tables = omega arith in
    let m : n < length standings = let count = c.requires.1.count_is in omega arith in
    let table = c.index-tables-number.result in
    let standing = c.index-standings-number.result in
    let table_at : slice_get tables n ≡ Some table = slice_get_read tables (length tables) n table refl l c.index-tables-number.is in
    let standing_at : slice_get standings n ≡ Some standing = slice_get_read standings (length standings) n standing refl m c.index-standings-number.is in
    let stands = c.requires.1.each n table standing table_at standing_at in
    let route = path_route table c.requires.0 standing stands (λ e. some (c.deref.ensures.value ∙ e)) in
    subst (λ (t : BidTable). IsRoute t.graph.now c.deref.result.now) c.index-tables-number.is (subst (λ (p : List ℕ). IsRoute table.graph.now p) (sym c.deref.ensures.value) route)

pub loop-number-preserved : goal.loop-number-preserved
loop-number-preserved c =
    let tables = c.args.tables.now in
    let standings = c.args.standings.now in
    let n = c.loop-number.number in
    let l : n < length tables = omega arith in
    let m : n < length standings = let count = c.requires.1.count_is in omega arith in
    let table = c.index-tables-number.result in
    let standing = c.index-standings-number.result in
    let table_at : slice_get tables n ≡ Some table = slice_get_read tables (length tables) n table refl l c.index-tables-number.is in
    let standing_at : slice_get standings n ≡ Some standing = slice_get_read standings (length standings) n standing refl m c.index-standings-number.is in
    let walk_is : c.in_ok-walk.walk ≡ path_reply table.graph.now standing.path.items =
    c.in_ok-walk.ensures ∙ ap (λ (t : BidTable). path_reply t.graph.now c.deref.result.now) (sym c.index-tables-number.is) ∙ ap (path_reply table.graph.now) c.deref.ensures.value
    in
    let before = replies_of (take n tables) (take n standings) in
    let one : n + 1 ≡ suc n = omega arith in
    c.in_ok-push.ensures.items ∙ ap (λ (xs : List (Option (List Leg))). xs ++ c.in_ok-walk.walk ∷ []) c.loop-number.invariant ∙ ap (λ (w : Option (List Leg)). before ++ w ∷ []) walk_is
    ∙ sym (replies_push tables standings n table standing table_at standing_at) ∙ ap (λ (k : ℕ). replies_of (take k tables) (take k standings)) (sym one)

pub returns : goal.returns
returns c =
    let tables = c.args.tables.now in
    let standings = c.args.standings.now in
    let n = c.loop-number.number in
    let l : length tables ≤ n = omega arith in
    let m : length standings ≤ n = let count = c.requires.1.count_is in omega arith in
    c.loop-number.invariant ∙ ap (λ ts. replies_of ts (take n standings)) (take_all n tables l) ∙ ap (λ ss. replies_of tables ss) (take_all n standings m)
