use Rattle.std.proofs.Common.{◌∷◌, [], length, sym, ap, subst, arith, rules}
use Rattle.std.specs.Prelude.{All}
use Rattle.std.proofs.lemmas.List.{length-append}
use Rattle.optra_prices.specs.ArcTerms.{ArcTerm}
use Rattle.optra_prices.specs.Arcs.{IsArcValue}
use Rattle.optra_prices.specs.Terms.{IsTerm, AreTerms}
use Rattle.optra_prices.proofs.MakingLemmas.{grows_more}
use Rattle.optra_prices.proofs.TermLemmas.{terms_kept, terms_push}
use Rattle.optra_prices.proofs.tables.bid_table.Goals as goal

pub loop-k-preserved : goal.loop-k-preserved
loop-k-preserved g c =
    let net = c.args.net.now in
    let f = c.args.rows.now in
    let rows = g.F.RowFamily.rows_of f net in
    let used = g.F.RowFamily.rows_used f net in
    let bid = c.args.bid.now in
    let t = c.args.graph.now in
    let old = c.loop-k.making in
    let new = c.term_at.new.making in
    let numbered = new.named.items in
    let starts = new.groups.starts.items in
    let touches = new.groups.touches in
    let arcs = c.loop-k.arcs in
    let term = c.in_ok-term.term in
    let inv = c.loop-k.invariant in
    let is = c.in_ok-term.ensures in
    let kept = terms_kept net rows used bid t old.named.items numbered old.groups.starts.items starts old.groups.touches touches arcs is.grows.extends is.grows.keeps inv.terms in
    let here = subst (λ k. IsTerm net rows used bid t numbered starts touches k term) (sym inv.count) is.term in
    let pushed = c.in_ok-push.ensures in
    record {
      making = is.making;
      grows = grows_more _ old new inv.grows is.grows;
      count = let e = ap length pushed in let n = length-append arcs (term ∷ []) in let o = inv.count in omega arith;
      terms = subst (AreTerms net rows used bid t numbered starts touches) (sym pushed) (terms_push net rows used bid t numbered starts touches arcs term kept here);
    }

pub loop-k-init : goal.loop-k-init
loop-k-init g c = record {
  making = c.requires.making;
  grows = search rules;
  count = search rules;
  terms = search rules;
}

pub most_of-most-requires : goal.most_of-most-requires
most_of-most-requires g c = subst (All (λ (arc : ArcTerm). IsArcValue arc.value)) (sym c.slice.ensures) c.loop-k.invariant.terms.values

pub returns-clause-table : goal.returns-clause-table
returns-clause-table g c = record {
  graph = c.requires.graph;
  count = search rules;
  groups = c.loop-k.invariant.making.groups_are;
  terms = c.loop-k.invariant.terms;
}
