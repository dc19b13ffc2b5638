-- One more bid.
use Rattle.std.proofs.Common.{◌⊎◌, List, map, inl, sym, subst, arith, All, Contains}
use Rattle.std.proofs.lemmas.List.{take_all}
use Rattle.std.proofs.lemmas.List.Elements.{All-contains_itself}
use Rattle.optra_bid.specs.Specs.{Path}
use Rattle.optra_bid.specs.declared.bids.Bid.{Bid}
use Rattle.optra_graph.specs.Served.{Kept, path_of}
use Rattle.optra_graph.proofs.KeepLemmas.{grows-kept, grows-on, grows-same, held-more, others-more}
use Rattle.optra_graph.proofs.graph_map.GraphMap.keep_all.Goals as goal

pub loop-bid-init : goal.loop-bid-init
loop-bid-init c = record {
  held = λ k d l. absurd (omega arith);
  others = λ k d l. inl (All-contains_itself (map path_of c.args.self.now) k d l);
  grows = grows-same c.args.net.now c.args.self.now c.args.builds.now;
}

pub loop-bid-preserved : goal.loop-bid-preserved
loop-bid-preserved c = record {
  held = held-more c.args.net.now c.args.bids.now c.loop-bid.bid-index c.bid-item.result c.loop-bid.self c.keep_in.new.self c.loop-bid.builds c.keep_in.new.builds c.loop-bid-test.true c.bid-item.is c.in_ok-keep_in.ensures.kept c.loop-bid.invariant.held;
  others = others-more c.args.net.now c.args.bids.now c.loop-bid.bid-index c.bid-item.result c.args.self.now c.loop-bid.self c.keep_in.new.self c.loop-bid.builds c.keep_in.new.builds c.loop-bid-test.true c.bid-item.is c.in_ok-keep_in.ensures.kept c.loop-bid.invariant.others;
  grows = grows-on c.args.net.now c.args.self.now c.loop-bid.self c.keep_in.new.self c.args.builds.now c.loop-bid.builds c.keep_in.new.builds c.loop-bid.invariant.grows
      (grows-kept c.args.net.now c.bid-item.result.path c.loop-bid.self c.keep_in.new.self c.loop-bid.builds c.keep_in.new.builds c.in_ok-keep_in.ensures.kept);
}

pub returns-in_err-keep_in-clause-others : goal.returns-in_err-keep_in-clause-others
returns-in_err-keep_in-clause-others c = subst (λ (l : List Kept). All (λ (path : Path). Contains (map path_of c.args.self.now) path ⊎ Contains (map (λ (b : Bid). b.path) c.args.bids.now) path) (map path_of l)) (sym c.in_err-keep_in.ensures.err.0) c.loop-bid.invariant.others

pub returns-clause-held : goal.returns-clause-held
returns-clause-held c = subst (All (λ (b : Bid). Contains (map path_of c.loop-bid.self) b.path)) (take_all c.loop-bid.bid-index c.args.bids.now (omega arith)) c.loop-bid.invariant.held
