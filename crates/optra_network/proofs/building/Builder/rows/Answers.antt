use Rattle.std.proofs.Common.{◌≡◌, length, subst, sym, arith, All, Result, Ok, Err, IfOk}
use Rattle.optra_network.specs.Net.{Net}
use Rattle.optra_network.specs.BuilderParts.{net_of}
use Rattle.optra_network.specs.Tables.{AreRows, IsPair, IsTriple, HoldsPairs, HoldsTriples, found_times, found_headway}
use Rattle.optra_network.specs.declared.dense.Rows.{Rows}
use Rattle.optra_network.proofs.ReadLemmas.{pairs_built, triples_built}
use Rattle.optra_network.proofs.building.Builder.rows.Goals as goal

both : {T E : Type 0} (P Q R : T → Type 0) (r : Result T E) → ((x : T) → P x → Q x → R x) → IfOk r P → IfOk r Q → IfOk r R
both P Q R (Ok x) f p q = f x p q
both P Q R (Err e) f p q = tt

pub new-requires : goal.new-requires
new-requires c =
    let len : c.len.result ≡ length c.self.inside.tracks.items = grind arith in
    record {
      few = let few = c.self.invariant.counts.few_tracks in omega arith;
      of_pairs = subst (λ n. All (λ row. IsPair n row.0) c.self.inside.running.entries) (sym len) (pairs_built (net_of c.self.inside) c.self.invariant);
      of_triples = subst (λ n. All (λ row. IsTriple n row.0) c.self.inside.headways.entries) (sym len) (triples_built (net_of c.self.inside) c.self.invariant);
    }

pub returns : goal.returns
returns c =
    let len : c.len.result ≡ length c.self.inside.tracks.items = grind arith in
    both (λ (rows : Rows). HoldsPairs (found_times c.self.inside.running.entries) c.len.result rows.running.items)
    (λ (rows : Rows). HoldsTriples (found_headway c.self.inside.headways.entries) c.len.result rows.headways.items) (AreRows c.args.self.now) c.new.result
    (λ rows running headways.
    subst (λ (n : Net). AreRows n rows) c.self.view_is (record {
      built = c.self.invariant;
      running = subst (λ n. HoldsPairs (found_times c.self.inside.running.entries) n rows.running.items) len running;
      headways = subst (λ n. HoldsTriples (found_headway c.self.inside.headways.entries) n rows.headways.items) len headways;
    }))
    c.new.ensures.running c.new.ensures.headways
