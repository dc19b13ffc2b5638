use Rattle.std.proofs.Common.{◌≡◌, ◌+◌, ◌≤◌, ◌∙◌, ℕ, [], ◌∷◌, length, slice_index, ap, subst, arith}
use Rattle.std.proofs.lemmas.List.{length-append}
use Rattle.optra_rests.specs.Reaches.{IsWithoutFar}
use Rattle.optra_rests.proofs.BoolLemmas.{not_both}
use Rattle.optra_rests.proofs.SkipLemmas.{without_near, without_more, each_more}
use Rattle.optra_rests.proofs.reach.skip_far.Goals.{then-is_near, else-is_near}
use Rattle.optra_rests.proofs.reach.skip_far.Goals as goal

pub stations-preserved : goal.stations-preserved
stations-preserved c =
    let path = c.args.bid.now.path in
    let from = c.args.from_origin.now in
    let on = c.args.to_destination.now in
    let n = c.stations.station in
    let last : IsWithoutFar path from on (n + 1) c.if-is_near.near =
    elim c.if-is_near.branch [
      | then-is_near w ↦ without_near path from on n c.if-is_near.near w.near-is
      | else-is_near w ↦ without_more path from on n c.stations.near c.if-is_near.near w.near-is (λ near. not_both c.is_near.result w.if-is_near.false (c.is_near.ensures.1 near)) c.stations.invariant.last
    ] in
    record {
      len = ap length c.in_ok-push.ensures.items ∙ length-append c.stations.skips.items (c.if-is_near.near ∷ []) ∙ ap (λ k. k + 1) c.stations.invariant.len;
      each = each_more path from on c.stations.skips.items c.push.new.self.items n c.if-is_near.near c.in_ok-push.ensures.items c.stations.invariant.len c.stations.invariant.each last;
      last = last;
    }

pub returns : goal.returns
returns c =
    let whole : c.stations.station ≡ length c.args.from_origin.now = (let count = c.requires.count in let past = c.stations-test.false in let within = c.stations.auto.station-end in omega (arith, count, past, within)) in
    record {
      len = c.stations.invariant.len ∙ ap (λ k. k + 1) whole;
      each = subst (λ n. (count : ℕ) → count ≤ n → IsWithoutFar c.args.bid.now.path c.args.from_origin.now c.args.to_destination.now count (slice_index c.stations.skips.items count)) whole c.stations.invariant.each;
    }
