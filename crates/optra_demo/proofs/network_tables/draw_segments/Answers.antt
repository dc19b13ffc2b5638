use Rattle.std.proofs.Common.{sym, ap, ◌∙◌, ◌+◌, ℕ, length}
use Rattle.std.proofs.lemmas.List.{length_push}
use Rattle.std.proofs.lemmas.List.Elements.{All-nil, All-push, All-same}
use Rattle.optra_demo.specs.Ranges.{IsSegment}
use Rattle.optra_demo.proofs.DrawLemmas.{after_none, minutes_kept, one_more}
use Rattle.optra_demo.proofs.network_tables.draw_segments.Goals as goal

pub segments-init : goal.segments-init
segments-init c = (
  c.new-minutes.ensures.items,
  sym (after_none c.args.draws.now),
  All-same IsSegment c.new-minutes.result.items _ c.new-minutes.ensures.items (All-nil IsSegment),
  ap length c.new-minutes.ensures.items,
)

pub segments-preserved : goal.segments-preserved
segments-preserved c = (
  minutes_kept c.args.draws.now c.segments._segment c.segments.draws c.draw_segment.new.draws c.draw_segment.result c.segments.minutes.items c.push.new.self.items c.segments.invariant.0 c.segments.invariant.1
      c.draw_segment.ensures.state c.draw_segment.ensures.value c.in_ok-push.ensures.items,
  one_more c.args.draws.now c.segments._segment c.segments.draws c.draw_segment.new.draws c.segments.invariant.1 c.draw_segment.ensures.state,
  All-same IsSegment c.push.new.self.items _ c.in_ok-push.ensures.items (All-push IsSegment c.segments.minutes.items c.draw_segment.result c.segments.invariant.2 c.draw_segment.ensures.range),
  ap length c.in_ok-push.ensures.items ∙ length_push c.segments.minutes.items c.draw_segment.result ∙ ap (λ (n : ℕ). n + 1) c.segments.invariant.3,
)
