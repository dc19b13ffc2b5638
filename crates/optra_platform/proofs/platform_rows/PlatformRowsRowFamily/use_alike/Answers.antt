-- Two legs that use no row use alike.
use Rattle.std.proofs.Common.{sym, ◌∙◌}
use Rattle.optra_platform.specs.PlatformLemmas.{free_alike}
use Rattle.optra_platform.proofs.platform_rows.PlatformRowsRowFamily.use_alike.Goals as goal

pub returns-then-is_free : goal.returns-then-is_free
returns-then-is_free c second =
    free_alike c.args.net.now c.args._kind c.args.first c.args.second (sym c.is_free.ensures ∙ c.if-is_free.true) (sym c.is_free-then-is_free.ensures ∙ second)
