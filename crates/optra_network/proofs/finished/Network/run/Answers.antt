use Rattle.std.proofs.Common.{◌==◌, cond, None, Some, IfSome, ap, sym, subst, ◌∙◌}
use Rattle.std.specs.Option.{option_map}
use Rattle.optra_network.specs.Net.{Net, IsFromTo, times_of, minutes_by}
use Rattle.optra_network.specs.NetworkParts.{net_of}
use Rattle.optra_network.proofs.ReadLemmas.{run_range, run_read}
use Rattle.optra_network.proofs.finished.Network.run.Goals as goal

pub returns-clause-minutes : goal.returns-clause-minutes
returns-clause-minutes c =
    c.above_zero.ensures ∙ ap (λ n. cond (n == 0) None (Some n)) c.minutes.ensures
    ∙ run_read (net_of c.self.inside) c.self.inside.tables.rows c.self.invariant.tables.rows c.args.track c.args.kind c.args.from_halt c.args.to_halt c.times-times.result c.times-times.ensures
    ∙ ap (λ (n : Net). option_map (minutes_by c.args.from_halt c.args.to_halt) (times_of n c.args.track c.args.kind)) c.self.view_is

pub returns-clause-range : goal.returns-clause-range
returns-clause-range c =
    subst (λ o. IfSome o (IsFromTo 1 240)) (sym (returns-clause-minutes c))
    (subst (λ (n : Net). IfSome (option_map (minutes_by c.args.from_halt c.args.to_halt) (times_of n c.args.track c.args.kind)) (IsFromTo 1 240)) c.self.view_is
    (run_range (net_of c.self.inside) c.self.invariant.proper.built c.args.track c.args.kind c.args.from_halt c.args.to_halt))
