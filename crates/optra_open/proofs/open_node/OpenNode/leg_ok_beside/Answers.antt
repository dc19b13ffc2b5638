use Rattle.std.proofs.Common.{false, not}
use Rattle.std.proofs.lemmas.Bool.Decides.{same_from_decides}
use Rattle.optra_node.specs.Nodes.{IsBlocked, kind_at}
use Rattle.optra_open.specs.Tests.{may_have_leg}
use Rattle.optra_open.proofs.AtLemmas.{is_not, no_true, not_both}
use Rattle.optra_open.proofs.LoadedLemmas.{off_free}
use Rattle.optra_open.proofs.TestLemmas.{leg_tested}
use Rattle.optra_open.proofs.UsedLemmas.{usable_is_formed}
use Rattle.optra_open.proofs.open_node.OpenNode.leg_ok_beside.Goals as goal

pub returns-then-not-let_by : goal.returns-then-not-let_by
returns-then-not-let_by g c =
    let self = c.args.self.now in
    let bid = c.args.bid in
    let leg = c.args.leg in
    let kind = kind_at self.bids bid in
    let rows = g.F.RowFamily.rows_of self.family self.net in
    let used = g.F.RowFamily.rows_used self.family self.net in
    let proper = c.requires.usable.proper in
    let lists = g.met.F.RowFamily.lists_rows self.family self.net kind leg c.requires.usable in
    same_from_decides false (may_have_leg self.net rows used self.bids self.node bid kind leg)
    ((λ t. absurd (no_true t)), (λ h. absurd (not_both c.let_by.result c.if-not-let_by.true (c.let_by.ensures.1 h.let_by))))
    (leg_tested self.net kind g.F.Row.Ord.cmp rows used self.bids self.node bid leg lists)

pub returns-then-keeps_off : goal.returns-then-keeps_off
returns-then-keeps_off g c =
    let self = c.args.self.now in
    let bid = c.args.bid in
    let leg = c.args.leg in
    let cmp = g.F.Row.Ord.cmp in
    let kind = kind_at self.bids bid in
    let rows = g.F.RowFamily.rows_of self.family self.net in
    let used = g.F.RowFamily.rows_used self.family self.net in
    let proper = c.requires.usable.proper in
    let lists = g.met.F.RowFamily.lists_rows self.family self.net kind leg c.requires.usable in
    let free = off_free cmp rows kind c.args.loaded.now leg (used kind leg) self.bids self.node bid c.requires.all (c.keeps_off.ensures.0 c.if-keeps_off.true) in
    same_from_decides c.keeps_off.result (may_have_leg self.net rows used self.bids self.node bid kind leg)
    ((λ t. record { let_by = c.let_by.ensures.0 c.if-not-let_by.false; free = free }), (λ h. c.if-keeps_off.true))
    (leg_tested self.net kind cmp rows used self.bids self.node bid leg lists)

pub returns-else-keeps_off : goal.returns-else-keeps_off
returns-else-keeps_off g c =
    let self = c.args.self.now in
    let bid = c.args.bid in
    let leg = c.args.leg in
    let kind = kind_at self.bids bid in
    let rows = g.F.RowFamily.rows_of self.family self.net in
    let used = g.F.RowFamily.rows_used self.family self.net in
    let proper = c.requires.usable.proper in
    let lists = g.met.F.RowFamily.lists_rows self.family self.net kind leg c.requires.usable in
    let free = is_not c.blocked.result (IsBlocked rows self.bids self.node bid kind leg) c.blocked.ensures in
    same_from_decides (not c.blocked.result) (may_have_leg self.net rows used self.bids self.node bid kind leg)
    ((λ t. record { let_by = c.let_by.ensures.0 c.if-not-let_by.false; free = free.0 t }), (λ h. free.1 h.free))
    (leg_tested self.net kind g.F.Row.Ord.cmp rows used self.bids self.node bid leg lists)

pub keeps_off-requires-clause-rising : goal.keeps_off-requires-clause-rising
keeps_off-requires-clause-rising g c = c.requires.rising

pub keeps_off-requires-clause-usable : goal.keeps_off-requires-clause-usable
keeps_off-requires-clause-usable g c = c.requires.usable

pub blocked-requires-clause-leg : goal.blocked-requires-clause-leg
blocked-requires-clause-leg g c =
    let self = c.args.self.now in
    let proper = c.requires.usable.proper in
    usable_is_formed self.net (kind_at self.bids c.args.bid) c.args.leg proper c.requires.usable
