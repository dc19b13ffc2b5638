-- One more leg.
use Rattle.std.proofs.Common.{false, arith, refl}
use Rattle.optra_walk.specs.declared.Action.TheVariants.{Pass}
use Rattle.optra_walk.specs.declared.Leg.{Leg}
use Rattle.optra_open.specs.Loaded.{KeepsOff}
use Rattle.optra_open.proofs.AtLemmas.{no_true, not_both}
use Rattle.optra_open.proofs.EachLemmas.{all_next_at, all_past}
use Rattle.optra_open.proofs.loaded.all_keep_off.Goals as goal

abbrev any_leg : Leg
any_leg = record { track = record { 0 = 0 }; depart = 0; from_halt = false; action = Pass }

pub legs-init : goal.legs-init
legs-init g c k d l = absurd (omega (arith, l))

pub keeps_off-requires-clause-rising : goal.keeps_off-requires-clause-rising
keeps_off-requires-clause-rising g c = c.requires.rising

pub keeps_off-requires-clause-usable : goal.keeps_off-requires-clause-usable
keeps_off-requires-clause-usable g c = c.requires.usable c.legs.leg-index any_leg c.legs-test.true

pub legs-preserved : goal.legs-preserved
legs-preserved g c =
    all_next_at (KeepsOff g.F.Row.Ord.cmp (g.F.RowFamily.rows_of c.args.rows.now c.args.net.now) c.args.kind c.args.loaded.now) c.args.legs.now c.legs.leg-index any_leg c.legs-test.true
    c.legs.invariant (c.keeps_off.ensures.0 c.if-not-keeps_off.false)

pub returns-then-not-keeps_off : goal.returns-then-not-keeps_off
returns-then-not-keeps_off g c = (λ t. absurd (no_true t), λ all. absurd (not_both c.keeps_off.result c.if-not-keeps_off.true (c.keeps_off.ensures.1 (all c.legs.leg-index any_leg c.legs-test.true))))

pub returns : goal.returns
returns g c = (λ t. all_past (KeepsOff g.F.Row.Ord.cmp (g.F.RowFamily.rows_of c.args.rows.now c.args.net.now) c.args.kind c.args.loaded.now) c.args.legs.now c.legs.leg-index c.legs-test.false c.legs.invariant, λ all. refl)
