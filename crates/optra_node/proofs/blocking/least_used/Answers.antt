use Rattle.std.proofs.Common.{◌≡◌, ◌≤◌, false, true, Bool, List, sym, ◌∙◌, arith, inl, inr}
use Rattle.std.proofs.lemmas.Bool.{cases_lt}
use Rattle.optra_bid.specs.declared.bids.Bid.{Bid}
use Rattle.optra_walk.specs.Families.{Rows}
use Rattle.optra_node.specs.declared.Decision.{Decision}
use Rattle.optra_node.specs.Nodes.{yes_load, IsOverfull}
use Rattle.optra_node.proofs.LeastLemmas.{at_contains, none_past, none_over, first_over, some_more}
use Rattle.optra_node.proofs.blocking.least_used.Goals as goal

clash : {R : Type 0} (rows : Rows R) (bids : List Bid) (node : List Decision) (row : R) → yes_load rows bids node row ≤ rows.capacity row → IsOverfull rows bids node row → ⊥
clash rows bids node row fits over = let a = over.above in omega arith

fits : {R : Type 0} (rows : Rows R) (bids : List Bid) (node : List Decision) (row : R) (b : Bool) → rows.is_row row ≡ true → b ≡ false → (IsOverfull rows bids node row → b ≡ true) → yes_load rows bids node row ≤ rows.capacity row
fits rows bids node row b is e h = elim (cases_lt (rows.capacity row) (yes_load rows bids node row)) as (λ _. yes_load rows bids node row ≤ rows.capacity row) [
  | inl l ↦ absurd (no (sym e ∙ h (record { is_row = is; above = l })))
  | inr le ↦ le
]
  where
    no : false ≡ true → ⊥
    no e = cc

pub returns-then-is_overfull : goal.returns-then-is_overfull
returns-then-is_overfull g c =
    let net = c.args.inst.net.now in
    let f = c.args.rows.now in
    let rows = g.F.RowFamily.rows_of f net in
    let lists = g.met.F.RowFamily.lists_rows f net c.args.kind c.args.leg c.requires.usable in
    first_over g.F.Row.Ord.cmp g.met.F.Row.Ord.total (g.F.RowFamily.rows_used f net c.args.kind c.args.leg) lists.ascending (rows.uses c.args.kind c.args.leg) lists.used
    (λ row. yes_load rows c.args.inst.bids.now c.args.decisions.now row ≤ rows.capacity row)
    (IsOverfull rows c.args.inst.bids.now c.args.decisions.now)
    (clash rows c.args.inst.bids.now c.args.decisions.now)
    c.loop-k.k c.in-Some.row (sym c.touched.ensures ∙ c.in-Some.is) c.loop-k.invariant (c.is_overfull.ensures.0 c.if-is_overfull.true)

pub returns-in_default : goal.returns-in_default
returns-in_default g c =
    let net = c.args.inst.net.now in
    let f = c.args.rows.now in
    let rows = g.F.RowFamily.rows_of f net in
    let lists = g.met.F.RowFamily.lists_rows f net c.args.kind c.args.leg c.requires.usable in
    none_over g.F.Row.Ord.cmp g.met.F.Row.Ord.total (g.F.RowFamily.rows_used f net c.args.kind c.args.leg) lists.ascending (rows.uses c.args.kind c.args.leg) lists.used
    (λ row. yes_load rows c.args.inst.bids.now c.args.decisions.now row ≤ rows.capacity row)
    (IsOverfull rows c.args.inst.bids.now c.args.decisions.now)
    (clash rows c.args.inst.bids.now c.args.decisions.now)
    c.loop-k.k (none_past (g.F.RowFamily.rows_used f net c.args.kind c.args.leg) c.loop-k.k (sym c.touched.ensures ∙ c.in_default.is)) c.loop-k.invariant

pub loop-k-preserved : goal.loop-k-preserved
loop-k-preserved g c =
    let net = c.args.inst.net.now in
    let f = c.args.rows.now in
    let rows = g.F.RowFamily.rows_of f net in
    let lists = g.met.F.RowFamily.lists_rows f net c.args.kind c.args.leg c.requires.usable in
    let at = sym c.touched.ensures ∙ c.in-Some.is in
    some_more (λ row. yes_load rows c.args.inst.bids.now c.args.decisions.now row ≤ rows.capacity row) (g.F.RowFamily.rows_used f net c.args.kind c.args.leg) c.loop-k.k c.in-Some.row c.loop-k.invariant at
    (fits rows c.args.inst.bids.now c.args.decisions.now c.in-Some.row c.is_overfull.result (lists.are_rows c.in-Some.row ((lists.used c.in-Some.row).1 (at_contains (g.F.RowFamily.rows_used f net c.args.kind c.args.leg) c.loop-k.k c.in-Some.row at))) c.if-is_overfull.false c.is_overfull.ensures.1)

pub returns : goal.returns
returns g c =
    let net = c.args.inst.net.now in
    let f = c.args.rows.now in
    let rows = g.F.RowFamily.rows_of f net in
    let lists = g.met.F.RowFamily.lists_rows f net c.args.kind c.args.leg c.requires.usable in
    none_over g.F.Row.Ord.cmp g.met.F.Row.Ord.total (g.F.RowFamily.rows_used f net c.args.kind c.args.leg) lists.ascending (rows.uses c.args.kind c.args.leg) lists.used
    (λ row. yes_load rows c.args.inst.bids.now c.args.decisions.now row ≤ rows.capacity row)
    (IsOverfull rows c.args.inst.bids.now c.args.decisions.now)
    (clash rows c.args.inst.bids.now c.args.decisions.now)
    c.loop-k.k (let few = lists.few in omega arith) c.loop-k.invariant
