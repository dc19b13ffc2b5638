use Rattle.std.proofs.Common.{List, Option, map, sym, ap, ◌∙◌, subst}
use Rattle.std.specs.Prelude.{All}
use Rattle.std.proofs.lemmas.Option.{MatchOption-at_some}
use Rattle.optra_network.specs.declared.TypeId.{TypeId}
use Rattle.optra_walk.specs.declared.Leg.{Leg}
use Rattle.optra_walk.specs.Walks.{IsWalk}
use Rattle.optra_walk.specs.Families.{IsUsable, load_of}
use Rattle.optra_walk.proofs.UsableLemmas.{walk_usable}
use Rattle.optra_prices.specs.Holdings.{entries_one}
use Rattle.optra_prices.proofs.HoldLemmas.{adds_none, adds_same}
use Rattle.optra_prices.proofs.using.add_reply.Goals as goal

pub add_legs-requires : goal.add_legs-requires
add_legs-requires g c =
    let net = c.args.net.now in
    let bid = c.args.bid.now in
    let walk = c.in-Some.walk in
    let is : IsWalk net bid.path walk = MatchOption-at_some _ (λ legs. IsWalk net bid.path legs) walk c.in-Some.is c.requires in
    let usable = walk_usable net c.laws.ensures bid walk is in
    subst (λ kind. All (IsUsable net kind) c.legs_of.result.now) (sym c.kind_of.ensures) (subst (All (IsUsable net bid.path.kind)) (sym c.legs_of.ensures) usable)

pub returns-in_default : goal.returns-in_default
returns-in_default g c =
    let rows = g.F.RowFamily.rows_of c.args.rows.now c.args.net.now in
    let bid = c.args.bid.now in
    let cmp = g.F.Row.Ord.cmp in
    let total = g.met.F.Row.Ord.total in
    let apart = g.met.F.Row.CodedRow.tells_apart in
    adds_same cmp total apart rows.is_row c.args.held.now c.args.held.now (λ q. 0) _ (λ q. ap (λ (o : Option (List Leg)). load_of rows q (entries_one bid o)) (sym c.in_default.is)) (adds_none cmp total apart rows.is_row c.args.held.now)

pub returns : goal.returns
returns g c =
    let rows = g.F.RowFamily.rows_of c.args.rows.now c.args.net.now in
    let bid = c.args.bid.now in
    let cmp = g.F.Row.Ord.cmp in
    adds_same cmp g.met.F.Row.Ord.total g.met.F.Row.CodedRow.tells_apart rows.is_row c.args.held.now c.add_legs.new.held _ _
    (λ q.
    ap (λ (k : TypeId). load_of rows q (map (λ leg. (k, leg)) c.legs_of.result.now)) c.kind_of.ensures
    ∙ ap (λ (legs : List Leg). load_of rows q (map (λ leg. (bid.path.kind, leg)) legs)) c.legs_of.ensures
    ∙ ap (λ (o : Option (List Leg)). load_of rows q (entries_one bid o)) (sym c.in-Some.is))
    c.in_ok-add_legs.ensures
