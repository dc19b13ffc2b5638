use Rattle.std.proofs.Common.{◌≡◌, ◌+◌, ◌∷◌, [], ◌↔◌, map, sym, ◌∙◌, ap, subst, List}
use Rattle.std.specs.Prelude.{All, IsTrue, IfOk, IfSome}
use Rattle.std.proofs.lemmas.List.{append-nil}
use Rattle.optra_network.specs.declared.TypeId.{TypeId}
use Rattle.optra_walk.specs.declared.Leg.{Leg}
use Rattle.optra_walk.specs.Families.{Entry, IsUsable, load_of, entries_of, total_of}
use Rattle.optra_walk.specs.Walks.{IsWalk}
use Rattle.optra_walk.proofs.UsableLemmas.{walk_usable}
use Rattle.optra_checker.specs.Fits.{AreWithin}
use Rattle.optra_checker.proofs.fitting.entry_fits.Goals as goal

pub legs_fit-requires-clause-usable : goal.legs_fit-requires-clause-usable
legs_fit-requires-clause-usable g c =
    let net = c.args.net.now in
    let bid = c.args.bid.now in
    let is = subst (λ o. IfSome o (IsWalk net bid.path)) c.in-Some.is c.requires.walk in
    subst (λ (kind : TypeId). All (IsUsable net kind) c.legs_of.result.now) (sym c.kind_of.ensures)
    (subst (All (IsUsable net bid.path.kind)) (sym c.legs_of.ensures) (walk_usable net c.laws.ensures bid c.in-Some.walk is))

pub returns-in-Some-clause-added : goal.returns-in-Some-clause-added
returns-in-Some-clause-added g c =
    let rows = g.F.RowFamily.rows_of c.args.rows.now c.args.net.now in
    let total = total_of g.F.Row.Ord.cmp in
    let bid = c.args.bid.now in
    let P = λ (entries : List Entry). IfOk c.legs_fit.result (λ fits. IsTrue fits → (q : g.row.F-Row.Denot) → total c.legs_fit.new.totals.sums q ≡ total c.args.totals.now.sums q + load_of rows q entries) in
    let legs_are = (λ i. map (λ (leg : Leg). (c.kind_of.ensures i, leg)) (c.legs_of.ensures i)) ∙ sym (append-nil (map (λ (leg : Leg). (bid.path.kind, leg)) c.in-Some.walk)) ∙ ap (λ o. entries_of (bid ∷ []) (o ∷ [])) (sym c.in-Some.is) in
    subst P legs_are c.legs_fit.ensures.added

pub returns-in-Some-clause-within : goal.returns-in-Some-clause-within
returns-in-Some-clause-within g c =
    let rows = g.F.RowFamily.rows_of c.args.rows.now c.args.net.now in
    let total = total_of g.F.Row.Ord.cmp in
    let bid = c.args.bid.now in
    let P = λ (entries : List Entry). IfOk c.legs_fit.result (λ fits. IsTrue fits ↔ AreWithin rows (λ q. total c.args.totals.now.sums q + load_of rows q entries)) in
    let legs_are = (λ i. map (λ (leg : Leg). (c.kind_of.ensures i, leg)) (c.legs_of.ensures i)) ∙ sym (append-nil (map (λ (leg : Leg). (bid.path.kind, leg)) c.in-Some.walk)) ∙ ap (λ o. entries_of (bid ∷ []) (o ∷ [])) (sym c.in-Some.is) in
    subst P legs_are c.legs_fit.ensures.within
