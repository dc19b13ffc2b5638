-- One more bid is listed.
use Rattle.std.proofs.Common.{◌≡◌, ◌+◌, ◌<◌, ◌++◌, ◌∷◌, [], ℕ, List, length, get_or, Some, slice_get, refl, ap, ◌∙◌, subst, arith}
use Rattle.std.proofs.lemmas.Option.{slice_get-get_or}
use Rattle.std.specs.Prelude.{IfOk}
use Rattle.std.specs.declared.result.Result.{Result}
use Rattle.std.specs.declared.result.Result.TheVariants.{Ok, Err}
use Rattle.optra_prices.specs.Holders.{AreHolders, HoldsArcs}
use Rattle.optra_prices.specs.Indexes.{IsIndex, Inverts}
use Rattle.optra_prices.specs.ArcTerms.{ArcTerm}
use Rattle.optra_prices.proofs.HolderLemmas.{listed_none, listed_more, holders_all}
use Rattle.optra_prices.proofs.holders.find_holders.Goals as goal

pub loop-number-init : goal.loop-number-init
loop-number-init c =
    let starts = c.in_ok-push.ensures ∙ ap (λ (xs : List ℕ). xs ++ 0 ∷ []) c.new-starts.ensures in
    listed_none c.args.tables.now c.push.new.self.items _ starts c.new.ensures c.new-2.ensures.items

pub loop-number-preserved : goal.loop-number-preserved
loop-number-preserved c =
    let tables = c.args.tables.now in
    let n = c.loop-number.number in
    let l : n < length tables = omega arith in
    let table = get_or tables n c.index-tables-number.result in
    let at : slice_get tables n ≡ Some table = slice_get-get_or tables n c.index-tables-number.result l in
    let old = c.loop-number.held in
    let new = c.hold_arcs.new.held in
    let holds = subst (λ (arcs : List ArcTerm). HoldsArcs (n + 1) arcs old new) c.slice.ensures c.in_ok-hold_arcs.ensures in
    let len : c.len.result ≡ length new.groups.items = c.len.ensures in
    listed_more n tables c.loop-number.starts.items c.push-in-loop-number.new.self.items old new table c.loop-number.invariant at holds
    (c.in_ok-push-2.ensures ∙ ap (λ (k : ℕ). c.loop-number.starts.items ++ k ∷ []) len)

pub inverted-requires : goal.inverted-requires
inverted-requires c = c.loop-number.invariant.spans

both_ok : {X E : Type 0} (r : Result X E) (P Q S : X → Type 0) → ((x : X) → P x → Q x → S x) → IfOk r P → IfOk r Q → IfOk r S
both_ok (Ok x) P Q S f p q = f x p q
both_ok (Err e) P Q S f p q = tt

pub returns : goal.returns
returns c =
    let held = c.loop-number.held in
    let keys = held.groups.items in
    both_ok c.inverted.result (λ made. IsIndex made) (λ made. Inverts c.loop-number.starts.items keys made) (λ made. AreHolders c.args.tables.now made)
    (λ made index inverts. holders_all c.loop-number.number c.args.tables.now c.loop-number.starts.items keys held made c.loop-number-test.false refl c.loop-number.invariant index inverts) c.inverted.ensures.index c.inverted.ensures.inverts
