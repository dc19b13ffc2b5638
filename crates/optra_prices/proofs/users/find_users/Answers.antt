use Rattle.std.proofs.Common.{◌≡◌, ◌<◌, List, length, sym, arith, subst}
use Rattle.std.specs.Prelude.{slice_index}
use Rattle.std.proofs.lemmas.Result.{IfOk-weaker}
use Rattle.optra_prices.specs.Indexes.{AreSpans, Inverts, IsPlaced}
use Rattle.optra_prices.specs.Users.{FindsUsers, rows_touched}
use Rattle.optra_prices.specs.declared.touch.Touch.{Touch}
use Rattle.optra_prices.proofs.UserLemmas.{row_spans, users_found}
use Rattle.optra_prices.proofs.users.find_users.Goals as goal

pub inverted-requires : goal.inverted-requires
inverted-requires c =
    let groups = c.args.groups.now in
    subst (λ (touches : List Touch). AreSpans groups.starts.items (length (rows_touched touches))) (sym c.slice.ensures) (row_spans groups c.requires)

pub returns-clause-found : goal.returns-clause-found
returns-clause-found c =
    let groups = c.args.groups.now in
    IfOk-weaker c.inverted.result (Inverts groups.starts.items (rows_touched c.slice.result)) (FindsUsers groups)
    (λ made inverts. users_found groups made c.requires (subst (λ (touches : List Touch). Inverts groups.starts.items (rows_touched touches) made) c.slice.ensures inverts)) c.inverted.ensures.inverts

pub returns-clause-placed : goal.returns-clause-placed
returns-clause-placed c =
    let groups = c.args.groups.now in
    let starts = groups.starts.items in
    let are = c.requires in
    IfOk-weaker c.inverted.result (λ made. 0 < length starts → slice_index starts 0 ≡ 0 → IsPlaced starts (rows_touched c.slice.result) made) (IsPlaced starts (rows_touched groups.touches))
    (λ made placed. subst (λ (touches : List Touch). IsPlaced starts (rows_touched touches) made) c.slice.ensures (placed (let two = are.two in omega arith) are.first))
    c.inverted.ensures.placed
