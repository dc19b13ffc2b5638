-- The groups that touch a row, by the index of the rows that they touch.
use Rattle.std.proofs.Common.{◌≡◌, ℕ, ◌+◌, ◌-◌, ◌≤◌, ◌<◌, List, length, take, drop, sym, ap, ◌∙◌, subst, arith}
use Rattle.std.specs.Prelude.{Contains, slice_index, slice_range}
use Rattle.std.proofs.lemmas.List.{get_or_default, length-map, take-map, drop-map}
use Rattle.std.proofs.lemmas.List.Edits.{length-between, get_or-between}
use Rattle.optra_prices.specs.Indexes.{AreSpans, IndexHas, Inverts}
use Rattle.optra_prices.specs.Tables.{AreGroups}
use Rattle.optra_prices.specs.Users.{FindsUsers, rows_touched}
use Rattle.optra_prices.specs.declared.index.Index.{Index}
use Rattle.optra_prices.specs.declared.numbering.Groups.{Groups}
use Rattle.optra_prices.specs.declared.touch.Touch.{Touch}

-- a key of a part of a list has a place in it
part_place : (keys : List ℕ) (from to x : ℕ) → to ≤ length keys → Contains (slice_range keys from to) x → (place : ℕ) × (from ≤ place) × (place < to) × (slice_index keys place ≡ x)
part_place keys from to x l has =
    let long = length-between keys from to l in
    let inside : from + has.0 < to = omega (arith, has.1) in
    let read = get_or-between keys from to has.0 x inside in
    let default = get_or_default keys (from + has.0) 0 x (omega arith) in
    (from + has.0, omega arith, inside, default ∙ sym read ∙ has.2)

rows_part : (touches : List Touch) (from to : ℕ) → rows_touched (slice_range touches from to) ≡ slice_range (rows_touched touches) from to
rows_part touches from to =
    let row = λ (touch : Touch). touch.row in
    sym (ap (take (to - from)) (drop-map row from touches) ∙ take-map row (to - from) (drop from touches))

pub row_spans : (groups : Groups) → AreGroups groups.starts.items groups.touches → AreSpans groups.starts.items (length (rows_touched groups.touches))
row_spans groups are =
    let long = length-map groups.touches (λ (touch : Touch). touch.row) in
    record { ordered = are.ordered; within = λ g l. let w = are.within g l in omega arith }

pub users_found : (groups : Groups) (users : Index) → AreGroups groups.starts.items groups.touches → Inverts groups.starts.items (rows_touched groups.touches) users → FindsUsers groups users
users_found groups users are inverts g row l touched =
    let rows = rows_touched groups.touches in
    let start = slice_index groups.starts.items g in
    let end = slice_index groups.starts.items (g + 1) in
    let long = length-map groups.touches (λ (touch : Touch). touch.row) in
    let within = are.within (g + 1) l in
    let part = rows_part groups.touches start end in
    let at = part_place rows start end row (omega arith) (subst (λ (xs : List ℕ). Contains xs row) part touched) in
    subst (λ (r : ℕ). IndexHas users r g) at.3 (inverts g at.0 l at.1 at.2)
