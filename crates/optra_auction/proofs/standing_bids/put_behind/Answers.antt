-- The name is that of a withdrawn bid, or it gets a new entry.
use Rattle.std.proofs.Common.{◌∙◌, ℕ, List, ap, sym, position, string_bytes, String, bytes_eq, is_some, slice_get, option_map}
use Rattle.std.specs.Map.{keys_of}
use Rattle.std.specs.declared.alloc.Global.{Global}
use Rattle.indexmap.specs.IndexMap.{get_by}
use Rattle.indexmap.proofs.CallerLemmas.{insert_entry-new}
use Rattle.optra_auction.specs.Kept.{standing_in, standing_of}
use Rattle.optra_auction.proofs.KeptLemmas.{HaveRoom-insert, HaveRoom-with_value_at, behind-from, more-at, none-from_is_some, replaced-at, standing-behind, standing-more}
use Rattle.optra_auction.proofs.standing_bids.put_behind.Goals as goal

pub returns-in-Some-clause-room : goal.returns-in-Some-clause-room
returns-in-Some-clause-room c = rw c.replace.ensures (HaveRoom-with_value_at _ _ _ _ c.requires.room)

pub returns-in-Some-clause-same : goal.returns-in-Some-clause-same
returns-in-Some-clause-same c =
    let es = c.args.map.now.entries in
    let at = ap (λ (n : List ℕ). position (λ (k : String Global). bytes_eq n (string_bytes k)) (keys_of es)) (sym c.text.ensures.text) ∙ sym c.in-Some.ensures.index in
    rw c.replace.ensures (standing-behind es c.args.count c.in-Some.place c.args.terms (behind-from c.args.name es c.args.count c.in-Some.place at c.requires.new))

pub returns-in-Some-clause-behind : goal.returns-in-Some-clause-behind
returns-in-Some-clause-behind c =
    let es = c.args.map.now.entries in
    let at = ap (λ (n : List ℕ). position (λ (k : String Global). bytes_eq n (string_bytes k)) (keys_of es)) (sym c.text.ensures.text) ∙ sym c.in-Some.ensures.index in
    behind-from c.args.name es c.args.count c.in-Some.place at c.requires.new

pub returns-in-Some-clause-terms : goal.returns-in-Some-clause-terms
returns-in-Some-clause-terms c =
    let es = c.args.map.now.entries in
    let at = ap (λ (n : List ℕ). position (λ (k : String Global). bytes_eq n (string_bytes k)) (keys_of es)) (sym c.text.ensures.text) ∙ sym c.in-Some.ensures.index in
    rw c.replace.ensures (replaced-at c.args.name es c.in-Some.place c.args.terms at)

pub returns-in-None-clause-room : goal.returns-in-None-clause-room
returns-in-None-clause-room c =
    let absent = ap (λ (n : List ℕ). is_some (get_by (λ (k : String Global). bytes_eq n (string_bytes k)) c.args.map.now)) (c.into_text.ensures.text ∙ sym c.text.ensures.text) ∙ sym c.in-None.ensures.found in
    let added = rw c.unwrap.ensures at c.insert.ensures.len in
    let old = rw c.unwrap.ensures at c.insert.ensures.old in
    HaveRoom-insert c.args.map.now c.insert.new.self c.args.count c.unwrap.result c.requires.room added (ap is_some old ∙ absent) c.insert.ensures.spare

pub returns-in-None-clause-same : goal.returns-in-None-clause-same
returns-in-None-clause-same c =
    let absent = ap (λ (n : List ℕ). is_some (get_by (λ (k : String Global). bytes_eq n (string_bytes k)) c.args.map.now)) (c.into_text.ensures.text ∙ sym c.text.ensures.text) ∙ sym c.in-None.ensures.found in
    let entries = rw c.unwrap.ensures at c.insert.ensures.entries in
    ap (λ l. standing_in l c.args.count) (entries ∙ insert_entry-new _ c.args.map.now c.into_text.result c.args.terms (none-from_is_some _ absent))
    ∙ standing-more c.args.map.now.entries c.args.count (c.into_text.result, c.args.terms) c.requires.room.within

pub returns-in-None-clause-terms : goal.returns-in-None-clause-terms
returns-in-None-clause-terms c =
    let absent = ap (λ (n : List ℕ). is_some (get_by (λ (k : String Global). bytes_eq n (string_bytes k)) c.args.map.now)) (c.into_text.ensures.text ∙ sym c.text.ensures.text) ∙ sym c.in-None.ensures.found in
    let entries = rw c.unwrap.ensures at c.insert.ensures.entries in
    (λ i. option_map standing_of (slice_get ((entries ∙ insert_entry-new _ c.args.map.now c.into_text.result c.args.terms (none-from_is_some _ absent)) i) (c.len-place.ensures.len i)))
    ∙ more-at c.args.name c.args.map.now.entries c.into_text.result c.args.terms c.into_text.ensures.text
