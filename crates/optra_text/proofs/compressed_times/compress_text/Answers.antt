-- The records are printed one list after another.
use Rattle.std.proofs.Common.{◌≡◌, ◌++◌, ◌∙◌, List, [], ◌∷◌, ℕ, Vec, Option, length, map, sym, ap, subst, IfOk, codes}
use Rattle.std.specs.declared.alloc.Global.{Global}
use Rattle.optra_walk.specs.declared.Leg.{Leg}
use Rattle.optra_walk.proofs.EarnLemmas.{choice_long}
use Rattle.optra_records.specs.Reading.{Record}
use Rattle.optra_records.specs.Texts.{record_text, records_text}
use Rattle.optra_compress.specs.declared.Link.{Link}
use Rattle.optra_text.specs.CompressedTexts.{chain_record, compress_text_of, minutes_taken, moved_records, moved_walks}
use Rattle.optra_text.specs.RoundTexts.{count_record}
use Rattle.optra_text.proofs.RoundLemmas.{first-printed, more-printed, one-printed}
use Rattle.optra_text.proofs.compressed_times.compress_text.Goals as goal

pub minutes_taken-before-requires : goal.minutes_taken-before-requires
minutes_taken-before-requires c =
    ap length (c.deref-3.ensures.value ∙ c.choice.view_is) ∙ sym (choice_long c.args.inst.net.now c.args.inst.bids.now c.args.choice.now c.requires.choice)

pub returns : goal.returns
unfolding compress_text_of
returns c =
    let net = c.args.inst.net.now in
    let bids = c.args.inst.bids.now in
    let walks = c.args.choice.now in
    let moved = moved_walks c.args.done.now.starts walks in
    let given : c.deref-3.result.now ≡ walks = c.deref-3.ensures.value ∙ c.choice.view_is in
    let at_starts : moved_walks c.deref-2.result.now c.deref.result.now ≡ moved =
    λ i. moved_walks ((c.deref-2.ensures.value ∙ ap (λ d. d.starts) c.done.view_is) i) ((c.deref.ensures.value ∙ c.choice.view_is) i) in
    let is_moved : c.in_ok-moved.moved.items ≡ moved = c.in_ok-moved.ensures.moved ∙ at_starts in
    let a1 : List Record = count_record (codes "before") (minutes_taken net bids walks) ∷ [] in
    let a2 : Record = count_record (codes "after") (minutes_taken net bids moved) in
    let a3 : List Record = moved_records net 1 bids moved in
    let a4 : List Record = map chain_record c.args.done.now.chains in
    let e1 : c.print_count.new.printer ≡ records_text a1 =
    first-printed c.new-printer.result c.print_count.new.printer (count_record (codes "before") (minutes_taken net bids walks)) c.new-printer.ensures
    (c.in_ok-print_count.ensures ∙ ap (λ (n : ℕ). c.new-printer.result ++ record_text (count_record (codes "before") n))
    (c.from.ensures ∙ c.minutes_taken-before.ensures ∙ ap (λ (t : List (Option (List Leg))). minutes_taken net bids t) given)) in
    let e2 : c.print_count-2.new.printer ≡ records_text (a1 ++ a2 ∷ []) =
    one-printed c.print_count.new.printer c.print_count-2.new.printer a1 a2 e1
    (c.in_ok-print_count-2.ensures ∙ ap (λ (n : ℕ). c.print_count.new.printer ++ record_text (count_record (codes "after") n))
    (c.from-2.ensures ∙ c.minutes_taken-after.ensures ∙ ap (λ (t : List (Option (List Leg))). minutes_taken net bids t) (c.deref-4.ensures.value ∙ is_moved))) in
    let e3 : c.print_moved.new.printer ≡ records_text ((a1 ++ a2 ∷ []) ++ a3) =
    more-printed c.print_count-2.new.printer c.print_moved.new.printer (a1 ++ a2 ∷ []) a3 e2
    (c.in_ok-print_moved.ensures ∙ ap (λ (t : List (Option (List Leg))). c.print_count-2.new.printer ++ records_text (moved_records net 1 bids t)) (c.deref-5.ensures.value ∙ is_moved)) in
    let e4 : c.print_links.new.printer ≡ records_text (((a1 ++ a2 ∷ []) ++ a3) ++ a4) =
    more-printed c.print_moved.new.printer c.print_links.new.printer ((a1 ++ a2 ∷ []) ++ a3) a4 e3
    (c.in_ok-print_links.ensures ∙ ap (λ (t : List Link). c.print_moved.new.printer ++ records_text (map chain_record t)) (c.deref-6.ensures.value ∙ ap (λ d. d.chains) c.done.view_is)) in
    subst (λ (t : List ℕ). IfOk c.finish.result (λ (text : Vec ℕ Global). text.items ≡ t)) e4 c.finish.ensures
