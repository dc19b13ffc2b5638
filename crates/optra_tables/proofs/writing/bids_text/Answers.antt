-- What is printed is the table, and the two tables mean the bids.
use Rattle.std.proofs.Common.{◌≡◌, ◌++◌, ℕ, List, map, IfOk, ap, ◌∙◌, subst}
use Rattle.optra_records.specs.Texts.{record_text, records_text}
use Rattle.optra_bid.specs.Offers.{offer_of}
use Rattle.optra_tables.specs.Bids.{bids_header}
use Rattle.optra_tables.specs.Written.{bid_record, bids_table}
use Rattle.optra_tables.proofs.WrittenLaw.{bids_mean}
use Rattle.optra_tables.proofs.WrittenPrints.{if_there}
use Rattle.optra_tables.proofs.writing.bids_text.Goals as goal

pub returns-clause-text : goal.returns-clause-text
unfolding bids_table
returns-clause-text c =
    let header = c.in_ok-print_bids_header.ensures ∙ ap (λ (t : List ℕ). t ++ record_text bids_header) c.new-printer.ensures in
    let same : c.print_bids.new.printer ≡ bids_table c.args.net.now (map offer_of c.args.bids.now) =
    c.in_ok-print_bids.ensures.text ∙ ap (λ (t : List ℕ). t ++ records_text (map (bid_record c.args.net.now) (map offer_of c.args.bids.now))) header in
    subst (λ (all : List ℕ). IfOk c.finish.result (λ text. text.items ≡ all)) same c.finish.ensures

pub returns-clause-again : goal.returns-clause-again
returns-clause-again c =
    if_there _ _ c.finish.result
    (λ text e. bids_mean c.args.net.now c.args.bids.now text.items c.laws.ensures c.requires.instance c.requires.differ c.in_ok-print_bids.ensures.sound e)
    (returns-clause-text c)
