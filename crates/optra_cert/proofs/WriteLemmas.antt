-- What is written of a writable certificate is its text.
use Rattle.std.proofs.Common.{◌≡◌, ℕ, List, [], ◌∷◌, ◌++◌, get_or, sym, ap, ◌∙◌, flat_map, ℤ, pos, negsuc, FitsSigned, w64, arith}
use Rattle.std.specs.Prelude.{All}
use Rattle.std.specs.List.{AllZip}
use Rattle.std.specs.declared.cmp.Ordering.{Ordering}
use Rattle.std.proofs.lemmas.List.Concat.{flat_map-append}
use Rattle.optra_network.specs.Net.{Net}
use Rattle.optra_node.specs.declared.Item.{Item}
use Rattle.optra_node.specs.declared.Item.TheVariants.{Split, NoWalk, Forced, Priced}
use Rattle.optra_node.specs.Certificates.{IsFormedItem}
use Rattle.optra_records.specs.Texts.{record_text, records_text}
use Rattle.optra_cert.specs.Columns.{Column, a_station, a_track, a_type, a_number, a_word, FitsIn, IsKnownIn}
use Rattle.optra_cert.specs.RowTexts.{RowTexts, FitsRow, IsKnownRow}
use Rattle.optra_cert.specs.Certs.{Cert, IsAmount, IsWritable, IsWritableItem, IsPrintable}
use Rattle.optra_cert.specs.CertTexts.{cert_text, head_records, leg_records, item_records}

-- values that fit have texts
known : (net : Net) (column : Column) (n : ℕ) → FitsIn net column n → IsKnownIn net column n
known net a_station n h = h
known net a_track n h = h
known net a_type n h = h
known net (a_number low high) n h = tt
known net (a_word words) n h = h

all_known : (net : Net) (columns : List Column) (values : List ℕ) → AllZip (FitsIn net) columns values → AllZip (IsKnownIn net) columns values
all_known net [] [] h = tt
all_known net [] (n ∷ values) h = absurd h
all_known net (column ∷ columns) [] h = absurd h
all_known net (column ∷ columns) (n ∷ values) h = (known net column n h.0, all_known net columns values h.1)

module _ {R : Type 0} (cmp : R → R → Ordering) (texts : RowTexts R) (net : Net) where
  row_known : (row : R) → FitsRow texts net row → IsKnownRow texts net row
  row_known row h = all_known net (texts.told row).0.columns (texts.told row).1 h

  item_printable : (bids version : ℕ) (item : Item R) → IsFormedItem cmp net bids item → IsWritableItem texts net version item → IsPrintable texts net item
  item_printable bids version (Split bid leg) f w = f.1
  item_printable bids version (NoWalk bid) f w = tt
  item_printable bids version (Forced row) f w = row_known row w.1
  item_printable bids version (Priced prices) f w = λ k d l. row_known (get_or prices k d).0 (w.1 k d l).0.1

  -- the items of a writable certificate have records
  pub items_printable : (bids version : ℕ) (cert : Cert R) → IsWritable cmp texts net bids version cert → All (IsPrintable texts net) cert.tree
  items_printable bids version cert w k d l = item_printable bids version (get_or cert.tree k d) (w.formed.items k d l) (w.items k d l)

-- the three parts are the whole
pub parts_text : {R : Type 0} (texts : RowTexts R) (net : Net) (version : ℕ) (cert : Cert R)
    → (records_text (head_records version cert.revenue cert.bound) ++ records_text (leg_records net 0 cert.choice)) ++ records_text (flat_map (item_records texts net) cert.tree) ≡ cert_text texts net version cert
unfolding cert_text
parts_text texts net version cert =
    sym (flat_map-append record_text (head_records version cert.revenue cert.bound ++ leg_records net 0 cert.choice) (flat_map (item_records texts net) cert.tree)
    ∙ ap (λ (t : List ℕ). t ++ records_text (flat_map (item_records texts net) cert.tree)) (flat_map-append record_text (head_records version cert.revenue cert.bound) (leg_records net 0 cert.choice)))

-- three parts, printed one after the other
pub printed_parts : (a b c d first second third : List ℕ) → d ≡ c ++ third → c ≡ b ++ second → b ≡ a ++ first → a ≡ [] → d ≡ (first ++ second) ++ third
printed_parts a b c d first second third e3 e2 e1 e0 =
    e3 ∙ ap (λ (t : List ℕ). t ++ third) (e2 ∙ ap (λ (t : List ℕ). t ++ second) (e1 ∙ ap (λ (t : List ℕ). t ++ first) e0))

-- an amount that can be stated fits 64 bits with a sign
pub amount_fits : (n : ℤ) → IsAmount n → FitsSigned w64 n
amount_fits (pos n) h = grind (arith, h)
amount_fits (negsuc n) h = grind (arith, h)
