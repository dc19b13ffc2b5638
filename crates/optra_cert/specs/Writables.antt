-- Valid certificates can be written.
use Rattle.std.specs.Prelude.{◌≡◌, ◌<◌, ◌^◌, true, List, length, All}
use Rattle.std.specs.List.{AllPairs}
use Rattle.std.specs.Prelude.{pos, ◌≤ℤ◌, ◌<ℤ◌}
use Rattle.std.specs.declared.cmp.Ordering.{Ordering}
use Rattle.std.specs.declared.cmp.Ordering.TheVariants.{Less}
use Rattle.optra_network.specs.Net.{Net}
use Rattle.optra_bid.specs.declared.bids.Bid.{Bid}
use Rattle.optra_walk.specs.Families.{Rows, Entry}
use Rattle.optra_node.specs.Certificates.{IsFormed, IsValid}
use Rattle.optra_cert.specs.Certs.{Cert, IsWritable}
use Rattle.optra_cert.specs.RowTexts.{RowTexts}

-- an ascending list of rows can be counted in 18 digits
abbrev pub AreFew : {R : Type 0} → (R → R → Ordering) → Rows R → Type 0
AreFew {R} cmp rows =
    (list : List R) → AllPairs (λ a b. cmp a b ≡ Less) list → All (λ row. rows.is_row row ≡ true) list → length list < 10 ^ 18

-- a valid certificate of a family with few rows, whose numbers are amounts, is writable in the family's version
abbrev pub ValidIsWritable : {R : Type 0} → (R → R → Ordering) → RowTexts R → Net → Rows R → (List Entry → Type 0) → List Bid → Type 0
ValidIsWritable {R} cmp texts net rows Keeps bids =
    (cert : Cert R) → AreFew cmp rows
    → IsFormed cmp net (length bids) cert.choice cert.tree
    → IsValid net rows Keeps bids cert.revenue cert.bound cert.choice cert.tree
    → pos 0 ≤ℤ cert.revenue → cert.revenue ≤ℤ cert.bound → cert.bound <ℤ pos (10 ^ 18)
    → IsWritable cmp texts net (length bids) texts.version cert
