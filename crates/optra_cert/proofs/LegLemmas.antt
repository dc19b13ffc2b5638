-- A leg is told by six fields behind the word.
use Rattle.std.proofs.Common.{◌≡◌, ◌≢◌, ℕ, [], ◌∷◌, length, drop, refl, arith}
use Rattle.std.specs.Prelude.{Err}
use Rattle.optra_network.specs.Net.{Net}
use Rattle.optra_records.specs.Reading.{Record}
use Rattle.optra_cert.specs.Forms.{field_at}
use Rattle.optra_cert.specs.RecordFields.{leg_by_fields, leg_told}
use Rattle.optra_cert.specs.declared.CertCode.TheVariants as code

-- another number of fields tells no leg
pub other_leg : (net : Net) (bids : ℕ) (fields : Record) → length fields ≢ 6 → leg_told net bids fields ≡ Err code.Record
unfolding leg_told
other_leg net bids [] h = refl
other_leg net bids (b ∷ []) h = refl
other_leg net bids (b ∷ t ∷ []) h = refl
other_leg net bids (b ∷ t ∷ d ∷ []) h = refl
other_leg net bids (b ∷ t ∷ d ∷ s ∷ []) h = refl
other_leg net bids (b ∷ t ∷ d ∷ s ∷ a ∷ []) h = refl
other_leg net bids (b ∷ t ∷ d ∷ s ∷ a ∷ w ∷ []) h = absurd (h refl)
other_leg net bids (b ∷ t ∷ d ∷ s ∷ a ∷ w ∷ x ∷ rest) h = refl

-- a record of another number of fields tells no leg
pub leg_others : (net : Net) (bids : ℕ) (fields : Record) → length fields ≢ 7 → leg_told net bids (drop 1 fields) ≡ Err code.Record
leg_others net bids [] h = other_leg net bids [] (λ e. absurd (omega (arith, e)))
leg_others net bids (word ∷ fields) h = other_leg net bids fields (λ e. h (omega (arith, e)))

-- a record of seven fields tells what those behind the word tell
pub leg_seven : (net : Net) (bids : ℕ) (fields : Record) → length fields ≡ 7
    → leg_told net bids (drop 1 fields) ≡ leg_by_fields net bids (field_at fields 1) (field_at fields 2) (field_at fields 3) (field_at fields 4) (field_at fields 5) (field_at fields 6)
unfolding leg_told
leg_seven net bids [] e = absurd (omega (arith, e))
leg_seven net bids (word ∷ []) e = absurd (omega (arith, e))
leg_seven net bids (word ∷ b ∷ []) e = absurd (omega (arith, e))
leg_seven net bids (word ∷ b ∷ t ∷ []) e = absurd (omega (arith, e))
leg_seven net bids (word ∷ b ∷ t ∷ d ∷ []) e = absurd (omega (arith, e))
leg_seven net bids (word ∷ b ∷ t ∷ d ∷ s ∷ []) e = absurd (omega (arith, e))
leg_seven net bids (word ∷ b ∷ t ∷ d ∷ s ∷ a ∷ []) e = absurd (omega (arith, e))
leg_seven net bids (word ∷ b ∷ t ∷ d ∷ s ∷ a ∷ w ∷ []) e = refl
leg_seven net bids (word ∷ b ∷ t ∷ d ∷ s ∷ a ∷ w ∷ x ∷ rest) e = absurd (omega (arith, e))
