-- The bids that stand, one after another.
use Rattle.std.proofs.Common.{◌≡◌, ℕ, zero, suc, ◌+◌, ◌<◌, List, [], ◌∷◌, ◌++◌, length, drop, get_or, Option, option_map, refl, sym, ap, ◌∙◌, arith, add-one, append_assoc}
use Rattle.std.specs.Prelude.{ℤ}
use Rattle.optra_network.specs.Net.{Net}
use Rattle.optra_bid.specs.declared.bids.Bid.{Bid}
use Rattle.optra_walk.specs.Values.{value_of}
use Rattle.optra_walk.specs.declared.Leg.{Leg}
use Rattle.optra_rounds.specs.Rounds.{values_of}

-- from a place on, the value of its bid comes first
values-at : (net : Net) (bids : List Bid) (walks : List (Option (List Leg))) (i : ℕ) (bid : Bid) (walk : Option (List Leg)) → i < length bids → i < length walks → bid ≡ get_or bids i bid → walk ≡ get_or walks i walk
    → values_of net (drop i bids) (drop i walks) ≡ option_map (value_of net bid.path bid.money) walk ∷ values_of net (drop (i + 1) bids) (drop (i + 1) walks)
values-at net [] walks i bid walk h k b w = absurd (omega arith)
values-at net (x ∷ bids) [] i bid walk h k b w = absurd (omega arith)
values-at net (x ∷ bids) (y ∷ walks) zero bid walk h k b w = λ j. option_map (value_of net (sym b j).path (sym b j).money) (sym w j) ∷ values_of net bids walks
values-at net (x ∷ bids) (y ∷ walks) (suc i) bid walk h k b w = rw (values-at net bids walks i bid walk (omega arith) (omega arith) b w, add-one i, add-one (suc i)) refl

-- one more value
pub next-values : (net : Net) (bids : List Bid) (walks : List (Option (List Leg))) (i : ℕ) (bid : Bid) (walk : Option (List Leg)) (value : Option ℤ) (old new whole : List (Option ℤ))
    → i < length bids → i < length walks → bid ≡ get_or bids i bid → walk ≡ get_or walks i walk → value ≡ option_map (value_of net bid.path bid.money) walk → new ≡ old ++ value ∷ []
    → old ++ values_of net (drop i bids) (drop i walks) ≡ whole → new ++ values_of net (drop (i + 1) bids) (drop (i + 1) walks) ≡ whole
next-values net bids walks i bid walk value old new whole h k b w v pushed e =
    ap (λ (l : List (Option ℤ)). l ++ values_of net (drop (i + 1) bids) (drop (i + 1) walks)) pushed
    ∙ append_assoc old (value ∷ []) (values_of net (drop (i + 1) bids) (drop (i + 1) walks))
    ∙ (λ j. old ++ (v j ∷ values_of net (drop (i + 1) bids) (drop (i + 1) walks)))
    ∙ ap (λ (l : List (Option ℤ)). old ++ l) (sym (values-at net bids walks i bid walk h k b w)) ∙ e
