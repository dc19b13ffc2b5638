-- The tests of a node as yes or no are its tests.
use Rattle.std.proofs.Common.{◌≡◌, ℕ, zero, suc, ◌+◌, ◌<◌, ◌≤◌, ◌↔◌, Bool, true, false, not, cond, List, [], ◌∷◌, length, get_or, Option, Some, None, IfSome, refl, sym, ap, ◌∙◌, subst, arith, inl, inr}
use Rattle.std.specs.Prelude.{All, ◌&&◌, ◌||◌, nat_eq, nat_lt, nat_le}
use Rattle.std.specs.List.{list_all}
use Rattle.std.specs.Option.{option_map_or}
use Rattle.std.specs.declared.cmp.Ordering.{Ordering}
use Rattle.std.proofs.lemmas.Bool.{cases_lt, false≢true}
use mathlib.Core.Bool.{beq}
use Rattle.std.proofs.lemmas.Bool.Decides.{nat_tests}
use Rattle.std.proofs.lemmas.List.Elements.{All-contains}
use Rattle.std.proofs.lemmas.List.Sums.{AllPass-from_list_all, list_all-from_AllPass}
use Rattle.optra_network.specs.Net.{Net}
use Rattle.optra_network.specs.declared.TypeId.{TypeId}
use Rattle.optra_bid.specs.declared.bids.Bid.{Bid}
use Rattle.optra_walk.specs.declared.Action.{Action}
use Rattle.optra_walk.specs.declared.Action.TheVariants.{Pass, Halt, Wait, Finish}
use Rattle.optra_walk.specs.declared.Leg.{Leg}
use Rattle.optra_walk.specs.Families.{Rows, ListsRows, UseAlike}
use Rattle.optra_walk.specs.Legs.{next_depart_of}
use Rattle.optra_node.specs.declared.Decision.{Decision}
use Rattle.std.specs.Prelude.{pos, ◌*ℤ◌}
use Rattle.optra_node.specs.Nodes.{IsBlocked, others_load}
use Rattle.optra_node.specs.Duals.{PriceList, sum_of, leg_price}
use Rattle.optra_node.specs.Spans.{HoldsMinute, Lets, IsLetBy, IsStartOk, IsLegOk}
use Rattle.optra_open.specs.Tests.{may_start_at, same_action, same_leg, spans_minute, lets_leg, all_let, has_room, may_have_leg}

same_read : {X : Type 0} (xs : List X) (k : ℕ) (d e : X) → k < length xs → get_or xs k e ≡ get_or xs k d
same_read [] k d e l = absurd (omega arith)
same_read (x ∷ xs) zero d e l = refl
same_read (x ∷ xs) (suc k) d e l = same_read xs k d e (omega arith)

-- a test of each element
all_by : {X : Type 0} (p : X → Bool) (P : X → Type 0) → ((x : X) → (p x ≡ true) ↔ P x) → (xs : List X) → (list_all p xs ≡ true) ↔ All P xs
all_by p P each xs = ((λ e k d l. (each (get_or xs k d)).0 (AllPass-from_list_all p xs e k d l)), (λ h. list_all-from_AllPass p xs (λ k d l. (each (get_or xs k d)).1 (h k d l))))

both_by : (a b : Bool) (P Q : Type 0) → (a ≡ true) ↔ P → (b ≡ true) ↔ Q → ((a && b) ≡ true) ↔ (P × Q)
both_by true true P Q f g = ((λ e. (f.0 refl, g.0 refl)), (λ h. refl))
both_by true false P Q f g = ((λ e. absurd (false≢true e)), (λ h. g.1 h.1))
both_by false b P Q f g = ((λ e. absurd (false≢true e)), (λ h. f.1 h.0))

pub start_tested : (node : List Decision) (number minute : ℕ) → (may_start_at node number minute ≡ true) ↔ IsStartOk node number minute
start_tested node number minute =
    all_by (λ d. not ((d.yes && nat_eq d.bid number) && nat_lt d.leg.depart minute)) (λ d. d.bid ≡ number → d.yes ≡ true → minute ≤ d.leg.depart) (λ d. by d d.yes (nat_eq d.bid number) (nat_lt d.leg.depart minute) refl refl refl) node
  where
    by : (d : Decision) (y n t : Bool) → d.yes ≡ y → nat_eq d.bid number ≡ n → nat_lt d.leg.depart minute ≡ t → (not ((y && n) && t) ≡ true) ↔ (d.bid ≡ number → d.yes ≡ true → minute ≤ d.leg.depart)
    by d true true true e f g = ((λ h. absurd (false≢true h)), (λ h. let b : d.bid ≡ number = grind (arith, nat_tests) in let m = h b e in absurd (grind (arith, nat_tests))))
    by d true true false e f g = ((λ h b y. grind (arith, nat_tests)), (λ h. refl))
    by d true false t e f g = ((λ h b y. absurd (grind (arith, nat_tests))), (λ h. refl))
    by d false n t e f g = ((λ h b y. absurd (false≢true (sym e ∙ y))), (λ h. refl))

action_same : (a b : Action) → same_action a b ≡ true → a ≡ b
action_same Pass Pass h = refl
action_same Pass (Halt n) h = absurd (false≢true h)
action_same Pass (Wait n) h = absurd (false≢true h)
action_same Pass Finish h = absurd (false≢true h)
action_same (Halt m) Pass h = absurd (false≢true h)
action_same (Halt m) (Halt n) h = let e : m ≡ n = grind (arith, nat_tests) in ap Halt e
action_same (Halt m) (Wait n) h = absurd (false≢true h)
action_same (Halt m) Finish h = absurd (false≢true h)
action_same (Wait m) Pass h = absurd (false≢true h)
action_same (Wait m) (Halt n) h = absurd (false≢true h)
action_same (Wait m) (Wait n) h = let e : m ≡ n = grind (arith, nat_tests) in ap Wait e
action_same (Wait m) Finish h = absurd (false≢true h)
action_same Finish Pass h = absurd (false≢true h)
action_same Finish (Halt n) h = absurd (false≢true h)
action_same Finish (Wait n) h = absurd (false≢true h)
action_same Finish Finish h = refl

same_bool : (a b : Bool) → cond a b (not b) ≡ true → a ≡ b
same_bool true b h = sym h
same_bool false true h = absurd (false≢true h)
same_bool false false h = refl

bool_itself : (a : Bool) → cond a a (not a) ≡ true
bool_itself true = refl
bool_itself false = refl

nat_itself : (n : ℕ) → nat_eq n n ≡ true
nat_itself n = grind (arith, nat_tests)

parts : (a b c d : Bool) → (((a && b) && c) && d) ≡ true → (a ≡ true) × (b ≡ true) × (c ≡ true) × (d ≡ true)
parts true true true d h = (refl, refl, refl, h)
parts true true false d h = absurd (false≢true h)
parts true false c d h = absurd (false≢true h)
parts false b c d h = absurd (false≢true h)

pub leg_same : (a b : Leg) → same_leg a b ≡ true → a ≡ b
leg_same a b h =
    let p = parts (nat_eq a.track.0 b.track.0) (nat_eq a.depart b.depart) (cond a.from_halt b.from_halt (not b.from_halt)) (same_action a.action b.action) h in
    let track : a.track.0 ≡ b.track.0 = let e = p.0 in grind (arith, nat_tests) in
    let depart : a.depart ≡ b.depart = let e = p.1 in grind (arith, nat_tests) in
    let halt = same_bool a.from_halt b.from_halt p.2 in
    let action = action_same a.action b.action p.3 in
    (λ i. record { track = record { 0 = track i }; depart = depart i; from_halt = halt i; action = action i })

leg_itself : (a : Leg) → same_leg a a ≡ true
leg_itself a = all (nat_eq a.track.0 a.track.0) (nat_eq a.depart a.depart) (cond a.from_halt a.from_halt (not a.from_halt)) (same_action a.action a.action) (nat_itself a.track.0) (nat_itself a.depart) (bool_itself a.from_halt) (by a.action)
  where
    all : (p q r s : Bool) → p ≡ true → q ≡ true → r ≡ true → s ≡ true → (((p && q) && r) && s) ≡ true
    all p q r s e f g h = cc

    by : (x : Action) → same_action x x ≡ true
    by Pass = refl
    by (Halt n) = nat_itself n
    by (Wait n) = nat_itself n
    by Finish = refl

module _ (net : Net) (kind : TypeId) where
  spans_tested : (leg : Leg) (minute : ℕ) → (spans_minute net kind leg minute ≡ true) ↔ HoldsMinute net kind leg minute
  spans_tested leg minute =
      let both = both_by (nat_le leg.depart minute) (option_map_or (λ next. nat_lt minute next) (next_depart_of net kind leg) true) (leg.depart ≤ minute) (IfSome (next_depart_of net kind leg) (λ next. minute < next))
      ((λ h. grind (arith, nat_tests)), (λ h. grind (arith, nat_tests))) (by (next_depart_of net kind leg)) in
      ((λ e. let h = both.0 e in record { from = h.0; to = h.1 }), (λ h. both.1 (h.from, h.to)))
    where
      by : (o : Option ℕ) → (option_map_or (λ next. nat_lt minute next) o true ≡ true) ↔ IfSome o (λ next. minute < next)
      by None = ((λ _. tt), (λ _. refl))
      by (Some n) = ((λ h. grind (arith, nat_tests)), (λ h. grind (arith, nat_tests)))

  lets_tested : (d : Decision) (leg : Leg) → (lets_leg net kind d leg ≡ true) ↔ Lets net kind d leg
  lets_tested d leg = by (same_leg leg d.leg) d.yes (spans_minute net kind leg d.leg.depart) refl refl refl
    where
      differ : same_leg leg d.leg ≡ false → leg ≡ d.leg → ⊥
      differ e q = false≢true (sym e ∙ subst (λ l. same_leg leg l ≡ true) q (leg_itself leg))

      by : (s y h : Bool) → same_leg leg d.leg ≡ s → d.yes ≡ y → spans_minute net kind leg d.leg.depart ≡ h → (cond s y (not (y && h)) ≡ true) ↔ Lets net kind d leg
      by true true h e f g = ((λ t. record { yes = λ _ _. leg_same leg d.leg e; no = λ n. absurd (false≢true (sym n ∙ f)) }), (λ l. refl))
      by true false h e f g = ((λ t. absurd (false≢true t)), (λ l. absurd (l.no f (leg_same leg d.leg e))))
      by false true true e f g = ((λ t. absurd (false≢true t)), (λ l. absurd (differ e (l.yes f ((spans_tested leg d.leg.depart).0 g)))))
      by false true false e f g = ((λ t. record { yes = λ _ m. absurd (false≢true (sym g ∙ (spans_tested leg d.leg.depart).1 m)); no = λ _. differ e }), (λ l. refl))
      by false false h e f g = ((λ t. record { yes = λ y. absurd (false≢true (sym f ∙ y)); no = λ _. differ e }), (λ l. refl))

  pub all_tested : (node : List Decision) (number : ℕ) (leg : Leg) → (all_let net node number kind leg ≡ true) ↔ IsLetBy net node number kind leg
  all_tested node number leg = all_by (λ d. not (nat_eq d.bid number) || lets_leg net kind d leg) (λ d. d.bid ≡ number → Lets net kind d leg) (λ d. by d (nat_eq d.bid number) refl) node
    where
      by : (d : Decision) (n : Bool) → nat_eq d.bid number ≡ n → ((not n || lets_leg net kind d leg) ≡ true) ↔ (d.bid ≡ number → Lets net kind d leg)
      by d true e = ((λ h _. (lets_tested d leg).0 h), (λ h. let b : d.bid ≡ number = grind (arith, nat_tests) in (lets_tested d leg).1 (h b)))
      by d false e = ((λ h b. absurd (grind (arith, nat_tests))), (λ h. refl))

  module _ {R : Type 0} (cmp : R → R → Ordering) (rows : Rows R) (used : TypeId → Leg → List R) (bids : List Bid) (node : List Decision) (number : ℕ) (leg : Leg)
      (lists : ListsRows cmp rows.is_row (rows.uses kind leg) (used kind leg)) where
    abbrev Fits : R → Type 0
    Fits row = rows.uses kind leg row + others_load rows bids node number row ≤ rows.capacity row

    room_tested : (has_room rows used bids node number kind leg ≡ true) ↔ (IsBlocked rows bids node number kind leg → ⊥)
    room_tested = ((λ e. free (all.0 e)), (λ f. all.1 (room f)))
      where
        all : (has_room rows used bids node number kind leg ≡ true) ↔ All Fits (used kind leg)
        all = all_by (λ row. nat_le (rows.uses kind leg row + others_load rows bids node number row) (rows.capacity row)) Fits (λ row. ((λ h. grind (arith, nat_tests)), (λ h. grind (arith, nat_tests)))) (used kind leg)

        free : All Fits (used kind leg) → IsBlocked rows bids node number kind leg → ⊥
        free fits (row, b) = let above = b.above in let fit = All-contains Fits (used kind leg) row fits ((lists.used row).0 b.used) in omega arith

        room : (IsBlocked rows bids node number kind leg → ⊥) → All Fits (used kind leg)
        room f k d l = elim (cases_lt (rows.capacity (get_or (used kind leg) k d)) (rows.uses kind leg (get_or (used kind leg) k d) + others_load rows bids node number (get_or (used kind leg) k d))) as (λ _. Fits (get_or (used kind leg) k d)) [
          | inl above ↦
              let pos = (lists.used (get_or (used kind leg) k d)).1 (k, l, same_read (used kind leg) k d (get_or (used kind leg) k d) l) in
              absurd (f (get_or (used kind leg) k d, record { is_row = lists.are_rows (get_or (used kind leg) k d) pos; used = pos; above = above }))
          | inr le ↦ le
        ]

    -- whether a walk of the bid may have the leg
    pub leg_tested : (may_have_leg net rows used bids node number kind leg ≡ true) ↔ IsLegOk net rows bids node number kind leg
    leg_tested =
        let both = both_by (all_let net node number kind leg) (has_room rows used bids node number kind leg) (IsLetBy net node number kind leg) (IsBlocked rows bids node number kind leg → ⊥) (all_tested node number leg) room_tested in
        ((λ e. let h = both.0 e in record { let_by = h.0; free = h.1 }), (λ h. both.1 (h.let_by, h.free)))

-- a walk of the bid may have two legs that use alike, at one price, or neither, where the decisions let it have both or neither
pub alike_by : {R : Type 0} (net : Net) (rows : Rows R) (used : TypeId → Leg → List R) (bids : List Bid) (node : List Decision) (number : ℕ) (kind : TypeId) (first second : Leg) → UseAlike rows used kind first second
    → all_let net node number kind first ≡ all_let net node number kind second → (prices : PriceList R)
    → (may_have_leg net rows used bids node number kind first ≡ may_have_leg net rows used bids node number kind second) × (leg_price rows prices kind first ≡ leg_price rows prices kind second)
alike_by net rows used bids node number kind first second (uses, listed) lets prices = (
  (λ i. lets i && list_all (λ row. nat_le (uses row i + others_load rows bids node number row) (rows.capacity row)) (listed i)),
  (λ i. sum_of (λ e. e.1 *ℤ pos (uses e.0 i)) prices),
)

-- two answers that a test finds equal
pub same_answer : (a b : Bool) → beq a b ≡ true → a ≡ b
same_answer true true h = refl
same_answer true false h = absurd (false≢true h)
same_answer false true h = absurd (false≢true h)
same_answer false false h = refl
