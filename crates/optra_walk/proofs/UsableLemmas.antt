-- The legs of a choice's walks are ones that a family of rows may be asked of.
use Rattle.std.proofs.Common.{◌≡◌, ℕ, ◌+◌, ◌-◌, ◌≤◌, ◌<◌, Bool, true, false, List, [], ◌∷◌, map, length, get_or, filter, Option, Some, None, IsSomeAnd, slice_get, refl, sym, ap, ◌∙◌, subst, cond, arith}
use Rattle.std.specs.Prelude.{All}
use Rattle.std.specs.List.{AllZip}
use Rattle.std.proofs.lemmas.List.Elements.{All-nil, All-cons, All-head, All-tail, All-append, All-map}
use Rattle.std.proofs.lemmas.Option.{get_or_from_slice_get}
use Rattle.optra_network.specs.Net.{Net, IsProper}
use Rattle.optra_bid.specs.Specs.{Path, IsStop}
use Rattle.optra_bid.specs.declared.Stop.{Stop}
use Rattle.optra_bid.specs.declared.bids.Bid.{Bid}
use Rattle.optra_walk.specs.declared.Action.{Action}
use Rattle.optra_walk.specs.declared.Action.TheVariants.{Pass, Halt, Wait, Finish}
use Rattle.optra_walk.specs.declared.Leg.{Leg}
use Rattle.optra_walk.specs.Legs.{is_halt, dwell_of, arrival_of}
use Rattle.optra_walk.specs.Walks.{IsWalk, IsEnd, MeetsStop, IsAllowedWait, last_leg}
use Rattle.optra_walk.specs.Choices.{IsChoice}
use Rattle.optra_walk.specs.Families.{Entry, IsUsable, entries_of}
use Rattle.optra_walk.proofs.WalkLemmas.{arrival_later, rises}

-- what is true of what a filter keeps
filtered : {X : Type 0} (p : X → Bool) (P : X → Type 0) (xs : List X) → All P (filter p xs) → All (λ x. p x ≡ true → P x) xs
filtered p P [] h = All-nil (λ x. p x ≡ true → P x)
filtered p P (x ∷ xs) h = by (p x) refl h (filtered p P xs)
  where
    clash : false ≡ true → ⊥
    clash e = cc

    by : (b : Bool) → p x ≡ b → All P (cond b (x ∷ filter p xs) (filter p xs)) → (All P (filter p xs) → All (λ x. p x ≡ true → P x) xs) → All (λ x. p x ≡ true → P x) (x ∷ xs)
    by true e h before = All-cons (λ x. p x ≡ true → P x) x xs (λ _. All-head P x (filter p xs) h) (before (All-tail P x (filter p xs) h))
    by false e h before = All-cons (λ x. p x ≡ true → P x) x xs (λ q. absurd (clash (sym e ∙ q))) (before h)

zipped : {A B : Type 0} (R : A → B → Type 0) (Q : B → Type 0) (P : A → Type 0) → ((a : A) (b : B) → R a b → Q b → P a) → (xs : List A) (ys : List B) → AllZip R xs ys → All Q ys → All P xs
zipped R Q P f [] ys h all = All-nil P
zipped R Q P f (x ∷ xs) [] h all = absurd h
zipped R Q P f (x ∷ xs) (y ∷ ys) h all = All-cons P x xs (f x y h.0 (All-head Q y ys all)) (zipped R Q P f xs ys h.1 (All-tail Q y ys all))

module _ (net : Net) (proper : IsProper net) (path : Path) (legs : List Leg) (walk : IsWalk net path legs) (day : path.arrive.to ≤ 2879) where
  departs : (last : Leg) → slice_get legs (length legs - 1) ≡ Some last → IsEnd net path last → (k : ℕ) (d : Leg) → k < length legs → (get_or legs k d).depart ≤ 2879
  departs last at ends k d l =
      let is : get_or legs (length legs - 1) d ≡ last = get_or_from_slice_get legs (length legs - 1) last d at in
      let up = rises net path.kind proper legs d walk.goes_on k (length legs - 1 - k) (omega arith) in
      let here : k + (length legs - 1 - k) ≡ length legs - 1 = omega arith in
      let same = ap (λ (n : ℕ). (get_or legs n d).depart) here in
      let same_last = ap (λ (leg : Leg). leg.depart) is in
      let a = arrives (arrival_of net path.kind last) refl ends.time in
      omega arith
    where
      arrives : (o : Option ℕ) → arrival_of net path.kind last ≡ o → IsSomeAnd o (λ n. (path.arrive.from ≤ n) × (n ≤ path.arrive.to)) → last.depart + 1 ≤ path.arrive.to
      arrives None e h = absurd h
      arrives (Some n) e h = let l = arrival_later net path.kind last n proper e in let u = h.1 in omega arith

pub walk_usable : (net : Net) → IsProper net → (bid : Bid) (legs : List Leg) → IsWalk net bid.path legs → All (IsUsable net bid.path.kind) legs
walk_usable net proper bid legs walk k d l = record {
  proper = proper;
  may_use = walk.may_use k d l;
  depart = ends (last_leg legs) refl walk.end;
  dwell = dwells (get_or legs k d).action refl;
}
  where
    ends : (o : Option Leg) → last_leg legs ≡ o → IsSomeAnd o (IsEnd net bid.path) → (get_or legs k d).depart ≤ 2879
    ends None e h = absurd h
    ends (Some last) e h = departs net proper bid.path legs walk bid.bounds.arrive.day last e h k d l

    dwells : (a : Action) → (get_or legs k d).action ≡ a → dwell_of a ≤ 240
    dwells Pass e = omega arith
    dwells Finish e = omega arith
    dwells (Wait n) e =
        let w = subst (IsAllowedWait bid.path.wait_max) e (walk.waits k d l) in
        let b = bid.bounds.wait_max in
        let u = w.1 in
        omega arith
    dwells (Halt n) e =
        let all = zipped (MeetsStop net bid.path.kind) IsStop (λ leg. dwell_of leg.action ≤ 240) (λ leg stop meets is. le (dwell_of leg.action) stop meets.dwell.1 is.dwell_max)
        (filter (λ leg. is_halt leg.action) legs) bid.path.stops walk.stops bid.bounds.stops in
        let at = filtered (λ leg. is_halt leg.action) (λ leg. dwell_of leg.action ≤ 240) legs all k d l (ap is_halt e) in
        subst (λ a. dwell_of a ≤ 240) e at
      where
        le : (n : ℕ) (stop : Stop) → n ≤ stop.max_dwell → stop.max_dwell ≤ 240 → n ≤ 240
        le n stop a b = omega arith

pub choice_usable : (net : Net) → IsProper net → (bids : List Bid) (walks : List (Option (List Leg))) → IsChoice net bids walks → All (λ e. IsUsable net e.0 e.1) (entries_of bids walks)
choice_usable net proper [] walks h = All-nil (λ (e : Entry). IsUsable net e.0 e.1)
choice_usable net proper (bid ∷ bids) [] h = All-nil (λ (e : Entry). IsUsable net e.0 e.1)
choice_usable net proper (bid ∷ bids) (None ∷ walks) h = choice_usable net proper bids walks h.1
choice_usable net proper (bid ∷ bids) (Some legs ∷ walks) h =
    All-append (λ (e : Entry). IsUsable net e.0 e.1) (map (λ leg. (bid.path.kind, leg)) legs) (entries_of bids walks)
    (All-map (λ (e : Entry). IsUsable net e.0 e.1) (λ (leg : Leg). (bid.path.kind, leg)) legs (walk_usable net proper bid legs h.0))
    (choice_usable net proper bids walks h.1)
