-- The nodes still to come, with one decision more and one less.
use Rattle.std.proofs.Common.{◌≡◌, ℕ, ◌+◌, ◌<◌, ◌≤◌, true, false, cond, List, [], ◌∷◌, ◌++◌, length, get_or, take, Option, None, Some, slice_get, refl, sym, ap, ◌∙◌, subst, append_assoc, arith, inl, inr}
use Rattle.std.specs.Prelude.{Result, Ok, Err, IfOk, IsSomeAnd}
use Rattle.std.proofs.lemmas.Bool.{cases_lt, false≢true}
use Rattle.std.proofs.lemmas.List.{append-nil, get_or-take, length-append, take_at, take-append-le, take-take}
use Rattle.std.proofs.lemmas.Option.{get_or_from_slice_get, slice_get_within, slice_get-get_or}
use Rattle.optra_node.specs.declared.Decision.{Decision}
use Rattle.optra_node.specs.Trees.{decide_not}
use Rattle.optra_open.specs.ToCome.{to_come_behind, to_come, open_with, IsYesAt}

-- what a decision leaves to come beside what stands before it
abbrev left_by : List Decision → Decision → List (List Decision)
left_by node d = cond d.yes ((node ++ decide_not d.bid d.leg ∷ []) ∷ []) []

behind-push : (before ds : List Decision) (d : Decision) → to_come_behind before (ds ++ d ∷ []) ≡ left_by (before ++ ds) d ++ to_come_behind before ds
behind-push before [] d = ap (λ n. left_by n d) (sym (append-nil before)) ∙ sym (append-nil (left_by (before ++ []) d))
behind-push before (x ∷ xs) d =
    let rest = to_come_behind (before ++ x ∷ []) xs in
    let here = left_by before x in
    ap (λ ways. ways ++ here) (behind-push (before ++ x ∷ []) xs d)
    ∙ append_assoc (left_by ((before ++ x ∷ []) ++ xs) d) rest here
    ∙ ap (λ n. left_by n d ++ (rest ++ here)) (append_assoc before (x ∷ []) xs)

pub to_come-push : (node : List Decision) (d : Decision) → to_come (node ++ d ∷ []) ≡ left_by node d ++ to_come node
to_come-push node d = behind-push [] node d

-- a no decision leaves nothing to come
pub no_leaves_none : (node before : List Decision) (d : Decision) → node ≡ before ++ d ∷ [] → d.yes ≡ false → to_come node ≡ to_come before
no_leaves_none node before d is e = ap to_come is ∙ to_come-push before d ∙ ap (λ y. cond y ((before ++ decide_not d.bid d.leg ∷ []) ∷ []) [] ++ to_come before) e

-- a yes decision leaves its no part, after which comes what came before
pub yes_leaves_no : (node before next : List Decision) (d : Decision) → node ≡ before ++ d ∷ [] → d.yes ≡ true → next ≡ before ++ decide_not d.bid d.leg ∷ [] → to_come node ≡ open_with next
yes_leaves_no node before next d is e made =
    ap to_come is ∙ to_come-push before d ∙ ap (λ y. cond y ((before ++ decide_not d.bid d.leg ∷ []) ∷ []) [] ++ to_come before) e
    ∙ (λ i. sym made i ∷ sym (ap to_come made ∙ to_come-push before (decide_not d.bid d.leg)) i)

-- below a split, its yes part is open and its no part is the first to come
pub split_opens : (node next : List Decision) (d : Decision) → next ≡ node ++ d ∷ [] → d.yes ≡ true
    → next ∷ (node ++ decide_not d.bid d.leg ∷ []) ∷ to_come node ≡ open_with next
split_opens node next d made e =
    ap (λ ways. next ∷ ways) (sym (ap to_come made ∙ to_come-push node d ∙ ap (λ y. cond y ((node ++ decide_not d.bid d.leg ∷ []) ∷ []) [] ++ to_come node) e))

-- what follows of an answer's value follows where there is one
pub if_ok : {T E : Type 0} (r : Result T E) (P Q : T → Type 0) → ((x : T) → P x → Q x) → IfOk r P → IfOk r Q
if_ok (Ok x) P Q f h = f x h
if_ok (Err e) P Q f h = tt

-- the decision at the place of a yes
yes_at : (node : List Decision) (k : ℕ) → IsYesAt node k → (d : Decision) × (slice_get node k ≡ Some d) × (d.yes ≡ true)
yes_at node k h = by (slice_get node k) refl h
  where
    by : (o : Option Decision) → slice_get node k ≡ o → IsSomeAnd o (λ d. d.yes ≡ true) → (d : Decision) × (slice_get node k ≡ Some d) × (d.yes ≡ true)
    by None e h = absurd h
    by (Some d) e h = (d, e, h)

pub yes_inside : (node : List Decision) (k : ℕ) → IsYesAt node k → k < length node
yes_inside node k h = let y = yes_at node k h in slice_get_within node k y.0 y.1

-- no decision from a place on is a yes, where none is behind it and the one there is none
pub none_more : (node : List Decision) (k : ℕ) (z : Decision) → (get_or node k z).yes ≡ false → ((j : ℕ) → k < j → IsYesAt node j → ⊥) → (j : ℕ) → k ≤ j → IsYesAt node j → ⊥
none_more node k z is_no none j le h = elim (cases_lt k j) as (λ _. ⊥) [
  | inl later ↦ none j later h
  | inr past ↦
      let same : k ≡ j = omega (arith, le, past) in
      let y = yes_at node j h in
      false≢true (sym is_no ∙ ap (λ (i : ℕ). (get_or node i z).yes) same ∙ ap (λ (d : Decision). d.yes) (get_or_from_slice_get node j y.0 z y.1) ∙ y.2)
]

-- a yes decision at a place
pub yes_there : (node : List Decision) (k : ℕ) (z : Decision) → k < length node → (get_or node k z).yes ≡ true → IsYesAt node k
yes_there node k z l is_yes = subst (λ (o : Option Decision). IsSomeAnd o (λ d. d.yes ≡ true)) (sym (slice_get-get_or node k z l)) is_yes

-- going back over the last decision
module _ (old node before : List Decision) (d : Decision) (is : node ≡ before ++ d ∷ []) (first : take (length node) old ≡ node) where
  one_less : length node ≡ length before + 1
  one_less = ap length is ∙ length-append before (d ∷ [])

  pub back_first : take (length before) old ≡ before
  back_first = sym (take-take (length before) (length node) old (let e = one_less in omega (arith, e))) ∙ ap (take (length before)) (first ∙ is) ∙ take_at before (d ∷ []) (length before) refl

  -- all yes decisions stand before one that is none
  pub back_yes : d.yes ≡ false → (k : ℕ) → k < length node → IsYesAt old k → k < length before
  back_yes not k l h = elim (cases_lt k (length before)) as (λ _. k < length before) [
    | inl less ↦ less
    | inr past ↦
        let e = one_less in
        let same : k ≡ length before = omega (arith, e, l, past) in
        let y = yes_at old k h in
        let there : get_or old k d ≡ y.0 = get_or_from_slice_get old k y.0 d y.1 in
        let here : get_or node k d ≡ get_or old k d = sym (ap (λ ds. get_or ds k d) first) ∙ get_or-take (length node) old k d l in
        let last : get_or node k d ≡ d = ap (λ ds. get_or ds k d) is ∙ ap (λ n. get_or (before ++ d ∷ []) n d) same ∙ at_end before in
        absurd (false≢true (sym not ∙ ap (λ (x : Decision). x.yes) (sym last ∙ here ∙ there) ∙ y.2))
  ]
    where
      at_end : (xs : List Decision) → get_or (xs ++ d ∷ []) (length xs) d ≡ d
      at_end [] = refl
      at_end (x ∷ xs) = at_end xs

  -- what stays of it, with another decision behind
  pub back_kept : (next : List Decision) (e : Decision) (k : ℕ) → next ≡ before ++ e ∷ [] → k < length node → take k next ≡ take k old
  back_kept next e k made l =
      let less = one_less in
      let le : k ≤ length before = omega (arith, less, l) in
      ap (take k) made ∙ take-append-le k before (e ∷ []) le ∙ ap (take k) (sym back_first) ∙ take-take k (length before) old le
