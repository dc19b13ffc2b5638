-- A graph with one more arc.
use Rattle.std.proofs.Common.{◌≡◌, ℕ, ◌+◌, ◌-◌, ◌^◌, ◌<◌, ◌≤◌, ◌⊎◌, inl, inr, Bool, List, [], ◌∷◌, ◌++◌, length, get_or, replicate, refl, ◌∙◌, ap, sym, subst, arith, All, length-append, le_refl}
use Rattle.std.proofs.lemmas.Bool.{cases_lt}
use Rattle.std.proofs.lemmas.List.Elements.{All-get_or}
use Rattle.std.proofs.lemmas.List.{length-replicate, get_or-replicate, get_or_past, get_or-append_right}
use Rattle.std.proofs.Math.ListN.{get_or-append}
use Rattle.std.proofs.Math.Nat.{eq-or-lt_of_le}
use Rattle.std.proofs.Math.Seq.{get_or-append_seam}
use Rattle.optra_dag.specs.declared.Arc.{Arc}
use Rattle.optra_dag.specs.declared.spans.Span.{Span}
use Rattle.optra_dag.specs.Spans.{StandsIn, IsSpan, span_of, AreStarts}
use Rattle.optra_dag.specs.Paths.{no_arc, IsForward}
use Rattle.optra_dag.specs.WaySums.{plain_graph}
use Rattle.optra_dag.proofs.Ways.{same_default}

module _ (arcs : List Arc) (ends : List Bool) (from to : ℕ) (forward : IsForward (plain_graph arcs ends)) (up : from < to) (inside : to < length ends)
    (sorted : All (λ (before : Arc). before.from ≤ from) arcs) (few : length arcs < 2 ^ 32 - 1) where
  abbrev last : Arc
  last = record { from = from; to = to }

  abbrev with_last : List Arc
  with_last = arcs ++ last ∷ []

  old_arc : (k : ℕ) → k < length arcs → get_or with_last k no_arc ≡ get_or arcs k no_arc
  old_arc k l = get_or-append arcs (last ∷ []) no_arc k l

  last_arc : (k : ℕ) → k ≡ length arcs → get_or with_last k no_arc ≡ last
  last_arc k e = subst (λ i. get_or with_last i no_arc ≡ last) (sym e) (get_or-append_seam arcs last [] no_arc)

  old_or_last : (k : ℕ) → k < length with_last → (k < length arcs) ⊎ (k ≡ length arcs)
  old_or_last k l = let e = length-append arcs (last ∷ []) in by (cases_lt k (length arcs))
    where
      by : (k < length arcs) ⊎ (length arcs ≤ k) → (k < length arcs) ⊎ (k ≡ length arcs)
      by (inl o) = inl o
      by (inr o) = let e = length-append arcs (last ∷ []) in inr (omega arith)

  leads_on : (k : ℕ) → (k < length arcs) ⊎ (k ≡ length arcs) → (get_or with_last k no_arc).from < (get_or with_last k no_arc).to
  leads_on k (inl o) = subst (λ (a : Arc). a.from < a.to) (sym (old_arc k o)) (forward.forward k o)
  leads_on k (inr o) = subst (λ (a : Arc). a.from < a.to) (sym (last_arc k o)) up

  leads_inside : (k : ℕ) → (k < length arcs) ⊎ (k ≡ length arcs) → (get_or with_last k no_arc).to < length ends
  leads_inside k (inl o) = subst (λ (a : Arc). a.to < length ends) (sym (old_arc k o)) (forward.nodes k o)
  leads_inside k (inr o) = subst (λ (a : Arc). a.to < length ends) (sym (last_arc k o)) inside

  in_order : (j k : ℕ) → j ≤ k → (j < length arcs) ⊎ (j ≡ length arcs) → (k < length arcs) ⊎ (k ≡ length arcs)
      → (get_or with_last j no_arc).from ≤ (get_or with_last k no_arc).from
  in_order j k l (inl o) (inl p) = subst (λ (a : Arc). a.from ≤ (get_or with_last k no_arc).from) (sym (old_arc j o))
      (subst (λ (a : Arc). (get_or arcs j no_arc).from ≤ a.from) (sym (old_arc k p)) (forward.sorted j k l p))
  in_order j k l (inl o) (inr p) = subst (λ (a : Arc). a.from ≤ (get_or with_last k no_arc).from) (sym (old_arc j o))
      (subst (λ (a : Arc). (get_or arcs j no_arc).from ≤ a.from) (sym (last_arc k p)) (All-get_or (λ (before : Arc). before.from ≤ from) arcs j no_arc o sorted))
  in_order j k l (inr o) (inl p) = absurd (omega arith)
  in_order j k l (inr o) (inr p) = subst (λ (a : Arc). a.from ≤ (get_or with_last k no_arc).from) (sym (last_arc j o))
      (subst (λ (a : Arc). from ≤ a.from) (sym (last_arc k p)) (le_refl from))

  pub forward_more : IsForward (plain_graph with_last ends)
  forward_more = record {
    start = forward.start;
    few_nodes = forward.few_nodes;
    few_arcs = let e = length-append arcs (last ∷ []) in omega arith;
    forward = λ k l. leads_on k (old_or_last k l);
    nodes = λ k l. leads_inside k (old_or_last k l);
    sorted = λ j k l m. in_order j k l (old_or_last j (omega arith)) (old_or_last k m);
  }

  -- the spans of the other nodes stay
  other_span : (node : ℕ) (span : Span) → (node ≡ from → ⊥) → IsSpan arcs node span → IsSpan with_last node span
  other_span node span off is = record {
    within = let e = length-append arcs (last ∷ []) in let w = is.within in omega arith;
    whole = λ k l e. by k (old_or_last k l) e;
    own = λ k s. let w = is.within in let b : k < span.stop = s.1 in ap (λ (a : Arc). a.from) (old_arc k (omega arith)) ∙ is.own k s;
  }
    where
      by : (k : ℕ) → (k < length arcs) ⊎ (k ≡ length arcs) → (get_or with_last k no_arc).from ≡ node → StandsIn span k
      by k (inl o) e = is.whole k o (sym (ap (λ (a : Arc). a.from) (old_arc k o)) ∙ e)
      by k (inr o) e = absurd (off (sym e ∙ ap (λ (a : Arc). a.from) (last_arc k o)))

  module _ (starts : List ℕ) (started : AreStarts arcs starts) where
    abbrev count : ℕ
    count = length arcs

    abbrev span_to : ℕ → ℕ → Span
    span_to start stop = record { start = start; stop = stop }

    abbrev old_at : ℕ → ℕ
    old_at n = get_or starts n count

    most_start : (n : ℕ) → old_at n ≤ count
    most_start n = by (cases_lt n (length starts))
      where
        by : (n < length starts) ⊎ (length starts ≤ n) → old_at n ≤ count
        by (inl o) = let u = started.used n o in omega arith
        by (inr o) = let e = get_or_past starts n count o in omega arith

    -- no node with a start comes after the last arc's
    last_start : length starts ≤ from + 1
    last_start = by (cases_lt 0 (length starts))
      where
        by : (0 < length starts) ⊎ (length starts ≤ 0) → length starts ≤ from + 1
        by (inr o) = omega arith
        by (inl o) =
            let n : ℕ = length starts - 1 in
            let u : old_at n < count = started.used n (omega arith) in
            let p : old_at (n + 1) ≡ count = get_or_past starts (n + 1) count (omega arith) in
            let f = (started.each n).own (old_at n) (omega arith, omega arith) in
            let a = All-get_or (λ (before : Arc). before.from ≤ from) arcs (old_at n) no_arc u sorted in
            omega arith

    abbrev more : List ℕ
    more = starts ++ replicate (from + 1 - length starts) count

    abbrev new_at : ℕ → ℕ
    new_at n = get_or more n (count + 1)

    length_more : length more ≡ from + 1
    length_more =
        let l = length-append starts (replicate (from + 1 - length starts) count) in
        let m : length (replicate (from + 1 - length starts) count) ≡ from + 1 - length starts = length-replicate (from + 1 - length starts) count in
        let s = last_start in
        omega arith

    -- up to the node each start stays
    same_start : (n : ℕ) → n ≤ from → new_at n ≡ old_at n
    same_start n l = by (cases_lt n (length starts))
      where
        by : (n < length starts) ⊎ (length starts ≤ n) → new_at n ≡ old_at n
        by (inl o) = get_or-append starts (replicate (from + 1 - length starts) count) (count + 1) n o ∙ same_default starts n (count + 1) count o
        by (inr o) =
            get_or-append_right starts (replicate (from + 1 - length starts) count) (length starts) n (count + 1) refl o
            ∙ get_or-replicate (from + 1 - length starts) (n - length starts) count (count + 1) (omega arith)
            ∙ sym (get_or_past starts n count o)

    late_start : (n : ℕ) → from < n → new_at n ≡ count + 1
    late_start n l = let e = length_more in get_or_past more n (count + 1) (omega arith)

    no_start : (n : ℕ) → from < n → old_at n ≡ count
    no_start n l = let s = last_start in get_or_past starts n count (omega arith)

    span_before : (n : ℕ) → n < from → IsSpan with_last n (span_to (old_at n) (old_at (n + 1)))
    span_before n l = other_span n (span_of starts count n) (λ e. omega arith) (started.each n)

    span_at_node : IsSpan with_last from (span_to (old_at from) (count + 1))
    span_at_node = record {
      within = let e = length-append arcs (last ∷ []) in omega arith;
      whole = λ k l e. whole k (old_or_last k l) e;
      own = λ k s. let b : k < count + 1 = s.1 in let e = length-append arcs (last ∷ []) in own k s.0 (old_or_last k (omega arith));
    }
      where
        whole : (k : ℕ) → (k < length arcs) ⊎ (k ≡ length arcs) → (get_or with_last k no_arc).from ≡ from → StandsIn (span_to (old_at from) (count + 1)) k
        whole k (inl o) e = let s = (started.each from).whole k o (sym (ap (λ (a : Arc). a.from) (old_arc k o)) ∙ e) in (s.0, omega arith)
        whole k (inr o) e = let m = most_start from in (omega arith, omega arith)

        own : (k : ℕ) → old_at from ≤ k → (k < length arcs) ⊎ (k ≡ length arcs) → (get_or with_last k no_arc).from ≡ from
        own k l (inl o) = let e = no_start (from + 1) (omega arith) in ap (λ (a : Arc). a.from) (old_arc k o) ∙ (started.each from).own k (l, omega arith)
        own k l (inr o) = ap (λ (a : Arc). a.from) (last_arc k o)

    span_after : (n : ℕ) → from < n → IsSpan with_last n (span_to (count + 1) (count + 1))
    span_after n l = record {
      within = let e = length-append arcs (last ∷ []) in omega arith;
      whole = λ k m e. absurd (whole k (old_or_last k m) e);
      own = λ k s. let a : count + 1 ≤ k = s.0 in let b : k < count + 1 = s.1 in absurd (omega arith);
    }
      where
        whole : (k : ℕ) → (k < length arcs) ⊎ (k ≡ length arcs) → (get_or with_last k no_arc).from ≡ n → ⊥
        whole k (inl o) e =
            let s = (started.each n).whole k o (sym (ap (λ (a : Arc). a.from) (old_arc k o)) ∙ e) in
            let a : old_at n ≤ k = s.0 in
            let p = no_start n l in
            omega arith
        whole k (inr o) e = let f : (get_or with_last k no_arc).from ≡ from = ap (λ (a : Arc). a.from) (last_arc k o) in omega arith

    span_more : (n : ℕ) → (n < from) ⊎ (from ≤ n) → IsSpan with_last n (span_to (new_at n) (new_at (n + 1)))
    span_more n (inl l) =
        subst (λ a. IsSpan with_last n (span_to a (new_at (n + 1)))) (sym (same_start n (omega arith)))
        (subst (λ b. IsSpan with_last n (span_to (old_at n) b)) (sym (same_start (n + 1) (omega arith))) (span_before n l))
    span_more n (inr l) = by (eq-or-lt_of_le l)
      where
        by : (from ≡ n) ⊎ (from < n) → IsSpan with_last n (span_to (new_at n) (new_at (n + 1)))
        by (inl e) = subst (λ m. IsSpan with_last m (span_to (new_at m) (new_at (m + 1)))) e
            (subst (λ a. IsSpan with_last from (span_to a (new_at (from + 1)))) (sym (same_start from (omega arith)))
            (subst (λ b. IsSpan with_last from (span_to (old_at from) b)) (sym (late_start (from + 1) (omega arith))) span_at_node))
        by (inr o) =
            subst (λ a. IsSpan with_last n (span_to a (new_at (n + 1)))) (sym (late_start n o))
            (subst (λ b. IsSpan with_last n (span_to (count + 1) b)) (sym (late_start (n + 1) (omega arith))) (span_after n o))

    pub starts_more : AreStarts with_last (starts ++ replicate (from + 1 - length starts) (length arcs))
    starts_more = record {
      used = λ n l. subst (λ c. get_or more n c < c) (sym (length-append arcs (last ∷ [])))
          (let m = most_start n in let e = length_more in let s = same_start n (omega arith) in omega arith);
      each = λ n. subst (λ c. IsSpan with_last n (span_of more c n)) (sym (length-append arcs (last ∷ []))) (span_more n (cases_lt n from));
    }
