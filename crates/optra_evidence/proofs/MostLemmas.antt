-- The greatest that leaves say, with one place more.
use Rattle.std.proofs.Common.{◌≡◌, ℕ, List, [], ◌∷◌, ◌++◌, length, get_or, Option, None, Some, slice_get, IfSome, IsSomeAnd, refl, sym, ap, ◌∙◌, subst, arith, inl, inr}
use Rattle.std.specs.Prelude.{All, Contains, ◌⊎◌}
use Rattle.std.specs.Prelude.{ℤ, ◌≤ℤ◌}
use Rattle.std.specs.Int.{int_max}
use Rattle.std.specs.Option.{option_map}
use Rattle.std.proofs.lemmas.Int.{ints, clamps}
use Rattle.std.proofs.lemmas.List.Elements.{All-push, All-weaker, Contains-append_left, Contains-append_right}
use Rattle.std.proofs.lemmas.Option.{slice_get-get_or, slice_get_within, get_or_from_slice_get}
use Rattle.optra_network.specs.Net.{Net}
use Rattle.optra_bid.specs.declared.bids.Bid.{Bid}
use Rattle.optra_walk.specs.Families.{Rows}
use Rattle.optra_node.specs.declared.Decision.{Decision}
use Rattle.optra_node.specs.declared.Item.{Item}
use Rattle.optra_node.specs.declared.Item.TheVariants.{Split, NoWalk, Forced, Priced}
use Rattle.optra_node.specs.Duals.{PriceList, whole_cents}
use Rattle.optra_node.specs.Trees.{places}
use Rattle.optra_node.specs.Evidence.{IsServedAt, IsLeftAt, IsAtMost, IsSaidWithin}
use Rattle.optra_node.proofs.ChildLemmas.{some_at}
use Rattle.optra_node.proofs.LoadLemmas.{contains_head}
use Rattle.optra_rests.specs.Rests.{greater_of}
use Rattle.optra_checker.proofs.BoundLemmas.{max_sides}
use Rattle.optra_evidence.specs.Evidence.{IsEvidence}
use Rattle.optra_evidence.specs.Listed.{AreListed}
use Rattle.optra_evidence.specs.declared.figures.Figures.{Figures}
use Rattle.optra_evidence.specs.Figures.{nothing_said, raised, IsFigureSize, AreSmall, IsInCents, IsSaid, IsHeard, AreHeard, AreHeardOf, IsMostOf, AreMostOf, AreAllMostOf}

le_or : (a b : ℤ) → (b ≤ℤ int_max a b) × (a ≤ℤ int_max a b)
le_or a b = (omega (arith, ints, clamps), omega (arith, ints, clamps))

-- what was within stays within where the greatest rises
at_most_old : (said old more : Option ℤ) → IsAtMost said old → IsAtMost said (greater_of old more)
at_most_old None old more h = tt
at_most_old (Some n) None more h = absurd h
at_most_old (Some n) (Some m) None h = h
at_most_old (Some n) (Some m) (Some k) h = let l = le_or m k in let a = l.1 in omega (arith, ints)

-- and what raises it is within
at_most_new : (said old : Option ℤ) → IsAtMost said (greater_of old (option_map whole_cents said))
at_most_new None old = tt
at_most_new (Some n) None = omega (arith, ints)
at_most_new (Some n) (Some m) = let l = le_or m (whole_cents n) in l.0

-- the greater of two that are small is small
small_greater : (a b : Option ℤ) → IfSome a IsFigureSize → IfSome b IsFigureSize → IfSome (greater_of a b) IsFigureSize
small_greater None b p q = q
small_greater (Some x) None p q = p
small_greater (Some x) (Some y) p q = elim (max_sides x y) as (λ _. IsFigureSize (int_max x y)) [ inl l ↦ subst IsFigureSize (sym l.1) p | inr l ↦ subst IsFigureSize (sym l.1) q ]

small_raised : (old said : Figures) → AreSmall old → AreSmall said → AreSmall (raised old said)
small_raised old said a b = record { served = small_greater old.served said.served a.served b.served; left = small_greater old.left said.left a.left b.left }

none_more : (o : Option ℤ) → greater_of o None ≡ o
none_more None = refl
none_more (Some b) = refl

module _ {R : Type 0} (Says : List Decision → Option ℤ → Type 0) where
  within_old : (old more : Option ℤ) (node : List Decision) (item : Item R) → IsSaidWithin Says old node item → IsSaidWithin Says (greater_of old more) node item
  within_old old more node (Split bid leg) h = tt
  within_old old more node (NoWalk bid) h = tt
  within_old old more node (Forced row) h = tt
  within_old old more node (Priced prices) h = (h.0, h.1, at_most_old h.0 old more h.2)

  -- what reached the greatest stands among more places too
  reached_left : (ps qs : List (List Decision × Item R)) (cents : ℤ)
      → (node : List Decision) × (prices : PriceList R) × Contains ps (node, Priced prices) × (n : ℤ) × Says node (Some n) × (cents ≡ whole_cents n)
      → (node : List Decision) × (prices : PriceList R) × Contains (ps ++ qs) (node, Priced prices) × (n : ℤ) × Says node (Some n) × (cents ≡ whole_cents n)
  reached_left ps qs cents r = (r.0, r.1, Contains-append_left ps qs (r.0, Priced r.1) r.2, r.3, r.4, r.5)

  reached_more : (ps qs : List (List Decision × Item R)) (most : Option ℤ)
      → IfSome most (λ cents. (node : List Decision) × (prices : PriceList R) × Contains ps (node, Priced prices) × (n : ℤ) × Says node (Some n) × (cents ≡ whole_cents n))
      → IfSome most (λ cents. (node : List Decision) × (prices : PriceList R) × Contains (ps ++ qs) (node, Priced prices) × (n : ℤ) × Says node (Some n) × (cents ≡ whole_cents n))
  reached_more ps qs None h = tt
  reached_more ps qs (Some cents) h = reached_left ps qs cents h

  -- an item that says nothing leaves it as it is
  pub most_same : (ps : List (List Decision × Item R)) (node : List Decision) (item : Item R) (most : Option ℤ) → IsSaidWithin Says most node item → IsMostOf Says ps most → IsMostOf Says (ps ++ (node, item) ∷ []) most
  most_same ps node item most here is = record {
    each = All-push (λ (p : List Decision × Item R). IsSaidWithin Says most p.0 p.1) ps (node, item) is.each here;
    reached = reached_more ps ((node, item) ∷ []) most is.reached;
  }

  reached_new : (ps : List (List Decision × Item R)) (node : List Decision) (prices : PriceList R) (n : ℤ) → Says node (Some n)
      → (way : List Decision) × (listed : PriceList R) × Contains (ps ++ (node, Priced prices) ∷ []) (way, Priced listed) × (m : ℤ) × Says way (Some m) × (whole_cents n ≡ whole_cents m)
  reached_new ps node prices n says = (node, prices, Contains-append_right ps ((node, Priced prices) ∷ []) (node, Priced prices) (contains_head (node, Priced prices) [] (node, Priced prices) refl), n, says, refl)

  -- a leaf with prices may raise it
  pub most_next : (ps : List (List Decision × Item R)) (node : List Decision) (prices : PriceList R) (old said : Option ℤ) → Says node said → IsMostOf Says ps old
      → IsMostOf Says (ps ++ (node, Priced prices) ∷ []) (greater_of old (option_map whole_cents said))
  most_next ps node prices old said says is = record {
    each = All-push (λ (p : List Decision × Item R). IsSaidWithin Says (greater_of old (option_map whole_cents said)) p.0 p.1) ps (node, Priced prices)
        (All-weaker (λ (p : List Decision × Item R). IsSaidWithin Says old p.0 p.1) (λ (p : List Decision × Item R). IsSaidWithin Says (greater_of old (option_map whole_cents said)) p.0 p.1)
        (λ p h. within_old old (option_map whole_cents said) p.0 p.1 h) ps is.each) (said, says, at_most_new said old);
    reached = by old said says is.reached;
  }
    where
      by : (old said : Option ℤ) → Says node said
          → IfSome old (λ cents. (way : List Decision) × (listed : PriceList R) × Contains ps (way, Priced listed) × (n : ℤ) × Says way (Some n) × (cents ≡ whole_cents n))
          → IfSome (greater_of old (option_map whole_cents said)) (λ cents. (way : List Decision) × (listed : PriceList R) × Contains (ps ++ (node, Priced prices) ∷ []) (way, Priced listed) × (n : ℤ) × Says way (Some n) × (cents ≡ whole_cents n))
      by None None says r = tt
      by (Some b) None says r = reached_left ps ((node, Priced prices) ∷ []) b r
      by None (Some n) says r = reached_new ps node prices n says
      by (Some b) (Some n) says r = elim (max_sides b (whole_cents n)) as (λ _. (way : List Decision) × (listed : PriceList R) × Contains (ps ++ (node, Priced prices) ∷ []) (way, Priced listed) × (m : ℤ) × Says way (Some m) × (int_max b (whole_cents n) ≡ whole_cents m)) [
        | inl old_is ↦ let w = reached_left ps ((node, Priced prices) ∷ []) b r in (w.0, w.1, w.2, w.3, w.4, old_is.1 ∙ w.5)
        | inr new_is ↦ let w = reached_new ps node prices n says in (w.0, w.1, w.2, w.3, w.4, new_is.1 ∙ w.5)
      ]

  pub most_in_cents : (ps : List (List Decision × Item R)) (node : List Decision) (prices : PriceList R) (old cents : Option ℤ) → IsInCents (Says node) cents → IsMostOf Says ps old → IsMostOf Says (ps ++ (node, Priced prices) ∷ []) (greater_of old cents)
  most_in_cents ps node prices old cents is so_far =
      subst (λ c. IsMostOf Says (ps ++ (node, Priced prices) ∷ []) (greater_of old c)) (sym is.2) (most_next ps node prices old is.0 is.1 so_far)

  -- no place says anything
  pub most_none : IsMostOf {R = R} Says [] None
  most_none = record { each = λ k d l. absurd (omega (arith, l)); reached = tt }

module _ {R : Type 0} (net : Net) (rows : Rows R) (bids : List Bid) (prices_at : List Decision → PriceList R) where
  heard_more : (ps : List (List Decision × Item R)) (node : List Decision) (prices : PriceList R) (number : ℕ) (bid : Bid) (old new : Figures) → prices_at node ≡ prices → IsHeard net rows bids node prices number bid old new
      → AreMostOf net rows bids ps prices_at number bid old → AreMostOf net rows bids (ps ++ (node, Priced prices) ∷ []) prices_at number bid new
  heard_more ps node prices number bid old new same (said, is, e) so_far =
      let there : IsSaid net rows bids node (prices_at node) number bid said = subst (λ ps. IsSaid net rows bids node ps number bid said) (sym same) is in
      subst (AreMostOf net rows bids (ps ++ (node, Priced prices) ∷ []) prices_at number bid) (sym e) (record {
        small = small_raised old said so_far.small is.small;
        served = most_in_cents (λ way n. IsServedAt net rows bids way (prices_at way) number bid n) ps node prices old.served said.served there.served so_far.served;
        left = most_in_cents (λ way n. IsLeftAt net rows bids way (prices_at way) number n) ps node prices old.left said.left there.left so_far.left;
      })

  all_heard : (ps : List (List Decision × Item R)) (node : List Decision) (prices : PriceList R) (old new : List Figures) → prices_at node ≡ prices → AreHeard net rows bids node prices old new
      → AreAllMostOf net rows bids ps prices_at old → AreAllMostOf net rows bids (ps ++ (node, Priced prices) ∷ []) prices_at new
  all_heard ps node prices old new same heard so_far = record {
    count = heard.count ∙ so_far.count;
    each = λ number bid f at here.
        let c = heard.count in
        let l = slice_get_within new number f here in
        let before = some_at old number (length old) refl (omega arith) in
        heard_more ps node prices number bid before.0 f same (heard.each number bid before.0 f at before.1 here) (so_far.each number bid before.0 at before.1);
  }

  all_same : (ps : List (List Decision × Item R)) (node : List Decision) (item : Item R) (old new : List Figures) → ((Says : List Decision → Option ℤ → Type 0) (most : Option ℤ) → IsSaidWithin Says most node item) → new ≡ old
      → AreAllMostOf net rows bids ps prices_at old → AreAllMostOf net rows bids (ps ++ (node, item) ∷ []) prices_at new
  all_same ps node item old new says e so_far = subst (AreAllMostOf net rows bids (ps ++ (node, item) ∷ []) prices_at) (sym e) (record {
    count = so_far.count;
    each = λ number bid f at here.
        let is = so_far.each number bid f at here in
        record {
          small = is.small;
          served = most_same (λ way n. IsServedAt net rows bids way (prices_at way) number bid n) ps node item f.served (says (λ way n. IsServedAt net rows bids way (prices_at way) number bid n) f.served) is.served;
          left = most_same (λ way n. IsLeftAt net rows bids way (prices_at way) number n) ps node item f.left (says (λ way n. IsLeftAt net rows bids way (prices_at way) number n) f.left) is.left;
        };
  })

  -- with one item more
  pub all_most_more : (ps : List (List Decision × Item R)) (node : List Decision) (item : Item R) (old new : List Figures) → ((prices : PriceList R) → item ≡ Priced prices → prices_at node ≡ prices)
      → AreHeardOf net rows bids node item old new → AreAllMostOf net rows bids ps prices_at old → AreAllMostOf net rows bids (ps ++ (node, item) ∷ []) prices_at new
  all_most_more ps node (Split bid leg) old new listed e so_far = all_same ps node (Split bid leg) old new (λ Says most. tt) e so_far
  all_most_more ps node (NoWalk bid) old new listed e so_far = all_same ps node (NoWalk bid) old new (λ Says most. tt) e so_far
  all_most_more ps node (Forced row) old new listed e so_far = all_same ps node (Forced row) old new (λ Says most. tt) e so_far
  all_most_more ps node (Priced prices) old new listed heard so_far = all_heard ps node prices old new (listed prices refl) heard so_far

  -- before the first item
  pub all_most_none : (figures : List Figures) → length figures ≡ length bids → All (λ f. f ≡ nothing_said) figures → AreAllMostOf net rows bids [] prices_at figures
  all_most_none figures count nothing = record {
    count = count;
    each = λ number bid f at here.
        let none : f ≡ nothing_said = All-slice_get figures number f nothing here in
        subst (AreMostOf net rows bids [] prices_at number bid) (sym none) (record {
          small = record { served = tt; left = tt };
          served = most_none (λ way n. IsServedAt net rows bids way (prices_at way) number bid n);
          left = most_none (λ way n. IsLeftAt net rows bids way (prices_at way) number n);
        });
  }
    where
      All-slice_get : (fs : List Figures) (k : ℕ) (f : Figures) → All (λ x. x ≡ nothing_said) fs → slice_get fs k ≡ Some f → f ≡ nothing_said
      All-slice_get fs k f all e = let l = slice_get_within fs k f e in subst (λ x. x ≡ nothing_said) (get_or_from_slice_get fs k f f e) (all k f l)

-- there are as many figures as before
pub heard_count : {R : Type 0} (net : Net) (rows : Rows R) (bids : List Bid) (node : List Decision) (item : Item R) (old new : List Figures) → AreHeardOf net rows bids node item old new → length new ≡ length old
heard_count net rows bids node (Split bid leg) old new e = ap length e
heard_count net rows bids node (NoWalk bid) old new e = ap length e
heard_count net rows bids node (Forced row) old new e = ap length e
heard_count net rows bids node (Priced prices) old new heard = heard.count

-- over all places of a tree these are its figures
pub evidence_is : {R : Type 0} (net : Net) (rows : Rows R) (bids : List Bid) (tree : List (Item R)) (figures : List Figures)
    → (listed : (prices_at : List Decision → PriceList R) × AreListed rows tree prices_at)
    → ((prices_at : List Decision → PriceList R) → AreListed rows tree prices_at → AreAllMostOf net rows bids (places tree) prices_at figures)
    → IsEvidence net rows bids tree figures
evidence_is net rows bids tree figures listed are =
    let most = are listed.0 listed.1 in
    record {
      prices_at = listed.0;
      listed = listed.1;
      count = most.count;
      small = λ k d l.
          let count = most.count in
          let there = some_at bids k (length figures) (sym most.count) l in
          (most.each k there.0 (get_or figures k d) there.1 (slice_get-get_or figures k d l)).small;
      each = λ number bid f at here. let is = most.each number bid f at here in record {
        with = record { each = is.served.each; reached = is.served.reached };
        without = record { each = is.left.each; reached = is.left.reached };
      };
    }
