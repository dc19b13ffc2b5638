-- One leg more: the records of the choice, and what a choice keeps.
use Rattle.std.proofs.Common.{◌≡◌, ◌<◌, ◌≤◌, ◌+◌, ◌++◌, ℕ, zero, suc, Bool, true, false, List, [], ◌∷◌, length, map, replicate, Option, Some, None, refl, sym, ap, ◌∙◌, arith, codes, append_assoc, cond}
use Rattle.std.specs.Prelude.{All, IfSome, Ok, Err, slice_set, nat_le}
use Rattle.std.proofs.lemmas.Bool.{leb-true, le-leb}
use Rattle.std.proofs.lemmas.List.{append-nil, length_push, length-set, length-replicate, map_push}
use Rattle.std.proofs.lemmas.List.Elements.{All-nil, All-cons, All-head, All-tail, All-push, All-set}
use Rattle.optra_network.specs.Net.{Net}
use Rattle.optra_walk.specs.declared.Leg.{Leg}
use Rattle.optra_node.specs.Certificates.{IsFormedWalk}
use Rattle.optra_node.specs.Nodes.{IsFormedLeg, legs_at}
use Rattle.optra_records.specs.Reading.{Record}
use Rattle.optra_cert.specs.CertTexts.{leg_record, leg_records}
use Rattle.optra_cert.specs.Steps.{WalksSoFar, leg_added, no_walks}
use Rattle.optra_cert.specs.declared.CertCode.TheVariants as codes

-- a choice of some bids
abbrev pub Choice : Type 0
Choice = List (Option (List Leg))

-- no bid from a position on is served
abbrev pub NoneFrom : ℕ → Choice → Type 0
NoneFrom n [] = Unit {0}
NoneFrom zero (walk ∷ choice) = (walk ≡ None) × NoneFrom zero choice
NoneFrom (suc n) (walk ∷ choice) = NoneFrom n choice

none_later : (n m : ℕ) (choice : Choice) → n ≤ m → NoneFrom n choice → NoneFrom m choice
none_later n m [] le h = tt
none_later zero zero (walk ∷ choice) le h = h
none_later zero (suc m) (walk ∷ choice) le h = none_later zero m choice (omega arith) h.1
none_later (suc n) zero (walk ∷ choice) le h = absurd (omega (arith, le))
none_later (suc n) (suc m) (walk ∷ choice) le h = none_later n m choice (omega (arith, le)) h

none_set : (n : ℕ) (choice : Choice) (walk : Option (List Leg)) → NoneFrom (suc n) choice → NoneFrom (suc n) (slice_set choice n walk)
none_set n [] other h = tt
none_set zero (walk ∷ choice) other h = h
none_set (suc n) (walk ∷ choice) other h = none_set n choice other h

none_padded : (k : ℕ) → NoneFrom 0 (replicate k None)
none_padded zero = tt
none_padded (suc k) = (refl, none_padded k)

module _ (net : Net) where
  none_records : (start : ℕ) (choice : Choice) → NoneFrom 0 choice → leg_records net start choice ≡ []
  none_records start [] h = refl
  none_records start (None ∷ choice) h = none_records (start + 1) choice h.1
  none_records start (Some legs ∷ choice) h = absurd (cc h.0)

  abbrev own : ℕ → List Leg → List Record
  own n legs = map (leg_record net (codes "leg") n) legs

  last_records : (start : ℕ) (legs : List Leg) (choice : Choice) → NoneFrom 0 choice → leg_records net start (Some legs ∷ choice) ≡ own start legs
  last_records start legs choice none = ap (λ (t : List Record). own start legs ++ t) (none_records (start + 1) choice none) ∙ append-nil (own start legs)

  -- a leg of a bid behind which no bid is served stands behind all legs
  pub leg_set : (start n : ℕ) (choice : Choice) (leg : Leg) → n < length choice → NoneFrom (suc n) choice
      → leg_records net start (slice_set choice n (Some (legs_at choice n ++ leg ∷ []))) ≡ leg_records net start choice ++ leg_record net (codes "leg") (start + n) leg ∷ []
  leg_set start n [] leg within none = absurd (omega (arith, within))
  leg_set start zero (None ∷ choice) leg within none =
      last_records start (leg ∷ []) choice none
      ∙ ap (λ (k : ℕ). leg_record net (codes "leg") k leg ∷ []) (omega arith)
      ∙ ap (λ (t : List Record). t ++ leg_record net (codes "leg") (start + 0) leg ∷ []) (sym (none_records (start + 1) choice none))
  leg_set start zero (Some legs ∷ choice) leg within none =
      last_records start (legs ++ leg ∷ []) choice none
      ∙ map_push (leg_record net (codes "leg") start) legs leg
      ∙ ap (λ (k : ℕ). own start legs ++ leg_record net (codes "leg") k leg ∷ []) (omega arith)
      ∙ ap (λ (t : List Record). t ++ leg_record net (codes "leg") (start + 0) leg ∷ []) (sym (last_records start legs choice none))
  leg_set start (suc n) (None ∷ choice) leg within none =
      leg_set (start + 1) n choice leg (omega (arith, within)) none
      ∙ ap (λ (k : ℕ). leg_records net (start + 1) choice ++ leg_record net (codes "leg") k leg ∷ []) (omega arith)
  leg_set start (suc n) (Some legs ∷ choice) leg within none =
      ap (λ (t : List Record). own start legs ++ t)
      (leg_set (start + 1) n choice leg (omega (arith, within)) none
      ∙ ap (λ (k : ℕ). leg_records net (start + 1) choice ++ leg_record net (codes "leg") k leg ∷ []) (omega arith))
      ∙ sym (append_assoc (own start legs) (leg_records net (start + 1) choice) (leg_record net (codes "leg") (start + suc n) leg ∷ []))

  legs_formed : (choice : Choice) (n : ℕ) → All (λ walk. IfSome walk (IsFormedWalk net)) choice → All (IsFormedLeg net) (legs_at choice n)
  legs_formed [] n all = All-nil (IsFormedLeg net)
  legs_formed (None ∷ choice) zero all = All-nil (IsFormedLeg net)
  legs_formed (Some legs ∷ choice) zero all = (All-head (λ walk. IfSome walk (IsFormedWalk net)) (Some legs) choice all).formed
  legs_formed (walk ∷ choice) (suc n) all = legs_formed choice n (All-tail (λ walk. IfSome walk (IsFormedWalk net)) walk choice all)

  more_formed : (choice : Choice) (n : ℕ) (leg : Leg) → All (λ walk. IfSome walk (IsFormedWalk net)) choice → IsFormedLeg net leg → IsFormedWalk net (legs_at choice n ++ leg ∷ [])
  more_formed choice n leg all formed =
      let long = length_push (legs_at choice n) leg in
      record { some = omega (arith, long); formed = All-push (IsFormedLeg net) (legs_at choice n) leg (legs_formed choice n all) formed }

  -- what the legs that were read so far keep
  pub record AreWalksSoFar (bids : ℕ) (walks : WalksSoFar) : Type 0 where
    pub entries : length walks.choice ≡ bids
    pub formed : All (λ walk. IfSome walk (IsFormedWalk net)) walks.choice
    pub none : NoneFrom (suc walks.last) walks.choice

  none_formed : (k : ℕ) → All (λ walk. IfSome walk (IsFormedWalk net)) (replicate k None)
  none_formed zero = All-nil (λ walk. IfSome walk (IsFormedWalk net))
  none_formed (suc k) = All-cons (λ walk. IfSome walk (IsFormedWalk net)) None (replicate k None) tt (none_formed k)

  pub no_walks_so_far : (bids : ℕ) → AreWalksSoFar bids (no_walks bids)
  no_walks_so_far bids = record {
    entries = length-replicate bids None;
    formed = none_formed bids;
    none = none_later 0 1 (replicate bids None) (omega arith) (none_padded bids);
  }

  pub no_walks_records : (bids : ℕ) → leg_records net 0 (replicate bids None) ≡ []
  no_walks_records bids = none_records 0 (replicate bids None) (none_padded bids)

  -- a leg that is added
  abbrev pub with_leg : WalksSoFar → ℕ → Leg → WalksSoFar
  with_leg walks bid leg = record { choice = slice_set walks.choice bid (Some (legs_at walks.choice bid ++ leg ∷ [])); last = bid }

  pub added_is : (walks : WalksSoFar) (bid : ℕ) (leg : Leg) (next : WalksSoFar) → leg_added walks bid leg ≡ Ok next → (walks.last ≤ bid) × (next ≡ with_leg walks bid leg)
  unfolding leg_added
  added_is walks bid leg next e = by (nat_le walks.last bid) refl e
    where
      by : (b : Bool) → nat_le walks.last bid ≡ b → cond b (Ok (with_leg walks bid leg)) (Err codes.Order) ≡ Ok next → (walks.last ≤ bid) × (next ≡ with_leg walks bid leg)
      by true f e = let same : with_leg walks bid leg ≡ next = cc e in (leb-true walks.last bid f, sym same)
      by false f e = absurd (cc e)

  pub add_back : (walks : WalksSoFar) (bid : ℕ) (leg : Leg) → walks.last ≤ bid → leg_added walks bid leg ≡ Ok (with_leg walks bid leg)
  unfolding leg_added
  add_back walks bid leg least = rw (le-leb walks.last bid least) refl

  pub with_leg_so_far : (bids : ℕ) (walks : WalksSoFar) (bid : ℕ) (leg : Leg) → AreWalksSoFar bids walks → walks.last ≤ bid → bid < bids → IsFormedLeg net leg → AreWalksSoFar bids (with_leg walks bid leg)
  with_leg_so_far bids walks bid leg are least within formed =
      let added : Option (List Leg) = Some (legs_at walks.choice bid ++ leg ∷ []) in
      record {
        entries = length-set walks.choice bid added ∙ are.entries;
        formed = All-set (λ walk. IfSome walk (IsFormedWalk net)) walks.choice bid added (more_formed walks.choice bid leg are.formed formed) are.formed;
        none = none_set bid walks.choice added (none_later (suc walks.last) (suc bid) walks.choice (omega (arith, least)) are.none);
      }

  pub with_leg_records : (bids : ℕ) (walks : WalksSoFar) (bid : ℕ) (leg : Leg) → AreWalksSoFar bids walks → walks.last ≤ bid → bid < bids
      → leg_records net 0 (with_leg walks bid leg).choice ≡ leg_records net 0 walks.choice ++ leg_record net (codes "leg") bid leg ∷ []
  with_leg_records bids walks bid leg are least within =
      let long = are.entries in
      leg_set 0 bid walks.choice leg (omega (arith, within, long)) (none_later (suc walks.last) (suc bid) walks.choice (omega (arith, least)) are.none)
      ∙ ap (λ (k : ℕ). leg_records net 0 walks.choice ++ leg_record net (codes "leg") k leg ∷ []) (omega arith)
