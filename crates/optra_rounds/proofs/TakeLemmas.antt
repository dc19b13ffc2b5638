-- The actions of a round, taken one after another.
use Rattle.std.proofs.Common.{◌≡◌, ◌≢◌, ◌<◌, ◌≤◌, ℕ, Bool, cond, not, List, [], ◌∷◌, ◌++◌, Option, sym, ap, ◌∙◌, append_assoc, eq-eqb}
use Rattle.std.proofs.lemmas.Bool.{le-ltb, lt-ltb, ne_eqb}
use Rattle.optra_auction.specs.Machine.{State, after_any, refusal_of}
use Rattle.optra_auction.specs.declared.Refusal.{Refusal}
use Rattle.optra_rounds.specs.Rounds.{acts_after, acts_of, after_acts, other_acts, outcomes}
use Rattle.optra_tables.specs.declared.TimedAct.{TimedAct}

abbrev Outcome : Type 0
Outcome = ℕ × Option Refusal

module _ (round : ℕ) (x : TimedAct) (rest : List TimedAct) where
  -- an action of the round comes first among them
  pub acts-same : x.round ≡ round → acts_of round (x ∷ rest) ≡ x ∷ acts_of round rest
  acts-same e = ap (λ (b : Bool). cond b (x ∷ acts_of round rest) (acts_of round rest)) (eq-eqb x.round round e)

  pub others-same : x.round ≡ round → other_acts round (x ∷ rest) ≡ other_acts round rest
  others-same e = ap (λ (b : Bool). cond (not b) (x ∷ other_acts round rest) (other_acts round rest)) (eq-eqb x.round round e)

  -- and one of another round among the others
  pub acts-other : x.round ≢ round → acts_of round (x ∷ rest) ≡ acts_of round rest
  acts-other e = ap (λ (b : Bool). cond b (x ∷ acts_of round rest) (acts_of round rest)) (ne_eqb x.round round e)

  pub others-other : x.round ≢ round → other_acts round (x ∷ rest) ≡ x ∷ other_acts round rest
  others-other e = ap (λ (b : Bool). cond (not b) (x ∷ other_acts round rest) (other_acts round rest)) (ne_eqb x.round round e)

module _ (round : ℕ) (x : TimedAct) (rest : List TimedAct) where
  -- an action of a later round comes first among those
  pub after-later : round < x.round → acts_after round (x ∷ rest) ≡ x ∷ acts_after round rest
  after-later later = ap (λ (b : Bool). cond b (x ∷ acts_after round rest) (acts_after round rest)) (lt-ltb round x.round later)

  pub after-other : x.round ≤ round → acts_after round (x ∷ rest) ≡ acts_after round rest
  after-other early = ap (λ (b : Bool). cond b (x ∷ acts_after round rest) (acts_after round rest)) (le-ltb round x.round early)

-- what is told of actions, one after another, grows by what is told of the next one, or doesn't
module _ {X : Type 0} (told : List TimedAct → List X) (x : TimedAct) (left rest : List TimedAct) (split : left ≡ x ∷ rest) where
  pub told-more : (y : X) (old new whole : List X) → told (x ∷ rest) ≡ y ∷ told rest → new ≡ old ++ y ∷ [] → old ++ told left ≡ whole → new ++ told rest ≡ whole
  told-more y old new whole first pushed h =
      ap (λ (l : List X). l ++ told rest) pushed ∙ append_assoc old (y ∷ []) (told rest) ∙ ap (λ (l : List X). old ++ l) (sym first ∙ ap told (sym split)) ∙ h

  pub told-same : (old whole : List X) → told (x ∷ rest) ≡ told rest → old ++ told left ≡ whole → old ++ told rest ≡ whole
  told-same old whole same h = ap (λ (l : List X). old ++ l) (sym same ∙ ap told (sym split)) ∙ h

-- an action of the round was taken
pub taken-outcomes : (round : ℕ) (x : TimedAct) (left rest : List TimedAct) (s t : State) (refusal : Option Refusal) (outs more whole : List Outcome) → left ≡ x ∷ rest → x.round ≡ round
    → refusal ≡ refusal_of s x.act → t ≡ after_any s x.act → more ≡ outs ++ (x.row, refusal) ∷ [] → outs ++ outcomes s (acts_of round left) ≡ whole → more ++ outcomes t (acts_of round rest) ≡ whole
taken-outcomes round x left rest s t refusal outs more whole split same why after pushed h =
    ap (λ (l : List Outcome). l ++ outcomes t (acts_of round rest)) pushed
    ∙ append_assoc outs ((x.row, refusal) ∷ []) (outcomes t (acts_of round rest))
    ∙ (λ i. outs ++ ((x.row, why i) ∷ outcomes (after i) (acts_of round rest)))
    ∙ ap (λ (l : List TimedAct). outs ++ outcomes s l) (sym (acts-same round x rest same) ∙ ap (acts_of round) (sym split))
    ∙ h

pub taken-after : (round : ℕ) (x : TimedAct) (left rest : List TimedAct) (s t whole : State) → left ≡ x ∷ rest → x.round ≡ round → t ≡ after_any s x.act
    → after_acts s (acts_of round left) ≡ whole → after_acts t (acts_of round rest) ≡ whole
taken-after round x left rest s t whole split same after h =
    ap (λ (u : State). after_acts u (acts_of round rest)) after
    ∙ ap (after_acts s) (sym (acts-same round x rest same) ∙ ap (acts_of round) (sym split)) ∙ h

-- an action of another round was kept
pub kept-later : (round : ℕ) (x : TimedAct) (left rest kept more whole : List TimedAct) → left ≡ x ∷ rest → x.round ≢ round → more ≡ kept ++ x ∷ []
    → kept ++ other_acts round left ≡ whole → more ++ other_acts round rest ≡ whole
kept-later round x left rest kept more whole split other pushed h =
    ap (λ (l : List TimedAct). l ++ other_acts round rest) pushed ∙ append_assoc kept (x ∷ []) (other_acts round rest)
    ∙ ap (λ (l : List TimedAct). kept ++ l) (sym (others-other round x rest other) ∙ ap (other_acts round) (sym split)) ∙ h
