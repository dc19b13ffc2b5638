-- Actions, taken one after another.
use Rattle.std.proofs.Common.{◌≡◌, List, [], ◌∷◌, ◌++◌, Option, Some, None, refl, sym, ap, ◌∙◌, append_assoc}
use Rattle.std.specs.Option.{option_map_or}
use Rattle.optra_auction.specs.Machine.{IsSameRound, State, after_act, after_all, after_any, refusal_of, refusals_of}
use Rattle.optra_auction.specs.declared.Act.{Act}
use Rattle.optra_auction.specs.declared.Refusal.{Refusal}

-- ---- what they leave as it was

pub any_keeps : (s : State) (act : Act) → IsSameRound s (after_any s act)
any_keeps s act = by (refusal_of s act)
  where
    by : (why : Option Refusal) → IsSameRound s (option_map_or (λ _. s) why (after_act s act))
    by None = record { specs = refl; rules = refl; round = refl; closed = refl }
    by (Some why) = record { specs = refl; rules = refl; round = refl; closed = refl }

pub acts_keep : (s : State) (acts : List Act) → IsSameRound s (after_all s acts)
acts_keep s [] = record { specs = refl; rules = refl; round = refl; closed = refl }
acts_keep s (act ∷ acts) =
    let first = any_keeps s act in
    let others = acts_keep (after_any s act) acts in
    record {
      specs = others.specs ∙ first.specs;
      rules = others.rules ∙ first.rules;
      round = others.round ∙ first.round;
      closed = others.closed ∙ first.closed;
    }

-- ---- one more of them

pub taken_refusals : (x : Act) (left rest : List Act) (s t : State) (refusal : Option Refusal) (outs more whole : List (Option Refusal)) → left ≡ x ∷ rest
    → refusal ≡ refusal_of s x → t ≡ after_any s x → more ≡ outs ++ refusal ∷ [] → outs ++ refusals_of s left ≡ whole → more ++ refusals_of t rest ≡ whole
taken_refusals x left rest s t refusal outs more whole split why after pushed h =
    ap (λ (l : List (Option Refusal)). l ++ refusals_of t rest) pushed
    ∙ append_assoc outs (refusal ∷ []) (refusals_of t rest)
    ∙ (λ i. outs ++ (why i ∷ refusals_of (after i) rest))
    ∙ ap (λ (l : List Act). outs ++ refusals_of s l) (sym split)
    ∙ h

pub taken_after : (x : Act) (left rest : List Act) (s t whole : State) → left ≡ x ∷ rest → t ≡ after_any s x → after_all s left ≡ whole → after_all t rest ≡ whole
taken_after x left rest s t whole split after h = ap (λ (u : State). after_all u rest) after ∙ ap (after_all s) (sym split) ∙ h
