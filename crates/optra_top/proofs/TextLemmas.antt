-- There is one text of a plan, since there is one plan.
use Rattle.std.proofs.Common.{◌≡◌, inl, inr, ℕ, ℤ, List, map, sym, ap, ◌∙◌, subst, arith}
use Rattle.std.proofs.lemmas.Int.{ints}
use Rattle.optra_network.specs.Net.{Net}
use Rattle.optra_bid.specs.declared.bids.Bid.{Bid}
use Rattle.optra_text.specs.PlanTexts.{plan_text_of}
use Rattle.optra_search.specs.Planner.{Planned, IsPlainPlan}
use Rattle.optra_search.specs.Laws.{OnePlan}
use Rattle.optra_top.specs.PlanCommand.{PlanAsked, PrintsPlan, IsStatusOf, certificate_puts}
use Rattle.optra_play.specs.Certificates.{certificate_of}
use Rattle.optra_top.specs.PlanLaws.{HasOneText, OneText}
use Rattle.optra_verdict.specs.Families.{KeepsAllRules, all_family, headway_family}
use Rattle.optra_verdict.specs.FamilyOf.{FamilyOf}
use Rattle.optra_rows.specs.Headways.{KeepsHeadwayRule}
use Rattle.optra_frame.specs.declared.version.Version.TheVariants as versions
use Rattle.optra_tables.specs.Bids.{parts_of}
use Rattle.optra_walk.specs.Families.{Entry}
use Rattle.optra_verdict.proofs.BidLemmas.{bids-from_offers}

-- a plan has one status
one_status : (revenue bound : ℤ) (a b : ℕ) → IsStatusOf revenue bound a → IsStatusOf revenue bound b → a ≡ b
one_status revenue bound a b (inl x) (inl y) = x.0 ∙ sym y.0
one_status revenue bound a b (inl x) (inr y) = let same = x.1 in let less = y.1 in absurd (omega (arith, ints))
one_status revenue bound a b (inr x) (inl y) = let less = x.1 in let same = y.1 in absurd (omega (arith, ints))
one_status revenue bound a b (inr x) (inr y) = x.0 ∙ sym y.0

module _ {R : Type 0} (family : FamilyOf R) (Keeps : List Entry → Type 0) (net : Net) (bids : List Bid) where
  abbrev pub text_of : Planned R → List ℕ
  text_of plan = plan_text_of net bids plan.choice plan.revenue plan.bound plan.nodes

  -- what is printed and put is that of a plan of these bids
  pub record Prints (asks : PlanAsked) (status : ℕ) (text : List ℕ) (puts : List (List ℕ × List ℕ)) : Type 0 where
    pub plan : Planned R
    pub is : IsPlainPlan family.cmp net family.rows bids asks.steps asks.budget plan
    pub printed : text ≡ text_of plan
    pub ends : IsStatusOf plan.revenue plan.bound status
    pub put : puts ≡ certificate_puts family.texts net asks.cert (certificate_of plan)

  prints : (asks : PlanAsked) (status : ℕ) (text : List ℕ) (puts : List (List ℕ × List ℕ)) → PrintsPlan family Keeps asks net (map parts_of bids) status text puts → Prints asks status text puts
  prints asks status text puts p =
      let same : p.bids ≡ bids = bids-from_offers p.bids bids p.are_those in
      record {
        plan = p.plan;
        is = subst (λ (b : List Bid). IsPlainPlan family.cmp net family.rows b asks.steps asks.budget p.plan) same p.is_plan.plan_is.by_search;
        printed = p.printed ∙ ap (λ (b : List Bid). plan_text_of net b p.plan.choice p.plan.revenue p.plan.bound p.plan.nodes) same;
        ends = p.ends;
        put = p.put;
      }

  pub one_text : OnePlan family.cmp net family.rows bids → HasOneText family Keeps net bids
  one_text one asks status status' text text' puts puts' p p' =
      let a = prints asks status text puts p in
      let b = prints asks status' text' puts' p' in
      let same : a.plan ≡ b.plan = one asks.steps asks.budget a.plan b.plan a.is b.is in
      let ends : IsStatusOf b.plan.revenue b.plan.bound status = subst (λ (z : Planned R). IsStatusOf z.revenue z.bound status) same a.ends in (
        one_status b.plan.revenue b.plan.bound status status' ends b.ends,
        a.printed ∙ ap text_of same ∙ sym b.printed,
        a.put ∙ ap (λ (z : Planned R). certificate_puts family.texts net asks.cert (certificate_of z)) same ∙ sym b.put,
      )

-- so it is by the rows of each version
pub one_text-each : (net : Net) (bids : List Bid) → HasOneText (headway_family net) (KeepsHeadwayRule net) net bids → HasOneText (all_family net) (KeepsAllRules net) net bids → OneText net bids
one_text-each net bids first second versions.First = first
one_text-each net bids first second versions.Second = second
