use Rattle.std.proofs.Common.{◌≡◌, ◌≤◌, ◌<◌, ◌+◌, inl, inr, arith, length, ap, true, subst, sym, ℕ}
use Rattle.std.proofs.lemmas.Bool.{cases_lt}
use Rattle.optra_network.specs.Net.{Net}
use Rattle.optra_network.specs.Headways.{type_id}
use Rattle.optra_network.specs.Partners.{is_paired}
use Rattle.optra_network.specs.declared.TypeId.{TypeId}
use Rattle.optra_network.proofs.PartnerLemmas.{within_from, partner_kind}
use Rattle.optra_network.proofs.building.Builder.reach.Goals as goal

pub loop-place-preserved : goal.loop-place-preserved
loop-place-preserved c =
    let old : c.loop-place.reach ≤ c.max-reach.result = omega arith in
    let before : c.reach_between-before.result ≤ c.max-reach.result = omega arith in
    let after : c.reach_between-after.result ≤ c.max-reach.result = omega arith in
    let low : c.max-reach.result ≤ 120 = let b = c.reach_between-before.ensures.most in let a = c.reach_between-after.ensures.most in let o = c.loop-place.invariant.most in omega arith in
    record {
      most = low;
      within = λ partner is_one l. elim (cases_lt partner.kind.0 c.loop-place.place) [
        | inl earlier ↦ let w = c.loop-place.invariant.within partner is_one earlier in (omega (arith, w.0), omega (arith, w.1))
        | inr other ↦
            let same : partner.kind.0 ≡ c.loop-place.place = omega arith in
            let kinds : type_id c.loop-place.place ≡ partner.kind = λ i. record { 0 = sym same i } in
            within_from c.args.self.now c.args.track c.args.kind partner _ _ c.max-reach.result
            (subst (λ (k : TypeId). (t u : ℕ) → is_paired c.args.self.now c.args.track t k u c.args.kind ≡ true → u < t + c.reach_between-before.result) kinds c.reach_between-before.ensures.near)
            (subst (λ (k : TypeId). (t u : ℕ) → is_paired c.args.self.now c.args.track t c.args.kind u k ≡ true → u < t + c.reach_between-after.result) kinds c.reach_between-after.ensures.near)
            before after is_one
      ];
    }

pub returns-clause-within : goal.returns-clause-within
returns-clause-within c = λ partner is_one.
    let there = partner_kind c.args.self.now c.requires.rows.built c.args.track c.args.kind partner is_one in
    let types = ap (λ (n : Net). length n.types) c.self.view_is in
    c.loop-place.invariant.within partner is_one (omega arith)
