-- The write changes the bid at its place.
use Rattle.std.proofs.Common.{◌<◌, ◌∙◌, List, length, ap, refl, sym, arith}
use Rattle.std.specs.Option.{option_copied_mut}
use Rattle.optra_auction.specs.Machine.{Standing, valued, with_change}
use Rattle.optra_auction.proofs.KeptLemmas.{HaveRoom-with_value_at, length-standing_in, standing-set_value}
use Rattle.optra_auction.proofs.standing_bids.StandingBids.set_value.Goals as goal

pub invariant_of-self : goal.invariant_of-self
invariant_of-self c = HaveRoom-with_value_at _ _ _ _ c.self.invariant

pub returns : goal.returns
returns c =
    let es = c.self.inside.terms.entries in
    let n = c.self.inside.count in
    let within : c.args.place < n = omega (arith, length-standing_in es n c.self.invariant.within, ap length c.self.view_is, c.requires) in
    let there = sym c.get_index_mut.ensures.value ∙ ap option_copied_mut c.unwrap-terms.ensures in
    standing-set_value es n c.args.place c.unwrap-terms.result.now _ (valued c.args.value) there within (λ _. refl)
    ∙ ap (λ (l : List Standing). with_change l c.args.place (valued c.args.value)) c.self.view_is
