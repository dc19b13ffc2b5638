use Rattle.std.proofs.Common.{◌≡◌, ◌+◌, ◌*◌, ◌<◌, ◌++◌, ◌∷◌, [], ℕ, List, length, map, get_or, set, take, slice_get, Some, Option, IfSome, Vec, Global, sym, ap, ◌∙◌, subst, arith, rules}
use Rattle.std.proofs.lemmas.List.{get_or-map, length-map, map-set, take_all}
use Rattle.optra_network.specs.Net.{Net, CrossingRow}
use Rattle.optra_network.specs.BuilderParts.{net_of}
use Rattle.optra_network.specs.Crossers.{crossers_in, crosser_of, may_cross}
use Rattle.optra_network.specs.Tables.{HoldsPairs}
use Rattle.optra_network.specs.declared.Crosser.{Crosser}
use Rattle.optra_network.proofs.CrosserLemmas.{crossers_none, crossers_skip, crossers_push, free_row}
use Rattle.optra_network.proofs.CrossingLemmas.{IsRowAt, row_at}
use Rattle.optra_network.proofs.building.Builder.listed.Goals as goal
use Rattle.optra_network.proofs.building.Builder.listed.Goals.{in-Some+in_ok-push, in_default}

pub loop-i-preserved : goal.loop-i-preserved
loop-i-preserved c =
    let net = c.args.self.now in
    let lists = c.loop-i.lists.items in
    let items = λ (list : Vec Crosser Global). list.items in
    let same : c.self.inside.crossings.entries ≡ net.crossings = ap (λ (n : Net). n.crossings) c.self.view_is in
    elim c.match-placed.branch [
      | in-Some+in_ok-push w ↦
          let is = w.in-Some.ensures in
          let row = is.row in
          let known = row_at net c.loop-i.i row c.requires.built is.at in
          let place : w.in-Some.placed.place ≡ row.0.0 * 16 + row.0.2 = is.place in
          let track = known.track in
          let kind = known.kind in
          let len = c.loop-i.invariant.len in
          let below : w.in-Some.placed.place < length lists = omega (arith, length-map lists items) in
          let before : w.index_mut.result.now.items ≡ get_or (map items lists) w.in-Some.placed.place [] =
          ap items w.index_mut.ensures.value ∙ sym (get_or-map items lists w.in-Some.placed.place w.index_mut.result.now [] below) in
          subst (λ (v : Vec (Vec Crosser Global) Global). HoldsPairs (crossers_in net (take (c.loop-i.i + 1) net.crossings)) (length net.tracks) (map items v.items)) (sym w.lists-is)
          (subst (HoldsPairs (crossers_in net (take (c.loop-i.i + 1) net.crossings)) (length net.tracks)) (sym (map-set items lists w.in-Some.placed.place w.push.new.self))
          (subst (λ n. HoldsPairs (crossers_in net (take (c.loop-i.i + 1) net.crossings)) (length net.tracks) (set (map items lists) n w.push.new.self.items)) (sym place)
          (crossers_push net net.crossings c.loop-i.i (length net.tracks) row (map items lists) w.push.new.self.items c.loop-i.invariant is.at is.may track kind
          (w.in_ok-push.ensures.items ∙ (λ i. before i ++ is.is i ∷ []) ∙ ap (λ n. get_or (map items lists) n [] ++ crosser_of net.crossings row ∷ []) place))))
      | in_default w ↦
          let free = w.in_default.ensures in
          let within : c.loop-i.i < length net.crossings = omega (arith, ap (λ (l : List CrossingRow). length l) same) in
          let row = free_row net c.loop-i.i within free in
          subst (λ (v : Vec (Vec Crosser Global) Global). HoldsPairs (crossers_in net (take (c.loop-i.i + 1) net.crossings)) (length net.tracks) (map items v.items)) (sym w.lists-is)
          (crossers_skip net net.crossings c.loop-i.i (length net.tracks) row.0 (map items lists) c.loop-i.invariant row.1 row.2)
    ]
