use Rattle.std.proofs.Common.{◌≡◌, ◌≤◌, ◌<◌, List, Option, length, take, Some, IfSome, slice_get, refl, ap, ◌∙◌, arith}
use Rattle.std.proofs.lemmas.List.{take_all}
use Rattle.std.proofs.lemmas.Option.{slice_get_read}
use Rattle.optra_bid.specs.declared.bids.Bid.{Bid}
use Rattle.optra_walk.specs.declared.Leg.{Leg}
use Rattle.optra_walk.specs.Walks.{IsWalk}
use Rattle.optra_walk.specs.Families.{load_of, entries_of}
use Rattle.optra_node.proofs.DualLemmas.{zip_at, zip_length}
use Rattle.optra_prices.proofs.HoldLemmas.{adds_none, adds_both, adds_same, replies_more}
use Rattle.optra_prices.proofs.using.add_replies.Goals as goal

pub loop-number-init : goal.loop-number-init
loop-number-init g c =
    adds_none g.F.Row.Ord.cmp g.met.F.Row.Ord.total g.met.F.Row.CodedRow.tells_apart (g.F.RowFamily.rows_of c.args.rows.now c.args.inst.net.now).is_row c.args.held.now

pub bounds-bids-number : goal.bounds-bids-number
bounds-bids-number g c =
    let bids = c.args.inst.bids.now in
    let walks = c.args.replies.now in
    let e = zip_length (λ (b : Bid) (o : Option (List Leg)). IfSome o (IsWalk c.args.inst.net.now b.path)) bids walks c.requires in
    omega arith

pub add_reply-requires : goal.add_reply-requires
add_reply-requires g c =
    let bids = c.args.inst.bids.now in
    let walks = c.args.replies.now in
    let n = c.loop-number.number in
    let e = zip_length (λ (b : Bid) (o : Option (List Leg)). IfSome o (IsWalk c.args.inst.net.now b.path)) bids walks c.requires in
    let m : n < length walks = omega arith in
    let l : n < length bids = omega arith in
    let bid = c.index-bids-number.result in
    let walk = c.index-replies-number.result in
    let bid_at : slice_get bids n ≡ Some bid = slice_get_read bids (length bids) n bid refl l c.index-bids-number.is in
    let walk_at : slice_get walks n ≡ Some walk = slice_get_read walks (length walks) n walk refl m c.index-replies-number.is in
    zip_at (λ (b : Bid) (o : Option (List Leg)). IfSome o (IsWalk c.args.inst.net.now b.path)) bids walks n bid walk c.requires bid_at walk_at

pub loop-number-preserved : goal.loop-number-preserved
loop-number-preserved g c =
    let rows = g.F.RowFamily.rows_of c.args.rows.now c.args.inst.net.now in
    let bids = c.args.inst.bids.now in
    let walks = c.args.replies.now in
    let n = c.loop-number.number in
    let e = zip_length (λ (b : Bid) (o : Option (List Leg)). IfSome o (IsWalk c.args.inst.net.now b.path)) bids walks c.requires in
    let m : n < length walks = omega arith in
    let l : n < length bids = omega arith in
    let bid = c.index-bids-number.result in
    let walk = c.index-replies-number.result in
    let bid_at : slice_get bids n ≡ Some bid = slice_get_read bids (length bids) n bid refl l c.index-bids-number.is in
    let walk_at : slice_get walks n ≡ Some walk = slice_get_read walks (length walks) n walk refl m c.index-replies-number.is in
    adds_both g.F.Row.Ord.cmp g.met.F.Row.Ord.total g.met.F.Row.CodedRow.tells_apart rows.is_row c.args.held.now c.loop-number.held c.add_reply.new.held _ _ _
    (λ q. replies_more rows bids walks n bid walk q bid_at walk_at) c.loop-number.invariant c.in_ok-add_reply.ensures

pub returns : goal.returns
returns g c =
    let rows = g.F.RowFamily.rows_of c.args.rows.now c.args.inst.net.now in
    let bids = c.args.inst.bids.now in
    let walks = c.args.replies.now in
    let n = c.loop-number.number in
    let e = zip_length (λ (b : Bid) (o : Option (List Leg)). IfSome o (IsWalk c.args.inst.net.now b.path)) bids walks c.requires in
    let past : length walks ≤ n = omega arith in
    let past_bids : length bids ≤ n = omega arith in
    adds_same g.F.Row.Ord.cmp g.met.F.Row.Ord.total g.met.F.Row.CodedRow.tells_apart rows.is_row c.args.held.now c.loop-number.held _ _
    (λ q. ap (λ (xs : List Bid). load_of rows q (entries_of xs (take n walks))) (take_all n bids past_bids) ∙ ap (λ (ys : List (Option (List Leg))). load_of rows q (entries_of bids ys)) (take_all n walks past)) c.loop-number.invariant
