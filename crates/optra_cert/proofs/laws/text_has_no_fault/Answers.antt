use Rattle.std.proofs.Common.{◌<◌, ◌^◌, length, arith}
use Rattle.optra_cert.proofs.TextBack.{no_fault}
use Rattle.optra_cert.proofs.laws.text_has_no_fault.Goals as goal

pub returns : goal.returns
returns g c =
    let texts = g.F.RowText.texts_of c.args.rows.now in
    let apart = c.requires.apart in
    let most = c.args.inst.few in
    let small = c.version.type_inv in
    let same = c.version.ensures.version in
    let few : length c.args.inst.bids.now < 10 ^ 18 = omega (arith, most) in
    let known : texts.version < 10 ^ 18 = omega (arith, small, same) in
    no_fault g.F.Row.Ord.cmp texts apart (g.met.F.RowText.are_texts c.args.rows.now apart) c.args.inst.net.now c.args.inst.proper.built (length c.args.inst.bids.now) few known
