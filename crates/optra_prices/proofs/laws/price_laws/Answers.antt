use Rattle.optra_prices.proofs.OneLemmas.{valuation_unique, one_result}
use Rattle.optra_prices.proofs.PriceListLemmas.{one_price_list}
use Rattle.optra_prices.proofs.laws.price_laws.Goals as goal

pub returns : goal.returns
returns g c =
    let net = c.args.inst.net.now in
    let bids = c.args.inst.bids.now in
    let rows = g.F.RowFamily.rows_of c.args.rows.now net in
    let cmp = g.F.Row.Ord.cmp in
    let total = g.met.F.Row.Ord.total in
    let apart = g.met.F.Row.CodedRow.tells_apart in
    record {
      one_price_list = λ a b proper proper' h. one_price_list cmp total apart rows a b proper.ascending proper.each proper'.ascending proper'.each h;
      one_valuation = valuation_unique net rows bids;
      one_result = one_result cmp total apart net rows bids;
    }
