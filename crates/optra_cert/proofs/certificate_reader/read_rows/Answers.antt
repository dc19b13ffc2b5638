-- Each record goes on, or is the first fault.
use Rattle.std.proofs.Common.{◌≡◌, None, ◌∷◌, length, sym, ap, ◌∙◌, arith}
use Rattle.std.specs.Prelude.{Ok}
use Rattle.std.proofs.lemmas.List.{length-replicate}
use Rattle.std.proofs.lemmas.Result.{err_from_is_err_and}
use Rattle.csv.specs.Records.{fields_of}
use Rattle.optra_cert.specs.Certs.{Cert}
use Rattle.optra_cert.specs.Steps.{State, read_rows}
use Rattle.optra_cert.proofs.RunLemmas.{ends_open, ends_whole, rows_end, rows_go, rows_stop, step_stays}
use Rattle.optra_cert.proofs.certificate_reader.read_rows.Goals as goal

pub rows-init : goal.rows-init
rows-init g c =
    let frame = c.args.frame.now in
    let bids = length frame.inst.bids.now in
    record {
      each = ap (λ (s : State _). length s.walks.choice) c.in_ok-parts.ensures ∙ length-replicate bids None;
      room = omega arith;
      rest = ap (λ (s : State _). read_rows g.F.Row.Ord.cmp (g.F.RowText.texts_of frame.rows.now) frame.inst.net.now bids frame.version s 2 c.args.records.now) c.in_ok-parts.ensures;
    }

pub rows-preserved : goal.rows-preserved
rows-preserved g c =
    let frame = c.args.frame.now in
    let bids = length frame.inst.bids.now in
    let fields = fields_of c.next.new.row in
    let read : c.rows.records ≡ fields ∷ c.next.new.self = rw c.if-branch.true at c.in_ok-next.ensures.read in
    record {
      each = step_stays g.F.Row.Ord.cmp (g.F.RowText.texts_of frame.rows.now) frame.inst.net.now bids frame.version c.rows.parts c.take_row.new.parts fields c.rows.number c.in_ok-take_row.ensures ∙ c.rows.invariant.each;
      room = omega (arith, ap length read, c.rows.invariant.room);
      rest =
          rows_go g.F.Row.Ord.cmp (g.F.RowText.texts_of frame.rows.now) frame.inst.net.now bids frame.version c.rows.records c.next.new.self fields c.rows.parts c.take_row.new.parts c.rows.number c.args.records.now
          read c.in_ok-take_row.ensures c.rows.invariant.rest;
    }

pub returns-in_err-take_row : goal.returns-in_err-take_row
returns-in_err-take_row g c =
    let frame = c.args.frame.now in
    let bids = length frame.inst.bids.now in
    let fields = fields_of c.next.new.row in
    let read : c.rows.records ≡ fields ∷ c.next.new.self = rw c.if-branch.true at c.in_ok-next.ensures.read in
    let p = err_from_is_err_and c.from_residual-in_err-take_row.result c.from_residual-in_err-take_row.ensures.1 in
    rw (p.1, p.2) (
    rows_stop g.F.Row.Ord.cmp (g.F.RowText.texts_of frame.rows.now) frame.inst.net.now bids frame.version c.rows.records c.next.new.self fields c.rows.parts c.rows.number c.args.records.now c.in_err-take_row.field-0.0
    read c.in_err-take_row.ensures c.rows.invariant.rest
    )

pub returns-then-not-is_whole : goal.returns-then-not-is_whole
returns-then-not-is_whole g c =
    let frame = c.args.frame.now in
    let bids = length frame.inst.bids.now in
    rw c.fault.ensures (
    rows_end g.F.Row.Ord.cmp (g.F.RowText.texts_of frame.rows.now) frame.inst.net.now bids frame.version c.rows.records c.rows.parts c.rows.number c.args.records.now
    (rw c.if-branch.false at c.in_ok-next.ensures.read) c.rows.invariant.rest
    ∙ ends_open g.F.Row.Ord.cmp (g.F.RowText.texts_of frame.rows.now) frame.inst.net.now bids frame.version c.rows.parts c.rows.number (sym c.is_whole.ensures ∙ c.if-not-is_whole.true)
    )

pub returns : goal.returns
returns g c =
    let frame = c.args.frame.now in
    let bids = length frame.inst.bids.now in
    rows_end g.F.Row.Ord.cmp (g.F.RowText.texts_of frame.rows.now) frame.inst.net.now bids frame.version c.rows.records c.rows.parts c.rows.number c.args.records.now
    (rw c.if-branch.false at c.in_ok-next.ensures.read) c.rows.invariant.rest
    ∙ ends_whole g.F.Row.Ord.cmp (g.F.RowText.texts_of frame.rows.now) frame.inst.net.now bids frame.version c.rows.parts c.rows.number (sym c.is_whole.ensures ∙ c.if-not-is_whole.false)
    ∙ ap (λ (cert : Cert _). Ok cert) (sym c.into_certificate.ensures)
