use Rattle.std.proofs.Common.{◌+◌, ◌<◌, ◌∷◌, [], length, refl, arith}
use Rattle.optra_walk.specs.Families.{load_of, entries_of, total_of}
use Rattle.optra_walk.proofs.UsableLemmas.{choice_usable}
use Rattle.optra_open.proofs.AtLemmas.{no_true, not_both}
use Rattle.optra_walk.proofs.EarnLemmas.{choice_long, choice_at}
use Rattle.optra_checker.proofs.FitLemmas.{within_below, within_same, load_at, load_past, within_fits}
use Rattle.optra_checker.proofs.fitting.rule_holds.Goals as goal

pub bounds-entries-i : goal.bounds-entries-i
bounds-entries-i g c =
    let same = choice_long c.args.net.now c.args.bids.now c.args.entries.now c.requires in
    let l = c.bids-test.true in
    omega arith

pub entry_fits-requires-clause-walk : goal.entry_fits-requires-clause-walk
entry_fits-requires-clause-walk g c =
    choice_at c.args.net.now c.args.bids.now c.args.entries.now c.bids.i c.index-bids-i.result c.index-entries-i.result c.requires c.bids-test.true c.index-bids-i.is c.index-entries-i.is

pub returns-then-not-branch : goal.returns-then-not-branch
returns-then-not-branch g c =
    let f = c.args.rows.now in
    let net = c.args.net.now in
    let rows = g.F.RowFamily.rows_of f net in
    let total = total_of g.F.Row.Ord.cmp in
    let bids = c.args.bids.now in
    let entries = c.args.entries.now in
    let proper = c.laws.ensures in
    let usable = choice_usable net proper bids entries c.requires in
    let fits = within_fits rows net (λ kind leg u. (g.met.F.RowFamily.lists_rows f net kind leg u).are_rows) (entries_of bids entries) usable in
    let rule = g.met.F.RowFamily.rule_by_rows f net (entries_of bids entries) proper usable in
    let same = choice_long net bids entries c.requires in
    let l = c.bids-test.true in
    let within : c.bids.i < length entries = omega arith in (
      λ t. absurd (no_true t),
      λ keeps. absurd (not_both c.in_ok-entry_fits.field-0 c.if-not-branch.true (c.in_ok-entry_fits.ensures.within.1
          (within_below rows (λ q. total c.bids.totals.sums q + load_of rows q (entries_of (c.index-bids-i.result ∷ []) (c.index-entries-i.result ∷ []))) (λ q. load_of rows q (entries_of bids entries))
          (λ q. let r = c.bids.invariant.rest q in let a = load_at rows q bids entries c.bids.i c.index-bids-i.result c.index-entries-i.result l within c.index-bids-i.is c.index-entries-i.is in omega arith)
          (fits.1 (rule.0 keeps))))),
    )

pub bids-preserved : goal.bids-preserved
bids-preserved g c =
    let rows = g.F.RowFamily.rows_of c.args.rows.now c.args.net.now in
    let total = total_of g.F.Row.Ord.cmp in
    let bids = c.args.bids.now in
    let entries = c.args.entries.now in
    let same = choice_long c.args.net.now bids entries c.requires in
    let l = c.bids-test.true in
    let within : c.bids.i < length entries = omega arith in
    let fits = c.if-not-branch.false in
    let added = c.in_ok-entry_fits.ensures.added fits in
    record {
      rest = λ q. let r = c.bids.invariant.rest q in let a = load_at rows q bids entries c.bids.i c.index-bids-i.result c.index-entries-i.result l within c.index-bids-i.is c.index-entries-i.is in let d = added q in omega arith;
      within = within_same rows (total c.entry_fits.new.totals.sums) (λ q. total c.bids.totals.sums q + load_of rows q (entries_of (c.index-bids-i.result ∷ []) (c.index-entries-i.result ∷ []))) added (c.in_ok-entry_fits.ensures.within.0 fits);
    }

pub returns : goal.returns
returns g c =
    let f = c.args.rows.now in
    let net = c.args.net.now in
    let rows = g.F.RowFamily.rows_of f net in
    let total = total_of g.F.Row.Ord.cmp in
    let bids = c.args.bids.now in
    let entries = c.args.entries.now in
    let proper = c.laws.ensures in
    let usable = choice_usable net proper bids entries c.requires in
    let fits = within_fits rows net (λ kind leg u. (g.met.F.RowFamily.lists_rows f net kind leg u).are_rows) (entries_of bids entries) usable in
    let rule = g.met.F.RowFamily.rule_by_rows f net (entries_of bids entries) proper usable in (
      λ _. rule.1 (fits.0 (within_same rows (λ q. load_of rows q (entries_of bids entries)) (total c.bids.totals.sums)
          (λ q. let r = c.bids.invariant.rest q in let p = load_past rows q bids entries c.bids.i c.bids-test.false in omega arith) c.bids.invariant.within)),
      λ _. refl,
    )
