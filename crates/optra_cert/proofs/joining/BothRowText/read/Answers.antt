-- Each family is asked with the lesser version, and the second where the first finds no kind.
use Rattle.std.proofs.Common.{refl}
use Rattle.optra_cert.specs.RowTexts.{read_row}
use Rattle.optra_cert.specs.Boths.{lesser}
use Rattle.optra_cert.specs.BothLemmas.{first_apart, second_apart}
use Rattle.optra_cert.proofs.BothReads.{asked, both_answer}
use Rattle.optra_cert.proofs.joining.BothRowText.read.Goals as goal

pub read-requires-in-Kind-clause-apart : goal.read-requires-in-Kind-clause-apart
read-requires-in-Kind-clause-apart g c = second_apart (g.A.RowText.texts_of c.args.self.now.first) (g.B.RowText.texts_of c.args.self.now.second) c.requires.apart

pub returns-in-Row : goal.returns-in-Row
returns-in-Row g c =
    let p = g.A.RowText.texts_of c.args.self.now.first in
    let q = g.B.RowText.texts_of c.args.self.now.second in
    let net = c.args.net.now in
    let version = c.args.version in
    let cells = c.args.cells.now in
    let apart = c.requires.apart in
    let tp = g.met.A.RowText.are_texts c.args.self.now.first (first_apart p q apart) in
    let tq = g.met.B.RowText.are_texts c.args.self.now.second (second_apart p q apart) in
    let first = asked p net version c.version.result c.lesser-first.result cells c.read.result _ c.version.ensures.version c.lesser-first.ensures c.read.ensures c.in-Row.is in
    both_answer p q apart tp tq net version cells _ (read_row q net (lesser version q.version) cells) first refl

pub returns-in-Name : goal.returns-in-Name
returns-in-Name g c =
    let p = g.A.RowText.texts_of c.args.self.now.first in
    let q = g.B.RowText.texts_of c.args.self.now.second in
    let net = c.args.net.now in
    let version = c.args.version in
    let cells = c.args.cells.now in
    let apart = c.requires.apart in
    let tp = g.met.A.RowText.are_texts c.args.self.now.first (first_apart p q apart) in
    let tq = g.met.B.RowText.are_texts c.args.self.now.second (second_apart p q apart) in
    let first = asked p net version c.version.result c.lesser-first.result cells c.read.result _ c.version.ensures.version c.lesser-first.ensures c.read.ensures c.in-Name.is in
    both_answer p q apart tp tq net version cells _ (read_row q net (lesser version q.version) cells) first refl

pub returns-in-Number : goal.returns-in-Number
returns-in-Number g c =
    let p = g.A.RowText.texts_of c.args.self.now.first in
    let q = g.B.RowText.texts_of c.args.self.now.second in
    let net = c.args.net.now in
    let version = c.args.version in
    let cells = c.args.cells.now in
    let apart = c.requires.apart in
    let tp = g.met.A.RowText.are_texts c.args.self.now.first (first_apart p q apart) in
    let tq = g.met.B.RowText.are_texts c.args.self.now.second (second_apart p q apart) in
    let first = asked p net version c.version.result c.lesser-first.result cells c.read.result _ c.version.ensures.version c.lesser-first.ensures c.read.ensures c.in-Number.is in
    both_answer p q apart tp tq net version cells _ (read_row q net (lesser version q.version) cells) first refl

pub returns-in-Row-read : goal.returns-in-Row-read
returns-in-Row-read g c =
    let p = g.A.RowText.texts_of c.args.self.now.first in
    let q = g.B.RowText.texts_of c.args.self.now.second in
    let net = c.args.net.now in
    let version = c.args.version in
    let cells = c.args.cells.now in
    let apart = c.requires.apart in
    let tp = g.met.A.RowText.are_texts c.args.self.now.first (first_apart p q apart) in
    let tq = g.met.B.RowText.are_texts c.args.self.now.second (second_apart p q apart) in
    let first = asked p net version c.version.result c.lesser-first.result cells c.read.result _ c.version.ensures.version c.lesser-first.ensures c.read.ensures c.in-Kind.is in
    let second = asked q net version c.version-in-Kind.result c.lesser-second.result cells c.read-in-Kind.result _ c.version-in-Kind.ensures.version c.lesser-second.ensures c.read-in-Kind.ensures c.in-Row-read.is in
    both_answer p q apart tp tq net version cells _ _ first second

pub returns-in-Name-read : goal.returns-in-Name-read
returns-in-Name-read g c =
    let p = g.A.RowText.texts_of c.args.self.now.first in
    let q = g.B.RowText.texts_of c.args.self.now.second in
    let net = c.args.net.now in
    let version = c.args.version in
    let cells = c.args.cells.now in
    let apart = c.requires.apart in
    let tp = g.met.A.RowText.are_texts c.args.self.now.first (first_apart p q apart) in
    let tq = g.met.B.RowText.are_texts c.args.self.now.second (second_apart p q apart) in
    let first = asked p net version c.version.result c.lesser-first.result cells c.read.result _ c.version.ensures.version c.lesser-first.ensures c.read.ensures c.in-Kind.is in
    let second = asked q net version c.version-in-Kind.result c.lesser-second.result cells c.read-in-Kind.result _ c.version-in-Kind.ensures.version c.lesser-second.ensures c.read-in-Kind.ensures c.in-Name-read.is in
    both_answer p q apart tp tq net version cells _ _ first second

pub returns-in-Number-read : goal.returns-in-Number-read
returns-in-Number-read g c =
    let p = g.A.RowText.texts_of c.args.self.now.first in
    let q = g.B.RowText.texts_of c.args.self.now.second in
    let net = c.args.net.now in
    let version = c.args.version in
    let cells = c.args.cells.now in
    let apart = c.requires.apart in
    let tp = g.met.A.RowText.are_texts c.args.self.now.first (first_apart p q apart) in
    let tq = g.met.B.RowText.are_texts c.args.self.now.second (second_apart p q apart) in
    let first = asked p net version c.version.result c.lesser-first.result cells c.read.result _ c.version.ensures.version c.lesser-first.ensures c.read.ensures c.in-Kind.is in
    let second = asked q net version c.version-in-Kind.result c.lesser-second.result cells c.read-in-Kind.result _ c.version-in-Kind.ensures.version c.lesser-second.ensures c.read-in-Kind.ensures c.in-Number-read.is in
    both_answer p q apart tp tq net version cells _ _ first second

pub returns-in-Kind-read : goal.returns-in-Kind-read
returns-in-Kind-read g c =
    let p = g.A.RowText.texts_of c.args.self.now.first in
    let q = g.B.RowText.texts_of c.args.self.now.second in
    let net = c.args.net.now in
    let version = c.args.version in
    let cells = c.args.cells.now in
    let apart = c.requires.apart in
    let tp = g.met.A.RowText.are_texts c.args.self.now.first (first_apart p q apart) in
    let tq = g.met.B.RowText.are_texts c.args.self.now.second (second_apart p q apart) in
    let first = asked p net version c.version.result c.lesser-first.result cells c.read.result _ c.version.ensures.version c.lesser-first.ensures c.read.ensures c.in-Kind.is in
    let second = asked q net version c.version-in-Kind.result c.lesser-second.result cells c.read-in-Kind.result _ c.version-in-Kind.ensures.version c.lesser-second.ensures c.read-in-Kind.ensures c.in-Kind-read.is in
    both_answer p q apart tp tq net version cells _ _ first second
