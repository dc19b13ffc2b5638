-- What goes on from the journal that was opened is the reply.
use Rattle.std.proofs.Common.{◌≡◌, ◌∙◌, ap, sym, rules}
use Rattle.std.proofs.lemmas.Result.{IfErr-weaker, IfOk-weaker}
use Rattle.optra_auction.specs.Machine.{spec_names}
use Rattle.optra_frame.specs.Puts.{texts_of}
use Rattle.optra_verdict.proofs.FamilyLemmas.{of_version-map}
use Rattle.optra_top.specs.HouseCommand.{PrintsHouse}
use Rattle.optra_top.specs.HouseRuns.{GoesOnFrom, house_asked}
use Rattle.optra_top.proofs.HouseCommandLemmas.{house-printed, house-refused}
use Rattle.optra_top.proofs.house_command.run_on.Goals as goal

pub returns-clause-ok : goal.returns-clause-ok
returns-clause-ok g c =
    let asked = house_asked c.args.journal.now c.args.stamp.now c.args.sale in
    let before = g.D.Disk.state c.args.disk.now in
    let mid = g.D.Disk.state c.open.new.disk in
    let now = g.D.Disk.state c.go_on.new.disk in
    let net = c.args.net.now in
    let house = c.in_ok-house.house in
    let names = c.deref-2.result.now in
    let named = c.deref-2.ensures.value ∙ c.in_ok-names.ensures ∙ ap spec_names c.deref.ensures.value in
    IfOk-weaker c.go_on.result _ _
    (λ answer says. of_version-map
    (λ R family Keeps. GoesOnFrom family Keeps net names asked.actions house mid now answer)
    (λ R family Keeps. PrintsHouse family Keeps net asked before now answer.status answer.text.items (texts_of answer.puts.items))
    c.args.version net
    (λ R family Keeps goes. house-printed asked before mid now house c.in_ok-house.ensures.ok c.open.ensures.leaves family Keeps net names answer named c.go_on.ensures.same goes)
    says)
    c.go_on.ensures.ok

pub returns-clause-fault : goal.returns-clause-fault
returns-clause-fault g c =
    let asked = house_asked c.args.journal.now c.args.stamp.now c.args.sale in
    let before = g.D.Disk.state c.args.disk.now in
    let mid = g.D.Disk.state c.open.new.disk in
    let now = g.D.Disk.state c.go_on.new.disk in
    IfErr-weaker c.go_on.result _ _
    (λ fault later. house-refused asked before mid now c.in_ok-house.house c.in_ok-house.ensures.ok c.open.ensures.leaves c.args.version c.args.net.now fault c.go_on.ensures.same later)
    c.go_on.ensures.fault
