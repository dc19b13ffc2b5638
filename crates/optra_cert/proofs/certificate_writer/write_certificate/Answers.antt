-- The items have records, and the three parts are the whole text.
use Rattle.std.proofs.Common.{◌≡◌, List, ℕ, subst, sym, ap, ◌∙◌, IfOk, to_z-of_z}
use Rattle.std.specs.Prelude.{All}
use Rattle.optra_cert.specs.Certs.{Cert, IsAmount, IsPrintable}
use Rattle.optra_cert.specs.CertTexts.{cert_text}
use Rattle.optra_cert.proofs.WriteLemmas.{items_printable, parts_text, printed_parts, amount_fits}
use Rattle.optra_cert.proofs.certificate_writer.write_certificate.Goals as goal

pub print_items-requires : goal.print_items-requires
print_items-requires g c =
    let all = items_printable _ (g.F.RowText.texts_of c.args.rows.now) c.args.inst.net.now _ _ c.args.cert.now c.requires.writable in
    rw (c.deref-2.ensures.value) (subst (λ (cert : Cert _). All (IsPrintable (g.F.RowText.texts_of c.args.rows.now) c.args.inst.net.now) cert.tree) (sym c.cert.view_is) all)

pub returns : goal.returns
returns g c =
    let texts = g.F.RowText.texts_of c.args.rows.now in
    let net = c.args.inst.net.now in
    let told : Cert _ = record { revenue = c.cert.inside.revenue; bound = c.cert.inside.bound; choice = c.cert.inside.choice; tree = c.cert.inside.tree.items } in
    let whole = parts_text texts net texts.version told in
    let same : cert_text texts net texts.version told ≡ cert_text texts net texts.version c.args.cert.now = ap (cert_text texts net texts.version) c.cert.view_is in
    let head = c.in_ok-print_head.ensures in
    let walks = c.in_ok-print_walks.ensures in
    let items = c.in_ok-print_items.ensures in
    let start = c.new-printer.ensures in
    let version = c.version.ensures.version in
    let legs = c.deref.ensures.value in
    let kept = c.choice.view_is in
    let tree = c.deref-2.ensures.value in
    let written = c.requires.writable in
    let revenue = to_z-of_z (amount_fits _ (subst IsAmount (sym (ap (λ (cert : Cert _). cert.revenue) c.cert.view_is)) written.revenue)) in
    let bound = to_z-of_z (amount_fits _ (subst IsAmount (sym (ap (λ (cert : Cert _). cert.bound) c.cert.view_is)) written.bound)) in
    let parts : c.print_items.new.printer ≡ cert_text texts net texts.version told =
    printed_parts _ _ _ _ _ _ _ items walks head start ∙ rw (version, revenue, bound, legs, kept, tree) whole in
    subst (λ (t : List ℕ). IfOk c.finish.result (λ text. text.items ≡ t)) (parts ∙ same) c.finish.ensures
