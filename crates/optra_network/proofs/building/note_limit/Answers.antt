use Rattle.std.proofs.Common.{◌++◌, ◌∷◌, [], cond, nat_eq, sym, ap, ◌∙◌, Result, Ok, Err, IsOk, OnOk, arith}
use Rattle.std.proofs.lemmas.Bool.{ne_eqb}
use Rattle.indexmap.proofs.CallerLemmas.{insert_entry-new}
use Rattle.optra_network.proofs.building.note_limit.Goals as goal

from_ok : {T E : Type 0} (r : Result T E) (P : Type 0) → IsOk r → OnOk r P → P
from_ok (Ok x) P ok h = h
from_ok (Err e) P ok h = absurd (grind arith)

pub returns : goal.returns
returns c =
    let limits = c.args.limits.now.entries in
    from_ok c.insert.result _ (c.insert.ensures.succeeds c.requires.room) c.insert.ensures.entries
    ∙ insert_entry-new nat_eq c.args.limits.now c.args.station c.args.halt_max c.requires.new
    ∙ sym (ap (λ b. cond b limits (limits ++ (c.args.station, c.args.halt_max) ∷ [])) (ne_eqb c.args.halt_max 0 c.if-halt_max-eq0.false))
