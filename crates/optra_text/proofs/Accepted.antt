-- When `clap` accepts words, and what it gives; and that the commands are simple.
use Rattle.std.proofs.Common.{◌≡◌, true, false, List, [], ◌∷◌, Some, refl, inl, inr, suc, length, arith}
use Rattle.std.proofs.lemmas.Bool.{ne_eqb}
use Rattle.clap.specs.Words.{App, HasKind, HasMatchesOf, IsAmong, Kinds, fault_of, found_of, is_simple_and_free, kind_of, matches_of, rows_of}
use Rattle.clap.specs.Walk.{is_empty}
use Rattle.clap.specs.declared.error.Error.{Error}
use Rattle.clap.specs.declared.error.kind.ErrorKind.{ErrorKind}
use Rattle.clap.specs.declared.parser.matches.ArgMatches.{ArgMatches}
use Rattle.clap.proofs.OnLiterals.{clap_on_literals}
use Rattle.optra_text.specs.declared.words.WordsError.{WordsError}
use Rattle.optra_text.specs.declared.words.WordsError.TheVariants as errors
use Rattle.optra_text.specs.CommandForms.{IsSimple, Word, auction_app, audit_app, check_app, compress_app, house_app, pay_app, plan_app, rows_given, demo_app}
use Rattle.optra_text.specs.Words.{IsErrorOf, IsUsage}

pub plan_is_simple : IsSimple plan_app
unfolding clap_on_literals
plan_is_simple = record { simple = refl; free = refl }

pub audit_is_simple : IsSimple audit_app
unfolding clap_on_literals
audit_is_simple = record { simple = refl; free = refl }

pub pay_is_simple : IsSimple pay_app
unfolding clap_on_literals
pay_is_simple = record { simple = refl; free = refl }

pub compress_is_simple : IsSimple compress_app
unfolding clap_on_literals
compress_is_simple = record { simple = refl; free = refl }

pub check_is_simple : IsSimple check_app
unfolding clap_on_literals
check_is_simple = record { simple = refl; free = refl }

pub auction_is_simple : IsSimple auction_app
unfolding clap_on_literals
auction_is_simple = record { simple = refl; free = refl }

pub house_is_simple : IsSimple house_app
unfolding clap_on_literals
house_is_simple = record { simple = refl; free = refl }

pub demo_is_simple : IsSimple demo_app
unfolding clap_on_literals
demo_is_simple = record { simple = refl; free = refl }

-- words that are accepted have no fault
pub taken : (app : App) (words : List Word) (m : ArgMatches) → IsSimple app → (is_simple_and_free app ≡ true → fault_of app words ≡ []) → HasMatchesOf app words m → rows_given app words ≡ Some (rows_of (found_of m))
unfolding rows_given
taken app words m simple none rows =
    let no_fault : fault_of app words ≡ [] = none simple.free in
    let found : rows_of (found_of m) ≡ matches_of app words = (rows simple.simple).0 in
    rw (no_fault, found) refl

some_kind : (k : ErrorKind) (kinds : Kinds) → IsAmong k kinds → is_empty kinds ≡ false
some_kind k [] h = absurd h
some_kind k (x ∷ xs) h = ne_eqb (suc (length xs)) 0 (λ e. let f : suc (length xs) ≡ 0 = e in absurd (omega arith))

-- each kind but want of memory is a refusal of the words
pub refused : (app : App) (words : List Word) (e : Error) (r : WordsError) → IsSimple app → (is_simple_and_free app ≡ true → HasKind (fault_of app words) e) → IsErrorOf (kind_of e) r → IsUsage r (rows_given app words)
unfolding rows_given
refused app words e errors.NoMemory simple kinds is = tt
refused app words e errors.Usage simple kinds is =
    elim (kinds simple.free) [
      | inl memory ↦ let bad : errors.Usage ≡ errors.NoMemory = rw memory at is in absurd (cc bad)
      | inr among ↦ rw (some_kind (kind_of e) (fault_of app words) among) refl
    ]
