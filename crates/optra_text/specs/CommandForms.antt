-- The commands as `clap` knows them, and the values that it finds in the words.
use Rattle.std.specs.Prelude.{◌≡◌, ℕ, Bool, true, false, List, Option, Some, None, codes, if◌then◌else◌}
use Rattle.clap.specs.Words.{App, Row, Rule, fault_of, is_simple, is_simple_and_free, matches_of, new_app, new_rule, with_rule}
use Rattle.clap.specs.Walk.{is_empty}
use Rattle.clap.specs.declared.builder.action.ArgAction.TheVariants.{Set}

-- a word of a command line, as its bytes
abbrev pub Word : Type 0
Word = List ℕ

-- an option that takes one value and is given at most once
abbrev pub option_rule : Word → Bool → Rule
option_rule name is_required = record (new_rule name) { long = Some name; action = Some Set; required = is_required }

-- a value that is required and has no option name
abbrev pub value_rule : Word → Rule
value_rule name = record (new_rule name) { action = Some Set; required = true }

-- a command without help, version or words of its own
abbrev pub bare_app : Word → App
bare_app name = let app = new_app name in
    record app { top = record app.top { no_binary_name = true; disable_help_flag = true; disable_version_flag = true } }

-- the command has nothing of which `clap` says less than all
pub record IsSimple (app : App) : Type 0 where
  pub simple : is_simple app ≡ true
  pub free : is_simple_and_free app ≡ true

-- the options and their values, where `clap` accepts the words
unfoldable pub rows_given : App → List Word → Option (List Row)
rows_given app words = if is_empty (fault_of app words) then Some (matches_of app words) else None

-- a command that needs the network's folder, the bids and the stops
abbrev pub tables_app : Word → App
tables_app name = with_rule (with_rule (with_rule (bare_app name)
    (option_rule (codes "net") true)) (option_rule (codes "bids") true)) (option_rule (codes "stops") true)

-- plan --net DIR --bids FILE --stops FILE [--steps K] [--budget B] [--cert FILE]
abbrev pub plan_app : App
plan_app = with_rule (with_rule (with_rule (tables_app (codes "plan"))
    (option_rule (codes "steps") false)) (option_rule (codes "budget") false)) (option_rule (codes "cert") false)

-- check --net DIR --bids FILE --stops FILE --cert FILE
abbrev pub check_app : App
check_app = with_rule (tables_app (codes "check")) (option_rule (codes "cert") true)

-- audit --net DIR --bids FILE --stops FILE --times FILE
abbrev pub audit_app : App
audit_app = with_rule (tables_app (codes "audit")) (option_rule (codes "times") true)

-- pay --net DIR --bids FILE --stops FILE [--steps K] [--budget B]
abbrev pub pay_app : App
pay_app = with_rule (with_rule (tables_app (codes "pay")) (option_rule (codes "steps") false)) (option_rule (codes "budget") false)

-- compress --net DIR --bids FILE --stops FILE --times FILE
abbrev pub compress_app : App
compress_app = with_rule (tables_app (codes "compress")) (option_rule (codes "times") true)

-- auction --net DIR --bids FILE --stops FILE --rules FILE --actions FILE [--certs PREFIX]
abbrev pub auction_app : App
auction_app = with_rule (with_rule (with_rule (tables_app (codes "auction"))
    (option_rule (codes "rules") true)) (option_rule (codes "actions") true)) (option_rule (codes "certs") false)

-- house --net DIR --bids FILE --stops FILE --rules FILE --actions FILE --journal FILE
abbrev pub house_app : App
house_app = with_rule (with_rule (with_rule (tables_app (codes "house"))
    (option_rule (codes "rules") true)) (option_rule (codes "actions") true)) (option_rule (codes "journal") true)

-- demo SEED SIZE
abbrev pub demo_app : App
demo_app = with_rule (with_rule (bare_app (codes "demo")) (value_rule (codes "seed"))) (value_rule (codes "size"))
