-- Which words are a command form, and what they ask for.
use Rattle.std.specs.Prelude.{◌≡◌, ◌&&◌, ℕ, Bool, List, [], ◌∷◌, length, Option, Some, None, Result, Ok, Err, nat_le, codes, option_map, if◌then◌else◌}
use Rattle.std.specs.Str.{bytes_eq}
use Rattle.clap.specs.Words.{Row, first_of}
use Rattle.clap.specs.declared.error.kind.ErrorKind.{ErrorKind}
use Rattle.clap.specs.declared.error.kind.ErrorKind.TheVariants as kind
use Rattle.optra_records.specs.Numbers.{number_of}
use Rattle.optra_text.specs.CommandForms.{Word, rows_given, plan_app, check_app, auction_app, demo_app, audit_app, pay_app, house_app, compress_app}
use Rattle.optra_text.specs.declared.words.TablePaths.{TablePaths}
use Rattle.optra_text.specs.declared.words.Words.{Words}
use Rattle.optra_text.specs.declared.words.Words.TheVariants.{Plan, Check, Auction, Demo, Audit, Pay, House, Compress}
use Rattle.optra_text.specs.declared.words.WordsError.{WordsError}
use Rattle.optra_text.specs.declared.words.WordsError.TheVariants as errors

infixl 10 ◌>>=◌
abbrev pub ◌>>=◌ : {A B : Type 0} → Option A → (A → Option B) → Option B
(Some x) >>= f = f x
None >>= f = None

-- ---- values

-- a path has 1 to 4,096 bytes
abbrev pub is_path : Word → Bool
is_path word = nat_le 1 (length word) && nat_le (length word) 4096

abbrev pub path_of : Word → Option Word
path_of word = if is_path word then Some word else None

-- the path of an option that is required
abbrev pub needed_path : Option Word → Option Word
needed_path given = given >>= path_of

-- the path of an option that may be absent
abbrev pub optional_path : Option Word → Option (Option Word)
optional_path None = Some None
optional_path (Some word) = option_map Some (path_of word)

abbrev pub within : ℕ → ℕ → ℕ → Option ℕ
within least most n = if nat_le least n && nat_le n most then Some n else None

-- a number is 1 to 10 digits, and in its range
abbrev pub number_within : ℕ → ℕ → Word → Option ℕ
number_within least most word = number_of word >>= within least most

-- the number of an option that has a default
abbrev pub number_or : ℕ → ℕ → ℕ → Option Word → Option ℕ
number_or default least most None = Some default
number_or default least most (Some word) = number_within least most word

-- ---- commands

-- steps are 0 to 1,000, and 40 where they aren't given
abbrev pub steps_of : List Row → Option ℕ
steps_of rows = number_or 40 0 1000 (first_of (codes "steps") rows)

-- the budget is 1 to 10,000, and 200 where it isn't given
abbrev pub budget_of : List Row → Option ℕ
budget_of rows = number_or 200 1 10000 (first_of (codes "budget") rows)

-- the network's folder, the bids and the stops, which every command over tables requires
abbrev pub tables_given : List Row → Option TablePaths
tables_given rows = do
  net ← needed_path (first_of (codes "net") rows)
  bids ← needed_path (first_of (codes "bids") rows)
  stops ← needed_path (first_of (codes "stops") rows)
  Some (record { net = net; bids = bids; stops = stops })

-- what the words behind `plan` ask for
unfoldable pub plan_words : List Word → Option Words
plan_words words = do
  rows ← rows_given plan_app words
  tables ← tables_given rows
  steps ← steps_of rows
  budget ← budget_of rows
  cert ← optional_path (first_of (codes "cert") rows)
  Some (Plan tables.net tables.bids tables.stops steps budget cert)

-- what the words behind `check` ask for
unfoldable pub check_words : List Word → Option Words
check_words words = do
  rows ← rows_given check_app words
  tables ← tables_given rows
  cert ← needed_path (first_of (codes "cert") rows)
  Some (Check tables.net tables.bids tables.stops cert)

-- what the words behind `auction` ask for
unfoldable pub auction_words : List Word → Option Words
auction_words words = do
  rows ← rows_given auction_app words
  tables ← tables_given rows
  rules ← needed_path (first_of (codes "rules") rows)
  actions ← needed_path (first_of (codes "actions") rows)
  certs ← optional_path (first_of (codes "certs") rows)
  Some (Auction tables.net tables.bids tables.stops rules actions certs)

-- the number of a value that is required
abbrev pub needed_number : ℕ → ℕ → Option Word → Option ℕ
needed_number least most given = given >>= number_within least most

-- what the words behind `demo` ask for: a seed of 32 bits and a size of 1 to 9
unfoldable pub demo_words : List Word → Option Words
demo_words words = do
  rows ← rows_given demo_app words
  seed ← needed_number 0 4294967295 (first_of (codes "seed") rows)
  size ← needed_number 1 9 (first_of (codes "size") rows)
  Some (Demo seed size)

-- what the words behind `audit` ask for
unfoldable pub audit_words : List Word → Option Words
audit_words words = do
  rows ← rows_given audit_app words
  tables ← tables_given rows
  times ← needed_path (first_of (codes "times") rows)
  Some (Audit tables.net tables.bids tables.stops times)

-- what the words behind `pay` ask for
unfoldable pub pay_words : List Word → Option Words
pay_words words = do
  rows ← rows_given pay_app words
  tables ← tables_given rows
  steps ← steps_of rows
  budget ← budget_of rows
  Some (Pay tables.net tables.bids tables.stops steps budget)

-- what the words behind `house` ask for
unfoldable pub house_words : List Word → Option Words
house_words words = do
  rows ← rows_given house_app words
  tables ← tables_given rows
  rules ← needed_path (first_of (codes "rules") rows)
  actions ← needed_path (first_of (codes "actions") rows)
  journal ← needed_path (first_of (codes "journal") rows)
  Some (House tables.net tables.bids tables.stops rules actions journal)

-- what the words behind `compress` ask for
unfoldable pub compress_words : List Word → Option Words
compress_words words = do
  rows ← rows_given compress_app words
  tables ← tables_given rows
  times ← needed_path (first_of (codes "times") rows)
  Some (Compress tables.net tables.bids tables.stops times)

-- What the words ask for, where they are a command form: the first is the command, and the others are its options.
abbrev pub words_of : List Word → Option Words
words_of [] = None
words_of (command ∷ words) =
    if bytes_eq command (codes "plan") then plan_words words else (
    if bytes_eq command (codes "check") then check_words words else (
    if bytes_eq command (codes "auction") then auction_words words else (
    if bytes_eq command (codes "demo") then demo_words words else (
    if bytes_eq command (codes "audit") then audit_words words else (
    if bytes_eq command (codes "pay") then pay_words words else (
    if bytes_eq command (codes "house") then house_words words else (
    if bytes_eq command (codes "compress") then compress_words words else None)))))))

-- ---- answers

-- Usage comes where nothing is asked for. Want of memory is free.
abbrev pub IsUsage : {Y : Type 0} → WordsError → Option Y → Type 0
IsUsage errors.NoMemory read = Unit {0}
IsUsage errors.Usage read = read ≡ None

-- what was read, seen by `view`, is what is asked for
abbrev pub Reads : {X Y : Type 0} → (X → Y) → Result X WordsError → Option Y → Type 0
Reads view (Ok x) read = read ≡ Some (view x)
Reads view (Err e) read = IsUsage e read

-- why words were not read, where `clap` gives this kind of fault
abbrev pub IsErrorOf : ErrorKind → WordsError → Type 0
IsErrorOf kind.OutOfMemory e = e ≡ errors.NoMemory
IsErrorOf _ e = e ≡ errors.Usage
