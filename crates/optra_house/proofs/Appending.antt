-- What each moment of an append leaves.
use Rattle.std.proofs.Common.{◌≡◌, ◌≢◌, ◌⊎◌, inl, inr, ⊎_elim, ℕ, ◌+◌, ◌<◌, ◌≤◌, List, [], ◌∷◌, ◌++◌, length, get_or, take, drop, refl, sym, ◌∙◌, ap, subst, arith, append_assoc, length-append, take-append-drop}
use Rattle.std.specs.Int.{to_be_bytes, w32}
use Rattle.std.proofs.lemmas.Bool.{cases_eq}
use Rattle.std.proofs.lemmas.List.{take_at, drop_at, drop_more, flat_map_more}
use Rattle.optra_outside.specs.Disk.{MayLeave, File, overwritten, after_write, after_sync, AfterFailedWrite}
use Rattle.optra_house.specs.Entries.{heading, entry, entries, most_bytes, IsLaidOut}
use Rattle.optra_house.specs.Journal.{HasEntries, HasBeforeOrAfter, IsSettled}
use Rattle.optra_outside.specs.Moments.{LeavesOnly}
use Rattle.optra_house.proofs.EntryLemmas.{reads_back}
use Rattle.optra_outside.proofs.Moments.{started, goes_on}
use Rattle.optra_house.proofs.Torn.{Torn, stays, torn}
use Rattle.optra_outside.proofs.Overwritten.{length-overwritten}

entries_push : (payloads : List (List ℕ)) (payload : List ℕ) → entries (payloads ++ payload ∷ []) ≡ entries payloads ++ entry payload
entries_push payloads payload = sym (flat_map_more entry heading payloads payload)

-- what is written behind the gate: the rest of the entry, and a shut gate
abbrev pub behind_bytes : List ℕ → List ℕ
behind_bytes payload = (to_be_bytes w32 (length payload) ++ payload) ++ 0 ∷ []

length-behind_bytes : (payload : List ℕ) → length (behind_bytes payload) ≡ length payload + 5
length-behind_bytes payload = omega (arith, length-append (to_be_bytes w32 (length payload) ++ payload) (0 ∷ []), length-append (to_be_bytes w32 (length payload)) payload)

-- a front, a gate, and what stands behind it
one_more : (front rest : List ℕ) (gate : ℕ) → front ++ gate ∷ rest ≡ (front ++ gate ∷ []) ++ rest
one_more front rest gate = sym (append_assoc front (gate ∷ []) rest)

-- laid out with the entries from before, with the new one or without
abbrev IsEither : List (List ℕ) → List ℕ → List ℕ → Type 0
IsEither payloads payload file = IsLaidOut payloads file ⊎ IsLaidOut (payloads ++ payload ∷ []) file

either_has : (payloads : List (List ℕ)) (payload file : List ℕ) → IsEither payloads payload file → HasBeforeOrAfter payloads payload file
either_has payloads payload file is = ⊎_elim (λ laid. inl (reads_back payloads file laid)) (λ laid. inr (reads_back (payloads ++ payload ∷ []) file laid)) is

module _ (payloads : List (List ℕ)) (payload : List ℕ) (place : ℕ) (stands : place ≡ length (entries payloads)) where
  front_and_gate : (gate : ℕ) → length (entries payloads ++ gate ∷ []) ≡ place + 1
  front_and_gate gate = omega (arith, stands, length-append (entries payloads) (gate ∷ []))

  -- the shut gate stands in each outcome of the first write
  pub torn_behind : (count gate : ℕ) (rest image : List ℕ) → gate ≢ 1 → Torn (place + 1) count (entries payloads ++ gate ∷ rest) image → length image ≤ most_bytes → IsLaidOut payloads image
  torn_behind count gate rest image shut torn fits =
      let whole = one_more (entries payloads) rest gate in
      let front : take (place + 1) image ≡ entries payloads ++ gate ∷ [] =
      torn.before ∙ ap (λ (l : List ℕ). take (place + 1) l) whole ∙ take_at (entries payloads ++ gate ∷ []) rest (place + 1) (front_and_gate gate) in
      record {
        gate = gate;
        behind = drop (place + 1) image;
        shut = shut;
        is = sym (take-append-drop (place + 1) image) ∙ ap (λ (l : List ℕ). l ++ drop (place + 1) image) front ∙ append_assoc (entries payloads) (gate ∷ []) (drop (place + 1) image);
        fits = fits;
      }

  pub written_behind : (piece : List ℕ) (gate : ℕ) (rest : List ℕ) → overwritten (place + 1) piece (entries payloads ++ gate ∷ rest) ≡ entries payloads ++ gate ∷ (piece ++ drop (place + 1 + length piece) (entries payloads ++ gate ∷ rest))
  written_behind piece gate rest =
      let later = piece ++ drop (place + 1 + length piece) (entries payloads ++ gate ∷ rest) in
      ap (λ (l : List ℕ). l ++ later) (ap (λ (l : List ℕ). take (place + 1) l) (one_more (entries payloads) rest gate) ∙ take_at (entries payloads ++ gate ∷ []) rest (place + 1) (front_and_gate gate))
      ∙ append_assoc (entries payloads) (gate ∷ []) later

  -- the entry with its gate open, and the shut gate behind it
  opened : (rest : List ℕ) → entries payloads ++ 1 ∷ (behind_bytes payload ++ rest) ≡ entries (payloads ++ payload ∷ []) ++ 0 ∷ rest
  opened rest =
      ap (λ (l : List ℕ). entries payloads ++ 1 ∷ l) (append_assoc (to_be_bytes w32 (length payload) ++ payload) (0 ∷ []) rest)
      ∙ sym (append_assoc (entries payloads) (entry payload) (0 ∷ rest))
      ∙ ap (λ (l : List ℕ). l ++ 0 ∷ rest) (sym (entries_push payloads payload))

  pub has_opened : (image rest : List ℕ) → image ≡ entries payloads ++ 1 ∷ (behind_bytes payload ++ rest) → length image ≤ most_bytes → IsLaidOut (payloads ++ payload ∷ []) image
  has_opened image rest is fits = record { gate = 0; behind = rest; shut = omega arith; is = is ∙ opened rest; fits = fits }

  -- a whole entry behind any gate counts or it doesn't
  any_gate : (gate : ℕ) (image rest : List ℕ) → image ≡ entries payloads ++ gate ∷ (behind_bytes payload ++ rest) → length image ≤ most_bytes → IsEither payloads payload image
  any_gate gate image rest is fits = elim (cases_eq gate 1) [
    | inl is_open ↦ inr (has_opened image rest (is ∙ ap (λ (g : ℕ). entries payloads ++ g ∷ (behind_bytes payload ++ rest)) is_open) fits)
    | inr shut ↦ inl (record { gate = gate; behind = behind_bytes payload ++ rest; shut = shut; is = is; fits = fits })
  ]

  -- the entry stands whole in each outcome of the second write
  pub torn_gate : (gate : ℕ) (rest image : List ℕ) → Torn place 1 (entries payloads ++ gate ∷ (behind_bytes payload ++ rest)) image → length image ≤ most_bytes → IsEither payloads payload image
  torn_gate gate rest image torn fits =
      let later = behind_bytes payload ++ rest in
      let front : take place image ≡ entries payloads = torn.before ∙ take_at (entries payloads) (gate ∷ later) place (sym stands) in
      let back : drop (place + 1) image ≡ later =
      torn.behind ∙ ap (λ (l : List ℕ). drop (place + 1) l) (one_more (entries payloads) later gate) ∙ drop_at (entries payloads ++ gate ∷ []) later (place + 1) (front_and_gate gate) in
      let found = get_or image place 0 in
      let long : place < length image = omega (arith, torn.no_shorter, stands, length-append (entries payloads) (gate ∷ later)) in
      let rest_is : drop place image ≡ found ∷ later = drop_more image place 0 long ∙ ap (λ (l : List ℕ). found ∷ l) back in
      let whole : image ≡ entries payloads ++ found ∷ later =
      sym (take-append-drop place image) ∙ ap (λ (l : List ℕ). l ++ drop place image) front ∙ ap (λ (l : List ℕ). entries payloads ++ l) rest_is in
      any_gate found image rest whole fits

  pub written_gate : (gate : ℕ) (later : List ℕ) → overwritten place (1 ∷ []) (entries payloads ++ gate ∷ later) ≡ entries payloads ++ 1 ∷ later
  written_gate gate later =
      ap (λ (l : List ℕ). l ++ ((1 ∷ []) ++ drop (place + 1) (entries payloads ++ gate ∷ later))) (take_at (entries payloads) (gate ∷ later) place (sym stands))
      ∙ ap (λ (l : List ℕ). entries payloads ++ 1 ∷ l) (ap (λ (l : List ℕ). drop (place + 1) l) (one_more (entries payloads) later gate) ∙ drop_at (entries payloads ++ gate ∷ []) later (place + 1) (front_and_gate gate))

-- an append to a file, call by call
module _ (payloads : List (List ℕ)) (payload : List ℕ) (place : ℕ) (file : File) (room : place + 6 + length payload ≤ most_bytes) (settled : IsSettled payloads place file.now) where
  abbrev pub P : List ℕ → Type 0
  P = HasBeforeOrAfter payloads payload

  abbrev pub staged : File
  staged = after_write (place + 1) (behind_bytes payload) file

  abbrev pub kept : File
  kept = after_sync staged

  abbrev pub gate_open : File
  gate_open = after_write place (1 ∷ []) kept

  laid : IsLaidOut payloads file.now.bytes
  laid = settled.laid_out

  abbrev rest : List ℕ
  rest = drop (place + 1 + length (behind_bytes payload)) file.now.bytes

  inside : place < length file.now.bytes
  inside = omega (arith, settled.stands, ap length settled.laid_out.is, length-append (entries payloads) (settled.laid_out.gate ∷ settled.laid_out.behind))

  here : (image : List ℕ) → MayLeave file.now image → P image
  here image left = inl (reads_back payloads image (subst (IsLaidOut payloads) (sym (stays file.now image settled.synced left)) settled.laid_out))

  pub leaves_start : LeavesOnly file file P
  leaves_start = started file P here

  -- the first write leaves the entries as they were
  first : (count : ℕ) (piece image : List ℕ) → length piece ≤ count → count ≤ length (behind_bytes payload) → MayLeave (after_write (place + 1) piece file).now image → P image
  first count piece image fits few left =
      let tear = torn file settled.synced (place + 1) (omega (arith, inside)) count piece image fits left in
      inl (reads_back payloads image (torn_behind payloads payload place settled.stands count settled.laid_out.gate settled.laid_out.behind image settled.laid_out.shut
      (subst (λ (bytes : List ℕ). Torn (place + 1) count bytes image) settled.laid_out.is tear)
      (omega (arith, tear.no_longer, settled.laid_out.fits, room, length-behind_bytes payload, few))))

  pub leaves_staged : LeavesOnly file staged P
  leaves_staged = goes_on file file staged.now P leaves_start (λ image left. first (length (behind_bytes payload)) (behind_bytes payload) image (omega arith) (omega arith) left)

  pub failed_staged : (now : File) → AfterFailedWrite (place + 1) (length (behind_bytes payload)) file now → LeavesOnly file now P
  failed_staged now (inl same) = subst (λ (f : File). LeavesOnly file f P) (sym same) leaves_start
  failed_staged now (inr (piece, fits, is)) =
      subst (λ (f : File). LeavesOnly file f P) (sym is) (goes_on file file (after_write (place + 1) piece file).now P leaves_start (λ image left. first (length (behind_bytes payload)) piece image fits (omega arith) left))

  staged_is : staged.now.bytes ≡ entries payloads ++ settled.laid_out.gate ∷ (behind_bytes payload ++ rest)
  staged_is =
      ap (λ (bytes : List ℕ). overwritten (place + 1) (behind_bytes payload) bytes) settled.laid_out.is
      ∙ written_behind payloads payload place settled.stands (behind_bytes payload) settled.laid_out.gate settled.laid_out.behind
      ∙ ap (λ (bytes : List ℕ). entries payloads ++ settled.laid_out.gate ∷ (behind_bytes payload ++ drop (place + 1 + length (behind_bytes payload)) bytes)) (sym settled.laid_out.is)

  staged_fits : length staged.now.bytes ≤ most_bytes
  staged_fits = omega (arith, length-overwritten (place + 1) (behind_bytes payload) file.now.bytes (omega (arith, inside)), settled.laid_out.fits, room, length-behind_bytes payload)

  laid_staged : IsLaidOut payloads staged.now.bytes
  laid_staged = record { gate = settled.laid_out.gate; behind = behind_bytes payload ++ rest; shut = settled.laid_out.shut; is = staged_is; fits = staged_fits }

  pub leaves_kept : LeavesOnly file kept P
  leaves_kept = goes_on file staged kept.now P leaves_staged (λ image left. inl (reads_back payloads image (subst (IsLaidOut payloads) (sym (stays kept.now image (record { grown = refl; written = refl }) left)) laid_staged)))

  kept_inside : place < length kept.now.bytes
  kept_inside = omega (arith, settled.stands, ap length staged_is, length-append (entries payloads) (settled.laid_out.gate ∷ (behind_bytes payload ++ rest)))

  -- the second leaves them with the new entry or without
  second : (piece image : List ℕ) → length piece ≤ 1 → MayLeave (after_write place piece kept).now image → P image
  second piece image fits left =
      let tear = torn kept (record { grown = refl; written = refl }) place (omega (arith, kept_inside)) 1 piece image fits left in
      either_has payloads payload image (torn_gate payloads payload place settled.stands settled.laid_out.gate rest image
      (subst (λ (bytes : List ℕ). Torn place 1 bytes image) staged_is tear)
      (omega (arith, tear.no_longer, staged_fits, kept_inside)))

  pub leaves_open : LeavesOnly file gate_open P
  leaves_open = goes_on file kept gate_open.now P leaves_kept (λ image left. second (1 ∷ []) image (omega arith) left)

  pub failed_open : (now : File) → AfterFailedWrite place 1 kept now → LeavesOnly file now P
  failed_open now (inl same) = subst (λ (f : File). LeavesOnly file f P) (sym same) leaves_kept
  failed_open now (inr (piece, fits, is)) =
      subst (λ (f : File). LeavesOnly file f P) (sym is) (goes_on file kept (after_write place piece kept).now P leaves_kept (λ image left. second piece image fits left))

  open_is : gate_open.now.bytes ≡ entries payloads ++ 1 ∷ (behind_bytes payload ++ rest)
  open_is = ap (λ (bytes : List ℕ). overwritten place (1 ∷ []) bytes) staged_is ∙ written_gate payloads payload place settled.stands settled.laid_out.gate (behind_bytes payload ++ rest)

  laid_open : IsLaidOut (payloads ++ payload ∷ []) gate_open.now.bytes
  laid_open =
      has_opened payloads payload place settled.stands gate_open.now.bytes rest open_is
      (omega (arith, length-overwritten place (1 ∷ []) kept.now.bytes (omega (arith, kept_inside)), staged_fits, kept_inside))

  pub acknowledged : (image : List ℕ) → MayLeave (after_sync gate_open).now image → HasEntries (payloads ++ payload ∷ []) image
  acknowledged image left =
      reads_back (payloads ++ payload ∷ []) image (subst (IsLaidOut (payloads ++ payload ∷ [])) (sym (stays (after_sync gate_open).now image (record { grown = refl; written = refl }) left)) laid_open)

  pub leaves_all : LeavesOnly file (after_sync gate_open) P
  leaves_all = goes_on file gate_open (after_sync gate_open).now P leaves_open (λ image left. inr (acknowledged image left))

  pub settles : IsSettled (payloads ++ payload ∷ []) (place + 5 + length payload) (after_sync gate_open).now
  settles = record {
    laid_out = laid_open;
    stands = omega (arith, settled.stands, ap length (entries_push payloads payload), length-append (entries payloads) (entry payload), length-append (to_be_bytes w32 (length payload)) payload);
    synced = record { grown = refl; written = refl };
  }
