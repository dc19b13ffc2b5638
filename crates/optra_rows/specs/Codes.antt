-- The numbers that tell rows of headways: first those of windows, and then those of pairs.
use Rattle.std.proofs.Common.{◌≡◌, ℕ, ◌+◌, ◌-◌, ◌*◌, ◌/◌, ◌%◌, ◌^◌, ◌<◌, Bool, true, false, cond, nat_lt, sym, ap, ◌∙◌, arith}
use Rattle.std.specs.Prelude.{Option, Some, None, ◌&&◌}
use Rattle.std.specs.Cmp.{nat_cmp_is}
use Rattle.std.specs.Ordering.{nat_cmp, ordering_then}
use Rattle.std.specs.declared.cmp.Ordering.{Ordering}
use Rattle.std.specs.declared.cmp.Ordering.TheVariants.{Less, Greater}
use Rattle.std.proofs.lemmas.Bool.{and_parts, ltb-true, lt-ltb, le-ltb}
use Rattle.optra_network.specs.declared.TrackId.{TrackId}
use Rattle.optra_network.specs.declared.TypeId.{TypeId}
use Rattle.optra_walk.specs.UseCodes.{has_use_code, use_code, code_kind, code_minute, code_track, IsToldUse, told_use}
use Rattle.optra_walk.specs.Codes.{moved_cmp, parts_cmp, scaled_cmp, some_parts, then_then}
use Rattle.optra_rows.specs.declared.HRow.{HRow}
use Rattle.optra_rows.specs.declared.HRow.TheVariants.{Window, Pair}
use Rattle.optra_rows.specs.TouchedLemmas.{row_cmp, window_cmp, pair_cmp, window_below_pair}

-- so many numbers
abbrev pub codes : ℕ
codes = 4672924418048

-- the number of a window
abbrev pub window_code : TrackId → ℕ → Option ℕ
window_code k m = cond (has_use_code k m (record { 0 = 0 })) (Some ((k.0 * 4096 + m) * 65536)) None

-- the number of a pair by those of its uses
abbrev pub pair_code : TrackId → ℕ → ℕ → ℕ
pair_code k first second = 274877906944 + (k.0 * 65536 + first) * 65536 + second

abbrev pub code_of : HRow → Option ℕ
code_of (Window k m) = window_code k m
code_of (Pair k t a u b) = cond (has_use_code k t a && has_use_code k u b) (Some (pair_code k (use_code t a) (use_code u b))) None

abbrev pair_of_code : ℕ → HRow
pair_of_code pair = Pair (code_track (pair / 65536 / 65536)) (code_minute (pair / 65536 % 65536)) (code_kind (pair / 65536 % 65536)) (code_minute (pair % 65536)) (code_kind (pair % 65536))

abbrev pub row_of : ℕ → HRow
row_of code = cond (nat_lt code 274877906944) (Window (code_track (code / 65536 / 4096)) (code / 65536 % 4096)) (pair_of_code (code - 274877906944))

-- ---- the parts of a row that has a number
window_parts : (k : TrackId) (m code : ℕ) → code_of (Window k m) ≡ Some code → (k.0 < 1024) × (m < 4096) × ((k.0 * 4096 + m) * 65536 ≡ code)
window_parts k m code is =
    let both = some_parts (has_use_code k m (record { 0 = 0 })) ((k.0 * 4096 + m) * 65536) code is in
    let told = told_use k m (record { 0 = 0 }) both.0 in
    (told.track_few, told.minute_few, both.1)

pair_parts : (k : TrackId) (t : ℕ) (a : TypeId) (u : ℕ) (b : TypeId) (code : ℕ) → code_of (Pair k t a u b) ≡ Some code → IsToldUse k t a × IsToldUse k u b × (pair_code k (use_code t a) (use_code u b) ≡ code)
pair_parts k t a u b code is =
    let both = some_parts (has_use_code k t a && has_use_code k u b) (pair_code k (use_code t a) (use_code u b)) code is in
    let parts = and_parts (has_use_code k t a) (has_use_code k u b) both.0 in
    (told_use k t a parts.0, told_use k u b parts.1, both.1)

-- ---- the laws
pub below : (row : HRow) (code : ℕ) → code_of row ≡ Some code → code < codes
below (Window k m) code is =
    let p = window_parts k m code is in
    let track = p.0 in let minute = p.1 in let sum = p.2 in omega arith
below (Pair k t a u b) code is =
    let p = pair_parts k t a u b code is in
    let first = p.0 in let second = p.1 in let sum = p.2 in
    let ta = first.track_few in let tb = first.minute_few in let tc = first.kind_few in let ua = second.minute_few in let ub = second.kind_few in omega arith

pub leads_back : (row : HRow) (code : ℕ) → code_of row ≡ Some code → row_of code ≡ row
leads_back (Window k m) code is =
    let p = window_parts k m code is in
    let small = p.0 in
    let minute = p.1 in
    let sum = p.2 in
    let low : nat_lt code 274877906944 ≡ true = lt-ltb code 274877906944 (omega arith) in
    let whole : code / 65536 ≡ k.0 * 4096 + m = omega arith in
    let of_track : code / 65536 / 4096 % 1024 ≡ k.0 = omega arith in
    let of_minute : code / 65536 % 4096 ≡ m = omega arith in
    ap (λ (b : Bool). cond b (Window (code_track (code / 65536 / 4096)) (code / 65536 % 4096)) (pair_of_code (code - 274877906944))) low
    ∙ (λ i. Window (record { 0 = of_track i }) (of_minute i))
leads_back (Pair k t a u b) code is =
    let p = pair_parts k t a u b code is in
    let first = p.0 in
    let second = p.1 in
    let track = first.track_few in
    let ta = first.minute_few in
    let tb = first.kind_few in
    let ua = second.minute_few in
    let ub = second.kind_few in
    let sum = p.2 in
    let pair = code - 274877906944 in
    let high : nat_lt code 274877906944 ≡ false = le-ltb code 274877906944 (omega arith) in
    let parts : pair ≡ (k.0 * 65536 + (t * 16 + a.0)) * 65536 + (u * 16 + b.0) = omega arith in
    let above : pair / 65536 ≡ k.0 * 65536 + (t * 16 + a.0) = omega arith in
    let under : pair % 65536 ≡ u * 16 + b.0 = omega arith in
    let middle : pair / 65536 % 65536 ≡ t * 16 + a.0 = omega arith in
    let of_track : pair / 65536 / 65536 % 1024 ≡ k.0 = omega arith in
    let of_t : pair / 65536 % 65536 / 16 % 4096 ≡ t = omega arith in
    let of_a : pair / 65536 % 65536 % 16 ≡ a.0 = omega arith in
    let of_u : pair % 65536 / 16 % 4096 ≡ u = omega arith in
    let of_b : pair % 65536 % 16 ≡ b.0 = omega arith in
    ap (λ (test : Bool). cond test (Window (code_track (code / 65536 / 4096)) (code / 65536 % 4096)) (pair_of_code pair)) high
    ∙ (λ i. Pair (record { 0 = of_track i }) (of_t i) (record { 0 = of_a i }) (of_u i) (record { 0 = of_b i }))

pub ordered : (a b : HRow) (x y : ℕ) → code_of a ≡ Some x → code_of b ≡ Some y → row_cmp a b ≡ nat_cmp x y
ordered (Window k m) (Window k' m') x y is is' =
    let p = window_parts k m x is in
    let q = window_parts k' m' y is' in
    window_cmp k m k' m' ∙ sym (parts_cmp 4096 k.0 m k'.0 m' p.1 q.1) ∙ sym (scaled_cmp 65536 (k.0 * 4096 + m) (k'.0 * 4096 + m') (omega arith))
    ∙ ap (λ (n : ℕ). nat_cmp n ((k'.0 * 4096 + m') * 65536)) p.2 ∙ ap (nat_cmp x) q.2
ordered (Window k m) (Pair k' t a u b) x y is is' =
    let p = window_parts k m x is in
    let small = p.0 in
    let minute = p.1 in
    let sum = p.2 in
    let q = (pair_parts k' t a u b y is').2 in
    window_below_pair k m k' t a u b ∙ nat_cmp_is x y Less (omega arith)
ordered (Pair k t a u b) (Window k' m') x y is is' =
    let p = window_parts k' m' y is' in
    let small = p.0 in
    let minute = p.1 in
    let sum = p.2 in
    let q = (pair_parts k t a u b x is).2 in
    nat_cmp_is x y Greater (omega arith)
ordered (Pair k t a u b) (Pair k' t' a' u' b') x y is is' =
    let p = pair_parts k t a u b x is in
    let q = pair_parts k' t' a' u' b' y is' in
    let f = t * 16 + a.0 in
    let s = u * 16 + b.0 in
    let f' = t' * 16 + a'.0 in
    let s' = u' * 16 + b'.0 in
    let p1 = p.0.minute_few in let p2 = p.0.kind_few in let p3 = p.1.minute_few in let p4 = p.1.kind_few in
    let q1 = q.0.minute_few in let q2 = q.0.kind_few in let q3 = q.1.minute_few in let q4 = q.1.kind_few in
    let sum : 274877906944 + ((k.0 * 65536 + f) * 65536 + s) ≡ x = let e = p.2 in omega arith in
    let sum' : 274877906944 + ((k'.0 * 65536 + f') * 65536 + s') ≡ y = let e = q.2 in omega arith in
    let whole : nat_cmp x y ≡ ordering_then (nat_cmp (k.0 * 65536 + f) (k'.0 * 65536 + f')) (nat_cmp s s') =
    sym (ap (λ (n : ℕ). nat_cmp n (274877906944 + ((k'.0 * 65536 + f') * 65536 + s'))) sum ∙ ap (nat_cmp x) sum')
    ∙ moved_cmp 274877906944 ((k.0 * 65536 + f) * 65536 + s) ((k'.0 * 65536 + f') * 65536 + s')
    ∙ parts_cmp 65536 (k.0 * 65536 + f) s (k'.0 * 65536 + f') s' (omega arith) (omega arith)
    in
    let above = parts_cmp 65536 k.0 f k'.0 f' (omega arith) (omega arith) ∙ ap (ordering_then (nat_cmp k.0 k'.0)) (parts_cmp 16 t a.0 t' a'.0 p2 q2) in
    let under = parts_cmp 16 u b.0 u' b'.0 p4 q4 in
    pair_cmp k t a u b k' t' a' u' b'
    ∙ sym (whole
    ∙ ap (λ (o : Ordering). ordering_then o (nat_cmp s s')) above
    ∙ ap (ordering_then (ordering_then (nat_cmp k.0 k'.0) (ordering_then (nat_cmp t t') (nat_cmp a.0 a'.0)))) under
    ∙ then_then (nat_cmp k.0 k'.0) (ordering_then (nat_cmp t t') (nat_cmp a.0 a'.0)) (ordering_then (nat_cmp u u') (nat_cmp b.0 b'.0))
    ∙ ap (ordering_then (nat_cmp k.0 k'.0)) (then_then (nat_cmp t t') (nat_cmp a.0 a'.0) (ordering_then (nat_cmp u u') (nat_cmp b.0 b'.0))))

pub few : codes < 2 ^ 64
few = omega arith
