-- The laws of the texts of headway rows.
use Rattle.std.proofs.Common.{◌≡◌, ◌⊎◌, inl, inr, ℕ, ◌≤◌, ◌<◌, ◌∷◌, [], List, length, Option, Some, None, IsSome, IfSome, true, false, Bool, refl, sym, ◌∙◌, subst, arith, codes, bytes_eq, lit≤, lit<}
use Rattle.std.specs.Prelude.{cond, All}
use Rattle.std.specs.List.{AllByRecursion}
use Rattle.std.specs.Str.{is_utf8}
use Rattle.std.proofs.lemmas.List.Elements.{All-nil, All-cons, All-from_recursion}
use Rattle.std.proofs.lemmas.Slice.Eq.{bytes_eq-Decides}
use Rattle.std.proofs.lemmas.Bool.{leb-true, ltb-true, and_parts}
use Rattle.optra_network.specs.Net.{Net, IsProper, IsTrack, IsKind, MayUse, IsRunningRow, times_of}
use Rattle.optra_network.specs.declared.Times.{Times}
use Rattle.optra_network.specs.declared.TrackId.{TrackId}
use Rattle.optra_network.specs.declared.TypeId.{TypeId}
use Rattle.optra_network.proofs.MemberLemmas.{in_from}
use Rattle.optra_network.proofs.NetLemmas.{times_built}
use Rattle.optra_network.proofs.PartnerLemmas.{paired_rule}
use Rattle.optra_rows.specs.declared.HRow.{HRow}
use Rattle.optra_rows.specs.declared.HRow.TheVariants.{Window, Pair}
use Rattle.optra_rows.specs.Headways.{is_row_of}
use Rattle.optra_records.specs.Reading.{Field}
use Rattle.optra_cert.specs.Headways.{headway_texts, window_kind, pair_kind, told_row, made_row_of, window_of, pair_of}
use Rattle.optra_cert.specs.Columns.{Column, a_track, a_type, a_number, IsShortColumn, IsShortWord, IsSoundColumn, IsTextColumn}
use Rattle.optra_cert.specs.TextLemmas.{word_text}
use Rattle.optra_cert.specs.RowTexts.{RowKind, AreTexts, FitsRow, TellsKinds, HasVersions, HasSoundColumns, HasTextWords, HasShortWords, HasFewColumns, MakesTold, TellsMade, MakesEach}

kinds_told : TellsKinds headway_texts
kinds_told (Window track minute) = (0, omega arith, refl)
kinds_told (Pair track t a u b) = (1, omega arith, refl)

versions : HasVersions headway_texts
versions =
    let P : RowKind → Type 0 = λ kind. (1 ≤ kind.version) × (kind.version ≤ 1) in
    All-cons P window_kind (pair_kind ∷ []) (lit≤ tt, lit≤ tt) (All-cons P pair_kind [] (lit≤ tt, lit≤ tt) (All-nil P))

columns : HasSoundColumns headway_texts
columns =
    let P : RowKind → Type 0 = λ kind. All IsSoundColumn kind.columns in
    let minute : IsSoundColumn (a_number 0 2998) = lit< tt in
    let window = all_of (a_track ∷ a_number 0 2998 ∷ []) (tt, (minute, tt)) in
    let pair = all_of (a_track ∷ a_type ∷ a_number 0 2998 ∷ a_type ∷ a_number 0 2998 ∷ []) (tt, (tt, (minute, (tt, (minute, tt))))) in
    All-cons P window_kind (pair_kind ∷ []) window (All-cons P pair_kind [] pair (All-nil P))
  where
    all_of : (columns : List Column) → AllByRecursion IsSoundColumn columns → All IsSoundColumn columns
    all_of [] h = All-nil IsSoundColumn
    all_of (column ∷ columns) h = All-cons IsSoundColumn column columns h.0 (all_of columns h.1)

words : HasTextWords headway_texts
words =
    let P : RowKind → Type 0 = λ kind. (is_utf8 kind.word ≡ true) × All IsTextColumn kind.columns in
    let window = all_of (a_track ∷ a_number 0 2998 ∷ []) (tt, (tt, tt)) in
    let pair = all_of (a_track ∷ a_type ∷ a_number 0 2998 ∷ a_type ∷ a_number 0 2998 ∷ []) (tt, (tt, (tt, (tt, (tt, tt))))) in
    All-cons P window_kind (pair_kind ∷ []) (word_text (codes "window") refl, window) (All-cons P pair_kind [] (word_text (codes "pair") refl, pair) (All-nil P))
  where
    all_of : (columns : List Column) → AllByRecursion IsTextColumn columns → All IsTextColumn columns
    all_of [] h = All-nil IsTextColumn
    all_of (column ∷ columns) h = All-cons IsTextColumn column columns h.0 (all_of columns h.1)

short : HasShortWords headway_texts
short =
    let P : RowKind → Type 0 = λ kind. IsShortWord kind.word × All IsShortColumn kind.columns in
    let window = All-from_recursion IsShortColumn window_kind.columns (tt, (tt, tt)) in
    let pair = All-from_recursion IsShortColumn pair_kind.columns (tt, (tt, (tt, (tt, (tt, tt))))) in
    All-cons P window_kind (pair_kind ∷ []) (lit≤ tt, window) (All-cons P pair_kind [] (lit≤ tt, pair) (All-nil P))

few : HasFewColumns headway_texts
few =
    let P : RowKind → Type 0 = λ kind. length kind.columns < 32 in
    All-cons P window_kind (pair_kind ∷ []) (lit< tt) (All-cons P pair_kind [] (lit< tt) (All-nil P))

makes : MakesTold headway_texts
makes (Window track minute) = refl
makes (Pair track t a u b) = refl

-- what a row tells is this
abbrev Tells : Field → List ℕ → HRow → Type 0
Tells word values row = ((told_row row).0.word ≡ word) × ((told_row row).1 ≡ values)

same_row : (P : HRow → Type 0) (made row : HRow) → ◌≡◌ {A = Option HRow} (Some made) (Some row) → P made → P row
same_row P made row e h = let same : made ≡ row = cc e in subst P same h

window_tells : (values : List ℕ) (row : HRow) → window_of values ≡ Some row → Tells (codes "window") values row
window_tells [] row e = absurd (cc e)
window_tells (t ∷ []) row e = absurd (cc e)
window_tells (t ∷ m ∷ []) row e = same_row (Tells (codes "window") (t ∷ m ∷ [])) (Window (record { 0 = t }) m) row e (refl, refl)
window_tells (t ∷ m ∷ x ∷ xs) row e = absurd (cc e)

pair_tells : (values : List ℕ) (row : HRow) → pair_of values ≡ Some row → Tells (codes "pair") values row
pair_tells [] row e = absurd (cc e)
pair_tells (a ∷ []) row e = absurd (cc e)
pair_tells (a ∷ b ∷ []) row e = absurd (cc e)
pair_tells (a ∷ b ∷ c ∷ []) row e = absurd (cc e)
pair_tells (a ∷ b ∷ c ∷ d ∷ []) row e = absurd (cc e)
pair_tells (track ∷ a ∷ t ∷ b ∷ u ∷ []) row e =
    same_row (Tells (codes "pair") (track ∷ a ∷ t ∷ b ∷ u ∷ [])) (Pair (record { 0 = track }) t (record { 0 = a }) u (record { 0 = b })) row e (refl, refl)
pair_tells (a ∷ b ∷ c ∷ d ∷ e' ∷ x ∷ xs) row e = absurd (cc e)

tells : TellsMade headway_texts
tells word values row = by (bytes_eq word (codes "window")) refl (bytes_eq word (codes "pair")) refl
  where
    by : (w : Bool) → bytes_eq word (codes "window") ≡ w → (p : Bool) → bytes_eq word (codes "pair") ≡ p
        → cond w (window_of values) (cond p (pair_of values) None) ≡ Some row → Tells word values row
    by true w p q e = let h = window_tells values row e in (h.0 ∙ sym ((bytes_eq-Decides word (codes "window")).0 w), h.1)
    by false w true q e = let h = pair_tells values row e in (h.0 ∙ sym ((bytes_eq-Decides word (codes "pair")).0 q), h.1)
    by false w false q e = absurd (cc e)

some_window : (values : List ℕ) → length values ≡ 2 → IsSome (window_of values)
some_window [] e = absurd (omega (arith, e))
some_window (t ∷ []) e = absurd (omega (arith, e))
some_window (t ∷ m ∷ []) e = grind arith
some_window (t ∷ m ∷ x ∷ xs) e = absurd (omega (arith, e))

some_pair : (values : List ℕ) → length values ≡ 5 → IsSome (pair_of values)
some_pair [] e = absurd (omega (arith, e))
some_pair (a ∷ []) e = absurd (omega (arith, e))
some_pair (a ∷ b ∷ []) e = absurd (omega (arith, e))
some_pair (a ∷ b ∷ c ∷ []) e = absurd (omega (arith, e))
some_pair (a ∷ b ∷ c ∷ d ∷ []) e = absurd (omega (arith, e))
some_pair (track ∷ a ∷ t ∷ b ∷ u ∷ []) e = grind arith
some_pair (a ∷ b ∷ c ∷ d ∷ f ∷ x ∷ xs) e = absurd (omega (arith, e))

each : MakesEach headway_texts
each kind values in_ = by (in_from (window_kind ∷ pair_kind ∷ []) kind in_)
  where
    by : (window_kind ≡ kind) ⊎ ((pair_kind ≡ kind) ⊎ ⊥) → length values ≡ length kind.columns → IsSome (made_row_of kind.word values)
    by (inl e) long =
        let P : RowKind → Type 0 = λ kind. length values ≡ length kind.columns → IsSome (made_row_of kind.word values) in
        subst P e (some_window values) long
    by (inr (inl e)) long =
        let P : RowKind → Type 0 = λ kind. length values ≡ length kind.columns → IsSome (made_row_of kind.word values) in
        subst P e (some_pair values) long
    by (inr (inr n)) long = absurd n

pub headway_texts_are : AreTexts headway_texts
headway_texts_are = record { kinds = kinds_told; versions = versions; columns = columns; words = words; short = short; few = few; makes = makes; tells = tells; each = each }

-- a type that may use a track is there, and so is the track
there : (net : Net) (track : TrackId) (kind : TypeId) → IsProper net → MayUse net track kind → IsTrack net track × IsKind net kind
there net track kind proper may = by (times_of net track kind) may (times_built net track kind proper.built)
  where
    by : (o : Option Times) → IsSome o → IfSome o (λ times. IsRunningRow (length net.tracks) (length net.types) ((track.0, kind.0), times)) → (track.0 < length net.tracks) × (kind.0 < length net.types)
    by None may h = cc
    by (Some times) may h = (h.0, h.1)

-- the rows of the family can be written
pub headway_rows_fit : (net : Net) → IsProper net → (row : HRow) → is_row_of net row ≡ true → FitsRow headway_texts net row
headway_rows_fit net p (Window track minute) is =
    let x = and_parts _ _ is in (ltb-true _ _ x.0, ((omega arith, leb-true _ _ x.1), tt))
headway_rows_fit net p (Pair track t a u b) is =
    let x = and_parts _ _ is in
    let pair = paired_rule net p track t a u b x.0 in
    let last = leb-true _ _ x.1 in
    let first = there net track a p pair.first_may in
    let second = there net track b p pair.second_may in
    let early = no_later pair.smaller in
    (first.0, (first.1, ((omega arith, omega arith), (second.1, ((omega arith, omega arith), tt)))))
  where
    no_later : (t < u) ⊎ ((t ≡ u) × (a.0 < b.0)) → t ≤ u
    no_later (inl l) = omega arith
    no_later (inr e) = let same = e.0 in omega arith
