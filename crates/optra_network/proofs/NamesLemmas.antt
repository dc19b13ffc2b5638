-- Names in a set of texts and in the list of their bytes, and lists of names that all differ.
use Rattle.std.proofs.Common.{◌≡◌, ◌≢◌, ◌≤◌, ◌&&◌, ℕ, ◌+◌, Bool, true, false, cond, not, nat_lt, ◌||◌, List, [], ◌∷◌, ◌++◌, length, map, position, Some, None, refl, sym, ap, ◌∙◌, string_bytes, String, arith, is_some, bytes_eq, if◌then◌else◌, IsTrue, subst, true≢false}
use Rattle.std.proofs.lemmas.List.Elements.{All-push}
use Rattle.std.proofs.lemmas.List.Quantifiers.{all_pairs_push}
use Rattle.std.proofs.lemmas.List.Folds.{list_any_at}
use Rattle.std.proofs.lemmas.Slice.Eq.{bytes_eq-Decides}
use Rattle.std.proofs.lemmas.Str.{is_utf8-from_IsUtf8}
use Rattle.std.proofs.lemmas.Bool.{le-leb}
use Rattle.std.specs.Str.{IsUtf8}
use Rattle.std.specs.List.{position_or_len, list_any}
use Rattle.std.proofs.lemmas.List.{length-map, map_push}
use Rattle.std.specs.String.{string_eq}
use Rattle.indexmap.specs.IndexSet.{insert_key}
use Rattle.optra_network.specs.Names.{AllDiffer, AreNames, is_name, is_plain, place_of, texts}

position_or_len-map : {X Y : Type 0} (f : X → Y) (p : Y → Bool) (xs : List X) → position_or_len p (map f xs) ≡ position_or_len (λ x. p (f x)) xs
position_or_len-map f p [] = refl
position_or_len-map f p (x ∷ xs) = ap (λ n. cond (not (p (f x))) (1 + n) 0) (position_or_len-map f p xs)

-- a place by a test of a part of each element
pub position-map : {X Y : Type 0} (f : X → Y) (p : Y → Bool) (xs : List X) → position p (map f xs) ≡ position (λ x. p (f x)) xs
position-map f p xs =
    λ i. cond (nat_lt (position_or_len-map f p xs i) (length-map xs f i)) (Some (position_or_len-map f p xs i)) None

-- no place, so no element passes
pub list_any-position : {X : Type 0} (p : X → Bool) (xs : List X) → is_some (position p xs) ≡ list_any p xs
list_any-position p [] = refl
list_any-position p (x ∷ xs) =
    elim (p x) as (λ b. is_some (cond (nat_lt (cond (not b) (1 + position_or_len p xs) 0) (length (x ∷ xs))) (Some (cond (not b) (1 + position_or_len p xs) 0)) None) ≡ (b || list_any p xs)) [
      | true ↦ grind arith
      | false ↦ grind (arith, list_any-position p xs)
    ]

module _ {A : Type 0} where
  -- a name that has no place goes last
  pub texts-insert_key : (ks new : List (String A)) (t : String A) (name : List ℕ)
      → new ≡ insert_key string_eq ks t → string_bytes t ≡ name → place_of name (texts ks) ≡ None → texts new ≡ texts ks ++ name ∷ []
  texts-insert_key ks new t name e same none =
      let absent : list_any (string_eq t) ks ≡ false =
      sym (list_any-position (string_eq t) ks) ∙ ap is_some (sym (position-map string_bytes (bytes_eq (string_bytes t)) ks) ∙ (λ i. place_of (same i) (texts ks)) ∙ none) in
      ap texts (e ∙ ap (λ b. if b then ks else ks ++ t ∷ []) absent) ∙ map_push string_bytes ks t ∙ ap (λ n. texts ks ++ n ∷ []) same

-- an element that a test tells apart from all others, after a list whose elements all differ
pub AllDiffer-push : {X : Type 0} (test : X → X → Bool) (same : (x : X) → test x x ≡ true) (xs : List X) (y : X)
    → AllDiffer xs → list_any (test y) xs ≡ false → AllDiffer (xs ++ y ∷ [])
AllDiffer-push {X} test same xs y apart absent =
    all_pairs_push (λ (a b : X). a ≢ b) xs y apart
    (λ k d l e. true≢false (sym (list_any_at (test y) xs k d l (subst (λ (a : X). test y a ≡ true) (sym e) (same y))) ∙ absent))

-- one more name
pub AreNames-push : (names : List (List ℕ)) (name : List ℕ) → AreNames names → IsTrue (is_name name) → place_of name names ≡ None → AreNames (names ++ name ∷ [])
AreNames-push names name a is absent = record {
  each = All-push (λ (n : List ℕ). IsTrue (is_name n)) names name a.each is;
  differ = AllDiffer-push bytes_eq (λ n. (bytes_eq-Decides n n).1 refl) names name a.differ (sym (list_any-position (bytes_eq name) names) ∙ ap is_some absent);
}

-- a text of 1 to 64 bytes is a name by its characters
pub is_name-text : (bytes : List ℕ) → IsUtf8 bytes → 1 ≤ length bytes → length bytes ≤ 64 → is_plain bytes ≡ is_name bytes
is_name-text bytes text some few =
    (λ i. sym (le-leb 1 (length bytes) some) i && sym (le-leb (length bytes) 64 few) i && sym (is_utf8-from_IsUtf8 bytes text) i && is_plain bytes)
