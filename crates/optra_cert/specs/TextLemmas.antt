-- Words of ASCII are UTF-8.
use Rattle.std.proofs.Common.{◌≡◌, ℕ, nat_lt, true, List, [], ◌∷◌}
use Rattle.std.specs.List.{list_all}
use Rattle.std.specs.Str.{IsAscii, is_utf8}
use Rattle.std.proofs.lemmas.Bool.{and_parts, ltb-true}
use Rattle.std.proofs.lemmas.Str.{IsUtf8-from_ascii, is_utf8-from_IsUtf8}
use Rattle.std.proofs.lemmas.Str.Ascii.{IsAscii-cons, IsAscii-nil}

ascii_from : (word : List ℕ) → list_all (λ b. nat_lt b 128) word ≡ true → IsAscii word
ascii_from [] e = IsAscii-nil
ascii_from (b ∷ word) e =
    let parts = and_parts (nat_lt b 128) (list_all (λ b. nat_lt b 128) word) e in
    IsAscii-cons b word (ltb-true b 128 parts.0) (ascii_from word parts.1)

pub ascii_text : (word : List ℕ) → IsAscii word → is_utf8 word ≡ true
ascii_text word is = is_utf8-from_IsUtf8 word (IsUtf8-from_ascii word is)

-- a word whose bytes are all below 128
pub word_text : (word : List ℕ) → list_all (λ b. nat_lt b 128) word ≡ true → is_utf8 word ≡ true
word_text word e = ascii_text word (ascii_from word e)
