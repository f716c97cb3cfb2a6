-- Texts of others as people read them.
use Rattle.std.specs.Prelude.{ℕ, Bool, not, nat_le, ◌==◌, ◌&&◌, ◌||◌, if◌then◌else◌, List, [], ◌∷◌, ◌++◌, length}
use Rattle.std.specs.List.{flat_map, list_all, list_any}
use Rattle.std.specs.Str.{chars, is_utf8}
use Rattle.hex.specs.Hex.{encode_lower}

-- the control characters from 127 on, and the hyphen that is seen at the end of a line alone
abbrev pub is_control : ℕ → Bool
is_control c = (nat_le 127 c && nat_le c 159) || (c == 173)

-- the blanks and the ends of lines that aren't in ASCII
abbrev pub is_blank : ℕ → Bool
is_blank c =
    (c == 160) || (c == 5760) || (nat_le 8192 c && nat_le c 8202) || (nat_le 8232 c && nat_le c 8233) || (c == 8239) || (c == 8287) || (c == 12288)

-- the marks that turn the direction of what stands beside them, and others that have no width: the last are those of whole planes
abbrev pub is_mark : ℕ → Bool
is_mark c =
    (c == 1564) || (c == 6158) || (nat_le 8203 c && nat_le c 8207) || (nat_le 8234 c && nat_le c 8238) || (nat_le 8288 c && nat_le c 8303) || (c == 65279)
    || (nat_le 65529 c && nat_le c 65531) || (nat_le 917504 c && nat_le c 921599)

-- A character from 127 on that isn't seen, or that changes how others are.
abbrev pub is_hidden : ℕ → Bool
is_hidden c = is_control c || is_blank c || is_mark c

-- The bytes are UTF-8, and none of its characters is hidden.
abbrev pub is_whole : List ℕ → Bool
is_whole word = is_utf8 word && not (list_any is_hidden (chars word))

-- A byte that is shown as itself: one that ASCII prints, but for the quotation mark and the backslash, and in a whole text each one beyond ASCII.
abbrev pub is_plain : Bool → ℕ → Bool
is_plain whole b = (nat_le 32 b && nat_le b 126 && not (b == 34) && not (b == 92)) || (whole && nat_le 128 b)

-- any other byte is a backslash (92), an x (120) and two hex digits
abbrev pub byte_text : Bool → ℕ → List ℕ
byte_text whole b = if is_plain whole b then b ∷ [] else 92 ∷ 120 ∷ encode_lower (b ∷ [])

-- A word needs no quotation marks where it isn't empty, and its bytes are plain and no blanks.
abbrev pub are_bare : Bool → List ℕ → Bool
are_bare whole bytes = list_all (λ b. is_plain whole b && not (b == 32)) bytes

abbrev pub is_bare : List ℕ → Bool
is_bare word = not (length word == 0) && are_bare (is_whole word) word

abbrev pub word_text : List ℕ → List ℕ
word_text word = if is_bare word then word else 34 ∷ (flat_map (byte_text (is_whole word)) word ++ 34 ∷ [])

-- words, each behind a blank
abbrev pub words_text : List (List ℕ) → List ℕ
words_text words = flat_map (λ word. 32 ∷ word_text word) words
