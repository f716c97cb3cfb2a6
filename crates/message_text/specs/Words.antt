-- How bytes and enumerated values are written: for programs, bytes in hex and numbers; for people, texts and words.
use Rattle.std.specs.Prelude.{ℕ, Bool, List, ◌∷◌, [], ◌++◌, codes, ◌==◌, ◌&&◌, ◌||◌, not, nat_le, if◌then◌else◌}
use Rattle.std.specs.List.{flat_map}
use Rattle.std.specs.Fmt.{decimal}
use Rattle.control_lines.specs.Fields.{hex_text}
use Rattle.message_text.specs.declared.words.Writing.{Writing}
use Rattle.message_text.specs.declared.words.Writing.TheVariants.{Codes, Words}

-- printable ASCII but for the quotation mark (34) and the backslash (92)
abbrev pub is_plain : ℕ → Bool
is_plain b = nat_le 32 b && nat_le b 126 && not (b == 34) && not (b == 92)

-- These two stand behind a backslash, and any other byte is a backslash, an x (120) and two hex digits.
abbrev pub char_text : ℕ → List ℕ
char_text b = if is_plain b then b ∷ [] else if (b == 34) || (b == 92) then 92 ∷ b ∷ [] else 92 ∷ 120 ∷ hex_text (b ∷ [])

abbrev pub plain_text : List ℕ → List ℕ
plain_text bytes = flat_map char_text bytes

-- the same between quotation marks
abbrev pub quoted : List ℕ → List ℕ
quoted bytes = 34 ∷ (plain_text bytes ++ 34 ∷ [])

abbrev pub bytes_text : Writing → List ℕ → List ℕ
bytes_text Codes bytes = hex_text bytes
bytes_text Words bytes = quoted bytes

-- a value's number, or its word
abbrev pub choice_text : Writing → ℕ → List ℕ → List ℕ
choice_text Codes number word = decimal number
choice_text Words number word = word
