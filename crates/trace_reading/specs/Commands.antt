-- A command for people: its words, then its directory behind `in`, and each of its pairs behind `with`.
use Rattle.std.specs.Prelude.{ℕ, List, [], ◌∷◌, ◌++◌, codes, Result, Ok, Err, if◌then◌else◌}
use Rattle.std.specs.List.{flat_map}
use Rattle.std.specs.Str.{bytes_eq}
use Rattle.hex.specs.Hex.{decode_of}
use Rattle.hex.specs.declared.error.FromHexError.{FromHexError}
use Rattle.message_text.specs.Words.{plain_text, quoted}
use Rattle.trace_replay.specs.Commands.{fields_of}

-- a word that is in hex
abbrev pub word_told : List ℕ → Result (List ℕ) FromHexError → List ℕ
word_told field (Ok []) = plain_text field
word_told field (Ok (b ∷ bytes)) = quoted (b ∷ bytes)
word_told field (Err error) = plain_text field

-- a mark, - for the empty word, or another word
abbrev pub mark_told : List ℕ → List ℕ
mark_told field =
    if bytes_eq field (codes "@") then codes "in"
    else if bytes_eq field (codes "+") then codes "with"
    else if bytes_eq field (codes "-") then quoted []
    else word_told field (decode_of field)

abbrev pub field_told : List ℕ → List ℕ
field_told field = codes " " ++ mark_told field

abbrev pub command_told : List ℕ → List ℕ
command_told text = flat_map field_told (fields_of text)
