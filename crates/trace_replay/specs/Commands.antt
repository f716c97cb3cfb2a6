-- The fields of a command in a trace: its words, then @ and its directory, where it has one, and then for each pair +, a name and a value.
use Rattle.std.specs.Prelude.{◌≡◌, ◌⊎◌, ℕ, ◌==◌, List, [], ◌∷◌, codes, if◌then◌else◌}
use Rattle.control_lines.specs.Fields.{IsHex, hex_text}
use Rattle.trace_replay.specs.declared.commands.Place.{Place}
use Rattle.trace_replay.specs.declared.commands.Place.TheVariants.{FirstWord, Words, Directory, Pairs, Name, Value}

-- a byte before the first of some fields
abbrev pub before_fields : ℕ → List (List ℕ) → List (List ℕ)
before_fields b [] = (b ∷ []) ∷ []
before_fields b (field ∷ fields) = (b ∷ field) ∷ fields

-- the fields of a text, between its spaces (32)
abbrev pub fields_of : List ℕ → List (List ℕ)
fields_of [] = [] ∷ []
fields_of (b ∷ bytes) = if b == 32 then [] ∷ fields_of bytes else before_fields b (fields_of bytes)

-- one or more bytes in lower-case hex
abbrev pub IsLowerHex : List ℕ → Type 0
IsLowerHex field = (bytes : List ℕ) × IsHex field bytes × (field ≡ hex_text bytes)

-- the same, or - for no bytes
abbrev pub IsField : List ℕ → Type 0
IsField field = (field ≡ codes "-") ⊎ IsLowerHex field

-- The fields go on from this place to the end of a command.
abbrev pub GoOn : Place → List (List ℕ) → Type 0
GoOn FirstWord [] = ⊥
GoOn FirstWord (field ∷ fields) = IsField field × GoOn Words fields
GoOn Words [] = Unit {0}
GoOn Words (field ∷ fields) = (IsField field × GoOn Words fields) ⊎ (((field ≡ codes "@") × GoOn Directory fields) ⊎ ((field ≡ codes "+") × GoOn Name fields))
GoOn Directory [] = ⊥
GoOn Directory (field ∷ fields) = IsLowerHex field × GoOn Pairs fields
GoOn Pairs [] = Unit {0}
GoOn Pairs (field ∷ fields) = (field ≡ codes "+") × GoOn Name fields
GoOn Name [] = ⊥
GoOn Name (field ∷ fields) = IsField field × GoOn Value fields
GoOn Value [] = ⊥
GoOn Value (field ∷ fields) = IsField field × GoOn Pairs fields

-- all the fields of a command, of which there is one word at least
abbrev pub IsCommand : List ℕ → Type 0
IsCommand text = GoOn FirstWord (fields_of text)
