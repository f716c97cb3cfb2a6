-- What the properties of a client are taken to mean (XSMP, chapter 11: Predefined Properties). Four rules, each on one property.
use Rattle.std.specs.Prelude.{ℕ, ◌==◌, ◌&&◌, ◌||◌, not, Bool, if◌then◌else◌, List, ◌∷◌, length, take, drop, map, codes, slice_index}
use Rattle.std.specs.List.{list_any}
use Rattle.std.specs.Str.{bytes_eq}
use Rattle.ice_values.specs.declared.property.Property.{Property}
use Rattle.frame_speech.specs.Words.{without_nul}

-- the commands that are run: the standard's, but for CloneCommand
abbrev pub is_command : List ℕ → Bool
is_command name = bytes_eq name (codes "RestartCommand") || bytes_eq name (codes "DiscardCommand") || bytes_eq name (codes "ResignCommand") || bytes_eq name (codes "ShutdownCommand")

-- what else consists of words
abbrev pub is_text_name : List ℕ → Bool
is_text_name name = bytes_eq name (codes "Program") || bytes_eq name (codes "CurrentDirectory") || bytes_eq name (codes "UserID")

abbrev pub is_hint_name : List ℕ → Bool
is_hint_name name = bytes_eq name (codes "RestartStyleHint")

-- four bytes, of which at most the first or the last isn't zero
abbrev pub is_wide : List ℕ → Bool
is_wide value = length value == 4 && slice_index value 1 == 0 && slice_index value 2 == 0 && (slice_index value 0 == 0 || slice_index value 3 == 0)

-- A hint of such four bytes is meant as that one byte.
abbrev pub narrowed : List ℕ → List ℕ
narrowed value = if is_wide value then (if slice_index value 3 == 0 then take 1 value else drop 3 value) else value

-- each value of a property of this name
abbrev pub meant : List ℕ → List ℕ → List ℕ
meant name value = if is_command name || is_text_name name then without_nul value else if is_hint_name name then narrowed value else value

-- a command that is one line of text
abbrev pub is_line : Property → Bool
is_line p = is_command p.name && bytes_eq p.kind (codes "ARRAY8") && length p.values == 1

-- it is meant for the shell, which runs it
abbrev pub for_shell : Property → Property
for_shell p = record { name = p.name; kind = codes "LISTofARRAY8"; values = codes "/bin/sh" ∷ codes "-c" ∷ p.values }

abbrev pub with_values : Property → List (List ℕ) → Property
with_values p values = record { name = p.name; kind = p.kind; values = values }

-- a property as it is meant
abbrev pub amended : Property → Property
amended p = if is_line p then for_shell (with_values p (map (meant p.name) p.values)) else with_values p (map (meant p.name) p.values)

-- a value is meant shorter than it is
abbrev pub is_shorter : List ℕ → List ℕ → Bool
is_shorter name value = not (length (meant name value) == length value)

-- a rule applies to a property
abbrev pub is_amended : Property → Bool
is_amended p = is_line p || list_any (is_shorter p.name) p.values
