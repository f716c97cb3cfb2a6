-- What is read from a client's properties (XSMP, chapter 11: Predefined Properties). A property of
-- another kind or shape counts as absent.
use Rattle.std.specs.Prelude.{ℕ, ◌==◌, Bool, true, false, not, ◌&&◌, if◌then◌else◌, List, [], ◌∷◌, codes, Option, Some, None, option_and_then}
use Rattle.std.specs.Option.{option_map_or}
use Rattle.std.specs.List.{list_any, list_all}
use Rattle.std.specs.Str.{bytes_eq, is_utf8}
use Rattle.owned_lists.specs.declared.commands.Command.{Command}
use Rattle.ice_values.specs.declared.property.Property.{Property}
use Rattle.xsmp_properties.specs.Tables.{find_property}
use Rattle.xsmp_properties.specs.declared.hints.Hint.{Hint}
use Rattle.xsmp_properties.specs.declared.hints.Hint.TheVariants.{IfRunning, Anyway, Immediately, Never}

abbrev pub values_of_kind : List ℕ → Property → Option (List (List ℕ))
values_of_kind kind p = if bytes_eq kind p.kind then Some p.values else None

-- the values under a name, where they are of a kind
abbrev pub values_of : List ℕ → List ℕ → List Property → Option (List (List ℕ))
values_of name kind items = option_and_then (values_of_kind kind) (find_property name items)

-- UTF-8 without NUL
abbrev pub is_text : List ℕ → Bool
is_text bytes = is_utf8 bytes && not (list_any (λ b. b == 0) bytes)

abbrev pub is_nonempty : List ℕ → Bool
is_nonempty [] = false
is_nonempty (b ∷ bytes) = true

-- RestartStyleHint

abbrev pub hint_numbered : ℕ → Hint
hint_numbered n = if n == 1 then Anyway else (if n == 2 then Immediately else (if n == 3 then Never else IfRunning))

-- one value of one byte
abbrev pub hint_in : List (List ℕ) → Hint
hint_in [] = IfRunning
hint_in ([] ∷ values) = IfRunning
hint_in ((n ∷ []) ∷ []) = hint_numbered n
hint_in ((n ∷ []) ∷ value ∷ values) = IfRunning
hint_in ((n ∷ m ∷ bytes) ∷ values) = IfRunning

abbrev pub hint_of : List Property → Hint
hint_of items = option_map_or hint_in (values_of (codes "RestartStyleHint") (codes "CARD8") items) IfRunning

-- CurrentDirectory

abbrev pub directory_in : List (List ℕ) → List ℕ
directory_in [] = []
directory_in (path ∷ []) = if is_text path then path else []
directory_in (path ∷ value ∷ values) = []

abbrev pub directory_of : List Property → List ℕ
directory_of items = option_map_or directory_in (values_of (codes "CurrentDirectory") (codes "ARRAY8") items) []

-- Environment

-- a text that isn't empty and holds no `=`
abbrev pub is_variable : List ℕ → Bool
is_variable name = is_nonempty name && is_text name && not (list_any (λ b. b == 61) name)

-- names and texts in turn
abbrev pub is_environment : List (List ℕ) → Bool
is_environment [] = true
is_environment (name ∷ []) = false
is_environment (name ∷ value ∷ values) = is_variable name && is_text value && is_environment values

abbrev pub in_pairs : List (List ℕ) → List (List ℕ × List ℕ)
in_pairs [] = []
in_pairs (name ∷ []) = []
in_pairs (name ∷ value ∷ values) = (name, value) ∷ in_pairs values

abbrev pub environment_in : List (List ℕ) → List (List ℕ × List ℕ)
environment_in values = if is_environment values then in_pairs values else []

abbrev pub environment_of : List Property → List (List ℕ × List ℕ)
environment_of items = option_map_or environment_in (values_of (codes "Environment") (codes "LISTofARRAY8") items) []

-- The commands

-- texts, of which there is one at least, and the first isn't empty
abbrev pub are_words : List (List ℕ) → Bool
are_words [] = false
are_words (program ∷ arguments) = is_nonempty program && list_all is_text (program ∷ arguments)

-- the words of the command under a name, where they are those of one
abbrev pub words_in : List ℕ → List Property → Option (List (List ℕ))
words_in name items =
    option_and_then (λ words. if are_words words then Some words else None) (values_of name (codes "LISTofARRAY8") items)

abbrev pub command_with : List Property → List (List ℕ) → Option Command
command_with items words =
    if are_words words then Some (record { words = words; directory = directory_of items; environment = environment_of items }) else None

abbrev pub command_of : List ℕ → List Property → Option Command
command_of name items = option_and_then (command_with items) (values_of name (codes "LISTofARRAY8") items)
