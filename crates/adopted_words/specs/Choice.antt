-- What the rules say of one name.
use Rattle.std.specs.Prelude.{ℕ, Bool, false, List, Option, Some, None, find}
use Rattle.std.specs.List.{list_any}
use Rattle.std.specs.Str.{bytes_eq}
use Rattle.adopted_words.specs.declared.rules.Rule.{Rule}
use Rattle.adopted_words.specs.declared.rules.Rule.TheVariants.{Never, RestartOnly, Command}

abbrev pub never_of : List ℕ → Rule → Bool
never_of name (Never other) = bytes_eq other name
never_of name (RestartOnly other) = false
never_of name (Command other words) = false

abbrev pub restart_of : List ℕ → Rule → Bool
restart_of name (Never other) = false
restart_of name (RestartOnly other) = bytes_eq other name
restart_of name (Command other words) = false

abbrev pub command_of : List ℕ → Rule → Bool
command_of name (Never other) = false
command_of name (RestartOnly other) = false
command_of name (Command other words) = bytes_eq other name

-- one of the rules says so
abbrev pub are_never : List ℕ → List Rule → Bool
are_never name rules = list_any (never_of name) rules

abbrev pub are_restart_only : List ℕ → List Rule → Bool
are_restart_only name rules = list_any (restart_of name) rules

-- the words of a command
abbrev pub words_of : Option Rule → Option (List (List ℕ))
words_of None = None
words_of (Some (Never name)) = None
words_of (Some (RestartOnly name)) = None
words_of (Some (Command name words)) = Some words

-- the words of the first command of a name
abbrev pub words_for : List ℕ → List Rule → Option (List (List ℕ))
words_for name rules = words_of (find (command_of name) rules)
