-- What a line says of the programs of a name.
use Rattle.std.specs.Prelude.{◌≡◌, ℕ, List, ◌∷◌, ◌++◌, codes, Option, Some, None}
use Rattle.control_lines.specs.Script.{IsSkipped}
use Rattle.adopted_words.specs.Words.{IsWord, AreWords}
use Rattle.adopted_words.specs.declared.rules.Rule.{Rule}
use Rattle.adopted_words.specs.declared.rules.Rule.TheVariants.{Never, RestartOnly, Command}

-- a name, a blank and the words of a command
pub record SaysCommand (fields name : List ℕ) (words : List (List ℕ)) : Type 0 where
  pub name_is : IsWord name
  pub text : List ℕ
  pub is : fields ≡ name ++ (32 ∷ text)
  pub words_are : AreWords text words

-- The line, without its newline, says this rule.
abbrev pub SaysRule : List ℕ → Rule → Type 0
SaysRule line (Never name) = (line ≡ codes "never " ++ name) × IsWord name
SaysRule line (RestartOnly name) = (line ≡ codes "restart-only " ++ name) × IsWord name
SaysRule line (Command name words) = (fields : List ℕ) × (line ≡ codes "command " ++ fields) × SaysCommand fields name words

-- What a line gives: the rule that it says, or none where it is empty or begins with #.
abbrev pub GivesRule : List ℕ → Option Rule → Type 0
GivesRule line (Some rule) = SaysRule line rule
GivesRule line None = IsSkipped line
