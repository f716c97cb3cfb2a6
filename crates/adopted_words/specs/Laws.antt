-- What holds of every line and of every file.
use Rattle.std.specs.Prelude.{◌≡◌, ℕ, List}
use Rattle.control_lines.specs.Laws.{MeansOne}
use Rattle.control_lines.specs.Lines.{lines_of}
use Rattle.adopted_words.specs.Rules.{SaysRule}
use Rattle.adopted_words.specs.Files.{SayRules, IsFirstBad}
use Rattle.adopted_words.specs.declared.rules.Rule.{Rule}

-- A line says one rule at most, and a file says one list of rules or has one first bad line, and never both.
pub record SayOne : Type 0 where
  pub one_rule : (line : List ℕ) → MeansOne (SaysRule line)
  pub one_list : (text : List ℕ) → MeansOne (SayRules (lines_of text))
  pub one_bad_line : (text : List ℕ) (n k : ℕ) → IsFirstBad text n → IsFirstBad text k → n ≡ k
  pub said_or_bad : (text : List ℕ) (rules : List Rule) (n : ℕ) → SayRules (lines_of text) rules → IsFirstBad text n → ⊥
