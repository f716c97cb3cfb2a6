-- What the lines of a file say.
use Rattle.std.specs.Prelude.{◌≡◌, ◌⊎◌, ℕ, ◌+◌, List, [], ◌∷◌, ◌++◌, length, Option}
use Rattle.std.specs.List.{AllByRecursion}
use Rattle.control_lines.specs.Lines.{lines_of}
use Rattle.control_lines.specs.Script.{IsSkipped}
use Rattle.adopted_words.specs.Rules.{SaysRule, GivesRule}
use Rattle.adopted_words.specs.declared.rules.Rule.{Rule}
use Rattle.adopted_words.specs.declared.files.RulesFault.{RulesFault}
use Rattle.adopted_words.specs.declared.files.RulesFault.TheVariants.{BadLine, NoMemory}

-- the first rule is what a line says, and the others are so too
abbrev pub SaysFirstRule : List ℕ → (List Rule → Type 0) → List Rule → Type 0
SaysFirstRule line Others [] = ⊥
SaysFirstRule line Others (rule ∷ rules) = SaysRule line rule × Others rules

-- The lines say these rules in their order. A skipped line says nothing, and each other line says one.
abbrev pub SayRules : List (List ℕ) → List Rule → Type 0
SayRules [] rules = rules ≡ []
SayRules (line ∷ lines) rules = (IsSkipped line × SayRules lines rules) ⊎ SaysFirstRule line (SayRules lines) rules

-- the line is skipped, or says a rule
abbrev pub IsGood : List ℕ → Type 0
IsGood line = (given : Option Rule) × GivesRule line given

-- The n-th line, counted from 1, is the first that is neither skipped nor says a rule.
pub record IsFirstBad (text : List ℕ) (n : ℕ) : Type 0 where
  pub good : List (List ℕ)
  pub line : List ℕ
  pub others : List (List ℕ)
  pub lines : lines_of text ≡ good ++ line ∷ others
  pub number : n ≡ length good + 1
  pub all_good : AllByRecursion IsGood good
  pub bad : ¬ (IsGood line)

-- want of memory has no cause in a text
abbrev pub IsRulesFault : List ℕ → RulesFault → Type 0
IsRulesFault text (BadLine n) = IsFirstBad text n
IsRulesFault text NoMemory = Unit {0}
