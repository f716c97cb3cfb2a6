-- A line says one rule at most.
use Rattle.std.proofs.Common.{◌≡◌, ℕ, List, ◌++◌, get_or, sym, ◌∙◌, ap, ap₂, subst, arith, codes}
use Rattle.control_lines.specs.Laws.{MeansOne}
use Rattle.control_lines.proofs.Splitting.{splits_same}
use Rattle.adopted_words.specs.Words.{AreWords}
use Rattle.adopted_words.specs.Rules.{SaysCommand, SaysRule}
use Rattle.adopted_words.specs.declared.rules.Rule.{Rule}
use Rattle.adopted_words.specs.declared.rules.Rule.TheVariants.{Never, RestartOnly, Command}
use Rattle.adopted_words.proofs.WordLaws.{word_without, words_one}

first_of : (xs ys : List ℕ) → xs ≡ ys → get_or xs 0 0 ≡ get_or ys 0 0
first_of xs ys e = ap (λ (zs : List ℕ). get_or zs 0 0) e

same_never : (xs ys : List ℕ) → codes "never " ++ xs ≡ codes "never " ++ ys → xs ≡ ys
same_never xs ys e = cc

same_restart : (xs ys : List ℕ) → codes "restart-only " ++ xs ≡ codes "restart-only " ++ ys → xs ≡ ys
same_restart xs ys e = cc

same_command : (xs ys : List ℕ) → codes "command " ++ xs ≡ codes "command " ++ ys → xs ≡ ys
same_command xs ys e = cc

-- the parts of a command are one name and one list of words
pub command_one : (fields name other : List ℕ) (words others : List (List ℕ)) → SaysCommand fields name words → SaysCommand fields other others → (name ≡ other) × (words ≡ others)
command_one fields name other words others one two =
    let same = splits_same 32 name one.text other two.text (word_without name one.name_is) (word_without other two.name_is) (sym one.is ∙ two.is) in
    (same.0, words_one two.text words others (subst (λ (t : List ℕ). AreWords t words) same.1 one.words_are) two.words_are)

-- a line that begins as a command says no other rule
pub only_command : (line fields : List ℕ) → line ≡ codes "command " ++ fields → ((name : List ℕ) (words : List (List ℕ)) → ¬ (SaysCommand fields name words)) → (rule : Rule) → SaysRule line rule → ⊥
only_command line fields begins none (Never name) says = omega (arith, first_of _ _ (sym begins ∙ says.0))
only_command line fields begins none (RestartOnly name) says = omega (arith, first_of _ _ (sym begins ∙ says.0))
only_command line fields begins none (Command name words) (fields', begins', says) =
    none name words (subst (λ (f : List ℕ). SaysCommand f name words) (same_command fields' fields (sym begins' ∙ begins)) says)

pub rule_one : (line : List ℕ) → MeansOne (SaysRule line)
rule_one line (Never a) (Never b) one other = ap Never (same_never a b (sym one.0 ∙ other.0))
rule_one line (Never a) (RestartOnly b) one other = absurd (omega (arith, first_of _ _ (sym one.0 ∙ other.0)))
rule_one line (Never a) (Command b words) one (fields, begins, says) = absurd (omega (arith, first_of _ _ (sym one.0 ∙ begins)))
rule_one line (RestartOnly a) (Never b) one other = absurd (omega (arith, first_of _ _ (sym one.0 ∙ other.0)))
rule_one line (RestartOnly a) (RestartOnly b) one other = ap RestartOnly (same_restart a b (sym one.0 ∙ other.0))
rule_one line (RestartOnly a) (Command b words) one (fields, begins, says) = absurd (omega (arith, first_of _ _ (sym one.0 ∙ begins)))
rule_one line (Command a words) (Never b) (fields, begins, says) other = absurd (omega (arith, first_of _ _ (sym begins ∙ other.0)))
rule_one line (Command a words) (RestartOnly b) (fields, begins, says) other = absurd (omega (arith, first_of _ _ (sym begins ∙ other.0)))
rule_one line (Command a words) (Command b others) (fields, begins, says) (fields', begins', says') =
    let same = command_one fields' a b words others (subst (λ (f : List ℕ). SaysCommand f a words) (same_command fields fields' (sym begins ∙ begins')) says) says' in
    ap₂ Command same.0 same.1
