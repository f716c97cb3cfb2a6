use Rattle.std.proofs.Common.{rules, ℕ, List, subst, sym, ◌∙◌}
use Rattle.control_lines.specs.Parts.{IsWithout}
use Rattle.control_lines.proofs.Splitting.{splits_same, without_inside}
use Rattle.adopted_words.specs.Words.{AreWords, IsWord}
use Rattle.adopted_words.proofs.WordLaws.{word_without}
use Rattle.adopted_words.proofs.rules.read_command.Goals as goal

pub returns-in_default : goal.returns-in_default
returns-in_default c = λ name words says.
    let without : IsWithout 32 c.args.fields.now = rw c.in_default.is at c.split_once.ensures in
    without_inside 32 name says.text (subst (IsWithout 32) says.is without)

pub returns-then-not-is_word : goal.returns-then-not-is_word
returns-then-not-is_word c = λ name words says.
    let none : ¬ (IsWord c.in-Some.name.now) = search rules in
    let same = splits_same 32 c.in-Some.name.now c.in-Some.text.now name says.text c.in-Some.ensures.first (word_without name says.name_is) (sym c.in-Some.ensures.parts ∙ says.is) in
    none (subst IsWord (sym same.0) says.name_is)

pub returns-in_default-2 : goal.returns-in_default-2
returns-in_default-2 c = λ name words says.
    let same = splits_same 32 c.in-Some.name.now c.in-Some.text.now name says.text c.in-Some.ensures.first (word_without name says.name_is) (sym c.in-Some.ensures.parts ∙ says.is) in
    (rw c.in_default-2.is at c.in_ok-words.ensures) words (subst (λ (t : List ℕ). AreWords t words) (sym same.1) says.words_are)
