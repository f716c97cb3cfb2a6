use Rattle.std.proofs.Common.{rules, ◌≡◌, ℕ, List, [], ◌∷◌, ◌++◌, subst, sym}
use Rattle.control_lines.specs.Parts.{IsWithout}
use Rattle.adopted_words.specs.Words.{IsWord}
use Rattle.adopted_words.proofs.WordLaws.{Goes, goes_on, no_word_first, no_word_last}
use Rattle.adopted_words.proofs.words.read_words.Goals as goal

pub returns-then-not-is_word : goal.returns-then-not-is_word
returns-then-not-is_word c =
    let none : ¬ (IsWord c.in-Some.word.now) = search rules in
    no_word_first c.args.text.now c.loop-word.words c.loop-word.rest.now c.in-Some.word.now c.in-Some.after.now c.loop-word.invariant c.in-Some.ensures none

pub loop-word-preserved : goal.loop-word-preserved
loop-word-preserved c =
    let is : IsWord c.in-Some.word.now = search rules in
    let pushed : c.push.new.self ≡ c.loop-word.words ++ c.in-Some.word.now ∷ [] = search rules in
    let goes = goes_on c.args.text.now c.loop-word.words c.loop-word.rest.now c.in-Some.word.now c.in-Some.after.now c.loop-word.invariant c.in-Some.ensures is in
    subst (λ (words : List (List ℕ)). Goes c.args.text.now words c.in-Some.after.now) (sym pushed) goes

pub returns-then-not-is_word-2 : goal.returns-then-not-is_word-2
returns-then-not-is_word-2 c =
    let none : ¬ (IsWord c.loop-word.rest.now) = search rules in
    let without : IsWithout 32 c.loop-word.rest.now = rw c.in_default.is at c.split_once.ensures in
    no_word_last c.args.text.now c.loop-word.words c.loop-word.rest.now c.loop-word.invariant without none
