-- The lines of a file, one after the other.
use Rattle.std.proofs.Common.{◌≡◌, inl, inr, ℕ, ◌+◌, ◌<◌, ◌≤◌, List, [], ◌∷◌, ◌++◌, length, get_or, Option, Some, None, sym, ◌∙◌, ap, ap₂, subst, arith, append_assoc, length-append}
use Rattle.std.specs.List.{AllByRecursion}
use Rattle.control_lines.specs.Laws.{MeansOne}
use Rattle.control_lines.specs.Lines.{lines_of}
use Rattle.control_lines.specs.Script.{IsSkipped}
use Rattle.control_lines.proofs.FirstBad.{BadAt, same_place, none_bad}
use Rattle.adopted_words.specs.Rules.{SaysRule, GivesRule}
use Rattle.adopted_words.specs.Files.{SayRules, IsGood, IsFirstBad}
use Rattle.adopted_words.specs.Laws.{SayOne}
use Rattle.adopted_words.specs.declared.rules.Rule.{Rule}
use Rattle.adopted_words.specs.declared.rules.Rule.TheVariants.{Never, RestartOnly, Command}
use Rattle.adopted_words.proofs.RuleLaws.{rule_one}

-- lines, and more lines
rules_append : (lines others : List (List ℕ)) (rules more : List Rule) → SayRules lines rules → SayRules others more → SayRules (lines ++ others) (rules ++ more)
rules_append [] others rules more all rest = subst (λ (rs : List Rule). SayRules others (rs ++ more)) (sym all) rest
rules_append (line ∷ lines) others rules more (inl skipped) rest = inl (skipped.0, rules_append lines others rules more skipped.1 rest)
rules_append (line ∷ lines) others [] more (inr says) rest = absurd says
rules_append (line ∷ lines) others (rule ∷ rules) more (inr says) rest = inr (says.0, rules_append lines others rules more says.1 rest)

pub all_good : (lines : List (List ℕ)) (rules : List Rule) → SayRules lines rules → AllByRecursion IsGood lines
all_good [] rules say = tt
all_good (line ∷ lines) rules (inl skipped) = ((None, skipped.0), all_good lines rules skipped.1)
all_good (line ∷ lines) [] (inr says) = absurd says
all_good (line ∷ lines) (rule ∷ rules) (inr says) = ((Some rule, says.0), all_good lines rules says.1)

-- a line that says a rule isn't skipped
not_skipped : (line : List ℕ) (rule : Rule) → IsSkipped line → SaysRule line rule → ⊥
not_skipped [] (Never name) skipped says = omega (arith, ap length says.0)
not_skipped [] (RestartOnly name) skipped says = omega (arith, ap length says.0)
not_skipped [] (Command name words) skipped (fields, begins, says) = omega (arith, ap length begins)
not_skipped (b ∷ line) (Never name) skipped says = omega (arith, skipped, ap (λ (l : List ℕ). get_or l 0 0) says.0)
not_skipped (b ∷ line) (RestartOnly name) skipped says = omega (arith, skipped, ap (λ (l : List ℕ). get_or l 0 0) says.0)
not_skipped (b ∷ line) (Command name words) skipped (fields, begins, says) = omega (arith, skipped, ap (λ (l : List ℕ). get_or l 0 0) begins)

rules_one : (lines : List (List ℕ)) → MeansOne (SayRules lines)
rules_one [] rules others one other = one ∙ sym other
rules_one (line ∷ lines) rules others (inl a) (inl b) = rules_one lines rules others a.1 b.1
rules_one (line ∷ lines) rules [] (inl a) (inr b) = absurd b
rules_one (line ∷ lines) rules (other ∷ others) (inl a) (inr b) = absurd (not_skipped line other a.0 b.0)
rules_one (line ∷ lines) [] others (inr a) (inl b) = absurd a
rules_one (line ∷ lines) (rule ∷ rules) others (inr a) (inl b) = absurd (not_skipped line rule b.0 a.0)
rules_one (line ∷ lines) [] others (inr a) (inr b) = absurd a
rules_one (line ∷ lines) (rule ∷ rules) [] (inr a) (inr b) = absurd b
rules_one (line ∷ lines) (rule ∷ rules) (other ∷ others) (inr a) (inr b) =
    ap₂ (λ (r : Rule) (rs : List Rule). r ∷ rs) (rule_one line rule other a.0 b.0) (rules_one lines rules others a.1 b.1)

bad_at : (text : List ℕ) (n : ℕ) → IsFirstBad text n → BadAt IsGood ⊥ (lines_of text) n
bad_at text n first = record {
  good = first.good;
  line = first.line;
  others = first.others;
  parts = first.lines;
  number = first.number;
  all_good = first.all_good;
  bad = inl first.bad;
}

pub say_one : SayOne
say_one = record {
  one_rule = rule_one;
  one_list = λ text. rules_one (lines_of text);
  one_bad_line = λ text n k one other. same_place IsGood ⊥ (lines_of text) n k (bad_at text n one) (bad_at text k other);
  said_or_bad = λ text rules n says bad. none_bad IsGood ⊥ (lines_of text) n (all_good (lines_of text) rules says) (λ none. none) (bad_at text n bad);
}

-- In the middle of a file: the lines so far say the rules so far.
pub record Reading (text left : List ℕ) (rules : List Rule) (n : ℕ) : Type 0 where
  pub good : List (List ℕ)
  pub lines : lines_of text ≡ good ++ lines_of left
  pub all : SayRules good rules
  pub number : n ≡ length good
  pub few : n + length left ≤ length text

pub next_reading : (text left line rest : List ℕ) (rules said more : List Rule) (n : ℕ) → Reading text left rules n → lines_of left ≡ line ∷ lines_of rest → length rest < length left → SayRules (line ∷ []) said → more ≡ rules ++ said → Reading text rest more (n + 1)
next_reading text left line rest rules said more n reading first shorter says is_more = record {
  good = reading.good ++ line ∷ [];
  lines = reading.lines ∙ (ap (λ ls. reading.good ++ ls) first ∙ sym (append_assoc reading.good (line ∷ []) (lines_of rest)));
  all = rw is_more (rules_append reading.good (line ∷ []) rules said reading.all says);
  number = omega (arith, reading.number, length-append reading.good (line ∷ []));
  few = omega (arith, reading.few, shorter);
}

-- the next line isn't good
pub bad_here : (text left line rest : List ℕ) (rules : List Rule) (n : ℕ) → Reading text left rules n → lines_of left ≡ line ∷ lines_of rest → ((given : Option Rule) → ¬ (GivesRule line given)) → IsFirstBad text (n + 1)
bad_here text left line rest rules n reading first none = record {
  good = reading.good;
  line = line;
  others = lines_of rest;
  lines = reading.lines ∙ ap (λ ls. reading.good ++ ls) first;
  number = omega (arith, reading.number);
  all_good = all_good reading.good rules reading.all;
  bad = λ given. none given.0 given.1;
}
