use Rattle.std.proofs.Common.{rules, ◌≡◌, ◌++◌, ℕ, List, codes, ap, subst, sym, ◌∙◌}
use Rattle.std.proofs.lemmas.Bool.Decides.{Decides-eqb}
use Rattle.std.proofs.lemmas.Slice.Eq.{strip_prefix_is}
use Rattle.adopted_words.specs.Words.{IsWord}
use Rattle.adopted_words.proofs.RuleLaws.{only_command}
use Rattle.adopted_words.proofs.rules.read_rule.Goals as goal

pub returns-then-is_word-2-clause-says : goal.returns-then-is_word-2-clause-says
returns-then-is_word-2-clause-says c =
    let begins : c.args.line.now ≡ codes "restart-only " ++ c.in-Some-strip_prefix.name.now = rw c.in-Some-strip_prefix.is at (strip_prefix_is Decides-eqb c.args.line.now (codes "restart-only ") c.strip_prefix-2.result c.strip_prefix-2.ensures.cases) in
    let same : c.in_ok-from_slice-2.field-0 ≡ c.in-Some-strip_prefix.name.now = c.in_ok-from_slice-2.ensures in
    let is : IsWord c.in-Some-strip_prefix.name.now = search rules in
    (begins ∙ ap (λ (name : List ℕ). codes "restart-only " ++ name) (sym same), subst IsWord (sym same) is)

pub returns-in-None-clause-refused : goal.returns-in-None-clause-refused
returns-in-None-clause-refused c =
    only_command c.args.line.now c.in-Some-strip_prefix-2.fields.now (rw c.in-Some-strip_prefix-2.is at (strip_prefix_is Decides-eqb c.args.line.now (codes "command ") c.strip_prefix-3.result c.strip_prefix-3.ensures.cases)) (rw c.in-None.is at c.in_ok-name.ensures)
